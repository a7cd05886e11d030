-- The grammar: what stands at the front of a text. A piece without a kind is white space or a comment.
use Rattle.std.specs.Prelude.{◌==◌, ◌&&◌, ◌||◌, ◌+◌, ℕ, not, List, [], ◌∷◌, take, drop, Option, Some, None, if◌then◌else◌, codes, nat_eq, nat_le, option_map, slice_index, is_some}
use Rattle.std.specs.Char.{is_ascii_digit}
use Rattle.std.specs.List.{list_any, prefix_len, starts_with}
use Rattle.std.specs.Str.Parse.{digits_value}
use Rattle.scope_lexer.specs.Bytes.{is_escape, is_keyword, is_letter, is_space, is_word_byte, long_symbols, short_symbols}
use Rattle.scope_lexer.specs.declared.kind.TokenKind.{TokenKind}
use Rattle.scope_lexer.specs.declared.kind.TokenKind.TheVariants.{Keyword, Name, Number, Symbol, Text}
use Rattle.scope_lexer.specs.declared.piece.Piece.{Piece}

-- a comment of one line goes from `//` up to a line feed or the text's end
abbrev pub line_comment : List ℕ → ℕ
line_comment text = prefix_len (λ b. not (b == 10)) text

-- the place behind the first `*/`, in a text that begins at the place `at`
abbrev pub comment_end : ℕ → List ℕ → Option ℕ
comment_end at [] = None
comment_end at (b ∷ z) = if starts_with nat_eq (b ∷ z) (codes "*/") then Some (at + 2) else comment_end (at + 1) z

-- the place behind a string's closing quote, in a text that begins at the place `at`, behind the opening one
abbrev pub string_end : ℕ → List ℕ → Option ℕ
string_end at [] = None
string_end at (b ∷ []) = if b == 34 then Some (at + 1) else None
string_end at (b ∷ c ∷ z) =
    if b == 34 then Some (at + 1)
    else (if b == 92 then (if is_escape c then string_end (at + 2) z else None)
    else (if b == 13 || b == 10 then None else string_end (at + 1) (c ∷ z)))

-- the largest number of a script
abbrev pub max_number : ℕ
max_number = 9223372036854775807

-- the value of digits, where it isn't too large
abbrev pub small_value : List ℕ → Option ℕ
small_value digits = if nat_le (digits_value 10 digits) max_number then Some (digits_value 10 digits) else None

-- a run of digits, with no letter behind it and of a value that isn't too large
abbrev pub number_len : List ℕ → Option ℕ
number_len text =
    let len = prefix_len is_ascii_digit text in
    if not (is_letter (slice_index text len)) && is_some (small_value (take len text)) then Some len else None

-- the symbol at the front, the longest first
abbrev pub symbol_len : List ℕ → Option ℕ
symbol_len text =
    if list_any (starts_with nat_eq text) long_symbols then Some 2
    else (if list_any (λ b. slice_index text 0 == b) short_symbols then Some 1 else None)

-- a whole word is a keyword or a name
abbrev pub word_kind : List ℕ → TokenKind
word_kind word = if is_keyword word then Keyword else Name

-- a piece of this length, where there is one
abbrev pub piece : Option TokenKind → Option ℕ → Option Piece
piece kind len = option_map (λ n. let p : Piece = record { kind = kind; len = n } in p) len

-- the piece at the front of a text, told by its first byte or, for comments, its first two
unfoldable pub begins : List ℕ → Option Piece
begins text =
    let first = slice_index text 0 in
    if is_space first then piece None (Some (prefix_len is_space text))
    else (if starts_with nat_eq text (codes "//") then piece None (Some (line_comment text))
    else (if starts_with nat_eq text (codes "/*") then piece None (comment_end 2 (drop 2 text))
    else (if is_letter first then piece (Some (word_kind (take (prefix_len is_word_byte text) text))) (Some (prefix_len is_word_byte text))
    else (if is_ascii_digit first then piece (Some Number) (number_len text)
    else (if first == 34 then piece (Some Text) (string_end 1 (drop 1 text))
    else piece (Some Symbol) (symbol_len text))))))
