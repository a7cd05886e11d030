-- The bytes of scripts, and what they spell. A list reads as 0 past its end, which no class of bytes here has.
use Rattle.std.specs.Prelude.{◌==◌, ◌||◌, ℕ, Bool, List, [], ◌∷◌, if◌then◌else◌, codes}
use Rattle.std.specs.Char.{is_ascii_alphabetic, is_ascii_digit}
use Rattle.std.specs.List.{list_any}
use Rattle.std.specs.Str.{str_eq_ignore_ascii_case}

-- white space: space, tab, carriage return and line feed
abbrev pub is_space : ℕ → Bool
is_space b = b == 32 || b == 9 || b == 13 || b == 10

-- a byte that a name may begin with: an ASCII letter or `_`
abbrev pub is_letter : ℕ → Bool
is_letter b = is_ascii_alphabetic b || b == 95

-- a byte that a name may go on with
abbrev pub is_word_byte : ℕ → Bool
is_word_byte b = is_letter b || is_ascii_digit b

-- the words that are no names
unfoldable pub keywords : List (List ℕ)
keywords =
    codes "EXTRACT" ∷ codes "SELECT" ∷ codes "PROCESS" ∷ codes "REDUCE" ∷ codes "COMBINE" ∷ codes "OUTPUT" ∷ codes "FROM"
    ∷ codes "USING" ∷ codes "TO" ∷ codes "WHERE" ∷ codes "GROUP" ∷ codes "BY" ∷ codes "HAVING" ∷ codes "ORDER" ∷ codes "ASC"
    ∷ codes "DESC" ∷ codes "DISTINCT" ∷ codes "TOP" ∷ codes "JOIN" ∷ codes "INNER" ∷ codes "ON" ∷ codes "AS" ∷ codes "PRESORT"
    ∷ codes "PRODUCE" ∷ codes "WITH" ∷ codes "AND" ∷ codes "OR" ∷ codes "NOT" ∷ codes "TRUE" ∷ codes "FALSE" ∷ codes "NULL" ∷ []

-- a keyword, in any ASCII case
unfoldable pub is_keyword : List ℕ → Bool
is_keyword word = list_any (λ k. str_eq_ignore_ascii_case k word) keywords

-- the symbols of one byte
abbrev pub short_symbols : List ℕ
short_symbols = codes "=<>+-*/%!(),;:."

-- the symbols of two bytes
abbrev pub long_symbols : List (List ℕ)
long_symbols = codes "==" ∷ codes "!=" ∷ codes "<=" ∷ codes ">=" ∷ codes "&&" ∷ codes "||" ∷ []

-- what may stand behind a backslash: `\`, `"`, `n` and `t`
abbrev pub is_escape : ℕ → Bool
is_escape c = c == 92 || c == 34 || c == 110 || c == 116

-- the byte that a backslash and this byte stand for: `n` for a line feed, `t` for a tab, else the byte itself
abbrev pub escaped : ℕ → ℕ
escaped c = if c == 110 then 10 else (if c == 116 then 9 else c)

-- the bytes that those between a string's quotes stand for
abbrev pub unescaped : List ℕ → List ℕ
unescaped [] = []
unescaped (b ∷ []) = b ∷ []
unescaped (b ∷ c ∷ z) = if b == 92 then escaped c ∷ unescaped z else b ∷ unescaped (c ∷ z)
