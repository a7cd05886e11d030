-- The tokens of a whole text: its pieces stand one after another, and those with a kind are its tokens.
use Rattle.std.specs.Prelude.{◌≡◌, ◌+◌, ◌-◌, ◌<◌, ◌≤◌, ℕ, List, [], ◌∷◌, length, take, drop, Option, Some, None, if◌then◌else◌, nat_eq, ◌⊎◌}
use Rattle.std.specs.List.{slice_range, starts_with}
use Rattle.scope_lexer.specs.Begins.{begins}
use Rattle.scope_lexer.specs.Bytes.{unescaped}
use Rattle.scope_lexer.specs.declared.kind.TokenKind.{TokenKind}
use Rattle.scope_lexer.specs.declared.piece.Piece.{Piece}
use Rattle.scope_lexer.specs.declared.token.Token.{Token}

-- the text is these pieces, one after another, and this rest
abbrev pub IsCut : List ℕ → List Piece → List ℕ → Type 0
IsCut text [] rest = text ≡ rest
IsCut text (p ∷ ps) rest = (begins text ≡ Some p) × IsCut (drop p.len text) ps rest

-- a piece that stands from one place to another is a token if it has a kind
abbrev pub with_token : Option TokenKind → ℕ → ℕ → List Token → List Token
with_token None start end later = later
with_token (Some k) start end later = (record { kind = k; from = start; to = end }) ∷ later

-- the tokens among pieces that stand from the place `at` on
abbrev pub tokens_from : ℕ → List Piece → List Token
tokens_from at [] = []
tokens_from at (p ∷ ps) = with_token p.kind at (at + p.len) (tokens_from (at + p.len) ps)

-- the length of a byte order mark at the very start
abbrev pub mark_len : List ℕ → ℕ
mark_len text = if starts_with nat_eq text (239 ∷ 187 ∷ 191 ∷ []) then 3 else 0

-- the longest script, in bytes
abbrev pub max_script : ℕ
max_script = 1048576

-- these are the tokens of the text: all of it behind a byte order mark is pieces
pub record IsLexed (text : List ℕ) (tokens : List Token) : Type 0 where
  pub fits : length text ≤ max_script
  pub pieces : (ps : List Piece) × IsCut (drop (mark_len text) text) ps [] × (tokens ≡ tokens_from (mark_len text) ps)

-- the first place at which no piece begins: pieces stand up to it, and there is more
pub record IsStuckAt (text : List ℕ) (at : ℕ) : Type 0 where
  pub inside : at < length text
  pub none : begins (drop at text) ≡ None
  pub pieces : (ps : List Piece) × IsCut (drop (mark_len text) text) ps (drop at text)

-- the place at which a text is refused: the limit where it is longer, else the first without a piece
abbrev pub IsFault : List ℕ → ℕ → Type 0
IsFault text at = ((max_script < length text) × (at ≡ max_script)) ⊎ ((length text ≤ max_script) × IsStuckAt text at)

-- the bytes of a token
abbrev pub text_of : List ℕ → Token → List ℕ
text_of text token = slice_range text token.from token.to

-- the bytes are one token of this kind, and nothing else
abbrev pub IsOne : TokenKind → List ℕ → Type 0
IsOne kind bytes = begins bytes ≡ Some (record { kind = Some kind; len = length bytes })

-- a token that stands in the text: it has a byte at least, and its bytes alone are that token too
pub record IsTokenOf (text : List ℕ) (token : Token) : Type 0 where
  pub some : token.from < token.to
  pub inside : token.to ≤ length text
  pub one : IsOne token.kind (text_of text token)

-- the tokens stand one behind another, from one place to another
abbrev pub AreInOrder : ℕ → ℕ → List Token → Type 0
AreInOrder low high [] = low ≤ high
AreInOrder low high (t ∷ ts) = (low ≤ t.from) × (t.from < t.to) × AreInOrder t.to high ts

-- the bytes that a string stands for, between its quotes
abbrev pub string_bytes_of : List ℕ → List ℕ
string_bytes_of bytes = unescaped (take (length bytes - 2) (drop 1 bytes))
