-- The lexemes of a text: what each of its tokens is in the grammar.
use Rattle.std.specs.Prelude.{ℕ, pos, Bool, List, [], ◌∷◌, map, codes, if◌then◌else◌}
use Rattle.std.specs.Str.{bytes_eq, str_eq_ignore_ascii_case}
use Rattle.std.specs.Str.Parse.{digits_value}
use Rattle.scope_lexer.specs.Tokens.{string_bytes_of, text_of}
use Rattle.scope_lexer.specs.declared.kind.TokenKind.{TokenKind}
use Rattle.scope_lexer.specs.declared.kind.TokenKind.TheVariants as kind
use Rattle.scope_lexer.specs.declared.token.Token.{Token}
use Rattle.expression_syntax.specs.declared.keyword.Keyword.{Keyword}
use Rattle.expression_syntax.specs.declared.keyword.Keyword.TheVariants as word
use Rattle.expression_syntax.specs.declared.symbol.Symbol.{Symbol}
use Rattle.expression_syntax.specs.declared.symbol.Symbol.TheVariants as mark
use Rattle.expression_syntax.specs.Lexemes.{Lexeme, keyword, symbol, name, number, text}

-- the keywords as they are written in upper case
unfoldable pub keywords : List (List ℕ × Keyword)
keywords =
    (codes "EXTRACT", word.Extract) ∷ (codes "SELECT", word.Select) ∷ (codes "PROCESS", word.Process) ∷ (codes "REDUCE", word.Reduce)
    ∷ (codes "COMBINE", word.Combine) ∷ (codes "OUTPUT", word.Output) ∷ (codes "FROM", word.From) ∷ (codes "USING", word.Using)
    ∷ (codes "TO", word.To) ∷ (codes "WHERE", word.Where) ∷ (codes "GROUP", word.Group) ∷ (codes "BY", word.By)
    ∷ (codes "HAVING", word.Having) ∷ (codes "ORDER", word.Order) ∷ (codes "ASC", word.Asc) ∷ (codes "DESC", word.Desc)
    ∷ (codes "DISTINCT", word.Distinct) ∷ (codes "TOP", word.Top) ∷ (codes "JOIN", word.Join) ∷ (codes "INNER", word.Inner)
    ∷ (codes "ON", word.On) ∷ (codes "AS", word.As) ∷ (codes "PRESORT", word.Presort) ∷ (codes "PRODUCE", word.Produce)
    ∷ (codes "WITH", word.With) ∷ (codes "AND", word.And) ∷ (codes "OR", word.Or) ∷ (codes "NOT", word.Not)
    ∷ (codes "TRUE", word.True) ∷ (codes "FALSE", word.False) ∷ (codes "NULL", word.Null) ∷ []

-- the symbols as they are written
unfoldable pub symbols : List (List ℕ × Symbol)
symbols =
    (codes "=", mark.Is) ∷ (codes "<", mark.Less) ∷ (codes ">", mark.Greater) ∷ (codes "+", mark.Plus) ∷ (codes "-", mark.Minus)
    ∷ (codes "*", mark.Star) ∷ (codes "/", mark.Slash) ∷ (codes "%", mark.Percent) ∷ (codes "!", mark.Bang) ∷ (codes "(", mark.Open)
    ∷ (codes ")", mark.Close) ∷ (codes ",", mark.Comma) ∷ (codes ";", mark.Semicolon) ∷ (codes ":", mark.Colon) ∷ (codes ".", mark.Dot)
    ∷ (codes "==", mark.Equal) ∷ (codes "!=", mark.Unequal) ∷ (codes "<=", mark.AtMost) ∷ (codes ">=", mark.AtLeast)
    ∷ (codes "&&", mark.Both) ∷ (codes "||", mark.Either) ∷ []

-- how a table's entries are written
abbrev pub written : {K : Type 0} → List (List ℕ × K) → List (List ℕ)
written = map (λ e. e.0)

-- what stands in a table beside the first text that is the same, or another answer where there is none
abbrev pub looked_up : {K : Type 0} → (List ℕ → Bool) → K → List (List ℕ × K) → K
looked_up same other [] = other
looked_up same other (e ∷ es) = if same e.0 then e.1 else looked_up same other es

-- the keyword that is written so, in any ASCII case
unfoldable pub keyword_of : List ℕ → Keyword
keyword_of bytes = looked_up (str_eq_ignore_ascii_case bytes) word.Null keywords

-- the symbol that is written so
unfoldable pub symbol_of : List ℕ → Symbol
symbol_of bytes = looked_up (bytes_eq bytes) mark.Dot symbols

-- the lexeme that a token's bytes are
abbrev pub lexeme_by : TokenKind → List ℕ → Lexeme
lexeme_by kind.Name bytes = name bytes
lexeme_by kind.Keyword bytes = keyword (keyword_of bytes)
lexeme_by kind.Number bytes = number bytes (pos (digits_value 10 bytes))
lexeme_by kind.Text bytes = text (string_bytes_of bytes)
lexeme_by kind.Symbol bytes = symbol (symbol_of bytes)

-- the lexemes of a text's tokens
abbrev pub lexemes : List ℕ → List Token → List Lexeme
lexemes bytes tokens = map (λ t. lexeme_by t.kind (text_of bytes t)) tokens

-- what the strings among the tokens stand for
abbrev pub with_string : TokenKind → List ℕ → List (List ℕ) → List (List ℕ)
with_string kind.Text bytes more = string_bytes_of bytes ∷ more
with_string _ bytes more = more

abbrev pub strings : List ℕ → List Token → List (List ℕ)
strings bytes [] = []
strings bytes (t ∷ ts) = with_string t.kind (text_of bytes t) (strings bytes ts)
