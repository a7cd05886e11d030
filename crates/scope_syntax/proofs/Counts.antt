-- A text has no more tokens than bytes.
use Rattle.std.proofs.Common.{◌≡◌, ◌+◌, ◌≤◌, ◌<◌, ◌^◌, ℕ, List, [], ◌∷◌, length, map, ap, sym, ◌∙◌, arith}
use Rattle.std.proofs.lemmas.List.{length-map}
use Rattle.scope_lexer.specs.Tokens.{AreInOrder, IsLexed, text_of}
use Rattle.scope_lexer.specs.declared.token.Token.{Token}
use Rattle.expression_syntax.specs.declared.terminal.Terminal.{Terminal}
use Rattle.expression_syntax.specs.Lexemes.{lexeme_of}
use Rattle.expression_syntax.specs.Terminals.{lexeme_by, lexemes}

tokens_few : (low high : ℕ) (ts : List Token) → AreInOrder low high ts → low + length ts ≤ high
tokens_few low high [] h = omega (arith, h)
tokens_few low high (t ∷ ts) h = let k = tokens_few t.to high ts h.2 in omega (arith, k, h.0, h.1)

as_many : (bytes : List ℕ) (ts : List Token) (xs : List Terminal) → map lexeme_of xs ≡ lexemes bytes ts → length xs ≡ length ts
as_many bytes ts xs h = sym (length-map xs lexeme_of) ∙ ap length h ∙ length-map ts (λ t. lexeme_by t.kind (text_of bytes t))

pub terminals_few : (bytes : List ℕ) (ts : List Token) (xs ys : List Terminal) → IsLexed bytes ts → AreInOrder 0 (length bytes) ts → map lexeme_of xs ≡ lexemes bytes ts → ys ≡ xs
    → length ys < 2 ^ 31
terminals_few bytes ts xs ys l o h e =
    let fits = l.fits in
    omega (arith, ap length e, as_many bytes ts xs h, tokens_few 0 (length bytes) ts o, fits)
