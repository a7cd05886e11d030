-- One terminal more.
use Rattle.std.proofs.Common.{◌≡◌, ◌+◌, ◌<◌, ℕ, List, [], ◌∷◌, ◌++◌, length, drop, get_or, sym, ap, ◌∙◌, append_assoc, add-one, drop-cons}
use Rattle.scope_lexer.specs.Tokens.{text_of}
use Rattle.scope_lexer.specs.declared.token.Token.{Token}
use Rattle.expression_syntax.specs.Lexemes.{Lexeme}
use Rattle.expression_syntax.specs.Terminals.{lexeme_by, lexemes, strings, with_string}

pub record OneMore (bytes : List ℕ) (tokens : List Token) (i : ℕ) (so_far : List Lexeme) (left : List (List ℕ)) : Type 0 where
  pub all : so_far ++ lexemes bytes (drop (i + 1) tokens) ≡ lexemes bytes tokens
  pub rest : left ≡ strings bytes (drop (i + 1) tokens)

pub one_more : (bytes : List ℕ) (tokens : List Token) (i : ℕ) (d : Token) (so_far new : List Lexeme) (before left : List (List ℕ)) (x : Lexeme) → i < length tokens
    → so_far ++ lexemes bytes (drop i tokens) ≡ lexemes bytes tokens → before ≡ strings bytes (drop i tokens) → new ≡ so_far ++ x ∷ []
    → ((m : List (List ℕ)) → before ≡ with_string (get_or tokens i d).kind (text_of bytes (get_or tokens i d)) m
    → (x ≡ lexeme_by (get_or tokens i d).kind (text_of bytes (get_or tokens i d))) × (left ≡ m))
    → OneMore bytes tokens i new left
one_more bytes tokens i d so_far new before left x lt h b e f =
    let t = get_or tokens i d in
    let behind = drop (i + 1) tokens in
    let cut : drop i tokens ≡ t ∷ behind = rw add-one (drop-cons tokens i d lt) in
    let g = f (strings bytes behind) (b ∙ ap (strings bytes) cut) in
    record {
      all = ap (λ z. z ++ lexemes bytes behind) e ∙ append_assoc so_far (x ∷ []) (lexemes bytes behind) ∙ ap (λ z. so_far ++ z ∷ lexemes bytes behind) g.0
          ∙ ap (λ z. so_far ++ z) (sym (ap (lexemes bytes) cut)) ∙ h;
      rest = g.1;
    }
