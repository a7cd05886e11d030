-- Pieces one after another: one more, and all of them.
use Rattle.std.proofs.Common.{◌≡◌, ◌∙◌, ◌+◌, ◌<◌, ◌≤◌, ℕ, List, [], ◌∷◌, ◌++◌, length, drop, Option, Some, None, refl, sym, ap, inr}
use Rattle.std.proofs.lemmas.List.{drop-drop, drop_all}
use Rattle.scope_lexer.specs.Begins.{begins}
use Rattle.scope_lexer.specs.Tokens.{IsCut, IsFault, IsLexed, mark_len, max_script, tokens_from, with_token}
use Rattle.scope_lexer.specs.declared.kind.TokenKind.{TokenKind}
use Rattle.scope_lexer.specs.declared.piece.Piece.{Piece}
use Rattle.scope_lexer.specs.declared.token.Token.{Token}

-- the place behind the pieces
abbrev pub place_behind : ℕ → List Piece → ℕ
place_behind at [] = at
place_behind at (p ∷ ps) = place_behind (at + p.len) ps

cut_more : (text : List ℕ) (ps : List Piece) (rest : List ℕ) (p : Piece) → IsCut text ps rest → begins rest ≡ Some p → IsCut text (ps ++ p ∷ []) (drop p.len rest)
cut_more text [] rest p h b = (ap begins h ∙ b, ap (drop p.len) h)
cut_more text (q ∷ ps) rest p h b = (h.0, cut_more (drop q.len text) ps rest p h.1 b)

place_more : (at : ℕ) (ps : List Piece) (p : Piece) → place_behind at (ps ++ p ∷ []) ≡ place_behind at ps + p.len
place_more at [] p = refl
place_more at (q ∷ ps) p = place_more (at + q.len) ps p

with_more : (kind : Option TokenKind) (start end : ℕ) (xs ys : List Token) → with_token kind start end (xs ++ ys) ≡ with_token kind start end xs ++ ys
with_more None start end xs ys = refl
with_more (Some k) start end xs ys = refl

tokens_more : (at : ℕ) (ps : List Piece) (p : Piece) → tokens_from at (ps ++ p ∷ []) ≡ tokens_from at ps ++ with_token p.kind (place_behind at ps) (place_behind at ps + p.len) []
tokens_more at [] p = refl
tokens_more at (q ∷ ps) p =
    ap (with_token q.kind at (at + q.len)) (tokens_more (at + q.len) ps p) ∙ with_more q.kind at (at + q.len) _ _

-- these are the tokens up to the place `at`
pub record SoFar (text : List ℕ) (at : ℕ) (tokens : List Token) : Type 0 where
  pub ps : List Piece
  pub cut : IsCut (drop (mark_len text) text) ps (drop at text)
  pub tokens_are : tokens ≡ tokens_from (mark_len text) ps
  pub place : place_behind (mark_len text) ps ≡ at

pub so_far_none : (text : List ℕ) (at : ℕ) (tokens : List Token) → at ≡ mark_len text → tokens ≡ [] → SoFar text at tokens
so_far_none text at tokens e none = record { ps = []; cut = ap (λ n. drop n text) (sym e); tokens_are = none; place = sym e }

pub so_far_more : (text : List ℕ) (at : ℕ) (tokens : List Token) (p : Piece) (more : List Token) → SoFar text at tokens → begins (drop at text) ≡ Some p
    → more ≡ tokens ++ with_token p.kind at (at + p.len) [] → SoFar text (at + p.len) more
so_far_more text at tokens p more h b e =
    let c = cut_more (drop (mark_len text) text) h.ps (drop at text) p h.cut b in
    let t = tokens_more (mark_len text) h.ps p in
    record {
      ps = h.ps ++ p ∷ [];
      cut = rw drop-drop at c;
      tokens_are = e ∙ ap (λ ts. ts ++ with_token p.kind at (at + p.len) []) h.tokens_are ∙ sym (rw h.place at t);
      place = place_more (mark_len text) h.ps p ∙ ap (λ n. n + p.len) h.place;
    }

pub lexed_all : (text : List ℕ) (at : ℕ) (tokens : List Token) → length text ≤ max_script → length text ≤ at → SoFar text at tokens → IsLexed text tokens
lexed_all text at tokens fits le h = record { fits = fits; pieces = (h.ps, rw (drop_all at text le) at h.cut, h.tokens_are) }

pub stuck_here : (text : List ℕ) (at : ℕ) (tokens : List Token) → length text ≤ max_script → at < length text → SoFar text at tokens → begins (drop at text) ≡ None → IsFault text at
stuck_here text at tokens fits lt h none = inr (fits, record { inside = lt; none = none; pieces = (h.ps, h.cut) })
