-- Where the first piece of a script ends.
use Rattle.std.proofs.Common.{◌≡◌, ◌+◌, ◌≤◌, ◌<◌, ℕ, zero, suc, true, false, List, [], ◌∷◌, length, map, take, drop, get_or, ◌-◌, refl, ap, ◌∙◌, arith, add-one}
use Rattle.std.proofs.lemmas.List.{take_rest}
use Rattle.std.specs.List.{onto_first, slice_split}
use Rattle.expression_syntax.specs.declared.terminal.Terminal.{Terminal}
use Rattle.expression_syntax.specs.Lexemes.{Lexeme, lexeme_of}
use Rattle.scope_syntax.specs.Statements.{is_end}

-- none of the first terminals ends a statement
pub record NoEnd (n : ℕ) (ts : List Terminal) : Type 0 where
  pub at : (k : ℕ) (d : Terminal) → k < n → is_end (lexeme_of (get_or ts k d)) ≡ false

pub no_end_yet : (ts : List Terminal) → NoEnd 0 ts
no_end_yet ts = record { at = λ k d h. absurd (omega arith) }

no_end_tail : (t : Terminal) (ts : List Terminal) (n : ℕ) → NoEnd (suc n) (t ∷ ts) → NoEnd n ts
no_end_tail t ts n h = record { at = λ k d l. h.at (suc k) d (omega arith) }

split_yes : (x : Lexeme) (xs : List Lexeme) → is_end x ≡ true → slice_split is_end (x ∷ xs) ≡ [] ∷ slice_split is_end xs
split_yes x xs h = rw h refl

split_no : (x : Lexeme) (xs : List Lexeme) → is_end x ≡ false → slice_split is_end (x ∷ xs) ≡ onto_first x (slice_split is_end xs)
split_no x xs h = rw h refl

cut_by : (ts : List Terminal) (n : ℕ) (d : Terminal) → NoEnd n ts → n < length ts → is_end (lexeme_of (get_or ts n d)) ≡ true
    → slice_split is_end (map lexeme_of ts) ≡ map lexeme_of (take n ts) ∷ slice_split is_end (map lexeme_of (drop (suc n) ts))
cut_by [] n d h l e = absurd (omega arith)
cut_by (t ∷ ts) zero d h l e = split_yes (lexeme_of t) (map lexeme_of ts) e
cut_by (t ∷ ts) (suc n) d h l e =
    split_no (lexeme_of t) (map lexeme_of ts) (h.at 0 d (omega arith)) ∙ ap (onto_first (lexeme_of t)) (cut_by ts n d (no_end_tail t ts n h) (omega arith) e)

pub cut_here : (ts : List Terminal) (n : ℕ) (d : Terminal) → NoEnd n ts → n < length ts → is_end (lexeme_of (get_or ts n d)) ≡ true
    → slice_split is_end (map lexeme_of ts) ≡ map lexeme_of (take n ts) ∷ slice_split is_end (map lexeme_of (take (length ts - (n + 1)) (drop (n + 1) ts)))
cut_here ts n d h l e = rw (take_rest ts (n + 1), add-one) (cut_by ts n d h l e)

pub cut_none : (ts : List Terminal) (n : ℕ) → NoEnd n ts → length ts ≤ n → slice_split is_end (map lexeme_of ts) ≡ map lexeme_of ts ∷ []
cut_none [] n h l = refl
cut_none (t ∷ ts) zero h l = absurd (omega arith)
cut_none (t ∷ ts) (suc n) h l =
    split_no (lexeme_of t) (map lexeme_of ts) (h.at 0 t (omega arith)) ∙ ap (onto_first (lexeme_of t)) (cut_none ts n (no_end_tail t ts n h) (omega arith))

more_by : (ts : List Terminal) (n k : ℕ) (d e : Terminal) → NoEnd n ts → n < length ts → is_end (lexeme_of (get_or ts n d)) ≡ false → k < suc n → is_end (lexeme_of (get_or ts k e)) ≡ false
more_by [] n k d e h l f m = absurd (omega arith)
more_by (t ∷ ts) zero zero d e h l f m = f
more_by (t ∷ ts) zero (suc k) d e h l f m = absurd (omega arith)
more_by (t ∷ ts) (suc n) zero d e h l f m = h.at 0 e (omega arith)
more_by (t ∷ ts) (suc n) (suc k) d e h l f m = more_by ts n k d e (no_end_tail t ts n h) (omega arith) f (omega arith)

pub no_end_more : (ts : List Terminal) (n : ℕ) (d : Terminal) → NoEnd n ts → n < length ts → is_end (lexeme_of (get_or ts n d)) ≡ false → NoEnd (n + 1) ts
no_end_more ts n d h l f = record { at = λ k e m. more_by ts n k d e h l f (omega arith) }
