-- Tables that are looked up by the bytes of a name.
use Rattle.std.proofs.Common.{◌≡◌, ◌&&◌, ℕ, Bool, true, false, cond, List, Option, Some, Result, Ok, Err, OnOk, refl, sym, ap, ◌∙◌}
use Rattle.std.specs.Option.{option_and_then}
use Rattle.std.specs.HashMap.{HashMap, UpdatesBy}
use Rattle.std.specs.Map.{AreApart, IsKeyTest, KeepsOthers}
use Rattle.std.specs.Str.{bytes_eq}
use Rattle.std.proofs.lemmas.Slice.Eq.{bytes_eq-Decides}
use Rattle.size_model.specs.Answers.{under}

-- the same bytes
pub bytes_same : (n m : List ℕ) → bytes_eq n m ≡ true → n ≡ m
bytes_same n m h = (bytes_eq-Decides n m).0 h

bytes_self : (n : List ℕ) → bytes_eq n n ≡ true
bytes_self n = (bytes_eq-Decides n n).1 refl

other_by : (n m : List ℕ) (b : Bool) → bytes_eq m n ≡ b → bytes_eq n m ≡ false → b ≡ false
other_by n m true e h = let q = ap (λ z. bytes_eq n z) (bytes_same m n e) in let s = bytes_self n in cc
other_by n m false e h = refl

other : (n m : List ℕ) → bytes_eq n m ≡ false → bytes_eq m n ≡ false
other n m h = other_by n m (bytes_eq m n) refl h

module _ {K : Type 0} (text : K → List ℕ) where
  -- the test by which a name is looked up
  abbrev named : List ℕ → K → Bool
  named n k = bytes_eq n (text k)

  -- keys are the same by their bytes
  abbrev same : K → K → Bool
  same x y = bytes_eq (text x) (text y)

  named_test : (n : List ℕ) → IsKeyTest same (named n)
  named_test n x y h = ap (λ z. bytes_eq z (text y)) (bytes_same n (text x) h)

  named_apart : (n m : List ℕ) → bytes_eq n m ≡ false → AreApart (named n) (named m)
  named_apart n m h k e = ap (λ z. bytes_eq m z) (sym (bytes_same n (text k) e)) ∙ other n m h

module _ {K V S : Type 0} (text : K → List ℕ) where
  under_by : (old new : HashMap K V S) (n m : List ℕ) (w : Option V) → UpdatesBy (same text) (named text n) old new w → (b : Bool) → bytes_eq n m ≡ b
      → under text new m ≡ cond b w (under text old m)
  unfolding KeepsOthers
  under_by old new n m w u true e = ap (λ z. under text new z) (sym (bytes_same n m e)) ∙ u.1
  under_by old new n m w u false e = u.3 (named text m) (named_test text m) (named_apart text n m e)

  -- what a table has under each name after a change at one
  pub under_after : (old new : HashMap K V S) (n : List ℕ) (w : Option V) → UpdatesBy (same text) (named text n) old new w
      → (m : List ℕ) → under text new m ≡ cond (bytes_eq n m) w (under text old m)
  under_after old new n w u m = under_by old new n m w u (bytes_eq n m) refl

-- what follows from an answer where it is Ok
pub on_ok : {A E P Q : Type 0} (r : Result A E) → (P → Q) → OnOk r P → OnOk r Q
on_ok (Ok a) f h = f h
on_ok (Err e) f h = tt

-- what tables within a table have after one of them got one value more
module _ {K L V R S : Type 0} (outer : K → List ℕ) (inner : L → List ℕ) (old new : HashMap K (HashMap L V R) S) (n col : List ℕ) (k : V) (before after : HashMap L V R)
    (found : under outer old n ≡ Some before) (put : (m : List ℕ) → under outer new m ≡ cond (bytes_eq n m) (Some after) (under outer old m))
    (within : (c : List ℕ) → under inner after c ≡ cond (bytes_eq col c) (Some k) (under inner before c)) where
  abbrev at : List ℕ → Option (HashMap L V R) → Option V
  at c o = option_and_then (λ t. under inner t c) o

  nested_by : (m c : List ℕ) (b : Bool) → bytes_eq n m ≡ b → under outer new m ≡ cond b (Some after) (under outer old m)
      → at c (under outer new m) ≡ cond (b && bytes_eq col c) (Some k) (at c (under outer old m))
  nested_by m c true e h =
      ap (at c) h ∙ within c ∙ ap (λ o. cond (bytes_eq col c) (Some k) (at c o)) (sym (ap (under outer old) (sym (bytes_same n m e)) ∙ found))
  nested_by m c false e h = ap (at c) h

  pub nested_after : (m c : List ℕ) → at c (under outer new m) ≡ cond (bytes_eq n m && bytes_eq col c) (Some k) (at c (under outer old m))
  nested_after m c = nested_by m c (bytes_eq n m) refl (put m)
