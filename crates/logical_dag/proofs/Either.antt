-- One of two statements.
use Rattle.std.proofs.Common.{◌≡◌, ◌≢◌, ℕ, ◌+◌, ◌<◌, Bool, true, false, nat_eq, refl, arith, ◌⊎◌, inl, inr}
use Rattle.std.proofs.lemmas.Bool.Decides.{nat_tests}
use Rattle.col_sets.specs.Tests.{from_test}

-- what follows from each follows
pub from_either : {A B C : Type 0} → (A → C) → (B → C) → A ⊎ B → C
from_either h k (inl m) = h m
from_either h k (inr m) = k m

-- each said otherwise
pub either_both : {A B C D : Type 0} → (A → C) → (B → D) → A ⊎ B → C ⊎ D
either_both h k = from_either (λ m. inl (h m)) (λ m. inr (k m))

-- the first one
pub either_first : {A B C : Type 0} → (A → C) → A ⊎ B → C ⊎ B
either_first h = either_both h (λ m. m)

-- the second one
pub either_second : {A B C : Type 0} → (B → C) → A ⊎ B → A ⊎ C
either_second = either_both (λ m. m)

-- the other one gives nothing
pub either_none : {A : Type 0} → A ⊎ ⊥ → A
either_none = from_either (λ m. m) (λ m. absurd m)

-- one of three
pub regrouped : {A B C : Type 0} → (A ⊎ B) ⊎ C → A ⊎ (B ⊎ C)
regrouped = from_either (either_second inl) (λ m. inr (inr m))

pub ungrouped : {A B C : Type 0} → A ⊎ (B ⊎ C) → (A ⊎ B) ⊎ C
ungrouped = from_either (λ m. inl (inl m)) (either_first inr)

-- a number below the next is below this one or is it
pub below_or_last : (b a : ℕ) → b < a + 1 → (b < a) ⊎ (b ≡ a)
below_or_last b a l = go (nat_eq b a) refl
  where
    go : (t : Bool) → nat_eq b a ≡ t → (b < a) ⊎ (b ≡ a)
    go true t = inr (from_test b a t)
    go false t = let other : b ≢ a = grind (arith, nat_tests) in inl (omega arith)
