-- Membership in a list of places.
use Rattle.std.proofs.Common.{◌≡◌, ℕ, List, [], ◌∷◌, nat_eq, refl, ap, ◌||◌}
use Rattle.std.specs.List.{list_any}
use Rattle.col_sets.specs.Sets.{has}

pub any_has : (xs : List ℕ) (c : ℕ) → list_any (λ y. nat_eq y c) xs ≡ has xs c
any_has [] c = refl
any_has (x ∷ xs) c = ap (λ b. nat_eq x c || b) (any_has xs c)
