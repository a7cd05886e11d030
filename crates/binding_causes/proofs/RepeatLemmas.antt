-- Steps of a search for what stands twice.
use Rattle.std.proofs.Common.{◌≡◌, ℕ, suc, ◌+◌, ◌<◌, Bool, true, false, ◌||◌, List, [], ◌∷◌, length, get_or, drop, map, refl, sym, ap, ◌∙◌, add-one, drop-cons}
use Rattle.std.specs.List.{list_any}
use Rattle.binding_causes.specs.Columns.{repeats}

pub any_of_map : {X Y : Type 0} (p : Y → Bool) (g : X → Y) (xs : List X) → list_any p (map g xs) ≡ list_any (λ x. p (g x)) xs
any_of_map p g [] = refl
any_of_map p g (x ∷ xs) = ap (λ b. p (g x) || b) (any_of_map p g xs)

-- what is left at a place
pub next_of : {X : Type 0} (xs : List X) (i : ℕ) (x : X) → i < length xs → x ≡ get_or xs i x → drop i xs ≡ x ∷ drop (i + 1) xs
next_of {X} xs i x lt is = rw add-one (drop-cons xs i x lt ∙ ap (λ (d : X). d ∷ drop (suc i) xs) (sym is))

-- one that isn't there again
pub repeats_more : {X Y : Type 0} (same : Y → Y → Bool) (f : X → Y) (xs : List X) (i : ℕ) (x : X) → i < length xs → x ≡ get_or xs i x
    → list_any (λ y. same (f x) (f y)) (drop (i + 1) xs) ≡ false → repeats same (map f (drop i xs)) ≡ repeats same (map f (drop (i + 1) xs))
repeats_more same f xs i x lt is none = rw (next_of xs i x lt is, any_of_map (same (f x)) f (drop (i + 1) xs), none) refl

-- one that is
pub repeats_found : {X Y : Type 0} (same : Y → Y → Bool) (f : X → Y) (xs : List X) (i : ℕ) (x : X) → i < length xs → x ≡ get_or xs i x
    → list_any (λ y. same (f x) (f y)) (drop (i + 1) xs) ≡ true → repeats same (map f (drop i xs)) ≡ true
repeats_found same f xs i x lt is found = rw (next_of xs i x lt is, any_of_map (same (f x)) f (drop (i + 1) xs), found) refl
