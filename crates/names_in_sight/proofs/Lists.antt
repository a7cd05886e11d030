-- Lists that a loop makes, one element after the other.
use Rattle.std.proofs.Common.{◌≡◌, ℕ, ◌+◌, ◌<◌, List, [], ◌∷◌, ◌++◌, length, get_or, take, map, sym, ap, ap₂, ◌∙◌}
use Rattle.std.proofs.lemmas.List.{take_more, map-append}

pub map_more : {A B : Type 0} (f : A → B) (xs : List A) (i : ℕ) (x : A) (out new : List B) (y : B) → i < length xs → x ≡ get_or xs i x
    → out ≡ map f (take i xs) → y ≡ f x → new ≡ out ++ y ∷ [] → new ≡ map f (take (i + 1) xs)
map_more {A} {B} f xs i x out new y lt is old made put =
    let front : take (i + 1) xs ≡ take i xs ++ x ∷ [] = take_more xs i x lt ∙ ap (λ (d : A). take i xs ++ d ∷ []) (sym is) in
    put ∙ ap₂ (λ (o : List B) (z : B). o ++ z ∷ []) old made ∙ sym (ap (map f) front ∙ map-append f (take i xs) (x ∷ []))
