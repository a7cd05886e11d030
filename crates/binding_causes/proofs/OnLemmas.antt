-- Steps over the ONs of a FROM.
use Rattle.std.proofs.Common.{◌≡◌, ℕ, ◌+◌, ◌<◌, ◌≤◌, List, [], ◌∷◌, length, get_or, take, drop, None, refl, ap, ◌∙◌, arith, add-one, drop-cons}
use Rattle.std.proofs.lemmas.List.{take_more, drop_all}
use Rattle.script_trees.specs.declared.select.Joined.{Joined}
use Rattle.names_in_sight.specs.declared.input.Input.{Input}
use Rattle.names_in_sight.specs.Views.{sides_of}
use Rattle.binding_causes.specs.declared.found.Found.{Found}
use Rattle.binding_causes.specs.Asked.{ons_from}
use Rattle.binding_causes.specs.Found.{none, either, any_of, in_on}
use Rattle.binding_causes.proofs.FoundLemmas.{either_assoc}
use Rattle.binding_causes.proofs.RepeatLemmas.{next_of}

next_at : {X : Type 0} (xs : List X) (i : ℕ) (d : X) → i < length xs → drop i xs ≡ get_or xs i d ∷ drop (i + 1) xs
next_at xs i d lt = rw add-one (drop-cons xs i d lt)

ons_step : (inputs : List Input) (more : List Joined) (n i : ℕ) (j : Joined) (f : Found) (d : Input) → i < length more → n < length inputs → j ≡ get_or more i j
    → f ≡ in_on (sides_of (take n inputs) (get_or inputs n d), j.on)
    → either f (any_of in_on (ons_from (take (n + 1) inputs) (drop (n + 1) inputs) (drop (i + 1) more))) ≡ any_of in_on (ons_from (take n inputs) (drop n inputs) (drop i more))
ons_step inputs more n i j f d lt within is found = rw (next_at inputs n d within, next_of more i j lt is, take_more inputs n d within, found) refl

pub ons_more : (inputs : List Input) (more : List Joined) (i : ℕ) (j : Joined) (front f : Found) → i < length more → length more < length inputs → j ≡ get_or more i j
    → ((d : Input) → f ≡ in_on (sides_of (take (i + 1) inputs) (get_or inputs (i + 1) d), j.on))
    → either (either front f) (any_of in_on (ons_from (take (i + 1 + 1) inputs) (drop (i + 1 + 1) inputs) (drop (i + 1) more)))
    ≡ either front (any_of in_on (ons_from (take (i + 1) inputs) (drop (i + 1) inputs) (drop i more)))
ons_more inputs more i j front f lt within is found =
    let d : Input = record { alias = None; columns = [] } in
    either_assoc front f (any_of in_on (ons_from (take (i + 1 + 1) inputs) (drop (i + 1 + 1) inputs) (drop (i + 1) more)))
    ∙ ap (either front) (ons_step inputs more (i + 1) i j f d lt (omega arith) is (found d))

ons_none : (done inputs : List Input) → any_of in_on (ons_from done inputs []) ≡ none
ons_none done [] = refl
ons_none done (i ∷ inputs) = refl

pub ons_end : (done inputs : List Input) (more : List Joined) (i : ℕ) → length more ≤ i → any_of in_on (ons_from done inputs (drop i more)) ≡ none
ons_end done inputs more i end = rw (drop_all i more end) (ons_none done inputs)
