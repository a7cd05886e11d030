-- Pairs with a row of nulls in place of a side.
use Rattle.std.proofs.Common.{◌≡◌, ◌++◌, ℕ, Bool, true, if◌then◌else◌, List, [], ◌∷◌, map, flat_map, Result, OnOk, OnErr, refl, sym, ap, ◌∙◌, subst, append-nil}
use Rattle.user_ops.specs.Appends.{AddsSome}
use Rattle.scope_value.specs.declared.value.Value.{Value}
use Rattle.scope_shipped.specs.InnerPairs.{pairs_of}
use Rattle.outer_joins.specs.declared.side.Side.{Side}
use Rattle.outer_joins.specs.OuterPairs.{keeps_left, keeps_right, nulls, left_alone, right_alone}

-- ---- exits of calls that add the same rows under another name

module _ {T E : Type 0} {X : Type 0} (r : Result T E) (old new xs ys : List X) (same : xs ≡ ys) where
  pub ok_along : OnOk r (new ≡ old ++ xs) → OnOk r (new ≡ old ++ ys)
  ok_along = subst (λ (l : List X). OnOk r (new ≡ old ++ l)) same

  pub err_along : OnErr r (AddsSome old new xs) → OnErr r (AddsSome old new ys)
  err_along = subst (λ (l : List X). OnErr r (AddsSome old new l)) same

-- ---- one row of nulls

with_one_right : (s : List Value) (A : List (List Value)) → flat_map (pairs_of (s ∷ [])) A ≡ map (λ r. r ++ s) A
with_one_right s [] = refl
with_one_right s (r ∷ A) = ap (λ (l : List (List Value)). (r ++ s) ∷ l) (with_one_right s A)

with_one_left : (r : List Value) (B : List (List Value)) → flat_map (pairs_of B) (r ∷ []) ≡ map (λ s. r ++ s) B
with_one_left r B = append-nil (map (λ s. r ++ s) B)

pub left-beside : (side : Side) (n : ℕ) (A absent : List (List Value)) → keeps_left side ≡ true → absent ≡ nulls n ∷ [] → flat_map (pairs_of absent) A ≡ left_alone side n A
left-beside side n A absent kept is =
    ap (λ (l : List (List Value)). flat_map (pairs_of l) A) is ∙ with_one_right (nulls n) A
    ∙ sym (ap (λ (b : Bool). if b then map (λ r. r ++ nulls n) A else []) kept)

pub right-beside : (side : Side) (m : ℕ) (B absent : List (List Value)) → keeps_right side ≡ true → absent ≡ nulls m ∷ [] → flat_map (pairs_of B) absent ≡ right_alone side m B
right-beside side m B absent kept is =
    ap (flat_map (pairs_of B)) is ∙ with_one_left (nulls m) B
    ∙ sym (ap (λ (b : Bool). if b then map (λ s. nulls m ++ s) B else []) kept)
