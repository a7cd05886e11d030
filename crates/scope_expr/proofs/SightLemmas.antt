-- Columns in sight of which no two have one alias and one name.
use Rattle.std.proofs.Common.{◌≡◌, refl, sym, ap, ◌∙◌, subst, ℕ, suc, ◌+◌, ◌<◌, ◌≤◌, Bool, true, false, cond, ◌&&◌, List, [], ◌∷◌, length, nat_eq, arith, Option, Some, None}
use Rattle.std.specs.Prelude.{is_some, All, AllPairs, count_by}
use Rattle.std.specs.Cmp.Lexicographic.{pointwise}
use Rattle.std.proofs.lemmas.List.Sums.{sum_by-cons}
use Rattle.std.proofs.lemmas.List.Elements.{All-head, All-tail}
use Rattle.col_sets.specs.Tests.{both, and_true, from_test, to_test}
use Rattle.script_trees.specs.declared.raw.RawRef.{RawRef}
use Rattle.scope_expr.specs.declared.scope.Entry.{Entry}
use Rattle.scope_expr.specs.Sight.{is_of, is_named, have_one_alias, clash, AreDistinct}

-- byte strings that test equal are equal, and the other way round
same_bytes : (x y : List ℕ) → pointwise nat_eq x y ≡ true → x ≡ y
same_bytes [] [] h = refl
same_bytes [] (b ∷ y) h = absurd (cc)
same_bytes (a ∷ x) [] h = absurd (cc)
same_bytes (a ∷ x) (b ∷ y) h =
    let parts = both (nat_eq a b) (pointwise nat_eq x y) h in
    let heads : a ≡ b = from_test a b parts.0 in
    let tails : x ≡ y = same_bytes x y parts.1 in cc

test_bytes : (x : List ℕ) → pointwise nat_eq x x ≡ true
test_bytes [] = refl
test_bytes (a ∷ x) = and_true _ _ (to_test a a refl) (test_bytes x)

-- sources of one alias have it in common
same_alias : (alias a b : Option (List ℕ)) → is_some alias ≡ true → is_of alias a ≡ true → is_of alias b ≡ true → have_one_alias a b ≡ true
same_alias None a b s h k = absurd (cc)
same_alias (Some c) None b s h k = absurd (cc)
same_alias (Some c) (Some a) None s h k = absurd (cc)
same_alias (Some c) (Some a) (Some b) s h k = subst (λ (z : List ℕ). pointwise nat_eq z b ≡ true) (same_bytes c a h) k

-- two columns of one name and one alias clash
named_clash : (r : RawRef) (a b : Entry) → is_some r.alias ≡ true → is_named r a ≡ true → is_named r b ≡ true → clash a b ≡ true
named_clash r a b s h k =
    let first = both (pointwise nat_eq r.name a.name) (is_of r.alias a.alias) h in
    let second = both (pointwise nat_eq r.name b.name) (is_of r.alias b.alias) k in
    and_true _ _ (subst (λ (z : List ℕ). pointwise nat_eq z b.name ≡ true) (same_bytes r.name a.name first.0) second.0) (same_alias r.alias a.alias b.alias s first.1 second.1)

none_more : (r : RawRef) (a : Entry) (xs : List Entry) → is_some r.alias ≡ true → is_named r a ≡ true → All (λ b. clash a b ≡ false) xs → count_by (is_named r) xs ≡ 0
none_more r a [] s h all = refl
none_more r a (b ∷ xs) s h all = go (is_named r b) refl (none_more r a xs s h (All-tail (λ b. clash a b ≡ false) b xs all))
  where
    go : (t : Bool) → is_named r b ≡ t → count_by (is_named r) xs ≡ 0 → count_by (is_named r) (b ∷ xs) ≡ 0
    go true e more = absurd (let k : true ≡ false = sym (named_clash r a b s h e) ∙ All-head (λ b. clash a b ≡ false) b xs all in cc)
    go false e more = let k : count_by (is_named r) (b ∷ xs) ≡ 0 + count_by (is_named r) xs = sum_by-cons _ b xs ∙ ap (λ t. cond t 1 0 + count_by (is_named r) xs) e in omega arith

-- a name with an alias is of one column at most
pub one_named : (r : RawRef) (xs : List Entry) → is_some r.alias ≡ true → AreDistinct xs → count_by (is_named r) xs ≤ 1
one_named r [] s distinct = omega arith
one_named r (a ∷ xs) s distinct = go (is_named r a) refl (one_named r xs s (λ i j d l m. distinct (suc i) (suc j) d (omega arith) (omega arith)))
  where
    go : (t : Bool) → is_named r a ≡ t → count_by (is_named r) xs ≤ 1 → count_by (is_named r) (a ∷ xs) ≤ 1
    go true e more =
        let rest = none_more r a xs s e (λ k d l. distinct 0 (suc k) d (omega arith) (omega arith)) in
        let k : count_by (is_named r) (a ∷ xs) ≡ 1 + count_by (is_named r) xs = sum_by-cons _ a xs ∙ ap (λ t. cond t 1 0 + count_by (is_named r) xs) e in omega arith
    go false e more = let k : count_by (is_named r) (a ∷ xs) ≡ 0 + count_by (is_named r) xs = sum_by-cons _ a xs ∙ ap (λ t. cond t 1 0 + count_by (is_named r) xs) e in omega arith
