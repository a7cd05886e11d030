-- The expressions of the tests are formed.
use Rattle.std.proofs.Common.{◌≡◌, ◌≢◌, ◌<◌, ℕ, Bool, true, false, List, [], ◌∷◌, refl, subst, nat_eq, arith}
use Rattle.std.specs.Prelude.{◌||◌}
use Rattle.std.proofs.lemmas.List.Elements.{All-nil, All-cons}
use Rattle.std.proofs.lemmas.List.Kept.{AllPairs-cons}
use Rattle.col_sets.specs.Sets.{has, columns_where}
use Rattle.col_sets.specs.Tests.{from_test}
use denote.Hole.Carrier.{hidden}
use Rattle.scope_expr.specs.declared.expr.Expr.TheBlock.{shape-the_row-Expr-0, hidden-the_row-Expr-0}
use Rattle.logical_trees.specs.declared.agg.Agg.{Agg}
use Rattle.logical_trees.specs.Formed.{IsFormed, IsGroup, IsJoin, IsArgumentOver}
use Rattle.logical_trees.specs.Tree.{columns_of}
use Rattle.logical_trees.specs.Worked.{counting, two_joined, three_joined}
use Rattle.logic_tests.specs.Worked.{linked, counted}

pub linked-formed : (results : List (List ℕ)) → IsFormed results linked
unfolding columns_where shape-the_row-Expr-0 hidden-the_row-Expr-0 hidden
linked-formed results = (refl, ((((refl, refl), (refl, refl)), (refl, tt)), (refl, tt)))

counting-group : IsGroup counting
unfolding columns_where
counting-group = record {
  key_set = refl;
  below = All-cons (λ (a : Agg). a.id < 128) _ [] (omega arith) (All-nil (λ (a : Agg). a.id < 128));
  own = All-cons (λ (a : Agg). has counting.keys a.id ≡ false) _ [] refl (All-nil (λ (a : Agg). has counting.keys a.id ≡ false));
  different = AllPairs-cons (λ (a b : Agg). a.id ≢ b.id) _ [] (All-nil _) (λ i j d l m. absurd (omega arith));
}

pub counted-formed : (results : List (List ℕ)) → IsFormed results counted
counted-formed results = (
  linked-formed results,
  (
    counting-group,
    refl,
    All-cons (λ (a : Agg). IsArgumentOver (0 ∷ 1 ∷ 2 ∷ 3 ∷ []) a.arg) _ [] tt (All-nil (λ (a : Agg). IsArgumentOver (0 ∷ 1 ∷ 2 ∷ 3 ∷ []) a.arg)),
  ),
)

-- columns that leave one out share none with that one alone
apart_from_one : (d : ℕ) (s : List ℕ) → has s d ≡ false → (c : ℕ) → has (d ∷ []) c ≡ true → has s c ≡ true → ⊥
apart_from_one d s out c h k = at (nat_eq d c) refl
  where
    at : (b : Bool) → nat_eq d c ≡ b → ⊥
    at true e = let same : d ≡ c = from_test d c e in absurd (cc)
    at false e = absurd (let f : false ≡ true = subst (λ (b : Bool). b || false ≡ true) e h in cc)

first-join : IsJoin (0 ∷ []) (1 ∷ 2 ∷ []) ((0, 1) ∷ [])
first-join = record {
  apart = apart_from_one 0 (1 ∷ 2 ∷ []) refl;
  some = omega arith;
  sides = All-cons (λ (p : ℕ × ℕ). (has (0 ∷ []) p.0 ≡ true) × (has (1 ∷ 2 ∷ []) p.1 ≡ true)) (0, 1) [] (refl, refl) (All-nil _);
}

second-join : IsJoin (columns_of two_joined) (3 ∷ []) ((1, 3) ∷ [])
unfolding columns_where
second-join = record {
  apart = λ c h k. apart_from_one 3 (0 ∷ 1 ∷ 2 ∷ []) refl c k h;
  some = omega arith;
  sides = All-cons (λ (p : ℕ × ℕ). (has (columns_of two_joined) p.0 ≡ true) × (has (3 ∷ []) p.1 ≡ true)) (1, 3) [] (refl, refl) (All-nil _);
}

pub joined-formed : (results : List (List ℕ)) → IsFormed results three_joined
unfolding columns_where
joined-formed results = ((refl, refl, first-join), refl, second-join)
