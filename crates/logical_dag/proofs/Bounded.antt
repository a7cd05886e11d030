-- The bounds of a Dag, by what is counted of its parts.
use Rattle.std.proofs.Common.{◌≡◌, ℕ, ◌+◌, ◌≤◌, Bool, true, ◌&&◌, nat_le, List, [], ◌∷◌, ◌++◌, map, length, refl, sym, ap, ap₂, ◌∙◌, arith}
use Rattle.std.specs.Prelude.{◌↔◌, sum_by}
use Rattle.std.specs.List.{list_all}
use Rattle.std.proofs.lemmas.Bool.Decides.{nat_tests}
use Rattle.std.proofs.lemmas.List.{length-map}
use Rattle.std.proofs.lemmas.List.Sums.{sum_by-cons, sum_by-append}
use Rattle.std.proofs.lemmas.List.Folds.{list_all-append, list_all-map}
use Rattle.col_sets.specs.Tests.{both, and_true}
use Rattle.logical_trees.specs.declared.logical.Logical.{Logical}
use Rattle.logical_trees.specs.Tree.{Expression, tree_of}
use Rattle.logical_dag.specs.declared.dag.Output.{Output}
use Rattle.logical_dag.specs.Bounds.{node_count, is_narrow, AreBounded}

sum_by-map : {X Y : Type 0} (f : Y → ℕ) (g : X → Y) (xs : List X) → sum_by f (map g xs) ≡ sum_by (λ x. f (g x)) xs
sum_by-map f g [] = refl
sum_by-map f g (x ∷ xs) = sum_by-cons f (g x) (map g xs) ∙ ap (λ n. f (g x) + n) (sum_by-map f g xs) ∙ sym (sum_by-cons (λ x. f (g x)) x xs)

module _ (scans : ℕ) (shared : List Logical) (outputs : List Output) where
  abbrev trees : List Expression
  trees = map tree_of shared

  abbrev ends : List Expression
  ends = map (λ o. tree_of o.tree) outputs

  abbrev nodes_of_trees : ℕ
  nodes_of_trees = sum_by (λ t. node_count (tree_of t)) shared

  abbrev nodes_of_ends : ℕ
  nodes_of_ends = sum_by (λ o. node_count (tree_of o.tree)) outputs

  nodes_of_both : sum_by node_count (trees ++ ends) ≡ nodes_of_trees + nodes_of_ends
  nodes_of_both = sum_by-append node_count trees ends ∙ ap₂ ◌+◌ (sum_by-map node_count tree_of shared) (sum_by-map node_count (λ o. tree_of o.tree) outputs)

  all_of_both : list_all is_narrow (trees ++ ends) ≡ (list_all (λ t. is_narrow (tree_of t)) shared && list_all (λ o. is_narrow (tree_of o.tree)) outputs)
  all_of_both = list_all-append is_narrow trees ends ∙ ap₂ ◌&&◌ (list_all-map is_narrow tree_of shared) (list_all-map is_narrow (λ o. tree_of o.tree) outputs)

  -- what is counted keeps the bounds
  to_bounded : scans ≤ 320 → length shared ≤ 4 → length outputs ≤ 64 → list_all (λ t. is_narrow (tree_of t)) shared ≡ true → list_all (λ o. is_narrow (tree_of o.tree)) outputs ≡ true
      → nodes_of_trees + nodes_of_ends ≤ 2048 → AreBounded scans trees ends
  to_bounded a b c d e n = record {
    few_scans = a;
    few_shared = let l = length-map shared tree_of in omega (arith, l, b);
    few_outputs = let l = length-map outputs (λ (o : Output). tree_of o.tree) in omega (arith, l, c);
    few_nodes = let l = nodes_of_both in omega (arith, l, n);
    narrow = all_of_both ∙ and_true _ _ d e;
  }

  -- and is what the bounds ask
  few_trees : AreBounded scans trees ends → length shared ≤ 4
  few_trees h = let l = length-map shared tree_of in let k = h.few_shared in omega (arith, l, k)

  few_ends : AreBounded scans trees ends → length outputs ≤ 64
  few_ends h = let l = length-map outputs (λ (o : Output). tree_of o.tree) in let k = h.few_outputs in omega (arith, l, k)

  narrow_trees : AreBounded scans trees ends → list_all (λ t. is_narrow (tree_of t)) shared ≡ true
  narrow_trees h = (both _ _ (sym all_of_both ∙ h.narrow)).0

  narrow_ends : AreBounded scans trees ends → list_all (λ o. is_narrow (tree_of o.tree)) outputs ≡ true
  narrow_ends h = (both _ _ (sym all_of_both ∙ h.narrow)).1

  few_nodes : AreBounded scans trees ends → nodes_of_trees + nodes_of_ends ≤ 2048
  few_nodes h = let l = nodes_of_both in let k = h.few_nodes in omega (arith, l, k)

  -- so the bounds are kept where all tests pass
  pub bounded_where : (few narrow room : Bool) → few ≡ (nat_le scans 320 && (nat_le (length shared) 4 && nat_le (length outputs) 64))
      → narrow ≡ (list_all (λ t. is_narrow (tree_of t)) shared && list_all (λ o. is_narrow (tree_of o.tree)) outputs) → (room ≡ true) ↔ (nodes_of_trees + nodes_of_ends ≤ 2048)
      → (((few && narrow) && room) ≡ true) ↔ AreBounded scans trees ends
  bounded_where few narrow room e f g = (there, back)
    where
      at_most : (n m : ℕ) → nat_le n m ≡ true → n ≤ m
      at_most n m h = grind (arith, nat_tests)

      is_most : (n m : ℕ) → n ≤ m → nat_le n m ≡ true
      is_most n m h = grind (arith, nat_tests)

      there : ((few && narrow) && room) ≡ true → AreBounded scans trees ends
      there h =
          let all = both (few && narrow) room h in
          let two = both few narrow all.0 in
          let sizes = both (nat_le scans 320) (nat_le (length shared) 4 && nat_le (length outputs) 64) (sym e ∙ two.0) in
          let more = both (nat_le (length shared) 4) (nat_le (length outputs) 64) sizes.1 in
          let wide = both _ _ (sym f ∙ two.1) in
          to_bounded (at_most scans 320 sizes.0) (at_most (length shared) 4 more.0) (at_most (length outputs) 64 more.1) wide.0 wide.1 (g.0 all.1)

      back : AreBounded scans trees ends → ((few && narrow) && room) ≡ true
      back h =
          let sizes = and_true _ _ (is_most scans 320 h.few_scans) (and_true _ _ (is_most (length shared) 4 (few_trees h)) (is_most (length outputs) 64 (few_ends h))) in
          let wide = and_true _ _ (narrow_trees h) (narrow_ends h) in
          and_true (few && narrow) room (and_true few narrow (e ∙ sizes) (f ∙ wide)) (g.1 (few_nodes h))
