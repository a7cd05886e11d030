-- The sizes made of a tree are those at its places.
use Rattle.std.proofs.Common.{◌≡◌, ◌+◌, ◌*◌, ◌/◌, ◌%◌, ℕ, Bool, true, false, cond, nat_eq, List, [], ◌∷◌, ◌++◌, arith, refl, sym, ap, ◌∙◌, subst, inl, inr, Some, IsPermutation, ◌-◌, slice_get}
use Rattle.std.proofs.lemmas.Bool.Decides.{nat_tests}
use Rattle.std.proofs.lemmas.List.Sorted.{IsPermutation-map}
use Rattle.structural_props.specs.Actions.{In}
use Rattle.logical_trees.specs.declared.logic_op.LogicOp.TheVariants.{Group, Top}
use Rattle.logical_dag.specs.declared.place.PlacePart.{PlacePart}
use Rattle.logical_dag.specs.declared.place.PlacePart.TheVariants.{Whole as AllOf, Leaves as SomeLeaves, Lower}
use Rattle.logical_trees.specs.Tree.{Expression, one, nodes}
use Rattle.logical_trees.specs.Formed.{IsFormed}
use Rattle.logical_trees.specs.Blocks.{block_pairs, chosen}
use Rattle.rules_shapes.specs.Shapes.{size, Shape, top_number, numbered_leaves, IsShaped}
use Rattle.rules_optimal.specs.Places.{tops, numbered, HasNumbers}
use Rattle.rules_sizes.specs.Sizes.{Size, Sizes, join_size, leaf_sizes}
use Rattle.rules_sizes.specs.Places.{leaves_size, ArePairsOf, AreSizesOf, AreSized}
use Rattle.rules_sizes.proofs.Numbers.{Numbered, number, top_is}
use Rattle.rules_sizes.proofs.Sorting.{AreAscending, sorted_is}
use Rattle.rules_sizes.proofs.Sized.{own, owns, owns_are, sizes_ascend, shaped_sized}
use Rattle.rules_tables.specs.Tables.{block_with, leaves_place, dag_place, mask_by, pairs_of, pairs_at}
use Rattle.rules_tables.proofs.Unique.{unique, top_in}
use Rattle.rules_tables.proofs.Chosen.{first_is, picks, picked}
use Rattle.rules_tables.proofs.Table.{block_found, node_got}
use Rattle.rules_costs.specs.Places.{part_size, node_part, place_size, part_of, node_with, leaves_at_block, size_at}
use Rattle.rules_costs.specs.Laws.{IsSizeOfPlace}
use Rattle.rules_space.specs.Place.{Leaves, Whole, Half, Block}
use Rattle.col_sets.specs.Tests.{from_test}
use Rattle.rules_places.proofs.Masks.{low_bit}

pub has_pairs : (tree : Expression) → ArePairsOf (pairs_at tree) tree
has_pairs tree base n m L leaves out p v i num = ap pairs_of (block_found tree base n m L leaves out p v i num)

-- ---- nodes by number

equal_itself : (n : ℕ) → nat_eq n n ≡ true
equal_itself n = grind (arith, nat_tests)

node_found : (tree : Expression) (v : Numbered) → In v (numbered 0 tree) → node_with tree (number v) ≡ Some v
node_found tree v m = first_is (λ w. nat_eq (top_number w.0 w.1) (number v)) (numbered 0 tree) v m (equal_itself (number v)) (λ w i e. unique 0 tree w v i m (from_test (number w) (number v) e))

-- ---- some leaves

high_bits : (n : ℕ) (b : Bool) → (n * 2 + cond b 1 0) / 2 ≡ n
high_bits n true = omega arith
high_bits n false = omega arith

module _ (Z : Sizes) (L : Leaves) where
  chosen_owns : (leaves : List Numbered) → chosen (mask_by L leaves) (owns Z leaves) ≡ owns Z (picks L leaves)
  chosen_owns [] = refl
  chosen_owns (v ∷ leaves) =
      (λ i. cond (low_bit (mask_by L leaves) (L (number v)) i) (own Z v ∷ chosen (high_bits (mask_by L leaves) (L (number v)) i) (owns Z leaves)) (chosen (high_bits (mask_by L leaves) (L (number v)) i) (owns Z leaves)))
      ∙ go (chosen_owns leaves) (L (number v))
    where
      go : chosen (mask_by L leaves) (owns Z leaves) ≡ owns Z (picks L leaves) → (b : Bool)
          → cond b (own Z v ∷ chosen (mask_by L leaves) (owns Z leaves)) (chosen (mask_by L leaves) (owns Z leaves)) ≡ owns Z (cond b (v ∷ []) [] ++ picks L leaves)
      go e true = ap (λ l. own Z v ∷ l) e
      go e false = e

  picks_in : (leaves : List Numbered) (y : Size) → In y (owns Z (picks L leaves)) → In y (owns Z leaves)
  picks_in [] y m = absurd m
  picks_in (v ∷ leaves) y m = go (picks_in leaves y) (L (number v)) m
    where
      go : (In y (owns Z (picks L leaves)) → In y (owns Z leaves)) → (b : Bool) → In y (owns Z (cond b (v ∷ []) [] ++ picks L leaves)) → In y (owns Z (v ∷ leaves))
      go later true (inl e) = inl e
      go later true (inr n) = inr (later n)
      go later false n = inr (later n)

  picks_ascend : (leaves : List Numbered) → AreAscending (owns Z leaves) → AreAscending (owns Z (picks L leaves))
  picks_ascend [] h = tt
  picks_ascend (v ∷ leaves) h = go (picks_ascend leaves h.1) (L (number v))
    where
      go : AreAscending (owns Z (picks L leaves)) → (b : Bool) → AreAscending (owns Z (cond b (v ∷ []) [] ++ picks L leaves))
      go later true = ((λ y m. h.0 y (picks_in leaves y m)), later)
      go later false = later

  -- the leaves that the mask chooses are those in the set, by ascending number
  chosen_are : (base : ℕ) (n : Expression) (leaves out : List Numbered) → IsPermutation (leaves ++ out) (numbered_leaves base n) → HasNumbers L leaves
      → chosen (mask_by L (numbered_leaves base n)) (leaf_sizes Z base n) ≡ leaves_size Z leaves
  chosen_are base n leaves out p num =
      ap (chosen (mask_by L (numbered_leaves base n))) (sym (owns_are Z base n)) ∙ chosen_owns (numbered_leaves base n)
      ∙ sym (sorted_is (owns Z leaves) (owns Z (picks L (numbered_leaves base n))) (IsPermutation-map (own Z) leaves (picks L (numbered_leaves base n)) (picked base n L leaves out p num))
      (picks_ascend (numbered_leaves base n) (subst AreAscending (sym (owns_are Z base n)) (sizes_ascend Z base n))))

pub has_sizes : (Z : Sizes) (tree : Expression) → AreSizesOf Z (size_at Z tree) tree
has_sizes Z tree = record {
  whole = λ v m b. ap (part_of Z AllOf) (node_found tree v m);
  group = λ base args t m. ap (part_of Z Lower) (node_found tree (base, one (Group args) t) m);
  top = λ base args t m. ap (part_of Z Lower) (node_found tree (base, one (Top args) t) m);
  block = λ base n m L leaves out p v i num. ap (leaves_at_block Z L) (block_found tree base n m L leaves out p v i num) ∙ ap (join_size (block_pairs n)) (chosen_are Z L base n leaves out p num);
}

pub sized_by_place : (results : List (List ℕ)) (Z : Sizes) (tree u : Expression) (s : Shape) → IsFormed results tree → IsShaped 0 tree u s → AreSized Z (pairs_at tree) (size_at Z tree) u s
sized_by_place results Z tree u s h g = shaped_sized results Z (pairs_at tree) tree (has_pairs tree) (size_at Z tree) (has_sizes Z tree) 0 tree u s h (λ x m. m) (λ x m. m) g

-- ---- places of the Dag

base_of : (v : Numbered) → number v + 1 - size v.1 ≡ v.0
base_of v = let k = top_is v.0 v.1 in omega (arith, k)

-- the part of a node of the Dag
node_part_is : (Z : Sizes) (tree : Expression) (v : Numbered) (part : PlacePart) → In v (numbered 0 tree) → part_size Z v.0 v.1 part ≡ node_part Z (number v) part (slice_get (nodes tree) (number v))
node_part_is Z tree v part m = ap (λ b. part_size Z b v.1 part) (sym (base_of v)) ∙ ap (node_part Z (number v) part) (sym (node_got tree v m))

pub size_of_place : IsSizeOfPlace
size_of_place Z i tree = (nodes_are, blocks_are)
  where
    nodes_are : (v : Numbered) → In v (numbered 0 tree) → (size_at Z tree (Whole (number v)) ≡ place_size Z tree (dag_place i tree (Whole (number v)))) × (size_at Z tree (Half (number v)) ≡ place_size Z tree (dag_place i tree (Half (number v))))
    nodes_are v m =
        (ap (part_of Z AllOf) (node_found tree v m) ∙ node_part_is Z tree v AllOf m, ap (part_of Z Lower) (node_found tree v m) ∙ node_part_is Z tree v Lower m)

    blocks_are : (x : Numbered) (L : Leaves) → In x (tops false 0 tree) → block_with tree L ≡ Some x → size_at Z tree (Block L) ≡ place_size Z tree (dag_place i tree (Block L))
    blocks_are x L m e =
        ap (leaves_at_block Z L) e ∙ node_part_is Z tree x (SomeLeaves (mask_by L (numbered_leaves x.0 x.1))) (top_in false 0 tree x m) ∙ ap (λ o. place_size Z tree (leaves_place i L o)) (sym e)
