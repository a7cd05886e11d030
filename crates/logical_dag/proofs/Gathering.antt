-- The steps by which the facts of the leaves of a block are gathered.
use Rattle.std.proofs.Common.{◌≡◌, ℕ, ◌/◌, true, List, [], ◌∷◌, sym, ap, ◌∙◌, subst, ◌⊎◌, inl, inr}
use Rattle.col_sets.specs.Sets.{has}
use Rattle.col_sets.specs.Columns.{has_below, union_has, has_union}
use Rattle.fd_closure.specs.declared.facts.Facts.{Facts}
use Rattle.logical_trees.specs.declared.logic_op.LogicOp.TheVariants.{Join}
use Rattle.logical_trees.specs.Tree.{Expression, two, columns_of}
use Rattle.logical_trees.specs.Formed.{IsFormed}
use Rattle.logical_trees.specs.Blocks.{block_leaves, chosen, columns_of_all}
use Rattle.logical_dag.specs.Gathered.{bits_after, IsOverColumns, IsApartFrom, AreAdded}
use Rattle.logical_trees.specs.LeafLemmas.{some_find, some_at, HasColumn, all_columns_some, chosen_in}
use Rattle.logical_trees.specs.BlockLemmas.{chosen_formed, some_block}
use Rattle.logical_trees.specs.BlockShapeLemmas.{IsNoJoin, no_join_leaves}
use Rattle.logical_dag.proofs.Added.{chosen-append, bits_after-append, added_over, both_added}

-- an expression that is no Join is its only leaf
pub leaf_mask : (t : Expression) (mask rest : ℕ) → IsNoJoin t → rest ≡ mask / 2 → rest ≡ bits_after (block_leaves t) mask
leaf_mask t mask rest none e = e ∙ ap (λ (leaves : List Expression). bits_after leaves mask) (sym (no_join_leaves t none))

pub leaf_added : (shared : List Facts) (t : Expression) (mask : ℕ) (f g : Facts) → IsNoJoin t → AreAdded shared f (chosen mask (t ∷ [])) g → AreAdded shared f (chosen mask (block_leaves t)) g
leaf_added shared t mask f g none h = subst (λ (leaves : List Expression). AreAdded shared f (chosen mask leaves) g) (sym (no_join_leaves t none)) h

module _ (shared : List Facts) (results : List (List ℕ)) (on : _) (t u : Expression) (formed : IsFormed results (two (Join on) t u)) (mask : ℕ) (f : Facts) (over : IsOverColumns f)
    (apart : IsApartFrom f.columns (two (Join on) t u)) where
  -- what is apart from a Join is apart from its left side
  pub left_apart : IsApartFrom f.columns t
  left_apart c h k = apart c h (has_union (columns_of t) (columns_of u) c (has_below f.columns over.set c h) (inl k))

  module _ (g : Facts) (added : AreAdded shared f (chosen mask (block_leaves t)) g) where
    -- and from its right side, also once leaves of the left side were added
    pub right_apart : IsApartFrom g.columns u
    right_apart c h k = go (union_has f.columns (columns_of_all (chosen mask (block_leaves t))) c (subst (λ (s : List ℕ). has s c ≡ true) added.columns h))
      where
        go : (has f.columns c ≡ true) ⊎ (has (columns_of_all (chosen mask (block_leaves t))) c ≡ true) → ⊥
        go (inl m) = apart c m (has_union (columns_of t) (columns_of u) c (has_below f.columns over.set c m) (inr k))
        go (inr m) =
            let n = some_find (HasColumn c) (chosen mask (block_leaves t)) (all_columns_some (chosen mask (block_leaves t)) c m) in
            formed.2.apart c (some_block results t formed.0 c (some_at (HasColumn c) (block_leaves t) n.0 (chosen_in mask (block_leaves t) n.0 n.1) n.2)) k

    pub right_over : IsOverColumns g
    right_over = added_over shared results f g (chosen mask (block_leaves t)) (chosen_formed results mask t formed.0) over added

    -- the leaves of both sides
    pub join_added : (rest : ℕ) (h : Facts) → rest ≡ bits_after (block_leaves t) mask → AreAdded shared g (chosen rest (block_leaves u)) h
        → AreAdded shared f (chosen mask (block_leaves (two (Join on) t u))) h
    join_added rest h e more =
        subst (λ (leaves : List Expression). AreAdded shared f leaves h) (sym (chosen-append mask (block_leaves t) (block_leaves u)))
        (both_added shared results f g h (chosen mask (block_leaves t)) (chosen (bits_after (block_leaves t) mask) (block_leaves u)) (chosen_formed results mask t formed.0) added
        (subst (λ (n : ℕ). AreAdded shared g (chosen n (block_leaves u)) h) e more))

-- the bits after both sides
pub join_mask : (on : _) (t u : Expression) (mask rest last : ℕ) → rest ≡ bits_after (block_leaves t) mask → last ≡ bits_after (block_leaves u) rest → last ≡ bits_after (block_leaves (two (Join on) t u)) mask
join_mask on t u mask rest last e h = h ∙ ap (bits_after (block_leaves u)) e ∙ sym (bits_after-append (block_leaves t) (block_leaves u) mask)
