-- A node that is no Join has no pairs, and a Join has those of its sides and its own.
use Rattle.std.proofs.Common.{List, ℕ, ap, sym, subst, rules}
use Rattle.fd_closure.specs.declared.facts.Facts.{Facts}
use Rattle.logical_trees.specs.declared.logical.Logical.{Logical}
use Rattle.logical_dag.specs.Known.{IsOwn, AreClasses}
use Rattle.logical_trees.specs.Tree.{tree_of}
use Rattle.logical_trees.specs.Blocks.{block_pairs}
use Rattle.logical_trees.specs.ShapeLemmas.{tree_two}
use Rattle.logical_trees.specs.BlockShapeLemmas.{IsNoJoin, no_join_pairs, other_kind, few_kids}
use Rattle.logical_dag.proofs.PairFacts.{EqualOrInside, no_pairs, rest_kept, block_pairs_both}
use Rattle.logical_dag.proofs.block_pairs.+with_block_pairs.Goals as goal

-- where the node is no Join there are no pairs
none : (tree : Logical) (f : Facts) → IsOwn f → IsNoJoin (tree_of tree) → AreClasses f (EqualOrInside f (block_pairs (tree_of tree)))
none tree f own h = subst (λ (xs : List (ℕ × ℕ)). AreClasses f (EqualOrInside f xs)) (sym (no_join_pairs (tree_of tree) h)) (no_pairs f own)

pub returns-in_default : goal.returns-in_default
returns-in_default t c = record { rest = search rules; classes = none c.args.tree.now c.args.facts c.requires.own (other_kind c.args.tree.now c.in_default.not-Join) }

pub returns-in_default-as_slice-clause-classes : goal.returns-in_default-as_slice-clause-classes
returns-in_default-as_slice-clause-classes t c =
    none c.args.tree.now c.args.facts c.requires.own (few_kids c.args.tree.now c.as_slice.result.now c.as_slice.ensures c.in_default-as_slice.len_below)

pub returns-in-len2-up-clause-classes : goal.returns-in-len2-up-clause-classes
returns-in-len2-up-clause-classes t c =
    let f = c.args.facts in
    let g = c.with_block_pairs-of_left.result in
    let h = c.with_block_pairs-of_both.result in
    let k = c.with_pairs.result in
    let left = c.left-item.result in
    let right = c.right-item.result in
    let shape = tree_two c.args.tree.now c.as_slice.result.now left right c.as_slice.ensures c.in-len2-up.len_at_least c.left-item.is c.right-item.is in
    rw (shape, c.in-Join.is)
    (let last = subst (λ (xs : List (ℕ × ℕ)). AreClasses k (EqualOrInside h xs)) c.as_slice-in-len2-up.ensures.value c.with_pairs.ensures.classes in
    block_pairs_both f g h k (block_pairs (tree_of left)) (block_pairs (tree_of right)) c.in-Join.on.items
    (ap (λ i. i.columns) c.with_block_pairs-of_left.ensures.rest)
    (ap (λ i. i.columns) (rest_kept f g h c.with_block_pairs-of_left.ensures.rest c.with_block_pairs-of_both.ensures.rest))
    c.with_block_pairs-of_left.ensures.classes c.with_block_pairs-of_both.ensures.classes last)
