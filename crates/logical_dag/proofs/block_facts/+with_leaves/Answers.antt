-- A node that is no Join is its only leaf, and a Join has the leaves of its sides, the left ones first.
use Rattle.std.proofs.Common.{◌≡◌, ℕ, ◌-◌, subst, sym, rules}
use Rattle.logical_trees.specs.declared.logical.Logical.TheViews.{the_lemmas}
use Rattle.logical_trees.specs.Tree.{tree_of}
use Rattle.logical_trees.specs.Formed.{IsFormed}
use Rattle.logical_dag.specs.Laws.{lent_columns}
use Rattle.logical_dag.specs.Gathered.{IsApartFrom}
use Rattle.logical_dag.specs.KnownNodes.{MayHaveFacts}
use Rattle.logical_trees.specs.BlockShapeLemmas.{other_kind, few_kids, tree_join}
use Rattle.logical_dag.proofs.Gathering.{leaf_mask, leaf_added, left_apart, right_apart, right_over, join_added, join_mask}
use Rattle.logical_dag.proofs.KnownNodes.{left_may, right_may}
use Rattle.logical_dag.proofs.block_facts.+with_leaves.Goals as goal

pub returns-in_default : goal.returns-in_default
returns-in_default t c =
    let tree = tree_of c.args.tree.now in
    let none = other_kind c.args.tree.now c.in_default.not-Join in
    let made = c.with_chosen.ensures in
    record {
      mask = leaf_mask tree c.args.mask c.with_chosen.result.mask none made.mask;
      facts = leaf_added c.args.shared.now tree c.args.mask c.args.into c.with_chosen.result.facts none made.facts;
    }

pub returns-in_default-as_slice-clause-mask : goal.returns-in_default-as_slice-clause-mask
returns-in_default-as_slice-clause-mask t c =
    let none = few_kids c.args.tree.now c.as_slice.result.now c.as_slice.ensures c.in_default-as_slice.len_below in
    leaf_mask (tree_of c.args.tree.now) c.args.mask c.with_chosen-in_default-as_slice.result.mask none c.with_chosen-in_default-as_slice.ensures.mask

pub returns-in_default-as_slice-clause-facts : goal.returns-in_default-as_slice-clause-facts
returns-in_default-as_slice-clause-facts t c =
    let none = few_kids c.args.tree.now c.as_slice.result.now c.as_slice.ensures c.in_default-as_slice.len_below in
    leaf_added c.args.shared.now (tree_of c.args.tree.now) c.args.mask c.args.into c.with_chosen-in_default-as_slice.result.facts none c.with_chosen-in_default-as_slice.ensures.facts

pub with_leaves-of_left-requires : goal.with_leaves-of_left-requires
with_leaves-of_left-requires t c =
    let shared = c.args.shared.now in
    let f = c.args.into in
    let left = tree_of c.left-item.result in
    let right = tree_of c.right-item.result in
    let on = c.in-Join.on in
    let join = tree_join c.args.tree.now c.as_slice.result.now c.left-item.result c.right-item.result on c.as_slice.ensures c.in-len2-up.len_at_least c.left-item.is c.right-item.is c.in-Join.is in
    let formed = subst (λ e. IsFormed (lent_columns shared) e) join c.requires.formed in
    let apart = subst (λ e. IsApartFrom f.columns e) join c.requires.apart in
    let known = subst (λ e. MayHaveFacts shared c.args.known.now e c.args.number) join c.requires.known in
    (search (rules, the_lemmas), (formed.0, (left_may shared c.args.known.now _ left right c.args.number c.left_of-first.result c.left_of-first.ensures known, (c.requires.over, left_apart shared (lent_columns shared) on left right formed c.args.mask f c.requires.over apart))))

pub with_leaves-requires : goal.with_leaves-requires
with_leaves-requires t c =
    let shared = c.args.shared.now in
    let f = c.args.into in
    let left = tree_of c.left-item.result in
    let right = tree_of c.right-item.result in
    let on = c.in-Join.on in
    let g = c.with_leaves-of_left.result.facts in
    let added = c.with_leaves-of_left.ensures.facts in
    let join = tree_join c.args.tree.now c.as_slice.result.now c.left-item.result c.right-item.result on c.as_slice.ensures c.in-len2-up.len_at_least c.left-item.is c.right-item.is c.in-Join.is in
    let formed = subst (λ e. IsFormed (lent_columns shared) e) join c.requires.formed in
    let apart = subst (λ e. IsApartFrom f.columns e) join c.requires.apart in
    let known = subst (λ e. MayHaveFacts shared c.args.known.now e c.args.number) join c.requires.known in
    let before : c.saturating_sub-last.result ≡ c.args.number - 1 = c.saturating_sub-last.ensures in (
      search (rules, the_lemmas),
      (
        formed.1,
        (
          subst (λ (n : ℕ). MayHaveFacts shared c.args.known.now right n) (sym before) (right_may shared c.args.known.now _ left right c.args.number known),
          (
            right_over shared (lent_columns shared) on left right formed c.args.mask f c.requires.over apart g added,
            right_apart shared (lent_columns shared) on left right formed c.args.mask f c.requires.over apart g added,
          ),
        ),
      ),
    )

pub returns-in-len2-up-clause-mask : goal.returns-in-len2-up-clause-mask
returns-in-len2-up-clause-mask t c =
    let on = c.in-Join.on in
    let join = tree_join c.args.tree.now c.as_slice.result.now c.left-item.result c.right-item.result on c.as_slice.ensures c.in-len2-up.len_at_least c.left-item.is c.right-item.is c.in-Join.is in
    rw join (join_mask on (tree_of c.left-item.result) (tree_of c.right-item.result) c.args.mask c.with_leaves-of_left.result.mask c.with_leaves.result.mask c.with_leaves-of_left.ensures.mask c.with_leaves.ensures.mask)

pub returns-in-len2-up-clause-facts : goal.returns-in-len2-up-clause-facts
returns-in-len2-up-clause-facts t c =
    let shared = c.args.shared.now in
    let f = c.args.into in
    let left = tree_of c.left-item.result in
    let right = tree_of c.right-item.result in
    let on = c.in-Join.on in
    let g = c.with_leaves-of_left.result.facts in
    let join = tree_join c.args.tree.now c.as_slice.result.now c.left-item.result c.right-item.result on c.as_slice.ensures c.in-len2-up.len_at_least c.left-item.is c.right-item.is c.in-Join.is in
    let formed = subst (λ e. IsFormed (lent_columns shared) e) join c.requires.formed in
    let apart = subst (λ e. IsApartFrom f.columns e) join c.requires.apart in
    rw join
    (join_added shared (lent_columns shared) on left right formed c.args.mask f c.requires.over apart g c.with_leaves-of_left.ensures.facts c.with_leaves-of_left.result.mask c.with_leaves.result.facts
    c.with_leaves-of_left.ensures.mask c.with_leaves.ensures.facts)
