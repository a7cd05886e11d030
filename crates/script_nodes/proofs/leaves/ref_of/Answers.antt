use Rattle.std.proofs.Common.{◌≡◌, refl, ap, ◌∙◌}
use Rattle.std.specs.List.{range_with_len}
use Rattle.col_sets.specs.Sets.{set_of}
use Rattle.logical_trees.specs.declared.logic_op.LogicOp.TheVariants.{Ref}
use Rattle.logical_trees.specs.Tree.{leaf}
use Rattle.script_meaning.proofs.Named.{range_set}
use Rattle.script_nodes.proofs.Standing.{ref_made}
use Rattle.script_nodes.proofs.leaves.ref_of.Goals as goal

pub returns : goal.returns
returns c =
    let next = c.args.next in
    let n = c.args.width in
    let set : c.of-set.result ≡ range_with_len next n = c.of-set.ensures ∙ ap set_of (c.as_slice.ensures.value ∙ c.in_ok-cols.ensures) ∙ range_set next n c.requires in
    λ name k s b named wide. ref_made name c.args.shared n next k s b _
    (record { tree = c.leaf-tree.ensures ∙ ap (λ t. leaf (Ref c.args.shared t)) set; cols = c.in_ok-cols.ensures; next = refl }) named wide
