use Rattle.std.proofs.Common.{◌≡◌, ◌+◌, length, ap, ◌∙◌}
use Rattle.std.specs.List.{range_with_len}
use Rattle.col_sets.specs.Sets.{set_of}
use Rattle.logical_trees.specs.declared.logic_op.LogicOp.TheVariants.{Scan}
use Rattle.logical_trees.specs.Tree.{leaf}
use Rattle.script_meaning.proofs.Named.{range_set}
use Rattle.script_nodes.proofs.Standing.{scan_made}
use Rattle.script_nodes.proofs.leaves.scan_of.Goals as goal

pub returns : goal.returns
returns c =
    let next = c.args.next in
    let n = length c.args.stream.now.schema in
    let cols : c.in_ok-cols.cols.items ≡ range_with_len next n = c.in_ok-cols.ensures ∙ ap (range_with_len next) c.len-width.ensures in
    let set : c.of-set.result ≡ range_with_len next n = c.of-set.ensures ∙ ap set_of (c.as_slice.ensures.value ∙ cols) ∙ range_set next n c.requires in
    λ name. scan_made name c.args.stream.now c.args.scan next _
    (record { tree = c.leaf-tree.ensures ∙ ap (λ s. leaf (Scan c.args.scan s)) set; cols = cols; next = ap (λ w. next + w) c.len-width.ensures })
