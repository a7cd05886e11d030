use Rattle.std.proofs.Common.{◌≡◌, ◌∙◌, sym, ap, true, false}
use Rattle.std.specs.Option.{is_some}
use Rattle.logical_trees.specs.Tree.{tree_of}
use Rattle.plain_runner.proofs.WholeLemmas.{whole_children}
use Rattle.plain_runner.proofs.tree.bag_of.Goals as goal

pub unreachable-requires : goal.unreachable-requires
unreachable-requires g c =
    let none : false ≡ true = sym (ap is_some c.in-None.is) ∙ (c.in_ok-rows.ensures.found ∙ whole_children (tree_of c.args.tree.now) c.requires.whole) in
    absurd (cc)
