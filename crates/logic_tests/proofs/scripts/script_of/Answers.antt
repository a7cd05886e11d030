use Rattle.std.proofs.Common.{[], ◌∷◌, ◌++◌, ap, ◌∙◌}
use Rattle.logical_trees.specs.Tree.{tree_of}
use Rattle.logic_tests.proofs.WorkedBindable.{written-bindable}
use Rattle.logic_tests.proofs.scripts.script_of.Goals as goal

pub returns : goal.returns
returns c =
    let output = c.in_ok-rows_out.field-0 in
    written-bindable _ output (tree_of c.args.tree) c.new.ensures
    (c.in_ok-push.ensures.ok ∙ ap (λ outputs. outputs ++ output ∷ []) c.new-outputs.ensures)
    c.in_ok-rows_out.ensures.tree c.in_ok-rows_out.ensures.order c.in_ok-rows_out.ensures.stored c.requires.written c.requires.scans c.requires.declared
