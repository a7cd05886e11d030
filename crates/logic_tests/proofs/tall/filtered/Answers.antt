use Rattle.std.proofs.Common.{◌≡◌, sym, subst}
use Rattle.std.proofs.lemmas.Result.{IfOk-weaker}
use Rattle.logical_trees.specs.declared.logic_op.LogicOp.TheVariants.{Filter}
use Rattle.logical_trees.specs.Tree.{one, tree_of}
use Rattle.logic_tests.specs.Tall.{IsOverFour}
use Rattle.logic_tests.proofs.TallFormed.{rows-over, filter-over}
use Rattle.logic_tests.proofs.tall.filtered.Goals as goal

pub returns : goal.returns
returns c =
    let below = tree_of c.rows.result in
    IfOk-weaker c.over.result (λ t. tree_of t ≡ one (Filter c.args.predicate) below) (λ t. IsOverFour (tree_of t))
    (λ t is. subst IsOverFour (sym is) (filter-over below c.args.predicate c.requires (subst IsOverFour (sym c.rows.ensures) rows-over))) c.over.ensures
