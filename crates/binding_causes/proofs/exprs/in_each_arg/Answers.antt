use Rattle.std.proofs.Common.{sym, ap₂, ◌∙◌}
use Rattle.binding_causes.specs.Found.{either, in_arg}
use Rattle.binding_causes.proofs.FoundLemmas.{any_of_more}
use Rattle.binding_causes.proofs.exprs.in_each_arg.Goals as goal

pub loop-agg-preserved : goal.loop-agg-preserved
loop-agg-preserved c =
    c.or-found.ensures ∙ ap₂ either c.loop-agg.invariant c.in_ok-in_expr_opt.ensures
    ∙ sym (any_of_more (in_arg c.args.names.now) c.args.aggs.now c.loop-agg.agg-index c.agg-item.result c.loop-agg-test.true c.agg-item.is)
