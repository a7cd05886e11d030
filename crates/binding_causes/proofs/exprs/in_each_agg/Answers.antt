use Rattle.std.proofs.Common.{sym, ap, ap₂, ◌∙◌, not}
use Rattle.binding_causes.specs.Found.{either, in_agg_of, none}
use Rattle.binding_causes.proofs.FoundLemmas.{any_of_more}
use Rattle.binding_causes.proofs.exprs.in_each_agg.Goals as goal

pub loop-agg-preserved : goal.loop-agg-preserved
loop-agg-preserved c =
    c.or-found.ensures ∙ ap₂ either c.loop-agg.invariant (c.mismatch.ensures ∙ ap (λ b. record none { is_mismatched = not b }) c.in_ok-takes_arg.ensures)
    ∙ sym (any_of_more (in_agg_of c.args.names.now) c.args.aggs.now c.loop-agg.agg-index c.agg-item.result c.loop-agg-test.true c.agg-item.is)
