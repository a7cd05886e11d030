use Rattle.binding_causes.specs.Found.{in_agg}
use Rattle.binding_causes.proofs.FoundLemmas.{any_of_map}
use Rattle.binding_causes.proofs.exprs.in_aggs.Goals as goal

pub returns : goal.returns
returns c = rw (any_of_map in_agg (λ a. (c.args.names.now, a)) c.args.aggs.now) c.in_each_agg.ensures
