use Rattle.binding_causes.specs.Asked.{expr_opt}
use Rattle.binding_causes.specs.Found.{in_expr}
use Rattle.binding_causes.proofs.FoundLemmas.{any_of_flat_map}
use Rattle.binding_causes.proofs.exprs.in_args.Goals as goal

pub returns : goal.returns
returns c = rw (any_of_flat_map in_expr (λ a. expr_opt c.args.names.now a.arg) c.args.aggs.now) c.in_each_arg.ensures
