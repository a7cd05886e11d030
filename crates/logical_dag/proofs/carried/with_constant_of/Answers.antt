use Rattle.std.proofs.Common.{ap, rules}
use Rattle.fd_closure.specs.declared.facts.Facts.{Facts}
use Rattle.logical_dag.proofs.Carrying.{constant_added}
use Rattle.logical_dag.proofs.carried.with_constant_of.Goals as goal

pub returns-in-Some-clause-constants : goal.returns-in-Some-clause-constants
returns-in-Some-clause-constants c =
    constant_added c.args.into c.with_constant.result c.in-Some.c _ _ (ap (λ (f : Facts). f.constants) c.with_constant.ensures.value) (search rules) (search rules)
