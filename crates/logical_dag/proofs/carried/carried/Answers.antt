use Rattle.logical_dag.specs.Known.{name_of}
use Rattle.logical_dag.proofs.Carrying.{carried_all}
use Rattle.logical_dag.proofs.carried.carried.Goals as goal

pub returns : goal.returns
returns c =
    carried_all c.args.from.now (name_of c.args.names.now) c.args.into c.with_constants-constants.result c.with_dependencies-dependencies.result c.with_equalities.result
    c.with_constants-constants.ensures.rest c.with_dependencies-dependencies.ensures.rest c.with_equalities.ensures.rest
    c.with_constants-constants.ensures.constants c.with_dependencies-dependencies.ensures.dependencies c.with_equalities.ensures.classes
