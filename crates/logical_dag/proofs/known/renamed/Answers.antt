use Rattle.logical_dag.specs.Known.{name_of}
use Rattle.logical_dag.proofs.KnownSteps.{renamed_plain}
use Rattle.logical_dag.proofs.known.renamed.Goals as goal

pub returns : goal.returns
returns c =
    renamed_plain c.args.from.now (name_of c.args.names.now) c.args.cols c.of_columns.result c.carried.result c.of_columns.ensures.columns c.of_columns.ensures.constants c.of_columns.ensures.determined c.of_columns.ensures.equal c.carried.ensures
