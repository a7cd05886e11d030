-- Statements that a script binds to stand, and their Dag can be run.
use Rattle.std.proofs.lemmas.Result.{IfOk-weaker}
use Rattle.script_binder.proofs.Ready.{stands, ready}
use Rattle.script_binder.proofs.binding.bound.Goals as goal

pub dag_of_resolved-requires : goal.dag_of_resolved-requires
dag_of_resolved-requires t c =
    let statements = c.args.statements.now in
    stands _ statements (c.bound_law.ensures _ c.args.script.now statements c.lawful_law.ensures c.requires.right c.requires.resolved)

pub returns-clause-ready : goal.returns-clause-ready
returns-clause-ready t c =
    let statements = c.args.statements.now in
    let bound = c.bound_law.ensures _ c.args.script.now statements c.lawful_law.ensures c.requires.right c.requires.resolved in
    IfOk-weaker c.dag_of_resolved.result _ _ (ready c.bindable_law.ensures c.there_law.ensures.dag _ statements bound) c.dag_of_resolved.ensures
