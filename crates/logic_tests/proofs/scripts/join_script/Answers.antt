use Rattle.std.proofs.Common.{[]}
use Rattle.logic_tests.proofs.WorkedBindable.{joined-written}
use Rattle.logic_tests.proofs.scripts.join_script.Goals as goal

pub script_of-requires-clause-written : goal.script_of-requires-clause-written
script_of-requires-clause-written c = rw c.in_ok-three_joined.ensures (joined-written [])
