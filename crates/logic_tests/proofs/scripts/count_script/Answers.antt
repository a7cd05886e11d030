use Rattle.std.proofs.Common.{[]}
use Rattle.logic_tests.proofs.WorkedBindable.{counted-written}
use Rattle.logic_tests.proofs.scripts.count_script.Goals as goal

pub script_of-requires-clause-written : goal.script_of-requires-clause-written
script_of-requires-clause-written c = rw c.in_ok-counted.ensures (counted-written [])
