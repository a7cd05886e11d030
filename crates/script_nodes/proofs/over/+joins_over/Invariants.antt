use Rattle.std.proofs.Common.{length}
use Rattle.script_nodes.proofs.over.+joins_over.Given as goal

abbrev pub decreases-joins_over : goal.decreases-joins_over
decreases-joins_over l = length l.joins.now
