use Rattle.std.proofs.Common.{◌≡◌, take}
use Rattle.std.specs.List.{flat_map}
use Rattle.plain_meaning.proofs.calls.process_each.Given as goal

abbrev pub invariant-loop-row : goal.invariant-loop-row
invariant-loop-row g l = l.given.items ≡ flat_map (((goal.Processor-dyn g l.op.now).told_processor l.op.now.1).processes l.args) (take l.row-index l.rows)
