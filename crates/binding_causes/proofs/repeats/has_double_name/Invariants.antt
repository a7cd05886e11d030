use Rattle.std.proofs.Common.{◌≡◌, map, drop}
use Rattle.std.specs.Str.{bytes_eq}
use Rattle.binding_causes.specs.Columns.{repeats}
use Rattle.binding_causes.proofs.repeats.has_double_name.Given as goal

abbrev pub invariant-loop-at : goal.invariant-loop-at
invariant-loop-at g l = repeats bytes_eq (map g.T.Named.named l.items) ≡ repeats bytes_eq (map g.T.Named.named (drop l.at l.items))
