use Rattle.std.proofs.Common.{◌≡◌, ◌++◌, drop}
use Rattle.names_in_sight.specs.Inputs.{before_of}
use Rattle.name_resolution.specs.Queries.{joins_from}
use Rattle.name_resolution.proofs.joins.joins_from.Given as goal

abbrev pub invariant-loop-joined : goal.invariant-loop-joined
invariant-loop-joined g l = l.joins ++ joins_from (g.O.Tells.tells l.ops) (before_of l.statements l.headings) l.done (drop l.joined-index l.sources) ≡ joins_from (g.O.Tells.tells l.ops) (before_of l.statements l.headings) l.initial.done l.sources
