use Rattle.std.proofs.Common.{◌≡◌, take}
use Rattle.std.specs.List.{sum_by}
use Rattle.names_in_sight.specs.Inputs.{before_of}
use Rattle.binding_causes.specs.Limits.{origin_count}
use Rattle.binding_causes.proofs.counts.sources_count.Given as goal

abbrev pub invariant-loop-joined : goal.invariant-loop-joined
invariant-loop-joined g l =
    l.total ≡ sum_by (λ j. origin_count (g.O.Tells.tells l.ops) l.at.all.now (before_of l.at.statements.now l.at.headings.now) l.at.counts.now j.source.origin) (take l.joined-index l.sources)
