-- What is left of the loop gives what the whole gives.
use Rattle.std.proofs.Common.{◌≡◌, ◌-◌}
use Rattle.scope_syntax.specs.ReadSelect.{inners, joins}
use Rattle.scope_syntax.proofs.selecting.read_inners.Given as goal

abbrev pub invariant-loop : goal.invariant-loop
invariant-loop l = joins (l.turns - l.counter) l.sources l.parser ≡ inners l.fn.first l.fn.parser
