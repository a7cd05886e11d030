-- What is left of the loop gives what the whole gives.
use Rattle.std.proofs.Common.{◌≡◌, ◌-◌}
use Rattle.expression_syntax.specs.ReadParts.{further, list}
use Rattle.expression_syntax.proofs.parser.Parser.list.Given as goal

abbrev pub invariant-loop : goal.invariant-loop
invariant-loop g l =
    further g.T.Element.separates g.T.Element.reading (l.turns - l.counter) l.items l.self ≡ list g.T.Element.separates g.T.Element.reading l.fn.self
