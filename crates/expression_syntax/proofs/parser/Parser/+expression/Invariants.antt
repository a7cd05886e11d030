-- Each call falls in depth, or goes one production down at the same depth.
use Rattle.std.proofs.Common.{◌≡◌, ◌+◌, ◌-◌, ◌*◌}
use Rattle.expression_syntax.specs.ReadExpressions.{chain, more, read}
use Rattle.expression_syntax.proofs.parser.Parser.+expression.Given as goal

abbrev pub decreases-level : goal.decreases-level
decreases-level l = 10 * l.depth

abbrev pub decreases-chain : goal.decreases-chain
decreases-chain l = 10 * l.depth + 1

abbrev pub decreases-comparison : goal.decreases-comparison
decreases-comparison l = 10 * l.depth + 1

abbrev pub decreases-unary : goal.decreases-unary
decreases-unary l = 10 * l.depth + 1

abbrev pub decreases-bracketed : goal.decreases-bracketed
decreases-bracketed l = 10 * l.depth + 1

abbrev pub decreases-argument : goal.decreases-argument
decreases-argument l = 10 * l.depth + 2

abbrev pub decreases-rows : goal.decreases-rows
decreases-rows l = 10 * l.depth + 3

abbrev pub decreases-call : goal.decreases-call
decreases-call l = 10 * l.depth + 4

abbrev pub decreases-named : goal.decreases-named
decreases-named l = 10 * l.depth + 5

abbrev pub decreases-primary : goal.decreases-primary
decreases-primary l = 10 * l.depth + 6

-- what is left of the loop gives what the whole gives
abbrev pub invariant-chain-loop : goal.invariant-chain-loop
invariant-chain-loop l = more (read l.depth) l.level l.place (l.turns - l.counter) l.left l.self ≡ chain (read l.depth) l.level l.place l.fn.self
