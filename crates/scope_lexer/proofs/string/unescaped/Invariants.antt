use Rattle.std.proofs.Common.{◌≡◌, ◌++◌, length}
use Rattle.scope_lexer.specs.Bytes.{unescaped}
use Rattle.scope_lexer.proofs.string.unescaped.Given as goal

abbrev pub invariant-loop-rest : goal.invariant-loop-rest
invariant-loop-rest l = l.out.items ++ unescaped l.rest ≡ unescaped l.text

abbrev pub decreases-loop-rest : goal.decreases-loop-rest
decreases-loop-rest l = length l.rest
