-- All pieces but those that are left were read.
use Rattle.std.proofs.Common.{map}
use Rattle.expression_syntax.specs.Lexemes.{lexeme_of}
use Rattle.scope_syntax.specs.ReadScripts.{ReadSoFar}
use Rattle.scope_syntax.proofs.Progress.{left, left_long}
use Rattle.scope_syntax.proofs.pieces.script_of.Given as goal

abbrev pub invariant-loop-rest : goal.invariant-loop-rest
invariant-loop-rest l = ReadSoFar (map lexeme_of l.terminals) (left l.rest) l.statements

abbrev pub decreases-loop-rest : goal.decreases-loop-rest
decreases-loop-rest l = left_long l.rest
