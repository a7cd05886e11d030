-- What may stand behind an expression.
use Rattle.std.proofs.Common.{ℕ, List, [], ◌∷◌, Option, Some, None}
use Rattle.script_trees.specs.declared.op.PairOp.{PairOp}
use Rattle.expression_syntax.specs.declared.level.Level.{Level}
use Rattle.expression_syntax.specs.declared.symbol.Symbol.TheVariants as mark
use Rattle.expression_syntax.specs.Lexemes.{Lexeme, symbol}
use Rattle.expression_syntax.specs.Expressions.{joins}
use Rattle.expression_syntax.specs.ReadExpressions.{rank}

abbrev pub rank_of : Option (Level × PairOp) → ℕ
rank_of None = 0
rank_of (Some j) = rank j.0

-- how tightly a lexeme ties to an expression before it: a dot or an opening bracket most, an operator by its level,
-- what can't go on an expression not at all
abbrev pub binds : Lexeme → ℕ
binds (symbol mark.Dot) = 8
binds (symbol mark.Open) = 8
binds t = rank_of (joins t)

-- the same of the first of what follows
abbrev pub bound : List Lexeme → ℕ
bound [] = 0
bound (t ∷ ts) = binds t
