use Rattle.std.proofs.Common.{◌≡◌, length}
use Rattle.std.specs.Str.{bytes_eq}
use Rattle.expression_syntax.specs.Terminals.{looked_up}
use Rattle.expression_syntax.specs.Tables.{symbol_entries}
use Rattle.expression_syntax.specs.declared.symbol.Symbol.TheVariants.{Dot}
use Rattle.expression_syntax.proofs.tables.symbol_in.Given as goal

-- what is left of the table answers what the whole does
abbrev pub invariant-loop-table : goal.invariant-loop-table
invariant-loop-table l = looked_up (bytes_eq l.bytes) Dot (symbol_entries l.table) ≡ looked_up (bytes_eq l.bytes) Dot (symbol_entries l.initial.table)

abbrev pub decreases-loop-table : goal.decreases-loop-table
decreases-loop-table l = length l.table
