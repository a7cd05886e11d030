use Rattle.std.proofs.Common.{◌≡◌, length}
use Rattle.std.specs.Str.{str_eq_ignore_ascii_case}
use Rattle.expression_syntax.specs.Terminals.{looked_up}
use Rattle.expression_syntax.specs.Tables.{keyword_entries}
use Rattle.expression_syntax.specs.declared.keyword.Keyword.TheVariants.{Null}
use Rattle.expression_syntax.proofs.tables.keyword_in.Given as goal

-- what is left of the table answers what the whole does
abbrev pub invariant-loop-table : goal.invariant-loop-table
invariant-loop-table l = looked_up (str_eq_ignore_ascii_case l.bytes) Null (keyword_entries l.table) ≡ looked_up (str_eq_ignore_ascii_case l.bytes) Null (keyword_entries l.initial.table)

abbrev pub decreases-loop-table : goal.decreases-loop-table
decreases-loop-table l = length l.table
