use Rattle.std.proofs.Common.{◌≡◌, drop}
use Rattle.std.specs.List.{find}
use Rattle.scope_expr.specs.Names.{is_named}
use Rattle.scope_expr.proofs.names.column_of.Given as goal

abbrev pub invariant-loop-entry : goal.invariant-loop-entry
invariant-loop-entry l = find (is_named l.r) (drop l.entry-index l.entry-items) ≡ find (is_named l.r) l.names.entries
