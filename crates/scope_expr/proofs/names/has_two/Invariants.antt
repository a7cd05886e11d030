use Rattle.std.proofs.Common.{◌≡◌, ◌+◌, drop, cond}
use Rattle.std.specs.List.{count_by}
use Rattle.scope_expr.specs.Names.{is_named}
use Rattle.scope_expr.proofs.names.has_two.Given as goal

abbrev pub invariant-loop-entry : goal.invariant-loop-entry
invariant-loop-entry l = cond l.found 1 0 + count_by (is_named l.r) (drop l.entry-index l.entry-items) ≡ count_by (is_named l.r) l.names.entries
