use Rattle.std.proofs.Common.{◌≡◌, ◌++◌, map, filter, take}
use Rattle.scope_expr.specs.Names.{is_named}
use Rattle.names_in_sight.proofs.groups.add_named.Given as goal

abbrev pub invariant-loop-entry : goal.invariant-loop-entry
invariant-loop-entry l = l.out ≡ l.initial.out ++ map (λ e. e.id) (filter (is_named l.r) (take l.entry-index l.names.entries))
