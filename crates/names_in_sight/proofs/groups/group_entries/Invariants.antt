use Rattle.std.proofs.Common.{◌≡◌, ◌++◌, length, filter, drop}
use Rattle.col_sets.specs.Sets.{has}
use Rattle.names_in_sight.specs.Views.{renumbered, group_entries}
use Rattle.names_in_sight.proofs.groups.group_entries.Given as goal

abbrev pub invariant-loop-entry : goal.invariant-loop-entry
invariant-loop-entry l = l.entries ++ renumbered (length l.entries) (filter (λ e. has l.written e.id) (drop l.entry-index l.names.entries)) ≡ group_entries l.names l.written
