-- Statements without a cause, and what their names resolve to.
use Rattle.std.specs.Prelude.{◌≡◌, false, List, [], ◌∷◌, length, nat_lt, None, ◌||◌}
use Rattle.script_trees.specs.declared.script.Statement.{Statement}
use Rattle.user_ops.specs.Told.{Operators}
use Rattle.placed_trees.specs.declared.statement.Statement as placed
use Rattle.names_in_sight.specs.Inputs.{Before}
use Rattle.name_resolution.specs.Resolved.{resolved_statement, after}
use Rattle.binding_causes.specs.Asked.{asked_by}
use Rattle.binding_causes.specs.Columns.{names_unknown, has_double_star, names_ambiguous, has_mismatch}
use Rattle.binding_causes.specs.Names.{has_unknown_name}
use Rattle.binding_causes.specs.Operators.{has_unknown_operator, is_refused}
use Rattle.binding_causes.specs.Limits.{shared_among, has_many_inputs, has_many_keys, has_many_args}
use Rattle.binding_causes.specs.Resolution.{Place, has_duplicate, column_count, near_of, is_top_alone, next, first_cause}

-- what the names of statements resolve to, one after the other, whether or not they have causes
abbrev pub resolved_all : Operators → Before → List Statement → List placed.Statement
resolved_all ops before [] = []
resolved_all ops before (s ∷ rest) = resolved_statement ops before s ∷ resolved_all ops (after ops before s) rest

-- none of the tests of a statement is true
pub record IsCauseless (ops : Operators) (at : Place) (s : Statement) : Type 0 where
  pub known : has_unknown_name at.before.statements s.command ≡ false
  pub single : has_duplicate at s (asked_by ops at.before s.command) ≡ false
  pub there : has_unknown_operator ops s.command ≡ false
  pub columns : names_unknown (asked_by ops at.before s.command) ≡ false
  pub clear : (has_double_star ops at.before s.command || names_ambiguous (asked_by ops at.before s.command)) ≡ false
  pub typed : has_mismatch (asked_by ops at.before s.command) ≡ false
  pub taken : is_refused ops at.before s.command ≡ false
  pub ordered : is_top_alone s.command ≡ false
  pub few_statements : nat_lt 63 (length at.before.statements) ≡ false
  pub few_columns : nat_lt 128 (column_count ops at s) ≡ false
  pub few_inputs : has_many_inputs s.command ≡ false
  pub few_keys : has_many_keys (asked_by ops at.before s.command) ≡ false
  pub few_shared : nat_lt 4 (shared_among (near_of at s) (length at.before.statements)) ≡ false
  pub few_args : has_many_args s.command ≡ false

-- so it is for each of these statements
abbrev pub AreCauseless : Operators → Place → List Statement → Type 0
AreCauseless ops at [] = Unit {0}
AreCauseless ops at (s ∷ rest) = IsCauseless ops at s × AreCauseless ops (next ops at s) rest
