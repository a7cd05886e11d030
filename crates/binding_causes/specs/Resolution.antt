-- The first statement with a cause and its first cause, or all statements with their names resolved.
use Rattle.std.specs.Prelude.{ℕ, ◌+◌, Bool, false, ◌||◌, ◌&&◌, not, if◌then◌else◌, List, [], ◌∷◌, ◌++◌, length, nat_lt, Option, Some, None, is_some, Result, Ok, Err}
use Rattle.script_trees.specs.declared.command.Command.{Command}
use Rattle.script_trees.specs.declared.command.Command.TheVariants.{Select}
use Rattle.script_trees.specs.declared.script.Script.{Script}
use Rattle.script_trees.specs.declared.script.Statement.{Statement}
use Rattle.user_ops.specs.Told.{Operators}
use Rattle.placed_trees.specs.declared.statement.Statement as placed
use Rattle.names_in_sight.specs.Inputs.{Before}
use Rattle.name_resolution.specs.Resolved.{resolved_statement, after}
use Rattle.binding_causes.specs.declared.cause.BindCause.{BindCause}
use Rattle.binding_causes.specs.declared.cause.BindCause.TheVariants.{UnknownName, DuplicateName, UnknownOperator, UnknownColumn, AmbiguousColumn, TypeMismatch, SchemaRefused, TopWithoutOrder, Limit}
use Rattle.binding_causes.specs.declared.cause.LimitKind.TheVariants.{Statements, Columns, Joins, Keys, Shared, Args}
use Rattle.binding_causes.specs.declared.cause.BindFault.{BindFault}
use Rattle.binding_causes.specs.Asked.{Asked, asked_by}
use Rattle.binding_causes.specs.Columns.{has_double_key, names_unknown, has_double_star, names_ambiguous, has_mismatch}
use Rattle.binding_causes.specs.Names.{has_unknown_name, is_taken, has_double_alias, declares_twice, is_written_before}
use Rattle.binding_causes.specs.Operators.{has_unknown_operator, is_refused}
use Rattle.binding_causes.specs.Limits.{mentions, mentions_in, shared_among, count_of, has_many_inputs, has_many_keys, has_many_args}

-- TOP without ORDER BY
abbrev pub is_top_alone : Command → Bool
is_top_alone (Select s) = is_some s.top && not (is_some s.order)
is_top_alone c = false

-- ---- the causes of a statement, in order

-- what is asked of a statement after earlier ones: the mentions of results in the whole script, and in the script up to the
-- statement before; how many columns each earlier tree numbers
pub record Place : Type 0 where
  pub all : List ℕ
  pub near : List ℕ
  pub before : Before
  pub counts : List ℕ

abbrev pub has_duplicate : Place → Statement → Asked → Bool
has_duplicate at s asked =
    is_taken at.before.statements s.name
    || (has_double_alias s.command || (declares_twice s.command || (has_double_key asked || is_written_before at.before.statements s.command)))

abbrev pub column_count : Operators → Place → Statement → ℕ
column_count ops at s = count_of ops at.all at.before at.counts s.command

-- the mentions up to this statement
abbrev pub near_of : Place → Statement → List ℕ
near_of at s = at.near ++ mentions_in at.before.statements s.command

abbrev pub limits : Operators → Place → List ℕ → Statement → Asked → List (Bool × BindCause)
limits ops at near s asked =
    (nat_lt 63 (length at.before.statements), Limit Statements)
    ∷ ((nat_lt 128 (column_count ops at s), Limit Columns)
    ∷ ((has_many_inputs s.command, Limit Joins)
    ∷ ((has_many_keys asked, Limit Keys)
    ∷ ((nat_lt 4 (shared_among near (length at.before.statements)), Limit Shared)
    ∷ ((has_many_args s.command, Limit Args) ∷ [])))))

-- with the mentions up to this statement
abbrev pub causes : Operators → Place → List ℕ → Statement → Asked → List (Bool × BindCause)
causes ops at near s asked =
    (has_unknown_name at.before.statements s.command, UnknownName)
    ∷ ((has_duplicate at s asked, DuplicateName)
    ∷ ((has_unknown_operator ops s.command, UnknownOperator)
    ∷ ((names_unknown asked, UnknownColumn)
    ∷ ((has_double_star ops at.before s.command || names_ambiguous asked, AmbiguousColumn)
    ∷ ((has_mismatch asked, TypeMismatch)
    ∷ ((is_refused ops at.before s.command, SchemaRefused)
    ∷ ((is_top_alone s.command, TopWithoutOrder) ∷ limits ops at near s asked)))))))

-- the first that holds
unfoldable pub first_true : List (Bool × BindCause) → Option BindCause
first_true [] = None
first_true (c ∷ more) = if c.0 then Some c.1 else first_true more

abbrev pub first_cause : Operators → Place → Statement → Option BindCause
first_cause ops at s = first_true (causes ops at (near_of at s) s (asked_by ops at.before s.command))

-- ---- the whole script

abbrev pub next : Operators → Place → Statement → Place
next ops at s = record {
  all = at.all;
  near = near_of at s;
  before = after ops at.before s;
  counts = at.counts ++ column_count ops at s ∷ [];
}

abbrev pub fault_or : ℕ → Option BindCause → Result (List placed.Statement) BindFault → Result (List placed.Statement) BindFault
fault_or n (Some cause) rest = Err (record { statement = n; cause = cause })
fault_or n None rest = rest

-- statements count from 1
abbrev pub resolved_from : Operators → Place → List placed.Statement → List Statement → Result (List placed.Statement) BindFault
resolved_from ops at done [] = Ok done
resolved_from ops at done (s ∷ rest) =
    fault_or (length at.before.statements + 1) (first_cause ops at s) (resolved_from ops (next ops at s) (done ++ resolved_statement ops at.before s ∷ []) rest)

abbrev pub start : List Statement → Place
start script = record { all = mentions [] script; near = []; before = record { statements = []; headings = [] }; counts = [] }

abbrev pub resolution : Operators → Script → Result (List placed.Statement) BindFault
resolution ops script = resolved_from ops (start script.statements) [] script.statements
