-- A statement judged, as the code does it: its tests, and the first cause by them.
use Rattle.std.specs.Prelude.{ℕ, Bool, ◌||◌, List, [], ◌∷◌}
use Rattle.script_trees.specs.declared.command.Command.{Command}
use Rattle.script_trees.specs.declared.script.Statement.{Statement}
use Rattle.user_ops.specs.Told.{Operators}
use Rattle.names_in_sight.specs.Inputs.{Before}
use Rattle.binding_causes.specs.declared.cause.BindCause.{BindCause}
use Rattle.binding_causes.specs.declared.cause.BindCause.TheVariants.{UnknownName, DuplicateName, UnknownOperator, UnknownColumn, AmbiguousColumn, TypeMismatch, SchemaRefused, TopWithoutOrder, Limit}
use Rattle.binding_causes.specs.declared.cause.LimitKind.TheVariants.{Statements, Columns, Joins, Keys, Shared, Args}
use Rattle.binding_causes.specs.declared.judging.Judged.{Judged}
use Rattle.binding_causes.specs.declared.judging.Tests.{Tests}
use Rattle.binding_causes.specs.declared.seen.Seen.{Seen}
use Rattle.binding_causes.specs.Asked.{asked_by}
use Rattle.binding_causes.specs.Columns.{has_double_star}
use Rattle.binding_causes.specs.Found.{all_tests}
use Rattle.binding_causes.specs.Limits.{count_of}
use Rattle.binding_causes.specs.Resolution.{Place, first_true, causes, column_count}

-- the causes by the tests, in order
abbrev pub causes_by : Tests → List (Bool × BindCause)
causes_by t =
    (t.has_unknown_name, UnknownName)
    ∷ ((t.is_duplicate, DuplicateName)
    ∷ ((t.found.is_missing, UnknownOperator)
    ∷ ((t.found.is_unknown, UnknownColumn)
    ∷ ((t.is_star_double || t.found.is_ambiguous, AmbiguousColumn)
    ∷ ((t.found.is_mismatched, TypeMismatch)
    ∷ ((t.found.is_refused, SchemaRefused)
    ∷ ((t.is_top_alone, TopWithoutOrder)
    ∷ ((t.has_many_statements, Limit Statements)
    ∷ ((t.has_many_columns, Limit Columns)
    ∷ ((t.has_many_inputs, Limit Joins)
    ∷ ((t.found.has_many_keys, Limit Keys)
    ∷ ((t.has_many_shared, Limit Shared)
    ∷ ((t.found.has_many_args, Limit Args) ∷ [])))))))))))))

abbrev pub seen_whole : Operators → List ℕ → Before → List ℕ → Command → Seen
seen_whole ops all before counts c = record { found = all_tests ops before c; is_star_double = has_double_star ops before c; count = count_of ops all before counts c }

-- the mentions up to the statement are given
abbrev pub judged : Operators → List ℕ → List ℕ → Before → List ℕ → Statement → Judged
judged ops all near before counts s =
    let at : Place = record { all = all; near = near; before = before; counts = counts } in
    record { cause = first_true (causes ops at near s (asked_by ops before s.command)); count = column_count ops at s }
