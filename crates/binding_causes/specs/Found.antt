-- Which causes lie in what a statement names of columns and of operators, list by list: as the code asks it, each expression, each list of
-- keys and each call once.
use Rattle.std.specs.Prelude.{ℕ, Bool, false, not, ◌||◌, List, [], ◌∷◌, length, nat_lt}
use Rattle.std.specs.List.{list_any}
use Rattle.script_trees.specs.declared.call.Call.{Call}
use Rattle.script_trees.specs.declared.command.Command.{Command}
use Rattle.script_trees.specs.declared.item.Item.{Item}
use Rattle.script_trees.specs.declared.raw.RawExpr.{RawExpr}
use Rattle.script_trees.specs.declared.raw.RawRef.{RawRef}
use Rattle.script_trees.specs.declared.raw_agg.RawAgg.{RawAgg}
use Rattle.script_trees.specs.declared.select.Joined.{Joined}
use Rattle.scope_expr.specs.declared.scope.Scope.{Scope}
use Rattle.scope_expr.specs.Kinds.{is_typed, takes_truth}
use Rattle.scope_expr.specs.Names.{is_unknown, is_ambiguous, has_unknown, has_ambiguous, bound}
use Rattle.user_ops.specs.Told.{Operators}
use Rattle.names_in_sight.specs.declared.sides.Sides.{Sides}
use Rattle.names_in_sight.specs.Inputs.{Before}
use Rattle.binding_causes.specs.declared.found.Found.{Found}
use Rattle.binding_causes.specs.declared.seen.Seen.{Seen}
use Rattle.binding_causes.specs.Asked.{Asked, asked_by, expr_opt}
use Rattle.binding_causes.specs.Columns.{names_twice, has_no_sides, is_pair_ambiguous, is_pair_mismatched, takes_arg_opt, has_double_key, has_double_star, names_unknown, names_ambiguous, has_mismatch}
use Rattle.binding_causes.specs.Limits.{own_calls, count_of, has_many_keys, has_many_args}
use Rattle.binding_causes.specs.Operators.{is_in, origin_calls, inline_calls, takes_inline, is_own_missing, own_taken, has_unknown_operator, is_refused}

abbrev pub none : Found
none = record { is_twice = false; is_unknown = false; is_ambiguous = false; is_mismatched = false; is_missing = false; is_refused = false; has_many_keys = false; has_many_args = false }

abbrev pub either : Found → Found → Found
either a b = record {
  is_twice = a.is_twice || b.is_twice;
  is_unknown = a.is_unknown || b.is_unknown;
  is_ambiguous = a.is_ambiguous || b.is_ambiguous;
  is_mismatched = a.is_mismatched || b.is_mismatched;
  is_missing = a.is_missing || b.is_missing;
  is_refused = a.is_refused || b.is_refused;
  has_many_keys = a.has_many_keys || b.has_many_keys;
  has_many_args = a.has_many_args || b.has_many_args;
}

-- what is found in one of a list
abbrev pub any_of : {X : Type 0} → (X → Found) → List X → Found
any_of in_one [] = none
any_of in_one (x ∷ xs) = either (in_one x) (any_of in_one xs)

-- in an expression
abbrev pub in_expr : Scope × RawExpr → Found
in_expr e = record none {
  is_unknown = has_unknown e.0 e.1;
  is_ambiguous = has_ambiguous e.0 e.1;
  is_mismatched = not (is_typed (bound e.0 e.1));
}

-- in one that is to be a truth value
abbrev pub in_test : Scope × RawExpr → Found
in_test e = record none { is_mismatched = not (takes_truth (bound e.0 e.1)) }

-- in an aggregate, besides its argument
abbrev pub in_agg : Scope × RawAgg → Found
in_agg g = record none { is_mismatched = not (takes_arg_opt g.1 g.0) }

-- in a list of keys
abbrev pub in_keys : Scope × List RawRef → Found
in_keys k = record none {
  is_twice = names_twice k;
  is_unknown = list_any (is_unknown k.0) k.1;
  is_ambiguous = list_any (is_ambiguous k.0) k.1;
  has_many_keys = nat_lt 4 (length k.1);
}

-- in the equalities of an ON
abbrev pub in_on : Sides × List (RawRef × RawRef) → Found
in_on on = record none {
  is_unknown = list_any (has_no_sides on.0) on.1;
  is_ambiguous = list_any (is_pair_ambiguous on.0) on.1;
  is_mismatched = list_any (is_pair_mismatched on.0) on.1;
  has_many_keys = nat_lt 4 (length on.1);
}

-- in all that is asked
abbrev pub in_asked : Asked → Found
in_asked a = either (any_of in_expr a.exprs) (either (any_of in_test a.tests) (either (any_of in_agg a.aggs) (either (any_of in_on a.ons) (any_of in_keys a.keys))))

-- the tests, each of the whole list
abbrev pub tests_of : Asked → Found
tests_of a = record none { is_twice = has_double_key a; is_unknown = names_unknown a; is_ambiguous = names_ambiguous a; is_mismatched = has_mismatch a; has_many_keys = has_many_keys a }

-- ---- clause by clause

-- in the argument of an aggregate
abbrev pub in_arg : Scope → RawAgg → Found
in_arg names a = any_of in_expr (expr_opt names a.arg)

-- in an aggregate, besides its argument
abbrev pub in_agg_of : Scope → RawAgg → Found
in_agg_of names a = in_agg (names, a)

-- in an item
abbrev pub in_item : Scope → Item → Found
in_item names x = in_expr (names, x.expr)

-- ---- calls of operators

-- in the call of an extractor in place
abbrev pub in_call : Operators → Call → Found
in_call ops call = record none {
  is_missing = not (is_in ops.extractor_names call.op);
  is_refused = not (takes_inline ops call);
  has_many_args = nat_lt 16 (length call.args);
}

-- in those of a source
abbrev pub in_joined : Operators → Joined → Found
in_joined ops j = any_of (in_call ops) (origin_calls j.source.origin)

-- in the call of a command itself
abbrev pub in_own_call : Bool → Bool → Call → Found
in_own_call is_there is_taken call = record none { is_missing = not is_there; is_refused = not is_taken; has_many_args = list_any (λ c. nat_lt 16 (length c.args)) (call ∷ []) }

abbrev pub in_own : Operators → Before → Command → Found
in_own ops before c = record none {
  is_missing = is_own_missing ops c;
  is_refused = not (own_taken ops before c);
  has_many_args = list_any (λ call. nat_lt 16 (length call.args)) (own_calls c);
}

-- ---- a whole command

-- in all but the calls of extractors in place
abbrev pub in_rest : Operators → Before → Command → Found
in_rest ops before c = either (in_asked (asked_by ops before c)) (in_own ops before c)

abbrev pub in_command : Operators → Before → Command → Found
in_command ops before c = either (in_rest ops before c) (any_of (in_call ops) (inline_calls c))

-- the tests of a command
abbrev pub all_tests : Operators → Before → Command → Found
all_tests ops before c = record (tests_of (asked_by ops before c)) {
  is_missing = has_unknown_operator ops c;
  is_refused = is_refused ops before c;
  has_many_args = has_many_args c;
}

-- what is seen of a command but the calls of extractors in place
abbrev pub seen_of : Operators → List ℕ → Before → List ℕ → Command → Seen
seen_of ops all before counts c = record { found = in_rest ops before c; is_star_double = has_double_star ops before c; count = count_of ops all before counts c }
