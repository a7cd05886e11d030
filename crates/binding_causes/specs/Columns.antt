-- Causes that lie in what a statement names of columns.
use Rattle.std.specs.Prelude.{ℕ, ◌==◌, Bool, true, false, not, ◌&&◌, ◌||◌, if◌then◌else◌, List, [], ◌∷◌, map, flat_map}
use Rattle.std.specs.Option.{option_map_or}
use Rattle.std.specs.List.{list_any}
use Rattle.std.specs.Str.{bytes_eq}
use Rattle.scope_value.specs.declared.schema.ColType.{ColType}
use Rattle.scope_value.specs.declared.schema.ColType.TheVariants.{Text}
use Rattle.script_trees.specs.declared.command.Command.{Command}
use Rattle.script_trees.specs.declared.command.Command.TheVariants.{Select}
use Rattle.script_trees.specs.declared.item.Items.{Items}
use Rattle.script_trees.specs.declared.item.Items.TheVariants.{All, Listed}
use Rattle.script_trees.specs.declared.raw.RawRef.{RawRef}
use Rattle.script_trees.specs.declared.raw_agg.RawAgg.{RawAgg}
use Rattle.scope_expr.specs.declared.scope.Scope.{Scope}
use Rattle.scope_expr.specs.Aggs.{takes_argument}
use Rattle.scope_expr.specs.Kinds.{is_typed, takes_truth, are_alike}
use Rattle.scope_expr.specs.Names.{column_of, is_unknown, is_ambiguous, has_unknown, has_ambiguous, bound}
use Rattle.user_ops.specs.Told.{Operators}
use Rattle.names_in_sight.specs.declared.sides.Sides.{Sides}
use Rattle.names_in_sight.specs.Sight.{place_of}
use Rattle.names_in_sight.specs.Inputs.{Before}
use Rattle.names_in_sight.specs.Views.{are_sides, left_of, right_of, view_of}
use Rattle.binding_causes.specs.Asked.{Asked}

-- two of them are equal
abbrev pub repeats : {A : Type 0} → (A → A → Bool) → List A → Bool
repeats same [] = false
repeats same (x ∷ xs) = list_any (same x) xs || repeats same xs

-- ---- a key list names one column twice

-- the place of the one column that a reference names
abbrev pub one_place : Scope → RawRef → List ℕ
one_place names r = if is_unknown names r || is_ambiguous names r then [] else place_of names r ∷ []

abbrev pub names_twice : Scope × List RawRef → Bool
names_twice k = repeats (λ p q. p == q) (flat_map (one_place k.0) k.1)

abbrev pub has_double_key : Asked → Bool
has_double_key a = list_any names_twice a.keys

-- ---- a name is no column in sight

-- no choice of sides gives a column on the left and one on the right
abbrev pub has_no_sides : Sides → RawRef × RawRef → Bool
has_no_sides sides p = not (are_sides sides p.0 p.1) && not (are_sides sides p.1 p.0)

abbrev pub names_unknown : Asked → Bool
names_unknown a =
    list_any (λ e. has_unknown e.0 e.1) a.exprs
    || (list_any (λ k. list_any (is_unknown k.0) k.1) a.keys || list_any (λ on. list_any (has_no_sides on.0) on.1) a.ons)

-- ---- a name without alias is in two sources, or `*` stands for two columns of one name

abbrev pub is_pair_ambiguous : Sides → RawRef × RawRef → Bool
is_pair_ambiguous sides p = is_ambiguous sides.both p.0 || is_ambiguous sides.both p.1

abbrev pub is_star_double : Scope → Items → Bool
is_star_double names All = repeats bytes_eq (map (λ e. e.name) names.entries)
is_star_double names (Listed items) = false

abbrev pub has_double_star : Operators → Before → Command → Bool
has_double_star ops before (Select s) = is_star_double (view_of ops before s).inner s.items
has_double_star ops before command = false

abbrev pub names_ambiguous : Asked → Bool
names_ambiguous a =
    list_any (λ e. has_ambiguous e.0 e.1) a.exprs
    || (list_any (λ k. list_any (is_ambiguous k.0) k.1) a.keys || list_any (λ on. list_any (is_pair_ambiguous on.0) on.1) a.ons)

-- ---- types don't go together

abbrev pub takes_arg_opt : RawAgg → Scope → Bool
takes_arg_opt a names = option_map_or (λ e. takes_argument a.kind (bound names e)) a.arg true

abbrev pub type_of : Scope → RawRef → ColType
type_of names r = option_map_or (λ e. e.kind) (column_of names r) Text

abbrev pub is_pair_mismatched : Sides → RawRef × RawRef → Bool
is_pair_mismatched sides p = not (are_alike (type_of sides.left (left_of sides p)) (type_of sides.right (right_of sides p)))

abbrev pub has_mismatch : Asked → Bool
has_mismatch a =
    list_any (λ e. not (is_typed (bound e.0 e.1))) a.exprs
    || (list_any (λ e. not (takes_truth (bound e.0 e.1))) a.tests
    || (list_any (λ g. not (takes_arg_opt g.1 g.0)) a.aggs || list_any (λ on. list_any (is_pair_mismatched on.0) on.1) a.ons))
