-- A SELECT from inside: what its equalities, groups and items see, and what they are.
use Rattle.std.specs.Prelude.{ℕ, ◌+◌, ◌==◌, Bool, not, ◌&&◌, ◌||◌, if◌then◌else◌, List, [], ◌∷◌, ◌++◌, map, filter, flat_map, length, Option, Some, None, is_some, option_map}
use Rattle.std.specs.Option.{option_map_or}
use Rattle.col_sets.specs.Sets.{has}
use Rattle.scope_value.specs.declared.schema.Column.{Column}
use Rattle.scope_value.specs.declared.schema.ColType.{ColType}
use Rattle.scope_value.specs.declared.schema.ColType.TheVariants.{Long}
use Rattle.script_trees.specs.declared.agg.AggKind.{AggKind}
use Rattle.script_trees.specs.declared.item.Items.{Items}
use Rattle.script_trees.specs.declared.item.Items.TheVariants.{All, Listed}
use Rattle.script_trees.specs.declared.raw.RawRef.{RawRef}
use Rattle.script_trees.specs.declared.raw_agg.RawAgg.{RawAgg}
use Rattle.script_trees.specs.declared.select.Select.{Select}
use Rattle.script_trees.specs.declared.side.JoinSide.{JoinSide}
use Rattle.script_trees.specs.declared.side.JoinSide.TheVariants as side
use Rattle.scope_expr.specs.declared.expr.Expr.{Expr}
use Rattle.scope_expr.specs.declared.expr.Expr.TheVariants.{Col}
use Rattle.scope_expr.specs.declared.scope.Entry.{Entry}
use Rattle.scope_expr.specs.declared.scope.Scope.{Scope}
use Rattle.scope_expr.specs.Aggs.{kind_of_agg}
use Rattle.scope_expr.specs.Kinds.{kind_of}
use Rattle.scope_expr.specs.Names.{is_unknown, bound}
use Rattle.user_ops.specs.Told.{Operators}
use Rattle.outer_joins.specs.declared.side.Side.{Side}
use Rattle.outer_joins.specs.declared.side.Side.TheVariants.{Left, Right, Full}
use Rattle.placed_trees.specs.declared.query.Grouping.{Grouping}
use Rattle.names_in_sight.specs.declared.input.Input.{Input}
use Rattle.names_in_sight.specs.declared.sides.Sides.{Sides}
use Rattle.names_in_sight.specs.declared.view.View.{View}
use Rattle.names_in_sight.specs.Sight.{sight_of, sight_of_columns, named_by, place_of}
use Rattle.names_in_sight.specs.Inputs.{Before, inputs_of}

-- ---- equalities

-- the columns that an ON sees
abbrev pub sides_of : List Input → Input → Sides
sides_of done input = record { left = sight_of done; right = sight_of (input ∷ []); both = sight_of (done ++ input ∷ []) }

-- the first column stands on the left and the second on the right
abbrev pub are_sides : Sides → RawRef → RawRef → Bool
are_sides sides a b = not (is_unknown sides.left a) && not (is_unknown sides.right b)

-- the column on the left, and the one on the right, however they are written
abbrev pub left_of : Sides → RawRef × RawRef → RawRef
left_of sides p = if are_sides sides p.0 p.1 then p.0 else p.1

abbrev pub right_of : Sides → RawRef × RawRef → RawRef
right_of sides p = if are_sides sides p.0 p.1 then p.1 else p.0

abbrev pub pair_of : Sides → RawRef × RawRef → ℕ × ℕ
pair_of sides p = (place_of sides.left (left_of sides p), place_of sides.right (right_of sides p))

abbrev pub pairs_of : Sides → List (RawRef × RawRef) → List (ℕ × ℕ)
pairs_of sides = map (pair_of sides)

-- ---- outer joins

-- the side of an outer join
abbrev pub outer_side : JoinSide → Option Side
outer_side side.Inner = None
outer_side side.Left = Some Left
outer_side side.Right = Some Right
outer_side side.Full = Some Full

-- ---- grouping

-- a SELECT is grouped where it has GROUP BY or an aggregate
abbrev pub is_grouped : Select → Bool
is_grouped s = is_some s.group || not (length s.aggs == 0)

abbrev pub aggs_of : Scope → List RawAgg → List (AggKind × Option Expr)
aggs_of names = map (λ a. (a.kind, option_map (bound names) a.arg))

-- an ambiguous name of GROUP BY stands for all columns that it names
abbrev pub grouping_of : Scope → Select → Option Grouping
grouping_of names s =
    if is_grouped s then Some (record { written = option_map_or (flat_map (named_by names)) s.group []; aggs = aggs_of names s.aggs })
    else None

-- the type of an aggregate; COUNT(*) has no argument
abbrev pub agg_type : AggKind × Option Expr → ColType
agg_type a = option_map_or (kind_of_agg a.0) a.1 Long

-- columns and aggregates with numbers of their own from this one on
abbrev pub renumbered : ℕ → List Entry → List Entry
renumbered at [] = []
renumbered at (e ∷ es) = record { alias = e.alias; name = e.name; id = at; kind = e.kind } ∷ renumbered (at + 1) es

abbrev pub agg_columns : ℕ → List (AggKind × Option Expr) → List (ℕ × ColType)
agg_columns at [] = []
agg_columns at (a ∷ aggs) = (at, agg_type a) ∷ agg_columns (at + 1) aggs

-- the columns of GROUP BY, in the order of the sources
abbrev pub group_entries : Scope → List ℕ → List Entry
group_entries names written = renumbered 0 (filter (λ e. has written e.id) names.entries)

-- the columns that items see: in a grouped SELECT those of GROUP BY, and behind them the aggregates
abbrev pub item_scope : Scope → Option Grouping → Scope
item_scope names None = names
item_scope names (Some g) =
    record { entries = group_entries names g.written; aggs = agg_columns (length (group_entries names g.written)) g.aggs }

-- ---- items

-- each item's name and expression; `*` is each column in sight
abbrev pub outputs_of : Scope → Items → List (List ℕ × Expr)
outputs_of names All = map (λ e. (e.name, Col e.id e.kind)) names.entries
outputs_of names (Listed items) = map (λ x. (x.name, bound names x.expr)) items

-- the columns that they give
abbrev pub heading : List (List ℕ × Expr) → List Column
heading = map (λ o. record { name = o.0; kind = kind_of o.1 })

-- ---- the whole

abbrev pub view_from : List Input → Scope → Option Grouping → Scope → List (List ℕ × Expr) → View
view_from inputs names grouping inner outputs = record {
  inputs = inputs;
  names = names;
  grouping = grouping;
  inner = inner;
  outputs = outputs;
  result = sight_of_columns (heading outputs);
}

abbrev pub grouped_view : List Input → Scope → Option Grouping → Items → View
grouped_view inputs names grouping items = view_from inputs names grouping (item_scope names grouping) (outputs_of (item_scope names grouping) items)

abbrev pub view_of : Operators → Before → Select → View
view_of ops before s =
    grouped_view (inputs_of ops before s.sources) (sight_of (inputs_of ops before s.sources)) (grouping_of (sight_of (inputs_of ops before s.sources)) s) s.items
