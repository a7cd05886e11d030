-- What a statement names of columns, each name with the columns that it sees.
use Rattle.std.specs.Prelude.{List, [], ◌∷◌, ◌++◌, map, flat_map, take, drop, Option, Some, None}
use Rattle.script_trees.specs.declared.command.Command.{Command}
use Rattle.script_trees.specs.declared.command.Command.TheVariants.{Extract, Select, Process, Reduce, Combine, Output}
use Rattle.script_trees.specs.declared.item.Items.{Items}
use Rattle.script_trees.specs.declared.item.Items.TheVariants.{All, Listed}
use Rattle.script_trees.specs.declared.key.RawKey.{RawKey}
use Rattle.script_trees.specs.declared.raw.RawExpr.{RawExpr}
use Rattle.script_trees.specs.declared.raw.RawRef.{RawRef}
use Rattle.script_trees.specs.declared.raw_agg.RawAgg.{RawAgg}
use Rattle.script_trees.specs.declared.select.Joined.{Joined}
use Rattle.script_trees.specs.declared.select.Select as select
use Rattle.script_trees.specs.declared.stored.RawStored.{RawStored}
use Rattle.scope_expr.specs.declared.scope.Scope.{Scope}
use Rattle.user_ops.specs.Told.{Operators}
use Rattle.names_in_sight.specs.declared.input.Input.{Input}
use Rattle.names_in_sight.specs.declared.sides.Sides.{Sides}
use Rattle.names_in_sight.specs.declared.view.View.{View}
use Rattle.names_in_sight.specs.Sight.{sight_of, sight_of_columns}
use Rattle.names_in_sight.specs.Inputs.{Before, heading_at, input_of, input_of_opt}
use Rattle.names_in_sight.specs.Views.{sides_of, view_of}

-- the expressions; those of them that are to be truth values; the aggregates; the lists of keys; the equalities
pub record Asked : Type 0 where
  pub exprs : List (Scope × RawExpr)
  pub tests : List (Scope × RawExpr)
  pub aggs : List (Scope × RawAgg)
  pub keys : List (Scope × List RawRef)
  pub ons : List (Sides × List (RawRef × RawRef))

abbrev pub keys_alone : List (Scope × List RawRef) → Asked
keys_alone keys = record { exprs = []; tests = []; aggs = []; keys = keys; ons = [] }

abbrev pub columns_of : List RawKey → List RawRef
columns_of = map (λ k. k.column)

-- a list of keys that may be left out
abbrev pub refs_opt : Scope → Option (List RawRef) → List (Scope × List RawRef)
refs_opt names None = []
refs_opt names (Some refs) = (names, refs) ∷ []

abbrev pub keys_opt : Scope → Option (List RawKey) → List (Scope × List RawRef)
keys_opt names None = []
keys_opt names (Some keys) = (names, columns_of keys) ∷ []

abbrev pub stored_opt : Scope → Option RawStored → List (Scope × List RawRef)
stored_opt names None = []
stored_opt names (Some s) = (names, s.hash) ∷ keys_opt names s.sorted

abbrev pub expr_opt : Scope → Option RawExpr → List (Scope × RawExpr)
expr_opt names None = []
expr_opt names (Some e) = (names, e) ∷ []

-- the arguments of aggregates
abbrev pub args_of : Scope → List RawAgg → List (Scope × RawExpr)
args_of names aggs = flat_map (λ a. expr_opt names a.arg) aggs

-- the items that are written
abbrev pub items_of : Scope → Items → List (Scope × RawExpr)
items_of names All = []
items_of names (Listed items) = map (λ x. (names, x.expr)) items

-- the ON of each source after the first, which sees the inputs up to its own
abbrev pub ons_from : List Input → List Input → List Joined → List (Sides × List (RawRef × RawRef))
ons_from done (i ∷ inputs) (j ∷ more) = (sides_of done i, j.on) ∷ ons_from (done ++ i ∷ []) inputs more
ons_from done inputs more = []

abbrev pub ons_of : List Input → List Joined → List (Sides × List (RawRef × RawRef))
ons_of inputs [] = []
ons_of inputs (j ∷ more) = ons_from (take 1 inputs) (drop 1 inputs) more

-- WHERE, the aggregates and GROUP BY see the sources, the items those or the groups, HAVING and ORDER BY the items
abbrev pub asked_by_select : select.Select → View → Asked
asked_by_select s v = record {
  exprs = expr_opt v.names s.filter ++ (args_of v.names s.aggs ++ (items_of v.inner s.items ++ expr_opt v.result s.having));
  tests = expr_opt v.names s.filter ++ expr_opt v.result s.having;
  aggs = map (λ a. (v.names, a)) s.aggs;
  keys = refs_opt v.names s.group ++ keys_opt v.result s.order;
  ons = ons_of v.inputs s.sources;
}

-- the keys of a REDUCE, and those that its input is sorted by
abbrev pub asked_by_reduce : Input → Option (List RawKey) → List RawRef → Asked
asked_by_reduce input presort on =
    let names = sight_of (input ∷ []) in
    keys_alone ((names, on) ∷ keys_opt names presort)

-- the equalities of a COMBINE, and the keys that its inputs are sorted by
abbrev pub asked_by_combine : Input → Option (List RawKey) → Input → Option (List RawKey) → List (RawRef × RawRef) → Asked
asked_by_combine a left_presort b right_presort on = record {
  exprs = [];
  tests = [];
  aggs = [];
  keys = keys_opt (sight_of (a ∷ [])) left_presort ++ keys_opt (sight_of (b ∷ [])) right_presort;
  ons = (sides_of (a ∷ []) b, on) ∷ [];
}

abbrev pub asked_by : Operators → Before → Command → Asked
asked_by ops before (Extract cols stream call stored) = keys_alone (stored_opt (sight_of_columns cols) stored)
asked_by ops before (Select s) = asked_by_select s (view_of ops before s)
asked_by ops before (Process source call cols) = keys_alone []
asked_by ops before (Reduce source presort on call cols) = asked_by_reduce (input_of_opt ops before source) presort on
asked_by ops before (Combine left left_presort right right_presort on call cols) =
    asked_by_combine (input_of ops before left) left_presort (input_of ops before right) right_presort on
asked_by ops before (Output source stream outputter stored) = keys_alone (stored_opt (sight_of_columns (heading_at before source)) stored)
