-- A SELECT with its names resolved, clause by clause.
use Rattle.std.specs.Prelude.{◌+◌, List, [], ◌∷◌, ◌++◌, map, length, Option, Some, None, option_map}
use Rattle.col_sets.specs.Sets.{has}
use Rattle.script_trees.specs.declared.select.Joined as raw_joined
use Rattle.script_trees.specs.declared.select.Select.{Select}
use Rattle.script_trees.specs.declared.source.Origin.{Origin}
use Rattle.script_trees.specs.declared.source.Origin.TheVariants.{Named, Stream}
use Rattle.scope_expr.specs.Names.{bound}
use Rattle.user_ops.specs.Told.{Operators}
use Rattle.outer_joins.specs.declared.side.Side.{Side}
use Rattle.outer_joins.specs.Laws.{width_args}
use Rattle.placed_trees.specs.declared.call.Call.{Call}
use Rattle.placed_trees.specs.declared.query.Beside.{Beside}
use Rattle.placed_trees.specs.declared.query.Beside.TheVariants.{Inners, Outer}
use Rattle.placed_trees.specs.declared.query.Joined.{Joined}
use Rattle.placed_trees.specs.declared.query.Query.{Query}
use Rattle.placed_trees.specs.declared.source.Source.{Source}
use Rattle.placed_trees.specs.declared.source.Source.TheVariants.{FromResult, FromStream}
use Rattle.names_in_sight.specs.declared.input.Input.{Input}
use Rattle.names_in_sight.specs.declared.view.View.{View}
use Rattle.names_in_sight.specs.Sight.{keys_of}
use Rattle.names_in_sight.specs.Operators.{op_of, inline_columns, outer_name}
use Rattle.names_in_sight.specs.Inputs.{Before, input_of}
use Rattle.names_in_sight.specs.Views.{outer_side, pairs_of, sides_of}

-- ---- FROM

abbrev pub resolved_origin : Operators → Origin → Source
resolved_origin ops (Named n) = FromResult (Some n)
resolved_origin ops (Stream name call) =
    FromStream (record { name = name; op = op_of ops.extractor_names call.op; args = call.args; schema = inline_columns ops call.op; stored = None })

-- the first source
abbrev pub first_source : Operators → List raw_joined.Joined → Source
first_source ops [] = FromResult None
first_source ops (j ∷ more) = resolved_origin ops j.source.origin

-- a further source behind those inputs
abbrev pub joined_of : Operators → Before → List Input → raw_joined.Joined → Joined
joined_of ops before done j = record { source = resolved_origin ops j.source.origin; on = pairs_of (sides_of done (input_of ops before j.source)) j.on }

abbrev pub joins_from : Operators → Before → List Input → List raw_joined.Joined → List Joined
joins_from ops before done [] = []
joins_from ops before done (j ∷ more) = joined_of ops before done j ∷ joins_from ops before (done ++ input_of ops before j.source ∷ []) more

-- the call of the combiner of an outer join: its args are the numbers of columns, and it gives the columns of both
abbrev pub outer_call : Operators → Side → Input → Input → Call
outer_call ops s a b = record { op = op_of ops.combiner_names (outer_name s); args = width_args (length a.columns) (length b.columns); output = a.columns ++ b.columns }

abbrev pub beside_one : Operators → Before → Input → raw_joined.Joined → Option Side → Beside
beside_one ops before a j None = Inners (joined_of ops before (a ∷ []) j ∷ [])
beside_one ops before a j (Some s) = Outer s (outer_call ops s a (input_of ops before j.source)) (joined_of ops before (a ∷ []) j)

-- the sources after the first: an outer join has exactly two in all
abbrev pub beside_of : Operators → Before → List raw_joined.Joined → Beside
beside_of ops before [] = Inners []
beside_of ops before (j ∷ []) = Inners []
beside_of ops before (j ∷ (k ∷ [])) = beside_one ops before (input_of ops before j.source) k (outer_side k.side)
beside_of ops before (j ∷ more) = Inners (joins_from ops before (input_of ops before j.source ∷ []) more)

-- ---- the whole

abbrev pub query_of : Operators → Before → Select → View → Query
query_of ops before s v = record {
  source = first_source ops s.sources;
  beside = beside_of ops before s.sources;
  test = option_map (bound v.names) s.filter;
  group = v.grouping;
  items = map (λ o. o.1) v.outputs;
  having = option_map (bound v.result) s.having;
  distinct = s.distinct;
  order = option_map (keys_of v.result) s.order;
  top = s.top;
}
