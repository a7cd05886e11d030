-- What is made of the rows of a group, and of a row that is a part of its own.
use Rattle.std.specs.Prelude.{ℕ, List, [], ◌∷◌, if◌then◌else◌}
use Rattle.col_sets.specs.Sets.{has}
use Rattle.scope_value.specs.declared.value.Value.{Value}
use Rattle.structural_props.specs.Rows.{value_at, key_of}
use Rattle.logical_trees.specs.declared.agg.Agg.{Agg}
use Rattle.logical_trees.specs.declared.args.GroupArgs.{GroupArgs}
use Rattle.logical_trees.specs.Rows.{Row, Bag, agg_at, group_row, whole_value, partial_value, finished_value}
use Rattle.plain_meaning.specs.declared.grouping.Step.{Step}
use Rattle.plain_meaning.specs.declared.grouping.Step.TheVariants.{Whole, Finish}

-- what an aggregate gives of some rows in a step
abbrev pub value_of : Step → List ℕ → Agg → Bag → Value
value_of Whole = whole_value
value_of Finish = finished_value

-- the value of a grouped row in a column: the key's, or that of the aggregate which gives the column
abbrev pub value_in : GroupArgs → (Agg → Value) → Row → ℕ → Value
value_in args value k c = if has args.keys c then value_at args.keys k c else agg_at value args.aggs c

-- the partial row of a row that is a part of its own
abbrev pub partial_row : GroupArgs → List ℕ → Row → Row
partial_row args cols r = group_row args (λ a. partial_value cols a (r ∷ [])) (key_of cols args.keys r)
