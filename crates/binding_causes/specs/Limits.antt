-- Causes that lie in limits: of columns, inputs, keys, shared results and args.
use Rattle.std.specs.Prelude.{ℕ, ◌+◌, ◌==◌, Bool, false, ◌||◌, if◌then◌else◌, List, [], ◌∷◌, ◌++◌, filter, flat_map, length, nat_lt, nat_le, count_by, Option, Some, None, slice_get}
use Rattle.std.specs.Option.{option_map_or}
use Rattle.std.specs.List.{list_any, sum_by, range_with_len}
use Rattle.script_trees.specs.declared.call.Call.{Call}
use Rattle.script_trees.specs.declared.command.Command.{Command}
use Rattle.script_trees.specs.declared.command.Command.TheVariants.{Extract, Select, Process, Reduce, Combine, Output}
use Rattle.script_trees.specs.declared.script.Statement.{Statement}
use Rattle.script_trees.specs.declared.select.Joined.{Joined}
use Rattle.script_trees.specs.declared.select.Select as select
use Rattle.script_trees.specs.declared.source.Source.{Source}
use Rattle.script_trees.specs.declared.source.Origin.{Origin}
use Rattle.script_trees.specs.declared.source.Origin.TheVariants.{Named, Stream}
use Rattle.user_ops.specs.Told.{Operators}
use Rattle.names_in_sight.specs.declared.input.Input.{Input}
use Rattle.names_in_sight.specs.declared.view.View.{View}
use Rattle.names_in_sight.specs.Operators.{inline_columns}
use Rattle.names_in_sight.specs.Inputs.{Before, input_at, heading_at, columns_of_all}
use Rattle.names_in_sight.specs.Views.{view_of}
use Rattle.binding_causes.specs.Asked.{Asked}
use Rattle.binding_causes.specs.Names.{inputs}
use Rattle.binding_causes.specs.Operators.{side_of, inline_calls}

-- ---- which results are shared

abbrev pub one_or_none : Option ℕ → List ℕ
one_or_none None = []
one_or_none (Some k) = k ∷ []

-- each mention of a result, by the number of its statement
abbrev pub mentions_in : List Statement → Command → List ℕ
mentions_in earlier c = flat_map (λ i. one_or_none (input_at earlier i)) (inputs c)

abbrev pub mentions : List Statement → List Statement → List ℕ
mentions earlier [] = []
mentions earlier (s ∷ rest) = mentions_in earlier s.command ++ mentions (earlier ++ s ∷ []) rest

abbrev pub is_shared : List ℕ → ℕ → Bool
is_shared all k = nat_le 2 (count_by (λ m. m == k) all)

-- how many of the first n results are mentioned twice
abbrev pub shared_among : List ℕ → ℕ → ℕ
shared_among all n = length (filter (is_shared all) (range_with_len 0 n))

-- ---- how many columns the tree of a command numbers

-- a shared result is referred to, and its columns are numbered again; another stands there with its tree
abbrev pub result_count : List ℕ → Before → List ℕ → Option (List ℕ) → ℕ
result_count all before counts i =
    option_map_or (λ k. if is_shared all k then length (heading_at before i) else option_map_or (λ n. n) (slice_get counts k) 0) (input_at before.statements i) 0

abbrev pub origin_count : Operators → List ℕ → Before → List ℕ → Origin → ℕ
origin_count ops all before counts (Named n) = result_count all before counts (Some n)
origin_count ops all before counts (Stream name call) = length (inline_columns ops call.op)

abbrev pub source_count : Operators → List ℕ → Before → List ℕ → Option Source → ℕ
source_count ops all before counts None = result_count all before counts None
source_count ops all before counts (Some s) = origin_count ops all before counts s.origin

abbrev pub from_count : Operators → List ℕ → Before → List ℕ → List Joined → ℕ
from_count ops all before counts [] = result_count all before counts None
from_count ops all before counts (j ∷ sources) = sum_by (λ j. origin_count ops all before counts j.source.origin) (j ∷ sources)

-- an outer join numbers the columns of both sides again
abbrev pub outer_count : List Input → List Joined → ℕ
outer_count inputs sources = option_map_or (λ side. length (columns_of_all inputs)) (side_of sources) 0

-- a SELECT numbers its aggregates and its items
abbrev pub select_count : Operators → List ℕ → Before → List ℕ → select.Select → View → ℕ
select_count ops all before counts s v = from_count ops all before counts s.sources + outer_count v.inputs s.sources + length s.aggs + length v.outputs

abbrev pub count_of : Operators → List ℕ → Before → List ℕ → Command → ℕ
count_of ops all before counts (Extract cols stream call stored) = length cols
count_of ops all before counts (Select s) = select_count ops all before counts s (view_of ops before s)
count_of ops all before counts (Process source call cols) = source_count ops all before counts source + length cols
count_of ops all before counts (Reduce source presort on call cols) = source_count ops all before counts source + length cols
count_of ops all before counts (Combine left left_presort right right_presort on call cols) =
    origin_count ops all before counts left.origin + origin_count ops all before counts right.origin + length cols
count_of ops all before counts (Output source stream outputter stored) = result_count all before counts source

-- ---- inputs of a FROM, lists of keys, args

abbrev pub has_many_inputs : Command → Bool
has_many_inputs (Select s) = nat_lt 5 (length s.sources)
has_many_inputs c = false

abbrev pub has_many_keys : Asked → Bool
has_many_keys a = list_any (λ k. nat_lt 4 (length k.1)) a.keys || list_any (λ on. nat_lt 4 (length on.1)) a.ons

abbrev pub own_calls : Command → List Call
own_calls (Extract cols stream call stored) = call ∷ []
own_calls (Select s) = []
own_calls (Process source call cols) = call ∷ []
own_calls (Reduce source presort on call cols) = call ∷ []
own_calls (Combine left left_presort right right_presort on call cols) = call ∷ []
own_calls (Output source stream outputter stored) = []

abbrev pub has_many_args : Command → Bool
has_many_args c = list_any (λ call. nat_lt 16 (length call.args)) (inline_calls c ++ own_calls c)
