-- What the Dag of a script gives, and that it is what the script means.
use Rattle.std.specs.Prelude.{◌≡◌, ◌≤◌, ◌<◌, ◌+◌, ◌^◌, ℕ, List, [], ◌∷◌, ◌++◌, map, length, Some, None, slice_get, IsPermutation}
use Rattle.user_ops.specs.Told.{Operators, ToldCombiner, combines_at}
use Rattle.outer_joins.specs.declared.side.Side.{Side}
use Rattle.outer_joins.specs.OuterPairs.{outer_pairs}
use Rattle.outer_joins.specs.Combiners.{outer_told}
use Rattle.outer_joins.specs.Laws.{width_args}
use Rattle.logical_dag.specs.declared.dag.ScanDecl.{ScanDecl}
use Rattle.logical_trees.specs.declared.args.CallArgs.{CallArgs}
use Rattle.logical_trees.specs.Rows.{Bag, agree_on, combined}
use Rattle.logical_dag.specs.DagMeaning.{in_order_opt, scan_rows, TreesGive}
use Rattle.placed_trees.specs.declared.call.Call.{Call}
use Rattle.placed_trees.specs.declared.command.Command.{Command}
use Rattle.placed_trees.specs.declared.command.Command.TheVariants.{Select}
use Rattle.placed_trees.specs.declared.query.Beside.{Beside}
use Rattle.placed_trees.specs.declared.query.Beside.TheVariants.{Inners, Outer}
use Rattle.placed_trees.specs.declared.source.Stream.{Stream}
use Rattle.placed_trees.specs.declared.statement.Statement.{Statement}
use Rattle.script_meaning.specs.Meaning.{Table, or_no_table, source_rows, outer_bag, result, results, places}
use Rattle.script_meaning.specs.Bound.{parts_of}
use Rattle.script_meaning.specs.Dag.{part_at, ScriptDag, dag_of, outs_of}

-- the rows of a stream, whatever is declared of how it is stored
abbrev pub stream_rows : (ScanDecl → Bag) → Stream → Bag
stream_rows input d = input (record { stream = d.name; op = d.op; args = d.args; schema = d.schema; stored = None })

-- the Dag gives these rows to its outputs, where its scans have those
abbrev pub Gives : Operators → (ScanDecl → Bag) → ScriptDag → List Bag → Type 0
Gives ops input d rows = TreesGive ops (map (scan_rows input) d.scans) d.shared d.orders d.outputs rows

-- the results of a script's statements, and what its OUTPUTs are to write
abbrev pub table_at : List Table → ℕ → Table
table_at done k = or_no_table (slice_get done k)

abbrev pub written_at : List Table → ℕ → Bag
written_at done k = let A = table_at done k in in_order_opt A.order (places A.width) A.rows

abbrev pub results_of : Operators → (ScanDecl → Bag) → List Statement → List Table
results_of ops input script = results ops (stream_rows input) [] [] script

abbrev pub meaning : Operators → (ScanDecl → Bag) → List Statement → List Bag
meaning ops input script = map (written_at (results_of ops input script)) (outs_of script)

-- the combiner that is called for an outer join gives its rows at each key, and the call has the columns of both sides
pub record IsOuterCall (ops : Operators) (side : Side) (call : Call) (m n : ℕ) : Type 0 where
  pub columns : length call.output ≡ m + n
  pub gives : (A B : Bag) → combines_at ops call.op call.args A B ≡ outer_pairs side m n A B

abbrev pub IsBesideTold : Operators → (Stream → Bag) → List Statement → List Table → Table → Beside → Type 0
IsBesideTold ops input earlier done A (Inners joins) = Unit {0}
IsBesideTold ops input earlier done A (Outer side call j) = IsOuterCall ops side call A.width (source_rows input earlier done j.source).width

abbrev pub IsCommandTold : Operators → (Stream → Bag) → List Statement → List Table → Command → Type 0
IsCommandTold ops input earlier done (Select q) = IsBesideTold ops input earlier done (source_rows input earlier done q.source) q.beside
IsCommandTold ops input earlier done c = Unit {0}

-- so it is for each outer join of these statements
abbrev pub AreOuterTold : Operators → (Stream → Bag) → List Statement → List Table → List Statement → Type 0
AreOuterTold ops input earlier done [] = Unit {0}
AreOuterTold ops input earlier done (s ∷ rest) =
    IsCommandTold ops input earlier done s.command × AreOuterTold ops input (earlier ++ s ∷ []) (done ++ result ops input earlier done s.command ∷ []) rest

-- and of a script
abbrev pub AreTold : Operators → (ScanDecl → Bag) → List Statement → Type 0
AreTold ops input script = AreOuterTold ops (stream_rows input) [] [] script

-- no tree numbers more than 128 columns
abbrev pub FitsColumns : List Statement → Type 0
FitsColumns script = (k : ℕ) → (part_at (parts_of script) k).count ≤ 128

-- the Dag of a script gives what the script means
abbrev pub GivesMeaning : Type 0
GivesMeaning = (ops : Operators) (input : ScanDecl → Bag) (script : List Statement) → FitsColumns script → AreTold ops input script
    → Gives ops input (dag_of script) (meaning ops input script)

-- over any rows and columns, the Combine of an outer join gives the outer join
abbrev pub GivesOuterJoin : Type 0
GivesOuterJoin = (ops : Operators) (side : Side) (call : CallArgs) (on : List (ℕ × ℕ)) (left right : List ℕ) (m n : ℕ) (A B : Bag)
    → ((C D : Bag) → combines_at ops call.op call.args C D ≡ outer_pairs side m n C D)
    → IsPermutation (combined ops left right call on None None A B) (outer_bag side (agree_on on left right) m n A B)

-- the object at that place tells the meaning of the combiner of that side
pub record TellsOuter (ops : Operators) (place : ℕ) (side : Side) : Type 0 where
  pub told : ToldCombiner
  pub there : slice_get ops.combiners place ≡ Some told
  pub same : told.combines ≡ (outer_told side).combines

-- with such a combiner, and the numbers of columns as args, the Combine gives the outer join
abbrev pub GivesToldJoin : Type 0
GivesToldJoin = (ops : Operators) (side : Side) (call : CallArgs) (on : List (ℕ × ℕ)) (left right : List ℕ) (A B : Bag)
    → TellsOuter ops call.op side → call.args ≡ width_args (length left) (length right) → length left < 2 ^ 64 → length right < 2 ^ 64
    → IsPermutation (combined ops left right call on None None A B) (outer_bag side (agree_on on left right) (length left) (length right) A B)

-- and a script's call of it is the call of an outer join
abbrev pub AreToldCalls : Type 0
AreToldCalls = (ops : Operators) (side : Side) (call : Call) (m n : ℕ)
    → TellsOuter ops call.op side → call.args ≡ width_args m n → length call.output ≡ m + n → m < 2 ^ 64 → n < 2 ^ 64
    → IsOuterCall ops side call m n
