-- What the stages of a call hand on, and how each ends. These serve the crate alone.
use Rattle.std.specs.Prelude.{◌≡◌, ℕ, List, map, Result, Ok, Err, IsUtf8}
use Rattle.user_ops.specs.Told.{Operators}
use Rattle.row_codec.specs.Records.{records_of}
use Rattle.size_model.specs.Declarations.{IsFirstFault}
use Rattle.script_trees.specs.declared.script.Script.{Script}
use Rattle.placed_trees.specs.declared.statement.Statement.{Statement}
use Rattle.binding_causes.specs.Resolution.{resolution}
use Rattle.binding_laws.specs.There.{TellsOuterJoins}
use Rattle.scope_syntax.specs.Written.{IsWritten}
use Rattle.logical_dag.specs.declared.dag.Dag.{Dag}
use Rattle.logical_dag.specs.declared.dag.ScanDecl.{ScanDecl}
use Rattle.logical_dag.specs.Scripts.{shared_trees, output_trees}
use Rattle.logical_dag.specs.DagMeaning.{AreSameOutputs, DagGives, TreesGive, orders_of}
use Rattle.logical_trees.specs.Rows.{Bag}
use Rattle.script_meaning.specs.Dag.{ScriptDag, dag_of}
use Rattle.script_meaning.specs.Laws.{Gives, meaning}
use Rattle.script_binder.specs.Shown.{Shows}
use Rattle.scope_streams.specs.declared.stops.ReadStop.{ReadStop}
use Rattle.scope_streams.specs.declared.stops.ReadStop.TheVariants as read
use Rattle.scope_streams.specs.declared.stops.WriteStop.{WriteStop}
use Rattle.scope_streams.specs.declared.stops.WriteStop.TheVariants as write
use Rattle.scope_streams.specs.Ends.{texts_of}
use Rattle.scope_app.specs.declared.status.Status.{Status}
use Rattle.scope_app.specs.declared.status.Status.TheVariants as status
use Rattle.scope_app.specs.ScriptText.{IsScriptText, IsFaultAt}
use Rattle.scope_app.specs.Steps.{Given, HasStatements, IsBuilt, IsSized, IsScanned, input_of}

-- ---- a text is bound

-- the text is a script's, which binds to the Dag
pub record BindsText (ops : Operators) (text : List ℕ) (dag : Dag) : Type 0 where
  pub script : Script
  pub statements : List Statement
  pub spells : IsScriptText text script
  pub resolved : resolution ops script ≡ Ok statements
  pub shows : Shows (dag_of statements) dag

-- why it doesn't
abbrev pub EndsText : Operators → List ℕ → Status → Type 0
EndsText ops text status.NoMemory = Unit {0}
EndsText ops text status.NotText = ¬ IsUtf8 text
EndsText ops text (status.ScriptFault place) = IsFaultAt text place
EndsText ops text (status.BindFault fault) = (script : Script) × IsScriptText text script × (resolution ops script ≡ Err fault)
EndsText ops text s = ⊥

-- why the bytes of a file declare no sizes
abbrev pub EndsSizes : List ℕ → Status → Type 0
EndsSizes bytes status.NoMemory = Unit {0}
EndsSizes bytes (status.SizesFault fault) = IsFirstFault (records_of 44 bytes) fault.at
EndsSizes bytes s = ⊥

-- ---- the status of a read that ended, and of writes

abbrev pub read_status : ReadStop → Status
read_status read.NoMemory = status.NoMemory
read_status (read.Failed name) = status.ReadFault name
read_status (read.Missing name) = status.NoStream name
read_status (read.Refused name part at) = status.RowFault name part at

abbrev pub write_status : Result Unit WriteStop → Status
write_status (Ok u) = status.Done
write_status (Err write.NoMemory) = status.NoMemory
write_status (Err (write.Failed name)) = status.WriteFault name

-- ---- what runs

-- the Dag gives the rows of a script's Dag, to outputs of the same names
pub record RunsAs (ops : Operators) (d : ScriptDag) (dag : Dag) : Type 0 where
  pub scans : dag.scans ≡ d.scans
  pub streams : map (λ o. o.name) dag.outputs ≡ d.streams
  pub delimiters : map (λ o. o.delimiter) dag.outputs ≡ d.delimiters
  pub gives : (input : ScanDecl → Bag) (rows : List Bag) → DagGives ops input dag rows → Gives ops input d rows

-- the script binds to the Dag
abbrev pub AreShown : Dag → Given → Type 0
AreShown dag g = (statements : List Statement) × HasStatements g statements × Shows (dag_of statements) dag

-- nothing of it is stored, and this Dag runs for it
abbrev pub AreBuilt : Dag → Given → Type 0
AreBuilt dag g = (statements : List Statement) × IsBuilt g statements × RunsAs g.ops (dag_of statements) dag

-- its streams have so many parts
abbrev pub AreSized : Dag → (List ℕ → ℕ) → Given → Type 0
AreSized dag count g = (statements : List Statement) × IsSized g statements count × RunsAs g.ops (dag_of statements) dag

-- and its scans these rows
abbrev pub AreScanned : Dag → List Bag → Given → Type 0
AreScanned dag bags g =
    (statements : List Statement) × (count : List ℕ → ℕ) × IsScanned g statements count × RunsAs g.ops (dag_of statements) dag × (bags ≡ map (input_of g count) dag.scans)

-- the texts of rows that the Dag gives where its scans have those
abbrev pub AreTexts : Operators → Dag → List Bag → List (List ℕ × List ℕ) → Type 0
AreTexts ops dag bags texts =
    (rows : List Bag) × TreesGive ops bags (shared_trees dag) (orders_of dag) (output_trees dag) rows
    × (texts ≡ texts_of (map (λ o. o.name) dag.outputs) (map (λ o. o.delimiter) dag.outputs) rows)

-- what the Dag of a script that binds gives is what the script means, where outer joins are what their names say
abbrev pub GivesMeanings : Operators → Type 0
GivesMeanings ops = (script : Script) (statements : List Statement) (input : ScanDecl → Bag) (rows : List Bag) → IsWritten script → resolution ops script ≡ Ok statements → TellsOuterJoins ops
    → Gives ops input (dag_of statements) rows → AreSameOutputs (dag_of statements).orders (meaning ops input statements) rows
