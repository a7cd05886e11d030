-- The steps of a call, in order, and what each comes to: the script is read and bound, the sizes are read, then the parts of the streams in
-- turn; then the Dag runs, and its outputs are written.
use Rattle.std.specs.Prelude.{◌≡◌, ℕ, ◌⊎◌, ◌||◌, Bool, true, false, List, Option, Some, None, is_some, Ok, Err, IsUtf8, All}
use Rattle.std.specs.List.{list_any}
use Rattle.std.specs.FinMap as map
use Rattle.scope_outside.specs.State.{Files}
use Rattle.user_ops.specs.Told.{Operators}
use Rattle.row_codec.specs.Records.{records_of}
use Rattle.size_model.specs.declared.sizes.Sizes.{Sizes}
use Rattle.size_model.specs.Answers.{parts_of, Reads as ReadsSizes}
use Rattle.size_model.specs.Declarations.{IsFirstFault}
use Rattle.script_trees.specs.declared.script.Script.{Script}
use Rattle.placed_trees.specs.declared.statement.Statement.{Statement}
use Rattle.binding_causes.specs.declared.cause.BindFault.{BindFault}
use Rattle.binding_causes.specs.Resolution.{resolution}
use Rattle.binding_laws.specs.There.{TellsOuterJoins}
use Rattle.logical_dag.specs.declared.dag.ScanDecl.{ScanDecl}
use Rattle.logical_dag.specs.DagMeaning.{AreSameOutputs}
use Rattle.logical_trees.specs.Rows.{Bag}
use Rattle.script_meaning.specs.Dag.{ScriptDag, dag_of}
use Rattle.script_meaning.specs.Laws.{Gives, meaning}
use Rattle.scope_streams.specs.Parts.{StreamPart, Stop, lacks, all_parts, scan_bag, IsRead, ReadsName, StopsAt}
use Rattle.scope_streams.specs.Ends.{texts_of}
use Rattle.scope_app.specs.declared.status.ScriptPlace.{ScriptPlace}
use Rattle.scope_app.specs.ScriptText.{IsScriptText, IsFaultAt}

-- what a call is given: its operators, the files, the name of the script, and that of the file of sizes, if there is one
pub record Given : Type 0 where
  pub ops : Operators
  pub files : Files
  pub script : List ℕ
  pub sizes : Option (List ℕ)

-- ---- the script is bound

abbrev pub HasText : Given → List ℕ → Type 0
HasText g text = map.get g.files g.script ≡ Some text

abbrev pub IsNoText : Given → Type 0
IsNoText g = (text : List ℕ) × HasText g text × ¬ IsUtf8 text

abbrev pub LeavesAt : Given → ScriptPlace → Type 0
LeavesAt g place = (text : List ℕ) × HasText g text × IsFaultAt text place

pub record HasScript (g : Given) (script : Script) : Type 0 where
  pub text : List ℕ
  pub has : HasText g text
  pub spells : IsScriptText text script

abbrev pub BindsNot : Given → BindFault → Type 0
BindsNot g fault = (script : Script) × HasScript g script × (resolution g.ops script ≡ Err fault)

-- its statements, with their names resolved
pub record HasStatements (g : Given) (statements : List Statement) : Type 0 where
  pub script : Script
  pub has : HasScript g script
  pub resolved : resolution g.ops script ≡ Ok statements

-- a scan or an output is declared to be stored: that doesn't run yet
abbrev pub is_stored : ScriptDag → Bool
is_stored d = list_any (λ s. is_some s.stored) d.scans || list_any (λ s. is_some s) d.stored

abbrev pub StoresStreams : Given → Type 0
StoresStreams g = (statements : List Statement) × HasStatements g statements × (is_stored (dag_of statements) ≡ true)

pub record IsBuilt (g : Given) (statements : List Statement) : Type 0 where
  pub has : HasStatements g statements
  pub unstored : is_stored (dag_of statements) ≡ false

-- ---- the sizes are read

-- the file's bytes
abbrev pub HasSizes : Given → List ℕ → Type 0
HasSizes g bytes = (file : List ℕ) × (g.sizes ≡ Some file) × (map.get g.files file ≡ Some bytes)

abbrev pub SizesFail : Given → ℕ → Type 0
SizesFail g at = (statements : List Statement) × (bytes : List ℕ) × IsBuilt g statements × HasSizes g bytes × IsFirstFault (records_of 44 bytes) at

-- how many parts the stream of each name has: one, or as the file declares
abbrev pub AreSizes : Given → (List ℕ → ℕ) → Type 0
AreSizes g count =
    ((g.sizes ≡ None) × ((name : List ℕ) → count name ≡ 1))
    ⊎ ((bytes : List ℕ) × (sizes : Sizes) × HasSizes g bytes × ReadsSizes (records_of 44 bytes) sizes × ((name : List ℕ) → count name ≡ parts_of sizes name))

pub record IsSized (g : Given) (statements : List Statement) (count : List ℕ → ℕ) : Type 0 where
  pub built : IsBuilt g statements
  pub sizes : AreSizes g count

-- ---- the parts are read, in turn

abbrev pub parts_in : List Statement → (List ℕ → ℕ) → List StreamPart
parts_in statements count = all_parts count (dag_of statements).scans

-- a part lacks, or has a record that is refused
abbrev pub EndsAt : Given → Stop → Type 0
EndsAt g stop = (statements : List Statement) × (count : List ℕ → ℕ) × IsSized g statements count × StopsAt g.ops g.files (parts_in statements count) stop

pub record IsScanned (g : Given) (statements : List Statement) (count : List ℕ → ℕ) : Type 0 where
  pub sized : IsSized g statements count
  pub read : All (IsRead g.ops g.files) (parts_in statements count)

-- the rows of a scan
abbrev pub input_of : Given → (List ℕ → ℕ) → ScanDecl → Bag
input_of g count = scan_bag g.ops g.files count

-- ---- the names that are read

abbrev pub Reads : Given → List ℕ → Type 0
Reads g name =
    (name ≡ g.script)
    ⊎ ((statements : List Statement) × IsBuilt g statements × (g.sizes ≡ Some name))
    ⊎ ((statements : List Statement) × (count : List ℕ → ℕ) × IsSized g statements count × ReadsName g.ops g.files (parts_in statements count) name)

-- the first of them that isn't there
abbrev pub Lacks : Given → List ℕ → Type 0
Lacks g name =
    ((name ≡ g.script) × (map.get g.files name ≡ None))
    ⊎ ((statements : List Statement) × IsBuilt g statements × (g.sizes ≡ Some name) × (map.get g.files name ≡ None))
    ⊎ EndsAt g (lacks name)

-- ---- the Dag runs, and its outputs are written

-- the texts of the outputs, each under its name: those of rows that the Dag gives to its outputs, whatever operators are called; and
-- where the combiners of outer joins are what their names say, the rows are the script's meaning, as bags, or as lists where there is an order
pub record Writes (g : Given) (texts : List (List ℕ × List ℕ)) : Type 0 where
  pub statements : List Statement
  pub count : List ℕ → ℕ
  pub rows : List Bag
  pub scanned : IsScanned g statements count
  pub gives : Gives g.ops (input_of g count) (dag_of statements) rows
  pub means : TellsOuterJoins g.ops → AreSameOutputs (dag_of statements).orders (meaning g.ops (input_of g count) statements) rows
  pub texts_are : texts ≡ texts_of (dag_of statements).streams (dag_of statements).delimiters rows
