-- What the normal form keeps, and that it is one.
use Rattle.std.specs.Prelude.{◌≡◌, ℕ, List, ◌++◌, map, flat_map}
use Rattle.logical_trees.specs.Tree.{Expression, columns_of}
use Rattle.logical_trees.specs.Meaning.{SameBags}
use Rattle.logical_trees.specs.Formed.{IsFormed}
use Rattle.logical_dag.specs.Scripts.{IsWritten, scans_of}
use Rattle.logical_dag.specs.Bounds.{AreBounded}
use Rattle.script_meaning.specs.Dag.{ScriptDag}
use Rattle.script_meaning.specs.Written.{IsBindable}
use Rattle.normal_meaning.specs.Sinking.{normal}
use Rattle.normal_meaning.specs.Normal.{IsNormal, bare}
use Rattle.normal_meaning.specs.Dags.{normal_dag}

-- the same bags stand for an expression and its normal form, and their rows have the same columns
abbrev pub KeepsBags : Type 0
KeepsBags = (results : List (List ℕ)) (t : Expression) → IsFormed results t → SameBags t (normal t)

-- the normal form is in normal form
abbrev pub GivesNormal : Type 0
GivesNormal = (t : Expression) → IsNormal (normal t)

-- what is in normal form stays
abbrev pub KeepsNormal : Type 0
KeepsNormal = (t : Expression) → IsNormal t → normal t ≡ t

-- only Filters move
abbrev pub KeepsNodes : Type 0
KeepsNodes = (t : Expression) → bare (normal t) ≡ bare t

-- a tree as binding gives it stays one
abbrev pub KeepsWritten : Type 0
KeepsWritten = (results : List (List ℕ)) (t : Expression) → IsWritten results t → IsWritten results (normal t)

-- the bounds of a script's trees are kept
abbrev pub KeepsBounds : Type 0
KeepsBounds = (scans : ℕ) (shared outputs : List Expression) → AreBounded scans shared outputs → AreBounded scans (map normal shared) (map normal outputs)

-- the normal form of a Dag that binding can give is such a Dag
abbrev pub KeepsBindable : Type 0
KeepsBindable = (d : ScriptDag) → IsBindable d → IsBindable (normal_dag d)

-- and they have the same scans, with the same columns
abbrev pub KeepsScans : Type 0
KeepsScans = (shared outputs : List Expression) → flat_map scans_of (map normal shared ++ map normal outputs) ≡ flat_map scans_of (shared ++ outputs)

-- and their rows the same columns, formed or not
abbrev pub KeepsColumns : Type 0
KeepsColumns = (t : Expression) → columns_of (normal t) ≡ columns_of t
