-- What the Dag of a script gives is one.
use Rattle.std.proofs.Common.{◌≡◌, ℕ, suc, ◌+◌, List, [], ◌∷◌, map, length, ap, refl, Option}
use Rattle.col_sets.specs.declared.dir.Dir.{Dir}
use Rattle.logical_trees.specs.Tree.{Expression}
use Rattle.logical_dag.specs.declared.dag.Stored.{Stored}
use Rattle.logical_dag.specs.DagMeaning.{scan_rows}
use Rattle.logical_dag.specs.DagMeaningLemmas as trees
use Rattle.script_meaning.specs.Dag.{dag_of}
use Rattle.script_meaning.specs.Laws.{meaning}
use Rattle.script_meaning.specs.Written.{AreOutputsOver}
use Rattle.script_meaning.specs.OneMeaning.{GivesOne, GivesSome, GivesMeaningAlone}
use Rattle.script_meaning.proofs.Given.{gives_meaning}
use Rattle.script_meaning.proofs.Whole.{gives_bindable}

pub gives_one : GivesOne
gives_one ops input d rows others b h k = trees.gives_one ops (map (scan_rows input) d.scans) d.shared d.orders d.outputs rows others (record { earlier = b.earlier; all = b.all }) h k

as_many : (orders : List (Option (List (ℕ × Dir)))) (stored : List (Option Stored)) (ts : List Expression) → AreOutputsOver orders stored ts → length orders ≡ length ts
as_many [] [] [] o = refl
as_many (order ∷ orders) (s ∷ stored) (t ∷ ts) o = ap suc (as_many orders stored ts o.1)
as_many [] [] (t ∷ ts) o = absurd o
as_many [] (s ∷ stored) ts o = absurd o
as_many (order ∷ orders) [] ts o = absurd o
as_many (order ∷ orders) (s ∷ stored) [] o = absurd o

pub gives_some : GivesSome
gives_some ops input d b =
    trees.gives_some ops (map (scan_rows input) d.scans) d.shared d.orders d.outputs (record { earlier = b.earlier; all = b.all }) (as_many d.orders d.stored d.outputs b.over)

pub gives_meaning_alone : GivesMeaningAlone
gives_meaning_alone ops input script rows fits placed told h =
    gives_one ops input (dag_of script) (meaning ops input script) rows (gives_bindable script fits placed) (gives_meaning ops input script fits told) h
