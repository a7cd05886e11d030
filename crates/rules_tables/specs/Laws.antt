-- Tables, ties and forms, as facts.
use Rattle.std.specs.Prelude.{◌≡◌, ℕ, false, List, Some, slice_get}
use Rattle.fd_closure.specs.declared.facts.Facts.{Facts}
use Rattle.structural_props.specs.Actions.{In}
use Rattle.logical_dag.specs.declared.dag.Dag.{Dag}
use Rattle.logical_dag.specs.declared.place.Place.{Place as DagPlace}
use Rattle.logical_trees.specs.Tree.{Expression}
use Rattle.logical_trees.specs.Formed.{IsFormed}
use Rattle.logical_dag.specs.Scripts.{all_trees}
use Rattle.parts_plans.specs.Plans.{Env}
use Rattle.rules_shapes.specs.Shapes.{top_number, numbered_leaves, shape_of, IsScriptOf, IsJustScriptOf}
use Rattle.rules_optimal.specs.Places.{numbered, tops, IsTableOf}
use Rattle.rules_tables.specs.Tables.{Costs, table_of, AreKnown}
use Rattle.rules_tables.specs.Scripts.{script_of, forms_of}
use Rattle.rules_space.specs.Place.{Place}
use Rattle.rules_space.specs.Memo.{Memo, Begins, IsTreeOf}
use Rattle.rules_space.specs.Steps.{IsPlacedFirst, AreLinked}

-- a number is that of one node alone
abbrev pub IsOneNode : Type 0
IsOneNode = (tree : Expression) (v w : ℕ × Expression) → In v (numbered 0 tree) → In w (numbered 0 tree) → top_number v.0 v.1 ≡ top_number w.0 w.1 → v ≡ w

-- a leaf is one of one block alone, so its number is one of one block alone
abbrev pub IsOneBlock : Type 0
IsOneBlock = (tree : Expression) (x y v w : ℕ × Expression) → In x (tops false 0 tree) → In y (tops false 0 tree) → In v (numbered_leaves x.0 x.1) → In w (numbered_leaves y.0 y.1)
    → top_number v.0 v.1 ≡ top_number w.0 w.1 → x ≡ y

-- the table made of the facts at places is one of the tree
abbrev pub IsTableOfTree : Type 0
IsTableOfTree = (env : Env) (costs : Costs) (dag : Dag) (known : DagPlace → Facts) (i : ℕ) (tree : Expression) → slice_get (all_trees dag) i ≡ Some tree → AreKnown env.lent dag known
    → IsTableOf (table_of env costs known i tree) tree

-- the script made of a tree has its ties
abbrev pub HasTies : Type 0
HasTies = (results : List (List ℕ)) (tree : Expression) → IsFormed results tree → IsScriptOf (script_of tree) 0 tree

-- and no more
abbrev pub HasJustTies : Type 0
HasJustTies = (results : List (List ℕ)) (tree : Expression) → IsFormed results tree → IsJustScriptOf (script_of tree) 0 tree

-- the forms made of a tree are those of its shape
abbrev pub HasForms : Type 0
HasForms = (tree : Expression) → IsTreeOf (forms_of tree) (top_number 0 tree) (shape_of 0 tree)

-- each Join among them has a tie between its children, where groups begin with these forms and stand at the places of their first ones
abbrev pub IsDagLinked : Type 0
IsDagLinked = (results : List (List ℕ)) (tree : Expression) (M : Memo) (at : ℕ → Place) → IsFormed results tree → Begins (forms_of tree) M → IsPlacedFirst M at → AreLinked (script_of tree) (forms_of tree) at
