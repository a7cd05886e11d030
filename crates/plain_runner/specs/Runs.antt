-- What the plain program asks of a Dag, and the bags that its vectors hold.
use Rattle.std.specs.Prelude.{◌≡◌, List, map, All, Vec}
use Rattle.std.proofs.Common.{Global}
use Rattle.user_ops.specs.Told.{Operators}
use Rattle.logical_dag.specs.declared.dag.Dag.{Dag}
use Rattle.logical_dag.specs.declared.dag.Output.{Output}
use Rattle.logical_dag.specs.Scripts.{all_trees}
use Rattle.logical_dag.specs.DagMeaning.{in_order_opt}
use Rattle.logical_trees.specs.Tree.{columns_of, tree_of}
use Rattle.logical_trees.specs.Rows.{Row, Bag}
use Rattle.logical_trees.specs.Meaning.{Sources, StandsFor}
use Rattle.plain_meaning.specs.Plain.{AreThere}

-- the user operators that the trees call are there
abbrev pub AreDagThere : Operators → Dag → Type 0
AreDagThere ops dag = All (AreThere ops) (all_trees dag)

abbrev pub bags_of : List (Vec Row Global) → List Bag
bags_of = map (λ v. v.items)

-- the rows of an output: some bag that stands for its tree, in the output's order if it has one
abbrev pub GivesOutput : Operators → Sources → Output → Bag → Type 0
GivesOutput ops from o rows = (B : Bag) × StandsFor ops from (tree_of o.tree) B × (in_order_opt o.order (columns_of (tree_of o.tree)) B ≡ rows)
