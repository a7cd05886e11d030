-- The table of a tree, made of the facts at the places of its Dag.
use Rattle.std.specs.Prelude.{◌+◌, ◌*◌, ◌||◌, ℕ, Bool, false, if◌then◌else◌, List, [], ◌∷◌, Option, Some, None, slice_get}
use Rattle.fd_closure.specs.declared.facts.Facts.{Facts}
use Rattle.structural_props.specs.declared.property.Delivered.{Delivered}
use Rattle.logical_dag.specs.declared.dag.Dag.{Dag}
use Rattle.logical_dag.specs.declared.place.Place.{Place as DagPlace}
use Rattle.logical_dag.specs.declared.place.PlacePart.TheVariants.{Whole as AllOf, Leaves as SomeLeaves, Lower}
use Rattle.logical_trees.specs.declared.logic_op.LogicOp.{LogicOp}
use Rattle.logical_trees.specs.declared.logic_op.LogicOp.TheVariants.{Scan, Group, Top, Partial, Finish, LocalTop, LastTop}
use Rattle.logical_trees.specs.Tree.{Expression, nodes}
use Rattle.logical_dag.specs.Facts.{AreFactsOf}
use Rattle.logical_trees.specs.Blocks.{block_pairs}
use Rattle.logical_dag.specs.Places.{IsAt}
use Rattle.logical_dag.specs.Scripts.{top_of}
use Rattle.parts_plans.specs.Kinds.{PlanKind}
use Rattle.parts_plans.specs.Plans.{Env}
use Rattle.rules_shapes.specs.Shapes.{top_number, numbered_leaves}
use Rattle.rules_optimal.specs.Tables.{PlaceTable}
use Rattle.rules_optimal.specs.Places.{tops}
use Rattle.rules_space.specs.declared.kind.Kind.{Kind}
use Rattle.rules_space.specs.declared.kind.Kind.TheVariants as kind
use Rattle.rules_space.specs.Place.{Place, Leaves, Whole, Half, Block}

-- the first that passes
abbrev pub first_of : {X : Type 0} → (X → Bool) → List X → Option X
first_of test [] = None
first_of test (x ∷ xs) = if test x then Some x else first_of test xs

-- some leaf's number is among these
abbrev pub any_in : Leaves → List (ℕ × Expression) → Bool
any_in L [] = false
any_in L (v ∷ leaves) = L (top_number v.0 v.1) || any_in L leaves

-- the block that has a leaf there
abbrev pub block_with : Expression → Leaves → Option (ℕ × Expression)
block_with tree L = first_of (λ x. any_in L (numbered_leaves x.0 x.1)) (tops false 0 tree)

-- the leaves there as bits, bit i being of the i-th
abbrev pub mask_by : Leaves → List (ℕ × Expression) → ℕ
mask_by L [] = 0
mask_by L (v ∷ leaves) = mask_by L leaves * 2 + (if L (top_number v.0 v.1) then 1 else 0)

-- the place of the Dag for a place of tree i
abbrev pub leaves_place : ℕ → Leaves → Option (ℕ × Expression) → DagPlace
leaves_place i L None = record { tree = i; node = 0; part = AllOf }
leaves_place i L (Some x) = record { tree = i; node = top_number x.0 x.1; part = SomeLeaves (mask_by L (numbered_leaves x.0 x.1)) }

abbrev pub dag_place : ℕ → Expression → Place → DagPlace
dag_place i tree (Whole n) = record { tree = i; node = n; part = AllOf }
dag_place i tree (Half n) = record { tree = i; node = n; part = Lower }
dag_place i tree (Block L) = leaves_place i L (block_with tree L)

abbrev pub pairs_of : Option (ℕ × Expression) → List (ℕ × ℕ)
pairs_of None = []
pairs_of (Some x) = block_pairs x.1

abbrev pub pairs_at : Expression → Place → List (ℕ × ℕ)
pairs_at tree (Block L) = pairs_of (block_with tree L)
pairs_at tree p = []

-- what the node of a number does
abbrev pub op_of : Option Expression → LogicOp
op_of None = Scan 0 []
op_of (Some t) = top_of t

-- the two steps of a Group or Top
abbrev pub first_step : LogicOp → LogicOp
first_step (Group args) = Partial args
first_step (Top args) = LocalTop args
first_step op = op

abbrev pub second_step : LogicOp → LogicOp
second_step (Group args) = Finish args
second_step (Top args) = LastTop args
second_step op = op

abbrev pub op_at : Expression → Kind → LogicOp
op_at tree (kind.Node n) = op_of (slice_get (nodes tree) n)
op_at tree (kind.Partial n) = first_step (op_of (slice_get (nodes tree) n))
op_at tree (kind.Finish n) = second_step (op_of (slice_get (nodes tree) n))
op_at tree kind.Join = Scan 0 []

-- the costs of nodes, by places
pub record Costs : Type 0 where
  pub leaf : PlanKind → Kind → ℕ
  pub one : PlanKind → Kind → Place → Delivered → ℕ
  pub two : PlanKind → Kind → Place → Place → Delivered → Delivered → ℕ
  pub enforcer : PlanKind → Place → Delivered → ℕ

-- the table of tree i
abbrev pub table_of : Env → Costs → (DagPlace → Facts) → ℕ → Expression → PlaceTable
table_of env costs known i tree = record {
  env = env;
  facts = λ p. known (dag_place i tree p);
  pairs = pairs_at tree;
  op = op_at tree;
  cost_leaf = costs.leaf;
  cost_one = costs.one;
  cost_two = costs.two;
  cost_enforcer = costs.enforcer;
}

-- these are the facts at the places of the Dag, by the facts that are lent for the shared results
abbrev pub AreKnown : List Facts → Dag → (DagPlace → Facts) → Type 0
AreKnown lent dag known = (p : DagPlace) (t : Expression) → IsAt dag p t → AreFactsOf lent t (known p)
