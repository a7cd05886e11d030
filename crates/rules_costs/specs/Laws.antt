-- Sizes and costs by place, as facts.
use Rattle.std.specs.Prelude.{◌≡◌, ℕ, false, List, Some, slice_get}
use Rattle.fd_closure.specs.declared.facts.Facts.{Facts}
use Rattle.structural_props.specs.declared.property.Delivered.{Delivered}
use Rattle.structural_props.specs.Actions.{In}
use Rattle.logical_dag.specs.declared.dag.Dag.{Dag}
use Rattle.logical_dag.specs.declared.place.Place.{Place as DagPlace}
use Rattle.logical_trees.specs.Tree.{Expression}
use Rattle.logical_trees.specs.Formed.{IsFormed}
use Rattle.logical_dag.specs.Scripts.{all_trees}
use Rattle.parts_plans.specs.Plans.{Plan, Env}
use Rattle.rules_shapes.specs.Shapes.{Shape, top_number, IsShaped}
use Rattle.rules_optimal.specs.Places.{numbered, tops}
use Rattle.rules_optimal.specs.Tables.{Tells}
use Rattle.rules_sizes.specs.Sizes.{Sizes}
use Rattle.rules_sizes.specs.Places.{ArePairsOf, AreSizesOf, AreSized}
use Rattle.rules_tables.specs.Tables.{block_with, dag_place, pairs_at, table_of, AreKnown}
use Rattle.rules_costs.specs.Places.{size_at, place_size}
use Rattle.rules_costs.specs.Costs.{CostModel, costs_at, PlanCosts}
use Rattle.rules_space.specs.Place.{Leaves, Whole, Half, Block}

-- the table's equalities are those of the blocks
abbrev pub HasPairs : Type 0
HasPairs = (tree : Expression) → ArePairsOf (pairs_at tree) tree

-- the sizes made of a tree are those at its places
abbrev pub HasSizes : Type 0
HasSizes = (Z : Sizes) (tree : Expression) → AreSizesOf Z (size_at Z tree) tree

-- so each node of what steps reach has the size made for its place
abbrev pub IsSizedByPlace : Type 0
IsSizedByPlace = (results : List (List ℕ)) (Z : Sizes) (tree u : Expression) (s : Shape) → IsFormed results tree → IsShaped 0 tree u s → AreSized Z (pairs_at tree) (size_at Z tree) u s

-- these are the sizes at the places of the Dag
abbrev pub IsSizeOfPlace : Type 0
IsSizeOfPlace = (Z : Sizes) (i : ℕ) (tree : Expression)
    → ((v : ℕ × Expression) → In v (numbered 0 tree) → (size_at Z tree (Whole (top_number v.0 v.1)) ≡ place_size Z tree (dag_place i tree (Whole (top_number v.0 v.1)))) × (size_at Z tree (Half (top_number v.0 v.1)) ≡ place_size Z tree (dag_place i tree (Half (top_number v.0 v.1)))))
    × ((x : ℕ × Expression) (L : Leaves) → In x (tops false 0 tree) → block_with tree L ≡ Some x → size_at Z tree (Block L) ≡ place_size Z tree (dag_place i tree (Block L)))

-- a plan that costs n by the estimates of what its nodes implement costs n by places
abbrev pub IsCostByPlaces : Type 0
IsCostByPlaces = (results : List (List ℕ)) (model : CostModel) (Z : Sizes) (env : Env) (dag : Dag) (known : DagPlace → Facts) (i : ℕ) (tree u : Expression) (s : Shape) (p : Plan) (d : Delivered) (n : ℕ)
    → slice_get (all_trees dag) i ≡ Some tree → IsFormed results tree → AreKnown env.lent dag known → IsShaped 0 tree u s
    → PlanCosts model Z env tree p u s d n → Tells (table_of env (costs_at model Z env tree) known i tree) p u s d n

-- and the other way round
abbrev pub IsCostByEstimates : Type 0
IsCostByEstimates = (results : List (List ℕ)) (model : CostModel) (Z : Sizes) (env : Env) (dag : Dag) (known : DagPlace → Facts) (i : ℕ) (tree u : Expression) (s : Shape) (p : Plan) (d : Delivered) (n : ℕ)
    → slice_get (all_trees dag) i ≡ Some tree → IsFormed results tree → AreKnown env.lent dag known → IsShaped 0 tree u s
    → Tells (table_of env (costs_at model Z env tree) known i tree) p u s d n → PlanCosts model Z env tree p u s d n
