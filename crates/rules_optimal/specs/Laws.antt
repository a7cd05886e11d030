-- What bounds of groups say of plans, as facts.
use Rattle.std.specs.Prelude.{◌≡◌, ◌≤◌, ℕ, Bool, true, List}
use Rattle.structural_props.specs.declared.property.Delivered.{Delivered}
use Rattle.logical_trees.specs.Tree.{Expression}
use Rattle.logical_trees.specs.Formed.{IsFormed}
use Rattle.parts_plans.specs.Plans.{Plan, Delivers}
use Rattle.rules_steps.specs.Steps.{Reaches}
use Rattle.rules_shapes.specs.Shapes.{Shape, shape_of, IsShaped, IsScriptOf, IsJustScriptOf}
use Rattle.rules_optimal.specs.Tables.{PlaceTable, AreByPlace, Tells, IsBounded}
use Rattle.rules_optimal.specs.Places.{IsTableOf}
use Rattle.rules_optimal.specs.Listed.{IsListed}
use Rattle.rules_space.specs.declared.kind.Form.{Form}
use Rattle.rules_space.specs.Place.{Script, Place, place}
use Rattle.rules_space.specs.Memo.{Memo, In, IsClosed, IsTreeOf}
use Rattle.rules_space.specs.Steps.{IsMemo}

-- a plan that delivers has a cost
abbrev pub HasItsCost : Type 0
HasItsCost = (T : PlaceTable) (p : Plan) (u : Expression) (s : Shape) (d : Delivered) → AreByPlace T u s → Delivers T.env p u d → (n : ℕ) × Tells T p u s d n

-- and costs at least the bound of its group
abbrev pub IsAtLeastBound : Type 0
IsAtLeastBound = (T : PlaceTable) (M : Memo) (at : ℕ → Place) (B : ℕ → Delivered → ℕ) → ((g : ℕ) (s : Shape) → In M g s → place s ≡ at g) → IsBounded T M at B
    → (p : Plan) (g : ℕ) (u : Expression) (s : Shape) (d : Delivered) (n : ℕ) → In M g s → AreByPlace T u s → Tells T p u s d n → B g d ≤ n

-- each node of what steps reach has the facts at the place of its shape, and does what the kind there does
abbrev pub IsByPlace : Type 0
IsByPlace = (results : List (List ℕ)) (T : PlaceTable) (tree u : Expression) (s : Shape) → IsFormed results tree → IsTableOf T tree → IsShaped 0 tree u s → AreByPlace T u s

-- what is known of groups, for the tree of a script
pub record AreGroupsOf (results : List (List ℕ)) (T : PlaceTable) (S : Script) (dag : List Form) (M : Memo) (at : ℕ → Place) (root : ℕ) (tree : Expression) : Type 0 where
  pub memo : IsMemo S dag M at
  pub closed : IsClosed S M at
  pub formed : IsFormed results tree
  pub script : IsScriptOf S 0 tree
  pub just : IsJustScriptOf S 0 tree
  pub begins : IsTreeOf dag root (shape_of 0 tree)
  pub table : IsTableOf T tree

-- where no bound of the root that meets the need is below C, no plan for an expression that steps reach meets it for less
abbrev pub NoPlanCostsLess : Type 0
NoPlanCostsLess = (results : List (List ℕ)) (T : PlaceTable) (S : Script) (dag : List Form) (M : Memo) (at : ℕ → Place) (B : ℕ → Delivered → ℕ) (root C : ℕ) (need : Delivered → Bool) (tree : Expression)
    → AreGroupsOf results T S dag M at root tree → IsBounded T M at B → ((d : Delivered) → need d ≡ true → C ≤ B root d)
    → (u : Expression) → Reaches tree u
    → (s : Shape) × IsShaped 0 tree u s
    × ((p : Plan) (d : Delivered) → Delivers T.env p u d → (n : ℕ) × Tells T p u s d n)
    × ((p : Plan) (d : Delivered) (n : ℕ) → Tells T p u s d n → need d ≡ true → C ≤ n)

-- a plan of listed expressions is one for an expression that steps reach from the tree
abbrev pub PlanIsInSpace : Type 0
PlanIsInSpace = (results : List (List ℕ)) (T : PlaceTable) (S : Script) (dag : List Form) (M : Memo) (at : ℕ → Place) (root : ℕ) (tree : Expression) → AreGroupsOf results T S dag M at root tree
    → (p : Plan) (s : Shape) (d : Delivered) (n : ℕ) → IsListed T M at p root s d n
    → (u : Expression) × Reaches tree u × Delivers T.env p u d × Tells T p u s d n
