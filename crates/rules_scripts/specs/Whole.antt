-- Plans of all trees of a script, the shared ones first.
use Rattle.std.specs.Prelude.{◌≡◌, ◌<◌, ◌≤◌, ◌+◌, ℕ, zero, suc, nat_lt, Bool, true, false, List, take, length, Some, slice_get}
use Rattle.fd_closure.specs.declared.facts.Facts.{Facts}
use Rattle.structural_props.specs.declared.scheme.Scheme.{Scheme}
use Rattle.structural_props.specs.declared.property.Delivered.{Delivered}
use Rattle.logical_dag.specs.declared.dag.Dag.{Dag}
use Rattle.logical_dag.specs.declared.place.Place.{Place as DagPlace}
use Rattle.logical_trees.specs.Tree.{Expression}
use Rattle.logical_dag.specs.Scripts.{shared_trees, all_trees}
use Rattle.parts_plans.specs.Kinds.{Stream}
use Rattle.parts_plans.specs.Plans.{Plan, Env, Delivers}
use Rattle.rules_steps.specs.Steps.{Reaches}
use Rattle.rules_shapes.specs.Shapes.{Shape, top_number, shape_of, IsShaped}
use Rattle.rules_optimal.specs.Tables.{PlaceTable, Tells, IsBounded}
use Rattle.rules_tables.specs.Tables.{Costs, table_of}
use Rattle.rules_tables.specs.Scripts.{script_of, forms_of}
use Rattle.rules_space.specs.Space as rules
use Rattle.rules_space.specs.Place.{Place}
use Rattle.rules_space.specs.Memo.{Memo, Begins, IsClosed}
use Rattle.rules_space.specs.Steps.{IsStepped, IsPlacedFirst}

-- the terms below a number
abbrev pub sum_to : (ℕ → ℕ) → ℕ → ℕ
sum_to f zero = 0
sum_to f (suc n) = sum_to f n + f n

-- what plans of a script go by: the Dag, how many parts an exchange makes, the streams, the facts of the shared results and
-- those at each place of the Dag, what nodes of each tree cost where the shared results have these schemes, and what each output needs
pub record Setting : Type 0 where
  pub dag : Dag
  pub parts : ℕ
  pub streams : List Stream
  pub lent : List Facts
  pub known : DagPlace → Facts
  pub costs : List Scheme → ℕ → Costs
  pub need : ℕ → Delivered → Bool

abbrev pub tree_count : Setting → ℕ
tree_count W = length (all_trees W.dag)

-- tree t is planned under the schemes that the shared trees before it deliver
abbrev pub env_for : Setting → List Scheme → ℕ → Env
env_for W given t = record { parts = W.parts; streams = W.streams; schemes = take t given; lent = W.lent }

abbrev pub table_for : Setting → List Scheme → ℕ → Expression → PlaceTable
table_for W given t tree = table_of (env_for W given t) (W.costs given t) W.known t tree

-- what is wanted of the plan of a tree: a shared one delivers the scheme that is given for it, an output meets its need
abbrev pub IsWantedOf : Setting → List Scheme → ℕ → Delivered → Bool → Type 0
IsWantedOf W given t d true = slice_get given t ≡ Some d.scheme
IsWantedOf W given t d false = W.need t d ≡ true

abbrev pub IsWanted : Setting → List Scheme → ℕ → Delivered → Type 0
IsWanted W given t d = IsWantedOf W given t d (nat_lt t (length (shared_trees W.dag)))

-- the groups of a tree, and their bounds under each choice of schemes
pub record TreeGroups : Type 0 where
  pub tree : Expression
  pub memo : Memo
  pub at : ℕ → Place
  pub bound : List Scheme → ℕ → Delivered → ℕ

abbrev pub root_of : TreeGroups → ℕ
root_of c = top_number 0 c.tree

-- the groups are of tree t of the Dag: they begin with its nodes, each further expression is a rule step, each rule on each match is
-- listed, and no bound is too high
pub record AreTreeGroups (W : Setting) (t : ℕ) (c : TreeGroups) : Type 0 where
  pub there : slice_get (all_trees W.dag) t ≡ Some c.tree
  pub begins : Begins (forms_of c.tree) c.memo
  pub stepped : IsStepped (script_of c.tree) (forms_of c.tree) c.memo c.at
  pub placed : IsPlacedFirst c.memo c.at
  pub closed : IsClosed (script_of c.tree) c.memo c.at
  pub bounded : (given : List Scheme) → IsBounded (table_for W given t c.tree) c.memo c.at (c.bound given)

-- under no choice of schemes do the least bounds that are wanted sum to less
abbrev pub IsLeastSum : Setting → (ℕ → TreeGroups) → ℕ → Type 0
IsLeastSum W groups C = (given : List Scheme) → (least : ℕ → ℕ) × ((t : ℕ) (d : Delivered) → t < tree_count W → IsWanted W given t d → least t ≤ (groups t).bound given (root_of (groups t)) d) × (C ≤ sum_to least (tree_count W))

-- a plan of tree t that costs n: for an expression that steps reach, by a shape that it has; it delivers what is wanted
pub record IsPlanOf (W : Setting) (given : List Scheme) (t : ℕ) (tree : Expression) (p : Plan) (n : ℕ) : Type 0 where
  pub of : Expression
  pub reached : Reaches tree of
  pub shape : Shape
  pub path : rules.Reaches (script_of tree) (shape_of 0 tree) shape
  pub shaped : IsShaped 0 tree of shape
  pub gives : Delivered
  pub delivers : Delivers (env_for W given t) p of gives
  pub tells : Tells (table_for W given t tree) p of shape gives n
  pub wanted : IsWanted W given t gives
