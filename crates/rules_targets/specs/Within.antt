-- Plans that keep conditions, and bounds over such nodes.
use Rattle.std.specs.Prelude.{◌≡◌, ◌≤◌, ◌+◌, ℕ, Bool, true, false, List, Some, slice_get}
use Rattle.structural_props.specs.declared.scheme.Scheme.{Scheme}
use Rattle.structural_props.specs.declared.property.Delivered.{Delivered}
use Rattle.prop_matching.specs.Worth.{matches_by}
use Rattle.logical_trees.specs.declared.logic_op.LogicOp.{LogicOp}
use Rattle.logical_trees.specs.Tree.{leaf, one, two}
use Rattle.logical_dag.specs.Scripts.{all_trees}
use Rattle.structural_props.specs.Handed.{width}
use Rattle.parts_plans.specs.Kinds.{PlanKind, one_fits, one_needs, one_delivers, TwoFits, HasPlace, left_needs, right_needs, two_delivers}
use Rattle.parts_plans.specs.Plans.{Plan, Delivers}
use Rattle.rules_plans.specs.Laws.{is_enforcer}
use Rattle.rules_shapes.specs.Shapes.{Shape}
use Rattle.rules_optimal.specs.Tables.{PlaceTable, IsOpAt, EnforcerGives}
use Rattle.rules_tables.specs.Scripts.{script_of, forms_of}
use Rattle.rules_scripts.specs.Whole.{Setting, table_for, TreeGroups, root_of}
use Rattle.rules_choices.specs.Choices.{Listing, are_listed}
use Rattle.rules_targets.specs.Targets.{Conditions}
use Rattle.rules_space.specs.Tree as shape
use Rattle.rules_space.specs.declared.kind.Kind.{Kind}
use Rattle.rules_space.specs.declared.kind.Form.TheVariants.{Leaf as at_leaf, One as at_one, Two as at_two}
use Rattle.rules_space.specs.Place.{Place}
use Rattle.rules_space.specs.Memo.{Memo, Lists, Begins, IsClosed}
use Rattle.rules_space.specs.Steps.{IsStepped, IsPlacedFirst}

-- each node of the plan keeps the conditions, beside the shape of what it implements
abbrev pub StepKeeps : Conditions → PlanKind → Bool → (Shape → Type 0) → Shape → Type 0
StepKeeps K k true below s = (K.enforcer k ≡ true) × below s
StepKeeps K k false below (shape.one q r) = (K.one k q ≡ true) × below r
StepKeeps K k false below s = ⊥

abbrev pub Keeps : Conditions → Plan → Shape → Type 0
Keeps K (leaf k) s = Unit {0}
Keeps K (one k p) s = StepKeeps K k (is_enforcer k) (Keeps K p) s
Keeps K (two k p q) (shape.two j r s) = (K.two k j ≡ true) × Keeps K p r × Keeps K q s
Keeps K (two k p q) s = ⊥

-- every node and every enforcer that keeps the conditions costs at least the bound of what it delivers, and no bound is above C
pub record IsBoundedWithin (K : Conditions) (C : ℕ) (T : PlaceTable) (M : Memo) (at : ℕ → Place) (B : ℕ → Delivered → ℕ) : Type 0 where
  pub capped : (g : ℕ) (d : Delivered) → B g d ≤ C
  pub leaves : (g : ℕ) (q : Kind) (k : PlanKind) (d : Delivered) → Lists M g (at_leaf q) → Delivers T.env (leaf k) (leaf (T.op q)) d → B g d ≤ T.cost_leaf k q
  pub ones : (g h : ℕ) (q : Kind) (k : PlanKind) (have : Delivered) → Lists M g (at_one q h) → is_enforcer k ≡ false → K.one k q ≡ true → one_fits k (T.op q) ≡ true
      → matches_by (T.facts (at h)) have (one_needs k (T.op q)) ≡ true
      → B g (one_delivers T.env.parts k (T.op q) have) ≤ T.cost_one k q (at h) have + B h have
  pub twos : (g h i : ℕ) (q : Kind) (k : PlanKind) (op : LogicOp) (have beside : Delivered) → Lists M g (at_two q h i) → K.two k q ≡ true
      → IsOpAt T q (at g) (T.facts (at h)).columns (T.facts (at i)).columns op → TwoFits k op → HasPlace k (width T.env.parts have.scheme)
      → matches_by (T.facts (at h)) have (left_needs k op) ≡ true → matches_by (T.facts (at i)) beside (right_needs (width T.env.parts have.scheme) k op) ≡ true
      → B g (two_delivers T.env.parts op have) ≤ T.cost_two k q (at h) (at i) have beside + (B h have + B i beside)
  pub enforcers : (g : ℕ) (k : PlanKind) (have d : Delivered) → is_enforcer k ≡ true → K.enforcer k ≡ true → EnforcerGives (T.facts (at g)).columns k have d
      → B g d ≤ T.cost_enforcer k (at g) have + B g have

-- the groups of tree t, bounded over nodes that keep its conditions
pub record AreGroupsWithin (W : Setting) (K : Conditions) (C : ℕ) (t : ℕ) (c : TreeGroups) : Type 0 where
  pub there : slice_get (all_trees W.dag) t ≡ Some c.tree
  pub begins : Begins (forms_of c.tree) c.memo
  pub stepped : IsStepped (script_of c.tree) (forms_of c.tree) c.memo c.at
  pub placed : IsPlacedFirst c.memo c.at
  pub closed : IsClosed (script_of c.tree) c.memo c.at
  pub bounded : (given : List Scheme) → IsBoundedWithin K C (table_for W given t c.tree) c.memo c.at (c.bound given)

-- the same under listed schemes alone; a scheme of its own that is not listed has no bound below C
pub record AreGroupsListedWithin (W : Setting) (K : Conditions) (listed : Listing) (C : ℕ) (t : ℕ) (c : TreeGroups) : Type 0 where
  pub there : slice_get (all_trees W.dag) t ≡ Some c.tree
  pub begins : Begins (forms_of c.tree) c.memo
  pub stepped : IsStepped (script_of c.tree) (forms_of c.tree) c.memo c.at
  pub placed : IsPlacedFirst c.memo c.at
  pub closed : IsClosed (script_of c.tree) c.memo c.at
  pub bounded : (given : List Scheme) → are_listed W listed given t ≡ true → IsBoundedWithin K C (table_for W given t c.tree) c.memo c.at (c.bound given)
  pub unlisted : (given : List Scheme) (d : Delivered) → are_listed W listed given t ≡ true → listed t d.scheme ≡ false → C ≤ c.bound given (root_of c) d
