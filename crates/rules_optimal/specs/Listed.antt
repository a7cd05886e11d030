-- A plan of the expressions that groups list.
use Rattle.std.specs.Prelude.{◌≡◌, ◌+◌, ℕ, Bool, true, false}
use Rattle.structural_props.specs.declared.property.Delivered.{Delivered}
use Rattle.prop_matching.specs.Worth.{matches_by}
use Rattle.logical_trees.specs.declared.logic_op.LogicOp.{LogicOp}
use Rattle.logical_trees.specs.Tree.{leaf, one, two}
use Rattle.structural_props.specs.Handed.{width}
use Rattle.parts_plans.specs.Kinds.{PlanKind, one_fits, one_needs, one_delivers, TwoFits, HasPlace, left_needs, right_needs, two_delivers}
use Rattle.parts_plans.specs.Plans.{Plan, Delivers}
use Rattle.rules_plans.specs.Laws.{is_enforcer}
use Rattle.rules_shapes.specs.Shapes.{Shape}
use Rattle.rules_optimal.specs.Tables.{PlaceTable, IsOpAt, EnforcerGives}
use Rattle.rules_space.specs.Tree as shape
use Rattle.rules_space.specs.declared.kind.Form.TheVariants.{Leaf as at_leaf, One as at_one, Two as at_two}
use Rattle.rules_space.specs.Place.{Place}
use Rattle.rules_space.specs.Memo.{Memo, Lists}

-- an enforcer over a listed plan of the group, or a node for an expression that the group lists
abbrev pub StepListed : PlaceTable → Memo → (ℕ → Place) → PlanKind → Bool → (ℕ → Shape → Delivered → ℕ → Type 0) → ℕ → Shape → Delivered → ℕ → Type 0
StepListed T M at k true below g s d n = (h : Delivered) × (m : ℕ) × below g s h m × EnforcerGives (T.facts (at g)).columns k h d × (n ≡ T.cost_enforcer k (at g) h + m)
StepListed T M at k false below g (shape.one q r) d n =
    (i : ℕ) × (h : Delivered) × (m : ℕ) × below i r h m × Lists M g (at_one q i) × (one_fits k (T.op q) ≡ true) × (matches_by (T.facts (at i)) h (one_needs k (T.op q)) ≡ true)
    × (d ≡ one_delivers T.env.parts k (T.op q) h) × (n ≡ T.cost_one k q (at i) h + m)
StepListed T M at k false below g s d n = ⊥

-- the plan is of the listed expressions of this shape, each need is met by the facts at the places, it delivers d and costs n
abbrev pub IsListed : PlaceTable → Memo → (ℕ → Place) → Plan → ℕ → Shape → Delivered → ℕ → Type 0
IsListed T M at (leaf k) g (shape.leaf q) d n = Lists M g (at_leaf q) × Delivers T.env (leaf k) (leaf (T.op q)) d × (n ≡ T.cost_leaf k q)
IsListed T M at (leaf k) g s d n = ⊥
IsListed T M at (one k p) g s d n = StepListed T M at k (is_enforcer k) (IsListed T M at p) g s d n
IsListed T M at (two k p q) g (shape.two j r s) d n =
    (x y : ℕ) × (h b : Delivered) × (l m : ℕ) × (op : LogicOp) × IsListed T M at p x r h l × IsListed T M at q y s b m × Lists M g (at_two j x y)
    × IsOpAt T j (at g) (T.facts (at x)).columns (T.facts (at y)).columns op × TwoFits k op × HasPlace k (width T.env.parts h.scheme)
    × (matches_by (T.facts (at x)) h (left_needs k op) ≡ true) × (matches_by (T.facts (at y)) b (right_needs (width T.env.parts h.scheme) k op) ≡ true)
    × (d ≡ two_delivers T.env.parts op h) × (n ≡ T.cost_two k j (at x) (at y) h b + (l + m))
IsListed T M at (two k p q) g s d n = ⊥
