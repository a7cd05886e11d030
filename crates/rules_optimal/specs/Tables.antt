-- Plans with their costs, by the places of what they implement, and bounds of groups.
use Rattle.std.specs.Prelude.{◌≡◌, ◌≢◌, ◌≤◌, ◌<◌, ◌+◌, ◌++◌, ℕ, Bool, true, false, List, []}
use Rattle.col_sets.specs.declared.dir.Dir.{Dir}
use Rattle.col_sets.specs.Sets.{within}
use Rattle.fd_closure.specs.declared.facts.Facts.{Facts}
use Rattle.structural_props.specs.declared.action.Action.{Action}
use Rattle.structural_props.specs.declared.scheme.Scheme.TheVariants.{Serial, Hash, Range, Copies}
use Rattle.structural_props.specs.Rows.{range_columns}
use Rattle.structural_props.specs.Kept.{sorted_actions}
use Rattle.prop_matching.specs.Worth.{matches_by}
use Rattle.structural_props.specs.declared.property.Delivered.{Delivered}
use Rattle.logical_trees.specs.declared.logic_op.LogicOp.{LogicOp}
use Rattle.logical_trees.specs.Tree.{Expression, leaf, one, two, columns_of}
use Rattle.logical_dag.specs.Facts.{AreFactsOf}
use Rattle.logical_trees.specs.Blocks.{IsPairing}
use Rattle.structural_props.specs.Named.{IsDealt}
use Rattle.structural_props.specs.Handed.{width, orders_of, has_rest}
use Rattle.parts_plans.specs.Kinds.{PlanKind, hash_any, hash_merge, range_any, one_any, one_merge, one_concat, sort, broadcast, one_fits, one_needs, one_delivers, TwoFits, HasPlace, left_needs, right_needs, two_delivers}
use Rattle.parts_plans.specs.Plans.{Plan, Env, Delivers}
use Rattle.rules_plans.specs.Alike.{EnforcerDelivers, NodeDelivers, PairDelivers}
use Rattle.rules_plans.specs.Laws.{is_enforcer}
use Rattle.rules_shapes.specs.Shapes.{Shape}
use Rattle.rules_space.specs.Tree as shape
use Rattle.rules_space.specs.declared.kind.Kind.{Kind}
use Rattle.rules_space.specs.declared.kind.Form.TheVariants.{Leaf as at_leaf, One as at_one, Two as at_two}
use Rattle.rules_space.specs.declared.kind.Kind.TheVariants as kind
use Rattle.rules_space.specs.Place.{Place, place}
use Rattle.rules_space.specs.Memo.{Memo, Lists}

-- what the nodes of plans go by: the facts at each place and the equalities of its block, what each kind of node of a group does,
-- and what nodes cost over children at these places that deliver this
pub record PlaceTable : Type 0 where
  pub env : Env
  pub facts : Place → Facts
  pub pairs : Place → List (ℕ × ℕ)
  pub op : Kind → LogicOp
  pub cost_leaf : PlanKind → Kind → ℕ
  pub cost_one : PlanKind → Kind → Place → Delivered → ℕ
  pub cost_two : PlanKind → Kind → Place → Place → Delivered → Delivered → ℕ
  pub cost_enforcer : PlanKind → Place → Delivered → ℕ

-- the operator of a node over rows of these columns: a Join by the equalities of the block at the place with a side in each, or
-- what its kind does
abbrev pub IsOpAt : PlaceTable → Kind → Place → List ℕ → List ℕ → LogicOp → Type 0
IsOpAt T kind.Join p left right op = IsPairing (T.pairs p) left right op
IsOpAt T k p left right op = op ≡ T.op k

-- each node of the expression has the facts at the place of its shape, and does what the kind there does
abbrev pub AreByPlace : PlaceTable → Expression → Shape → Type 0
AreByPlace T (leaf op) (shape.leaf k) = AreFactsOf T.env.lent (leaf op) (T.facts (place (shape.leaf k))) × (op ≡ T.op k)
AreByPlace T (one op t) (shape.one k s) = AreFactsOf T.env.lent (one op t) (T.facts (place (shape.one k s))) × (op ≡ T.op k) × AreByPlace T t s
AreByPlace T (two op t u) (shape.two k r s) =
    AreFactsOf T.env.lent (two op t u) (T.facts (place (shape.two k r s))) × IsOpAt T k (place (shape.two k r s)) (columns_of t) (columns_of u) op × AreByPlace T t r × AreByPlace T u s
AreByPlace T u s = ⊥

-- ---- plans with their costs

-- an enforcer, or a node for an operator, over a child that `below` tells of
abbrev pub StepTells : PlaceTable → PlanKind → Bool → (Expression → Shape → Delivered → ℕ → Type 0) → Expression → Shape → Delivered → ℕ → Type 0
StepTells T k true below u s d n = (h : Delivered) × (m : ℕ) × below u s h m × EnforcerDelivers T.env k u h d × (n ≡ T.cost_enforcer k (place s) h + m)
StepTells T k false below (one op t) (shape.one q r) d n = (h : Delivered) × (m : ℕ) × below t r h m × NodeDelivers T.env k op t h d × (n ≡ T.cost_one k q (place r) h + m)
StepTells T k false below u s d n = ⊥

-- the plan implements the expression, which has this shape, delivers d and costs n
abbrev pub Tells : PlaceTable → Plan → Expression → Shape → Delivered → ℕ → Type 0
Tells T (leaf k) u (shape.leaf q) d n = Delivers T.env (leaf k) u d × (n ≡ T.cost_leaf k q)
Tells T (leaf k) u s d n = ⊥
Tells T (one k p) u s d n = StepTells T k (is_enforcer k) (Tells T p) u s d n
Tells T (two k p q) (two op t u) (shape.two j r s) d n =
    (h g : Delivered) × (a b : ℕ) × Tells T p t r h a × Tells T q u s g b × PairDelivers T.env k op t u h g d × (n ≡ T.cost_two k j (place r) (place s) h g + (a + b))
Tells T (two k p q) u s d n = ⊥

-- ---- bounds

-- an enforcer over a child of these columns that delivers h, which isn't copies
abbrev pub EnforcerGives : List ℕ → PlanKind → Delivered → Delivered → Type 0
EnforcerGives cols (hash_any key) h d = IsDealt h.scheme × (within key cols ≡ true) × (d ≡ record { scheme = Hash key; local = [] })
EnforcerGives cols (hash_merge key keys rest) h d =
    IsDealt h.scheme × (within key cols ≡ true) × (keys ≡ orders_of h.local) × (rest ≡ has_rest h.local) × (sorted_actions keys rest ≢ []) × (d ≡ record { scheme = Hash key; local = sorted_actions keys rest })
EnforcerGives cols (range_any keys) h d = IsDealt h.scheme × (within (range_columns keys) cols ≡ true) × (d ≡ record { scheme = Range keys; local = [] })
EnforcerGives cols one_any h d = IsDealt h.scheme × (d ≡ record { scheme = Serial; local = [] })
EnforcerGives cols (one_merge keys rest) h d = IsDealt h.scheme × (keys ≡ orders_of h.local) × (rest ≡ has_rest h.local) × (sorted_actions keys rest ≢ []) × (d ≡ record { scheme = Serial; local = sorted_actions keys rest })
EnforcerGives cols one_concat h d =
    (keys : List (ℕ × Dir)) × (more : List Action) × IsDealt h.scheme × (h.scheme ≡ Range keys) × (h.local ≡ sorted_actions keys false ++ more) × (d ≡ record { scheme = Serial; local = h.local })
EnforcerGives cols (sort keys rest) h d = IsDealt h.scheme × (within (range_columns keys) cols ≡ true) × (d ≡ record { scheme = h.scheme; local = sorted_actions keys rest })
EnforcerGives cols (broadcast copies) h d = IsDealt h.scheme × (1 < copies) × (d ≡ record { scheme = Copies copies; local = [] })
EnforcerGives cols k h d = ⊥

-- every node and every enforcer costs at least the bound of what it delivers, over children that cost their bounds; needs are
-- tested with the facts at the places
pub record IsBounded (T : PlaceTable) (M : Memo) (at : ℕ → Place) (B : ℕ → Delivered → ℕ) : Type 0 where
  pub leaves : (g : ℕ) (q : Kind) (k : PlanKind) (d : Delivered) → Lists M g (at_leaf q) → Delivers T.env (leaf k) (leaf (T.op q)) d → B g d ≤ T.cost_leaf k q
  pub ones : (g h : ℕ) (q : Kind) (k : PlanKind) (have : Delivered) → Lists M g (at_one q h) → is_enforcer k ≡ false → one_fits k (T.op q) ≡ true
      → matches_by (T.facts (at h)) have (one_needs k (T.op q)) ≡ true
      → B g (one_delivers T.env.parts k (T.op q) have) ≤ T.cost_one k q (at h) have + B h have
  pub twos : (g h i : ℕ) (q : Kind) (k : PlanKind) (op : LogicOp) (have beside : Delivered) → Lists M g (at_two q h i)
      → IsOpAt T q (at g) (T.facts (at h)).columns (T.facts (at i)).columns op → TwoFits k op → HasPlace k (width T.env.parts have.scheme)
      → matches_by (T.facts (at h)) have (left_needs k op) ≡ true → matches_by (T.facts (at i)) beside (right_needs (width T.env.parts have.scheme) k op) ≡ true
      → B g (two_delivers T.env.parts op have) ≤ T.cost_two k q (at h) (at i) have beside + (B h have + B i beside)
  pub enforcers : (g : ℕ) (k : PlanKind) (have d : Delivered) → is_enforcer k ≡ true → EnforcerGives (T.facts (at g)).columns k have d → B g d ≤ T.cost_enforcer k (at g) have + B g have
