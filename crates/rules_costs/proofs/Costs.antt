-- Costs by estimates are costs by places.
use Rattle.std.proofs.Common.{◌≡◌, ◌+◌, ℕ, Bool, true, false, sym, ap, ap₂, ◌∙◌}
use Rattle.fd_closure.specs.declared.facts.Facts.{Facts}
use Rattle.structural_props.specs.declared.property.Delivered.{Delivered}
use Rattle.logical_dag.specs.declared.place.Place.{Place as DagPlace}
use Rattle.logical_trees.specs.declared.logic_op.LogicOp.{LogicOp}
use Rattle.logical_trees.specs.declared.logic_op.LogicOp.TheVariants.{Scan, Ref}
use Rattle.logical_trees.specs.Tree.{Expression, leaf, one, two}
use Rattle.parts_plans.specs.Kinds.{PlanKind, scan, ref}
use Rattle.parts_plans.specs.Plans.{Plan, Env, Delivers}
use Rattle.rules_plans.specs.Laws.{is_enforcer}
use Rattle.rules_shapes.specs.Shapes.{Shape}
use Rattle.rules_optimal.specs.Tables.{PlaceTable, AreByPlace, Tells, StepTells}
use Rattle.rules_optimal.proofs.ByPlace.{by_place}
use Rattle.rules_sizes.specs.Sizes.{Size, Sizes}
use Rattle.rules_sizes.specs.Places.{AreSized}
use Rattle.rules_tables.specs.Tables.{pairs_at, table_of}
use Rattle.rules_tables.proofs.Table.{table_is}
use Rattle.rules_costs.specs.Places.{size_at}
use Rattle.rules_costs.specs.Costs.{CostModel, leaf_delivers, costs_at, estimate, StepCosts, PlanCosts}
use Rattle.rules_costs.specs.Laws.{IsCostByPlaces, IsCostByEstimates}
use Rattle.rules_costs.proofs.Places.{sized_by_place}
use Rattle.rules_space.specs.Tree as shape
use Rattle.rules_space.specs.Place.{place}

-- what a node without children delivers goes by its operator
leaf_gives : (env : Env) (k : PlanKind) (op : LogicOp) (d : Delivered) → Delivers env (leaf k) (leaf op) d → d ≡ leaf_delivers env op
leaf_gives env scan (Scan i cols) d m = m.1
leaf_gives env ref (Ref i cols) d m = m
leaf_gives env k op d m = absurd m

module _ (model : CostModel) (Z : Sizes) (env : Env) (known : DagPlace → Facts) (i : ℕ) (tree : Expression) where
  abbrev T : PlaceTable
  T = table_of env (costs_at model Z env tree) known i tree

  abbrev IsSizedHere : Expression → Shape → Type 0
  IsSizedHere u s = AreSized Z (pairs_at tree) (size_at Z tree) u s

  rows_here : (u : Expression) (s : Shape) → IsSizedHere u s → estimate Z tree u s ≡ (size_at Z tree (place s)).rows
  rows_here (leaf op) (shape.leaf k) h = ap (λ (x : Size). x.rows) h
  rows_here (one op t) (shape.one k s) h = ap (λ (x : Size). x.rows) h.0
  rows_here (two op t u) (shape.two k r s) h = ap (λ (x : Size). x.rows) h.0
  rows_here (leaf op) (shape.one k s) h = absurd h
  rows_here (leaf op) (shape.two k r s) h = absurd h
  rows_here (one op t) (shape.leaf k) h = absurd h
  rows_here (one op t) (shape.two k r s) h = absurd h
  rows_here (two op t u) (shape.leaf k) h = absurd h
  rows_here (two op t u) (shape.one k s) h = absurd h

  leaf_same : (k : PlanKind) (op : LogicOp) (q : _) (d : Delivered) → AreByPlace T (leaf op) (shape.leaf q) → IsSizedHere (leaf op) (shape.leaf q) → Delivers env (leaf k) (leaf op) d
      → model.leaf k (estimate Z tree (leaf op) (shape.leaf q)) d ≡ T.cost_leaf k q
  leaf_same k op q d a z m = ap₂ (model.leaf k) (rows_here (leaf op) (shape.leaf q) z) (leaf_gives env k op d m ∙ ap (leaf_delivers env) a.1)

  abbrev Costing : Type 1
  Costing = Expression → Shape → Delivered → ℕ → Type 0

  -- one way of costing a plan is another
  abbrev Turns : Costing → Costing → Type 0
  Turns P Q = (u : Expression) (s : Shape) (d : Delivered) (n : ℕ) → AreByPlace T u s → IsSizedHere u s → P u s d n → Q u s d n

  step_there : (k : PlanKind) (b : Bool) (P Q : Costing) → Turns P Q → Turns (StepCosts model Z env tree k b P) (StepTells T k b Q)
  step_there k true P Q h u s d n a z m = (m.0, m.1, h u s m.0 m.1 a z m.2, m.3, m.4 ∙ ap (λ r. model.enforcer k r m.0 + m.1) (rows_here u s z))
  step_there k false P Q h (one op t) (shape.one q r) d n a z m = (m.0, m.1, h t r m.0 m.1 a.2 z.1 m.2, m.3, m.4 ∙ ap (λ x. model.one k x m.0 + m.1) (rows_here t r z.1))
  step_there k false P Q h (one op t) (shape.leaf q) d n a z m = absurd m
  step_there k false P Q h (one op t) (shape.two q r s) d n a z m = absurd m
  step_there k false P Q h (leaf op) s d n a z m = absurd m
  step_there k false P Q h (two op t u) s d n a z m = absurd m

  step_back : (k : PlanKind) (b : Bool) (P Q : Costing) → Turns Q P → Turns (StepTells T k b Q) (StepCosts model Z env tree k b P)
  step_back k true P Q h u s d n a z m = (m.0, m.1, h u s m.0 m.1 a z m.2, m.3, m.4 ∙ ap (λ r. model.enforcer k r m.0 + m.1) (sym (rows_here u s z)))
  step_back k false P Q h (one op t) (shape.one q r) d n a z m = (m.0, m.1, h t r m.0 m.1 a.2 z.1 m.2, m.3, m.4 ∙ ap (λ x. model.one k x m.0 + m.1) (sym (rows_here t r z.1)))
  step_back k false P Q h (one op t) (shape.leaf q) d n a z m = absurd m
  step_back k false P Q h (one op t) (shape.two q r s) d n a z m = absurd m
  step_back k false P Q h (leaf op) s d n a z m = absurd m
  step_back k false P Q h (two op t u) s d n a z m = absurd m

  there : (p : Plan) → Turns (PlanCosts model Z env tree p) (Tells T p)
  there (leaf k) (leaf op) (shape.leaf q) d n a z m = (m.0, m.1 ∙ leaf_same k op q d a z m.0)
  there (leaf k) (one op t) (shape.leaf q) d n a z m = absurd z
  there (leaf k) (two op t u) (shape.leaf q) d n a z m = absurd z
  there (leaf k) u (shape.one q s) d n a z m = absurd m
  there (leaf k) u (shape.two q r s) d n a z m = absurd m
  there (one k p) u s d n a z m = step_there k (is_enforcer k) (PlanCosts model Z env tree p) (Tells T p) (there p) u s d n a z m
  there (two k p q) (two op t u) (shape.two j r s) d n a z m = (
    m.0,
    m.1,
    m.2,
    m.3,
    there p t r m.0 m.2 a.2 z.1 m.4,
    there q u s m.1 m.3 a.3 z.2 m.5,
    m.6,
    m.7 ∙ ap₂ (λ x y. model.two k x y m.0 m.1 + (m.2 + m.3)) (rows_here t r z.1) (rows_here u s z.2),
  )
  there (two k p q) (two op t u) (shape.leaf j) d n a z m = absurd m
  there (two k p q) (two op t u) (shape.one j r) d n a z m = absurd m
  there (two k p q) (one op t) s d n a z m = absurd m
  there (two k p q) (leaf op) s d n a z m = absurd m

  back : (p : Plan) → Turns (Tells T p) (PlanCosts model Z env tree p)
  back (leaf k) (leaf op) (shape.leaf q) d n a z m = (m.0, m.1 ∙ sym (leaf_same k op q d a z m.0))
  back (leaf k) (one op t) (shape.leaf q) d n a z m = absurd z
  back (leaf k) (two op t u) (shape.leaf q) d n a z m = absurd z
  back (leaf k) u (shape.one q s) d n a z m = absurd m
  back (leaf k) u (shape.two q r s) d n a z m = absurd m
  back (one k p) u s d n a z m = step_back k (is_enforcer k) (PlanCosts model Z env tree p) (Tells T p) (back p) u s d n a z m
  back (two k p q) (two op t u) (shape.two j r s) d n a z m = (
    m.0,
    m.1,
    m.2,
    m.3,
    back p t r m.0 m.2 a.2 z.1 m.4,
    back q u s m.1 m.3 a.3 z.2 m.5,
    m.6,
    m.7 ∙ ap₂ (λ x y. model.two k x y m.0 m.1 + (m.2 + m.3)) (sym (rows_here t r z.1)) (sym (rows_here u s z.2)),
  )
  back (two k p q) (two op t u) (shape.leaf j) d n a z m = absurd m
  back (two k p q) (two op t u) (shape.one j r) d n a z m = absurd m
  back (two k p q) (one op t) s d n a z m = absurd m
  back (two k p q) (leaf op) s d n a z m = absurd m

pub by_places : IsCostByPlaces
by_places results model Z env dag known i tree u s p d n there_is h are g m =
    there model Z env known i tree p u s d n
    (by_place results (table_of env (costs_at model Z env tree) known i tree) tree (table_is env (costs_at model Z env tree) dag known i tree there_is are) u s h g)
    (sized_by_place results Z tree u s h g) m

pub by_estimates : IsCostByEstimates
by_estimates results model Z env dag known i tree u s p d n there_is h are g m =
    back model Z env known i tree p u s d n
    (by_place results (table_of env (costs_at model Z env tree) known i tree) tree (table_is env (costs_at model Z env tree) dag known i tree there_is are) u s h g)
    (sized_by_place results Z tree u s h g) m
