-- Every plan costs at least the bound of its group.
use Rattle.std.proofs.Common.{◌≡◌, ◌≤◌, ◌+◌, ℕ, Bool, true, false, List, refl, sym, ap, ◌∙◌, subst, arith}
use Rattle.fd_closure.specs.declared.facts.Facts.{Facts}
use Rattle.structural_props.specs.declared.property.Delivered.{Delivered}
use Rattle.structural_props.specs.declared.property.Required.{Required}
use Rattle.prop_matching.specs.Worth.{matches_by}
use Rattle.logical_trees.specs.declared.logic_op.LogicOp.{LogicOp}
use Rattle.logical_trees.specs.Tree.{Expression, leaf, one, two, columns_of}
use Rattle.logical_dag.specs.Facts.{AreFactsOf}
use Rattle.structural_props.specs.Handed.{width}
use Rattle.parts_plans.specs.Kinds.{PlanKind, scan, ref, hash_any, hash_merge, range_any, one_any, one_merge, one_concat, sort, broadcast, one_fits, one_needs, one_delivers, left_needs, right_needs}
use Rattle.parts_plans.specs.Plans.{Plan, Env, IsMet, StepDelivers, Delivers}
use Rattle.parts_plans.proofs.OneProperty.{matches_alike}
use Rattle.rules_plans.specs.Alike.{EnforcerDelivers, NodeDelivers}
use Rattle.rules_plans.specs.Laws.{is_enforcer}
use Rattle.rules_shapes.specs.Shapes.{Shape, shape_of}
use Rattle.rules_shapes.proofs.Shaped.{reached_shaped}
use Rattle.rules_optimal.specs.Tables.{PlaceTable, IsOpAt, AreByPlace, StepTells, Tells, EnforcerGives, IsBounded}
use Rattle.rules_optimal.specs.Laws.{NoPlanCostsLess}
use Rattle.rules_optimal.proofs.ByPlace.{by_place}
use Rattle.rules_space.specs.Tree as shape
use Rattle.rules_space.specs.declared.kind.Kind.{Kind}
use Rattle.rules_space.specs.Place.{Place, place}
use Rattle.rules_space.specs.Memo.{Memo, In}
use Rattle.rules_space.proofs.Whole.{represented}
use Rattle.rules_space.proofs.Sound.{found}

-- ---- a plan that delivers has a cost

-- an enforcer's child delivers for the same expression
enforcer_over : (env : Env) (k : PlanKind) (below : Expression → Delivered → Type 0) (u : Expression) (d : Delivered) → is_enforcer k ≡ true → StepDelivers env k below u d
    → (h : Delivered) × below u h × EnforcerDelivers env k u h d
enforcer_over env (hash_any key) below u d e m = (m.0, m.1.0, (m.0, (refl, m.1.1), m.2, m.3))
enforcer_over env (hash_merge key keys rest) below u d e m = (m.0, m.1.0, (m.0, (refl, m.1.1), m.2, m.3, m.4, m.5, m.6))
enforcer_over env (range_any keys) below u d e m = (m.0, m.1.0, (m.0, (refl, m.1.1), m.2, m.3))
enforcer_over env one_any below u d e m = (m.0, m.1.0, (m.0, (refl, m.1.1), m.2))
enforcer_over env (one_merge keys rest) below u d e m = (m.0, m.1.0, (m.0, (refl, m.1.1), m.2, m.3, m.4, m.5))
enforcer_over env one_concat below u d e m = (m.0, m.3.0, (m.0, m.1, m.2, (refl, m.3.1), m.4, m.5, m.6))
enforcer_over env (sort keys rest) below u d e m = (m.0, m.1.0, (m.0, (refl, m.1.1), m.2, m.3))
enforcer_over env (broadcast copies) below u d e m = (m.0, m.1.0, (m.0, (refl, m.1.1), m.2, m.3))
enforcer_over env k below u d e m = absurd (cc)

-- another node's child delivers for the child of the expression
node_over : (env : Env) (k : PlanKind) (below : Expression → Delivered → Type 0) (op : LogicOp) (t : Expression) (d : Delivered) → is_enforcer k ≡ false → StepDelivers env k below (one op t) d
    → (h : Delivered) × below t h × NodeDelivers env k op t h d
node_over env (hash_any key) below op t d e m = absurd (cc)
node_over env (hash_merge key keys rest) below op t d e m = absurd (cc)
node_over env (range_any keys) below op t d e m = absurd (cc)
node_over env one_any below op t d e m = absurd (cc)
node_over env (one_merge keys rest) below op t d e m = absurd (cc)
node_over env one_concat below op t d e m = absurd (cc)
node_over env (sort keys rest) below op t d e m = absurd (cc)
node_over env (broadcast copies) below op t d e m = absurd (cc)
node_over env k below op t d e m = (m.0, m.1, (m.0, refl, m.2, m.3, m.4))

-- and it implements such an expression alone
node_leaf : (env : Env) (k : PlanKind) (below : Expression → Delivered → Type 0) (op : LogicOp) (d : Delivered) → is_enforcer k ≡ false → StepDelivers env k below (leaf op) d → ⊥
node_leaf env (hash_any key) below op d e m = absurd (cc)
node_leaf env (hash_merge key keys rest) below op d e m = absurd (cc)
node_leaf env (range_any keys) below op d e m = absurd (cc)
node_leaf env one_any below op d e m = absurd (cc)
node_leaf env (one_merge keys rest) below op d e m = absurd (cc)
node_leaf env one_concat below op d e m = absurd (cc)
node_leaf env (sort keys rest) below op d e m = absurd (cc)
node_leaf env (broadcast copies) below op d e m = absurd (cc)
node_leaf env k below op d e m = m

node_two : (env : Env) (k : PlanKind) (below : Expression → Delivered → Type 0) (op : LogicOp) (t u : Expression) (d : Delivered) → is_enforcer k ≡ false → StepDelivers env k below (two op t u) d → ⊥
node_two env (hash_any key) below op t u d e m = absurd (cc)
node_two env (hash_merge key keys rest) below op t u d e m = absurd (cc)
node_two env (range_any keys) below op t u d e m = absurd (cc)
node_two env one_any below op t u d e m = absurd (cc)
node_two env (one_merge keys rest) below op t u d e m = absurd (cc)
node_two env one_concat below op t u d e m = absurd (cc)
node_two env (sort keys rest) below op t u d e m = absurd (cc)
node_two env (broadcast copies) below op t u d e m = absurd (cc)
node_two env k below op t u d e m = m

-- a leaf of a plan implements a leaf alone
leaf_none : (env : Env) (k : PlanKind) (op : LogicOp) (t : Expression) (d : Delivered) → Delivers env (leaf k) (one op t) d → ⊥
leaf_none env k op t d m = no_leaf k m
  where
    no_leaf : (k : PlanKind) → Delivers env (leaf k) (one op t) d → ⊥
    no_leaf scan m = m
    no_leaf ref m = m
    no_leaf k m = m

leaf_nothing : (env : Env) (k : PlanKind) (op : LogicOp) (t u : Expression) (d : Delivered) → Delivers env (leaf k) (two op t u) d → ⊥
leaf_nothing env k op t u d m = no_leaf k m
  where
    no_leaf : (k : PlanKind) → Delivers env (leaf k) (two op t u) d → ⊥
    no_leaf scan m = m
    no_leaf ref m = m
    no_leaf k m = m

module _ (T : PlaceTable) where
  abbrev IsPriced : (Expression → Delivered → Type 0) → (Expression → Shape → Delivered → ℕ → Type 0) → Type 0
  IsPriced Below Costs = (u : Expression) (s : Shape) (d : Delivered) → AreByPlace T u s → Below u d → (n : ℕ) × Costs u s d n

  step_priced : (k : PlanKind) (Below : Expression → Delivered → Type 0) (Costs : Expression → Shape → Delivered → ℕ → Type 0) → IsPriced Below Costs → (b : Bool) → is_enforcer k ≡ b
      → (u : Expression) (s : Shape) (d : Delivered) → AreByPlace T u s → StepDelivers T.env k Below u d → (n : ℕ) × StepTells T k b Costs u s d n
  step_priced k Below Costs h true e u s d a m =
      let o = enforcer_over T.env k Below u d e m in
      let c = h u s o.0 a o.1 in
      (T.cost_enforcer k (place s) o.0 + c.0, (o.0, c.0, c.1, o.2, refl))
  step_priced k Below Costs h false e (one op t) (shape.one q r) d a m =
      let o = node_over T.env k Below op t d e m in
      let c = h t r o.0 a.2 o.1 in
      (T.cost_one k q (place r) o.0 + c.0, (o.0, c.0, c.1, o.2, refl))
  step_priced k Below Costs h false e (one op t) (shape.leaf q) d a m = absurd a
  step_priced k Below Costs h false e (one op t) (shape.two q r s) d a m = absurd a
  step_priced k Below Costs h false e (leaf op) s d a m = absurd (node_leaf T.env k Below op d e m)
  step_priced k Below Costs h false e (two op t u) s d a m = absurd (node_two T.env k Below op t u d e m)

  pub priced : (p : Plan) → IsPriced (Delivers T.env p) (Tells T p)
  priced (leaf k) (leaf op) (shape.leaf q) d a m = (T.cost_leaf k q, (m, refl))
  priced (leaf k) (leaf op) (shape.one q r) d a m = absurd a
  priced (leaf k) (leaf op) (shape.two q r s) d a m = absurd a
  priced (leaf k) (one op t) s d a m = absurd (leaf_none T.env k op t d m)
  priced (leaf k) (two op t u) s d a m = absurd (leaf_nothing T.env k op t u d m)
  priced (one k p) u s d a m = step_priced k (Delivers T.env p) (Tells T p) (priced p) (is_enforcer k) refl u s d a m
  priced (two k p q) (two op t u) (shape.two j r s) d a m =
      let x = priced p t r m.0 a.2 m.2 in
      let y = priced q u s m.1 a.3 m.3 in
      (T.cost_two k j (place r) (place s) m.0 m.1 + (x.0 + y.0), (m.0, m.1, x.0, y.0, x.1, y.1, (m.4, m.5, m.6, m.7, m.8), refl))
  priced (two k p q) (two op t u) (shape.leaf j) d a m = absurd a
  priced (two k p q) (two op t u) (shape.one j r) d a m = absurd a
  priced (two k p q) (one op t) s d a m = absurd m
  priced (two k p q) (leaf op) s d a m = absurd m

-- ---- nodes by places

module _ (env : Env) (F : Facts) where
  -- what is met is met by the facts at hand
  met_by : (t : Expression) (have : Delivered) (want : Required) → AreFactsOf env.lent t F → IsMet env t have want → matches_by F have want ≡ true
  met_by t have want a m = sym (matches_alike env.lent t m.0 F m.1 a have want) ∙ m.2

  abbrev IsNodeGiven : PlanKind → LogicOp → Delivered → Delivered → Type 0
  IsNodeGiven k op h d = (one_fits k op ≡ true) × (matches_by F h (one_needs k op) ≡ true) × (d ≡ one_delivers env.parts k op h)

  plain_given : (k : PlanKind) (op : LogicOp) (t : Expression) (e h d : Delivered) → AreFactsOf env.lent t F → e ≡ h → one_fits k op ≡ true → IsMet env t e (one_needs k op) → d ≡ one_delivers env.parts k op e → IsNodeGiven k op h d
  plain_given k op t e h d a same fits m is =
      (fits, met_by t h (one_needs k op) a (subst (λ (x : Delivered). IsMet env t x (one_needs k op)) same m), is ∙ ap (one_delivers env.parts k op) same)

  node_given : (k : PlanKind) (op : LogicOp) (t : Expression) (h d : Delivered) → is_enforcer k ≡ false → AreFactsOf env.lent t F → NodeDelivers env k op t h d → IsNodeGiven k op h d
  node_given (hash_any key) op t h d e a m = absurd (cc)
  node_given (hash_merge key keys rest) op t h d e a m = absurd (cc)
  node_given (range_any keys) op t h d e a m = absurd (cc)
  node_given one_any op t h d e a m = absurd (cc)
  node_given (one_merge keys rest) op t h d e a m = absurd (cc)
  node_given one_concat op t h d e a m = absurd (cc)
  node_given (sort keys rest) op t h d e a m = absurd (cc)
  node_given (broadcast copies) op t h d e a m = absurd (cc)
  node_given k op t h d e a m = plain_given k op t m.0 h d a m.1 m.2 m.3 m.4

-- an enforcer sees the columns alone
enforcer_given : (env : Env) (k : PlanKind) (t : Expression) (cols : List ℕ) (h d : Delivered) → columns_of t ≡ cols → EnforcerDelivers env k t h d → is_enforcer k ≡ true → EnforcerGives cols k h d
enforcer_given env k t cols h d same m e = subst (λ (c : List ℕ). EnforcerGives c k h d) same (at k m e)
  where
    moved : (k : PlanKind) (g : Delivered) → g ≡ h → EnforcerGives (columns_of t) k g d → EnforcerGives (columns_of t) k h d
    moved k g q n = subst (λ (x : Delivered). EnforcerGives (columns_of t) k x d) q n

    at : (k : PlanKind) → EnforcerDelivers env k t h d → is_enforcer k ≡ true → EnforcerGives (columns_of t) k h d
    at (hash_any key) m e = moved (hash_any key) m.0 m.1.0 (m.1.1, m.2, m.3)
    at (hash_merge key keys rest) m e = moved (hash_merge key keys rest) m.0 m.1.0 (m.1.1, m.2, m.3, m.4, m.5, m.6)
    at (range_any keys) m e = moved (range_any keys) m.0 m.1.0 (m.1.1, m.2, m.3)
    at one_any m e = moved one_any m.0 m.1.0 (m.1.1, m.2)
    at (one_merge keys rest) m e = moved (one_merge keys rest) m.0 m.1.0 (m.1.1, m.2, m.3, m.4, m.5)
    at one_concat m e = moved one_concat m.0 m.3.0 (m.1, m.2, m.3.1, m.4, m.5, m.6)
    at (sort keys rest) m e = moved (sort keys rest) m.0 m.1.0 (m.1.1, m.2, m.3)
    at (broadcast copies) m e = moved (broadcast copies) m.0 m.1.0 (m.1.1, m.2, m.3)
    at k m e = absurd (cc)

-- ---- the bounds

module _ (T : PlaceTable) (M : Memo) (at : ℕ → Place) (B : ℕ → Delivered → ℕ) (place_is : (g : ℕ) (s : Shape) → In M g s → place s ≡ at g) (bounded : IsBounded T M at B) where
  abbrev IsAbove : (Expression → Shape → Delivered → ℕ → Type 0) → Type 0
  IsAbove Costs = (g : ℕ) (u : Expression) (s : Shape) (d : Delivered) (n : ℕ) → In M g s → AreByPlace T u s → Costs u s d n → B g d ≤ n

  -- the expression has the facts at its group's place
  known_at : (g : ℕ) (u : Expression) (s : Shape) → In M g s → AreByPlace T u s → AreFactsOf T.env.lent u (T.facts (at g))
  known_at g u s i a = subst (λ (p : Place). AreFactsOf T.env.lent u (T.facts p)) (place_is g s i) (here u s a)
    where
      here : (u : Expression) (s : Shape) → AreByPlace T u s → AreFactsOf T.env.lent u (T.facts (place s))
      here (leaf op) (shape.leaf k) a = a.0
      here (one op t) (shape.one k r) a = a.0
      here (two op t v) (shape.two k r q) a = a.0
      here (leaf op) (shape.one k r) a = absurd a
      here (leaf op) (shape.two k r q) a = absurd a
      here (one op t) (shape.leaf k) a = absurd a
      here (one op t) (shape.two k r q) a = absurd a
      here (two op t v) (shape.leaf k) a = absurd a
      here (two op t v) (shape.one k r) a = absurd a

  step_above : (k : PlanKind) (Costs : Expression → Shape → Delivered → ℕ → Type 0) → IsAbove Costs → (b : Bool) → is_enforcer k ≡ b → IsAbove (StepTells T k b Costs)
  step_above k Costs below true e g u s d n i a m =
      let x : B g m.0 ≤ m.1 = below g u s m.0 m.1 i a m.2 in
      let near = known_at g u s i a in
      let y : B g d ≤ T.cost_enforcer k (at g) m.0 + B g m.0 = bounded.enforcers g k m.0 d e (enforcer_given T.env k u (T.facts (at g)).columns m.0 d (sym near.columns) m.3 e) in
      let z : n ≡ T.cost_enforcer k (at g) m.0 + m.1 = m.4 ∙ ap (λ p. T.cost_enforcer k p m.0 + m.1) (place_is g s i) in
      omega arith
  step_above k Costs below false e g (one op t) (shape.one q r) d n i a m =
      let h = i.0 in
      let x : B h m.0 ≤ m.1 = below h t r m.0 m.1 i.1 a.2 m.2 in
      let here : NodeDelivers T.env k (T.op q) t m.0 d = subst (λ (o : LogicOp). NodeDelivers T.env k o t m.0 d) a.1 m.3 in
      let o = node_given T.env (T.facts (at h)) k (T.op q) t m.0 d e (known_at h t r i.1 a.2) here in
      let y : B g d ≤ T.cost_one k q (at h) m.0 + B h m.0 = subst (λ (x : Delivered). B g x ≤ T.cost_one k q (at h) m.0 + B h m.0) (sym o.2) (bounded.ones g h q k m.0 i.2 e o.0 o.1) in
      let z : n ≡ T.cost_one k q (at h) m.0 + m.1 = m.4 ∙ ap (λ p. T.cost_one k q p m.0 + m.1) (place_is h r i.1) in
      omega arith
  step_above k Costs below false e g (one op t) (shape.leaf q) d n i a m = absurd m
  step_above k Costs below false e g (one op t) (shape.two q r s) d n i a m = absurd m
  step_above k Costs below false e g (leaf op) s d n i a m = absurd m
  step_above k Costs below false e g (two op t u) s d n i a m = absurd m

  -- the operator of a node over two goes by the columns at the places
  op_at : (q : Kind) (g : ℕ) (p : Place) (s t u v : List ℕ) (op : LogicOp) → p ≡ at g → s ≡ u → t ≡ v → IsOpAt T q p s t op → IsOpAt T q (at g) u v op
  op_at q g p s t u v op e a b o =
      subst (λ (x : List ℕ). IsOpAt T q (at g) x v op) a (subst (λ (x : List ℕ). IsOpAt T q (at g) s x op) b (subst (λ (x : Place). IsOpAt T q x s t op) e o))

  pub above : (p : Plan) → IsAbove (Tells T p)
  above (leaf k) g (leaf op) (shape.leaf q) d n i a m =
      let here : Delivers T.env (leaf k) (leaf (T.op q)) d = subst (λ (o : LogicOp). Delivers T.env (leaf k) (leaf o) d) a.1 m.0 in
      let x : B g d ≤ T.cost_leaf k q = bounded.leaves g q k d i here in
      let y : n ≡ T.cost_leaf k q = m.1 in
      omega arith
  above (leaf k) g (one op t) (shape.leaf q) d n i a m = absurd a
  above (leaf k) g (two op t u) (shape.leaf q) d n i a m = absurd a
  above (leaf k) g u (shape.one q r) d n i a m = absurd m
  above (leaf k) g u (shape.two q r s) d n i a m = absurd m
  above (one k p) g u s d n i a m = step_above k (Tells T p) (above p) (is_enforcer k) refl g u s d n i a m
  above (two k p q) g (two op t u) (shape.two j r s) d n i a m =
      let x : B i.0 m.0 ≤ m.2 = above p i.0 t r m.0 m.2 i.2 a.2 m.4 in
      let y : B i.1 m.1 ≤ m.3 = above q i.1 u s m.1 m.3 i.3 a.3 m.5 in
      let first = known_at i.0 t r i.2 a.2 in
      let second = known_at i.1 u s i.3 a.3 in
      let o = op_at j g (place (shape.two j r s)) (columns_of t) (columns_of u) (T.facts (at i.0)).columns (T.facts (at i.1)).columns op (place_is g (shape.two j r s) i) (sym first.columns) (sym second.columns) a.1 in
      let l = met_by T.env (T.facts (at i.0)) t m.0 (left_needs k op) first m.6.2 in
      let w = met_by T.env (T.facts (at i.1)) u m.1 (right_needs (width T.env.parts m.0.scheme) k op) second m.6.3 in
      let z : B g d ≤ T.cost_two k j (at i.0) (at i.1) m.0 m.1 + (B i.0 m.0 + B i.1 m.1) =
      subst (λ (b : Delivered). B g b ≤ T.cost_two k j (at i.0) (at i.1) m.0 m.1 + (B i.0 m.0 + B i.1 m.1)) (sym m.6.4) (bounded.twos g i.0 i.1 j k op m.0 m.1 i.4 o m.6.0 m.6.1 l w) in
      let v : n ≡ T.cost_two k j (at i.0) (at i.1) m.0 m.1 + (m.2 + m.3) =
      m.7 ∙ (λ b. T.cost_two k j (place_is i.0 r i.2 b) (place_is i.1 s i.3 b) m.0 m.1 + (m.2 + m.3)) in
      omega arith
  above (two k p q) g (two op t u) (shape.leaf j) d n i a m = absurd m
  above (two k p q) g (two op t u) (shape.one j r) d n i a m = absurd m
  above (two k p q) g (one op t) s d n i a m = absurd m
  above (two k p q) g (leaf op) s d n i a m = absurd m

-- ---- no plan costs less

pub no_plan_costs_less : NoPlanCostsLess
no_plan_costs_less results T S dag M at B root C need tree groups bounded least u r =
    let w = reached_shaped results S 0 tree u groups.formed groups.script r in
    let a = by_place results T tree groups.table u w.0 groups.formed w.2 in
    let i = represented S dag M at root groups.memo groups.closed (shape_of 0 tree) w.0 groups.begins w.1 in (
      w.0,
      w.2,
      (λ p d m. priced T p u w.0 d a m),
      λ p d n m met.
          let x : B root d ≤ n = above T M at B (found S dag M at groups.memo) bounded p root u w.0 d n i a m in
          let y : C ≤ B root d = least d met in
          omega arith,
    )
