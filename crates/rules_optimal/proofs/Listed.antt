-- A plan of listed expressions is one for an expression that steps reach.
use Rattle.std.proofs.Common.{◌≡◌, ◌+◌, ℕ, Bool, true, false, List, refl, sym, ap, ◌∙◌, subst}
use Rattle.fd_closure.specs.declared.facts.Facts.{Facts}
use Rattle.structural_props.specs.Actions.{In as Has}
use Rattle.structural_props.specs.declared.property.Delivered.{Delivered}
use Rattle.prop_matching.specs.Worth.{matches_by}
use Rattle.logical_trees.specs.declared.logic_op.LogicOp.{LogicOp}
use Rattle.logical_trees.specs.declared.logic_op.LogicOp.TheVariants.{Join}
use Rattle.logical_trees.specs.Tree.{Expression, leaf, one, two, columns_of}
use Rattle.logical_dag.specs.Facts.{AreFactsOf}
use Rattle.logical_trees.specs.Blocks.{IsPairing}
use Rattle.list_lemmas.specs.Members.{in_list, list_in}
use Rattle.structural_props.specs.Handed.{width}
use Rattle.parts_plans.specs.Kinds.{PlanKind, hash_any, hash_merge, range_any, one_any, one_merge, one_concat, sort, broadcast, hash_join, merge_join, one_fits, one_needs, one_delivers, TwoFits, HasPlace, left_needs, right_needs, two_delivers}
use Rattle.parts_plans.specs.Plans.{Plan, Env, StepDelivers, Delivers}
use Rattle.rules_plans.specs.Alike.{EnforcerDelivers, NodeDelivers}
use Rattle.rules_plans.specs.Laws.{is_enforcer}
use Rattle.rules_shapes.specs.Shapes.{Shape, shape_of}
use Rattle.rules_shapes.proofs.Meant.{back_reached}
use Rattle.rules_optimal.specs.Tables.{PlaceTable, IsOpAt, AreByPlace, StepTells, Tells, EnforcerGives}
use Rattle.rules_optimal.specs.Listed.{StepListed, IsListed}
use Rattle.rules_optimal.specs.Laws.{PlanIsInSpace}
use Rattle.rules_optimal.proofs.ByPlace.{by_place}
use Rattle.rules_space.specs.Tree as shape
use Rattle.rules_space.specs.declared.kind.Kind.{Kind}
use Rattle.rules_space.specs.declared.kind.Kind.TheVariants as kind
use Rattle.rules_space.specs.Place.{Place, place}
use Rattle.rules_space.specs.Memo.{Memo, In}
use Rattle.rules_space.proofs.Sound.{memo_is_space, found}

-- ---- nodes over expressions, from those over places

enforcer_made : (env : Env) (k : PlanKind) (u : Expression) (h d : Delivered) → EnforcerGives (columns_of u) k h d → EnforcerDelivers env k u h d
enforcer_made env (hash_any key) u h d m = (h, (refl, m.0), m.1, m.2)
enforcer_made env (hash_merge key keys rest) u h d m = (h, (refl, m.0), m.1, m.2, m.3, m.4, m.5)
enforcer_made env (range_any keys) u h d m = (h, (refl, m.0), m.1, m.2)
enforcer_made env one_any u h d m = (h, (refl, m.0), m.1)
enforcer_made env (one_merge keys rest) u h d m = (h, (refl, m.0), m.1, m.2, m.3, m.4)
enforcer_made env one_concat u h d m = (h, m.0, m.1, (refl, m.2), m.3, m.4, m.5)
enforcer_made env (sort keys rest) u h d m = (h, (refl, m.0), m.1, m.2)
enforcer_made env (broadcast copies) u h d m = (h, (refl, m.0), m.1, m.2)
enforcer_made env k u h d m = absurd m

node_made : (env : Env) (k : PlanKind) (op : LogicOp) (t : Expression) (F : Facts) (h d : Delivered) → is_enforcer k ≡ false → AreFactsOf env.lent t F → one_fits k op ≡ true → matches_by F h (one_needs k op) ≡ true
    → d ≡ one_delivers env.parts k op h → NodeDelivers env k op t h d
node_made env (hash_any key) op t F h d e a f m is = absurd (cc)
node_made env (hash_merge key keys rest) op t F h d e a f m is = absurd (cc)
node_made env (range_any keys) op t F h d e a f m is = absurd (cc)
node_made env one_any op t F h d e a f m is = absurd (cc)
node_made env (one_merge keys rest) op t F h d e a f m is = absurd (cc)
node_made env one_concat op t F h d e a f m is = absurd (cc)
node_made env (sort keys rest) op t F h d e a f m is = absurd (cc)
node_made env (broadcast copies) op t F h d e a f m is = absurd (cc)
node_made env k op t F h d e a f m is = (h, refl, f, (F, a, m), is)

-- a node over two, of places or of expressions
abbrev IsPairGiven : ℕ → PlanKind → LogicOp → Facts → Facts → Delivered → Delivered → Delivered → Type 0
IsPairGiven parts k op F G h b d =
    TwoFits k op × HasPlace k (width parts h.scheme) × (matches_by F h (left_needs k op) ≡ true) × (matches_by G b (right_needs (width parts h.scheme) k op) ≡ true) × (d ≡ two_delivers parts op h)

-- Joins by the same equalities are alike
join_moved : (parts : ℕ) (k : PlanKind) (pairs : List (ℕ × ℕ)) (left right : List ℕ) (op new : LogicOp) (F G : Facts) (h b d : Delivered) → IsPairing pairs left right op → IsPairing pairs left right new
    → IsPairGiven parts k op F G h b d → IsPairGiven parts k new F G h b d
join_moved parts k pairs left right (Join on) (Join more) F G h b d x y m = go k m
  where
    into : (p : ℕ × ℕ) → Has p on.items → Has p more.items
    into p i = in_list more.items p ((y.1 p).1 ((x.1 p).0 (list_in on.items p i)))

    go : (k : PlanKind) → IsPairGiven parts k (Join on) F G h b d → IsPairGiven parts k (Join more) F G h b d
    go (hash_join site keys) m = ((λ p i. into p (m.0 p i)), m.1, m.2, m.3, m.4)
    go (merge_join site keys) m = ((λ p i. into p (m.0 p i)), m.1, m.2, m.3, m.4)
    go k m = absurd m.0
join_moved parts k pairs left right (Join on) new F G h b d x y m = absurd y
join_moved parts k pairs left right op new F G h b d x y m = absurd x

op_moved : (T : PlaceTable) (parts : ℕ) (k : PlanKind) (j : Kind) (p : Place) (left right : List ℕ) (op new : LogicOp) (F G : Facts) (h b d : Delivered) → IsOpAt T j p left right op → IsOpAt T j p left right new
    → IsPairGiven parts k op F G h b d → IsPairGiven parts k new F G h b d
op_moved T parts k kind.Join p left right op new F G h b d x y m = join_moved parts k (T.pairs p) left right op new F G h b d x y m
op_moved T parts k (kind.Node n) p left right op new F G h b d x y m = subst (λ (o : LogicOp). IsPairGiven parts k o F G h b d) (x ∙ sym y) m
op_moved T parts k (kind.Partial n) p left right op new F G h b d x y m = subst (λ (o : LogicOp). IsPairGiven parts k o F G h b d) (x ∙ sym y) m
op_moved T parts k (kind.Finish n) p left right op new F G h b d x y m = subst (λ (o : LogicOp). IsPairGiven parts k o F G h b d) (x ∙ sym y) m

module _ (T : PlaceTable) (M : Memo) (at : ℕ → Place) where
  -- ---- the shape is one of the group

  step_in : (k : PlanKind) (b : Bool) (Below : ℕ → Shape → Delivered → ℕ → Type 0) → ((g : ℕ) (s : Shape) (d : Delivered) (n : ℕ) → Below g s d n → In M g s)
      → (g : ℕ) (s : Shape) (d : Delivered) (n : ℕ) → StepListed T M at k b Below g s d n → In M g s
  step_in k true Below h g s d n m = h g s m.0 m.1 m.2
  step_in k false Below h g (shape.one q r) d n m = (m.0, h m.0 r m.1 m.2 m.3, m.4)
  step_in k false Below h g (shape.leaf q) d n m = absurd m
  step_in k false Below h g (shape.two q r s) d n m = absurd m

  pub listed_in : (p : Plan) (g : ℕ) (s : Shape) (d : Delivered) (n : ℕ) → IsListed T M at p g s d n → In M g s
  listed_in (leaf k) g (shape.leaf q) d n m = m.0
  listed_in (leaf k) g (shape.one q r) d n m = absurd m
  listed_in (leaf k) g (shape.two q r s) d n m = absurd m
  listed_in (one k p) g s d n m = step_in k (is_enforcer k) (IsListed T M at p) (listed_in p) g s d n m
  listed_in (two k p q) g (shape.two j r s) d n m = (m.0, m.1, listed_in p m.0 r m.2 m.4 m.7, listed_in q m.1 s m.3 m.5 m.8, m.9)
  listed_in (two k p q) g (shape.leaf j) d n m = absurd m
  listed_in (two k p q) g (shape.one j r) d n m = absurd m

  -- ---- and the plan tells what it states

  module _ (place_is : (g : ℕ) (s : Shape) → In M g s → place s ≡ at g) where
    abbrev IsTold : (ℕ → Shape → Delivered → ℕ → Type 0) → (Expression → Shape → Delivered → ℕ → Type 0) → Type 0
    IsTold Below Costs = (g : ℕ) (u : Expression) (s : Shape) (d : Delivered) (n : ℕ) → AreByPlace T u s → Below g s d n → Costs u s d n

    known_here : (u : Expression) (s : Shape) → AreByPlace T u s → AreFactsOf T.env.lent u (T.facts (place s))
    known_here (leaf op) (shape.leaf k) a = a.0
    known_here (one op t) (shape.one k r) a = a.0
    known_here (two op t v) (shape.two k r q) a = a.0
    known_here (leaf op) (shape.one k r) a = absurd a
    known_here (leaf op) (shape.two k r q) a = absurd a
    known_here (one op t) (shape.leaf k) a = absurd a
    known_here (one op t) (shape.two k r q) a = absurd a
    known_here (two op t v) (shape.leaf k) a = absurd a
    known_here (two op t v) (shape.one k r) a = absurd a

    known_at : (g : ℕ) (u : Expression) (s : Shape) → In M g s → AreByPlace T u s → AreFactsOf T.env.lent u (T.facts (at g))
    known_at g u s i a = subst (λ (p : Place). AreFactsOf T.env.lent u (T.facts p)) (place_is g s i) (known_here u s a)

    step_told : (k : PlanKind) (b : Bool) → is_enforcer k ≡ b → (Below : ℕ → Shape → Delivered → ℕ → Type 0) (Costs : Expression → Shape → Delivered → ℕ → Type 0) → IsTold Below Costs
        → ((g : ℕ) (s : Shape) (d : Delivered) (n : ℕ) → Below g s d n → In M g s) → IsTold (StepListed T M at k b Below) (StepTells T k b Costs)
    step_told k true e Below Costs more inside g u s d n a m =
        let i = inside g s m.0 m.1 m.2 in
        let near = known_at g u s i a in (
          m.0,
          m.1,
          more g u s m.0 m.1 a m.2,
          enforcer_made T.env k u m.0 d (subst (λ (c : List ℕ). EnforcerGives c k m.0 d) near.columns m.3),
          m.4 ∙ ap (λ p. T.cost_enforcer k p m.0 + m.1) (sym (place_is g s i)),
        )
    step_told k false e Below Costs more inside g (one op t) (shape.one q r) d n a m =
        let i = inside m.0 r m.1 m.2 m.3 in
        let near = known_at m.0 t r i a.2 in (
          m.1,
          m.2,
          more m.0 t r m.1 m.2 a.2 m.3,
          subst (λ (o : LogicOp). NodeDelivers T.env k o t m.1 d) (sym a.1) (node_made T.env k (T.op q) t (T.facts (at m.0)) m.1 d e near m.5 m.6 m.7),
          m.8 ∙ ap (λ p. T.cost_one k q p m.1 + m.2) (sym (place_is m.0 r i)),
        )
    step_told k false e Below Costs more inside g (leaf op) (shape.one q r) d n a m = absurd a
    step_told k false e Below Costs more inside g (two op t v) (shape.one q r) d n a m = absurd a
    step_told k false e Below Costs more inside g u (shape.leaf q) d n a m = absurd m
    step_told k false e Below Costs more inside g u (shape.two q r s) d n a m = absurd m

    pub told : (p : Plan) → IsTold (IsListed T M at p) (Tells T p)
    told (leaf k) g (leaf op) (shape.leaf q) d n a m = (subst (λ (o : LogicOp). Delivers T.env (leaf k) (leaf o) d) (sym a.1) m.1, m.2)
    told (leaf k) g (one op t) (shape.leaf q) d n a m = absurd a
    told (leaf k) g (two op t u) (shape.leaf q) d n a m = absurd a
    told (leaf k) g u (shape.one q r) d n a m = absurd m
    told (leaf k) g u (shape.two q r s) d n a m = absurd m
    told (one k p) g u s d n a m = step_told k (is_enforcer k) refl (IsListed T M at p) (Tells T p) (told p) (listed_in p) g u s d n a m
    told (two k p q) g (two op t u) (shape.two j r s) d n a m =
        let i = listed_in p m.0 r m.2 m.4 m.7 in
        let o = listed_in q m.1 s m.3 m.5 m.8 in
        let first = known_at m.0 t r i a.2 in
        let second = known_at m.1 u s o a.3 in
        let own : IsOpAt T j (at g) (T.facts (at m.0)).columns (T.facts (at m.1)).columns op =
        subst (λ (x : List ℕ). IsOpAt T j (at g) x (T.facts (at m.1)).columns op) (sym first.columns)
        (subst (λ (x : List ℕ). IsOpAt T j (at g) (columns_of t) x op) (sym second.columns)
        (subst (λ (x : Place). IsOpAt T j x (columns_of t) (columns_of u) op) (place_is g (shape.two j r s) (m.0, m.1, i, o, m.9)) a.1)) in
        let given = op_moved T T.env.parts k j (at g) (T.facts (at m.0)).columns (T.facts (at m.1)).columns m.6 op (T.facts (at m.0)) (T.facts (at m.1)) m.2 m.3 d m.10 own (m.11, m.12, m.13, m.14, m.15) in (
          m.2,
          m.3,
          m.4,
          m.5,
          told p m.0 t r m.2 m.4 a.2 m.7,
          told q m.1 u s m.3 m.5 a.3 m.8,
          (given.0, given.1, (T.facts (at m.0), first, given.2), (T.facts (at m.1), second, given.3), given.4),
          m.16 ∙ (λ b. T.cost_two k j (sym (place_is m.0 r i) b) (sym (place_is m.1 s o) b) m.2 m.3 + (m.4 + m.5)),
        )
    told (two k p q) g (one op t) (shape.two j r s) d n a m = absurd a
    told (two k p q) g (leaf op) (shape.two j r s) d n a m = absurd a
    told (two k p q) g u (shape.leaf j) d n a m = absurd m
    told (two k p q) g u (shape.one j r) d n a m = absurd m

-- ---- what tells delivers

abbrev IsDelivered : PlaceTable → (Expression → Delivered → Type 0) → (Expression → Shape → Delivered → ℕ → Type 0) → Type 0
IsDelivered T Below Costs = (u : Expression) (s : Shape) (d : Delivered) (n : ℕ) → Costs u s d n → Below u d

-- a node over what the child delivers
enforcer_step : (env : Env) (k : PlanKind) (below : Expression → Delivered → Type 0) (u : Expression) (h d : Delivered) → is_enforcer k ≡ true → below u h → EnforcerDelivers env k u h d → StepDelivers env k below u d
enforcer_step env (hash_any key) below u h d e b m = (m.0, (subst (λ (x : Delivered). below u x) (sym m.1.0) b, m.1.1), m.2, m.3)
enforcer_step env (hash_merge key keys rest) below u h d e b m = (m.0, (subst (λ (x : Delivered). below u x) (sym m.1.0) b, m.1.1), m.2, m.3, m.4, m.5, m.6)
enforcer_step env (range_any keys) below u h d e b m = (m.0, (subst (λ (x : Delivered). below u x) (sym m.1.0) b, m.1.1), m.2, m.3)
enforcer_step env one_any below u h d e b m = (m.0, (subst (λ (x : Delivered). below u x) (sym m.1.0) b, m.1.1), m.2)
enforcer_step env (one_merge keys rest) below u h d e b m = (m.0, (subst (λ (x : Delivered). below u x) (sym m.1.0) b, m.1.1), m.2, m.3, m.4, m.5)
enforcer_step env one_concat below u h d e b m = (m.0, m.1, m.2, (subst (λ (x : Delivered). below u x) (sym m.3.0) b, m.3.1), m.4, m.5, m.6)
enforcer_step env (sort keys rest) below u h d e b m = (m.0, (subst (λ (x : Delivered). below u x) (sym m.1.0) b, m.1.1), m.2, m.3)
enforcer_step env (broadcast copies) below u h d e b m = (m.0, (subst (λ (x : Delivered). below u x) (sym m.1.0) b, m.1.1), m.2, m.3)
enforcer_step env k below u h d e b m = absurd (cc)

node_step : (env : Env) (k : PlanKind) (below : Expression → Delivered → Type 0) (op : LogicOp) (t : Expression) (h d : Delivered) → is_enforcer k ≡ false → below t h → NodeDelivers env k op t h d → StepDelivers env k below (one op t) d
node_step env (hash_any key) below op t h d e b m = absurd (cc)
node_step env (hash_merge key keys rest) below op t h d e b m = absurd (cc)
node_step env (range_any keys) below op t h d e b m = absurd (cc)
node_step env one_any below op t h d e b m = absurd (cc)
node_step env (one_merge keys rest) below op t h d e b m = absurd (cc)
node_step env one_concat below op t h d e b m = absurd (cc)
node_step env (sort keys rest) below op t h d e b m = absurd (cc)
node_step env (broadcast copies) below op t h d e b m = absurd (cc)
node_step env k below op t h d e b m = (m.0, subst (λ (x : Delivered). below t x) (sym m.1) b, m.2, m.3, m.4)

step_delivered : (T : PlaceTable) (k : PlanKind) (b : Bool) → is_enforcer k ≡ b → (Below : Expression → Delivered → Type 0) (Costs : Expression → Shape → Delivered → ℕ → Type 0) → IsDelivered T Below Costs
    → IsDelivered T (StepDelivers T.env k Below) (StepTells T k b Costs)
step_delivered T k true e Below Costs more u s d n m = enforcer_step T.env k Below u m.0 d e (more u s m.0 m.1 m.2) m.3
step_delivered T k false e Below Costs more (one op t) (shape.one q r) d n m = node_step T.env k Below op t m.0 d e (more t r m.0 m.1 m.2) m.3
step_delivered T k false e Below Costs more (one op t) (shape.leaf q) d n m = absurd m
step_delivered T k false e Below Costs more (one op t) (shape.two q r s) d n m = absurd m
step_delivered T k false e Below Costs more (leaf op) s d n m = absurd m
step_delivered T k false e Below Costs more (two op t u) s d n m = absurd m

pub told_delivers : (T : PlaceTable) (p : Plan) → IsDelivered T (Delivers T.env p) (Tells T p)
told_delivers T (leaf k) u (shape.leaf q) d n m = m.0
told_delivers T (leaf k) u (shape.one q r) d n m = absurd m
told_delivers T (leaf k) u (shape.two q r s) d n m = absurd m
told_delivers T (one k p) u s d n m = step_delivered T k (is_enforcer k) refl (Delivers T.env p) (Tells T p) (told_delivers T p) u s d n m
told_delivers T (two k p q) (two op t u) (shape.two j r s) d n m =
    (m.0, m.1, told_delivers T p t r m.0 m.2 m.4, told_delivers T q u s m.1 m.3 m.5, m.6.0, m.6.1, m.6.2, m.6.3, m.6.4)
told_delivers T (two k p q) (two op t u) (shape.leaf j) d n m = absurd m
told_delivers T (two k p q) (two op t u) (shape.one j r) d n m = absurd m
told_delivers T (two k p q) (one op t) s d n m = absurd m
told_delivers T (two k p q) (leaf op) s d n m = absurd m

pub plan_in_space : PlanIsInSpace
plan_in_space results T S dag M at root tree groups p s d n l =
    let i = listed_in T M at p root s d n l in
    let r = memo_is_space S dag M at groups.memo root (shape_of 0 tree) s groups.begins i in
    let u = back_reached results S 0 tree s groups.formed groups.just r in
    let a = by_place results T tree groups.table u.0 s groups.formed u.2 in
    let t = told T M at (found S dag M at groups.memo) p root u.0 s d n a l in
    (u.0, u.1, told_delivers T p u.0 s d n t, t)
