-- What is not allowed costs C; so bounds over what is allowed are bounds.
use Rattle.std.proofs.Common.{◌≡◌, ◌≤◌, ◌+◌, ℕ, Bool, true, false, cond, List, arith, refl, sym, ap, ◌∙◌}
use Rattle.structural_props.specs.declared.scheme.Scheme.{Scheme}
use Rattle.structural_props.specs.declared.property.Delivered.{Delivered}
use Rattle.logical_trees.specs.Tree.{Expression, leaf, one, two}
use Rattle.parts_plans.specs.Kinds.{PlanKind}
use Rattle.parts_plans.specs.Plans.{Plan}
use Rattle.rules_plans.specs.Laws.{is_enforcer}
use Rattle.rules_shapes.specs.Shapes.{Shape}
use Rattle.rules_optimal.specs.Tables.{PlaceTable, StepTells, Tells, IsBounded}
use Rattle.rules_tables.specs.Tables.{Costs}
use Rattle.rules_scripts.specs.Whole.{Setting, table_for, TreeGroups, AreTreeGroups, IsPlanOf}
use Rattle.rules_scripts.proofs.Whole.{no_script_costs_less}
use Rattle.rules_choices.specs.Choices.{Listing, AreGroupsListed}
use Rattle.rules_choices.proofs.Choices.{none_less}
use Rattle.rules_targets.specs.Targets.{Conditions}
use Rattle.rules_targets.specs.Within.{StepKeeps, Keeps, IsBoundedWithin, AreGroupsWithin, AreGroupsListedWithin}
use Rattle.rules_targets.specs.Laws.{IsPlanWithin, NoScriptCostsLessWithin, NoScriptCostsLessListedWithin}
use Rattle.rules_space.specs.Tree as shape
use Rattle.rules_space.specs.Place.{Place}
use Rattle.rules_space.specs.Memo.{Memo}

abbrev limit : Conditions → ℕ → Costs → Costs
limit K C costs = record {
  leaf = costs.leaf;
  one = λ k q p d. cond (K.one k q) (costs.one k q p d) C;
  two = λ k q p r d e. cond (K.two k q) (costs.two k q p r d e) C;
  enforcer = λ k p d. cond (K.enforcer k) (costs.enforcer k p d) C;
}

-- the table with these costs
abbrev limited : Conditions → ℕ → PlaceTable → PlaceTable
limited K C T = record {
  env = T.env;
  facts = T.facts;
  pairs = T.pairs;
  op = T.op;
  cost_leaf = T.cost_leaf;
  cost_one = λ k q p d. cond (K.one k q) (T.cost_one k q p d) C;
  cost_two = λ k q p r d e. cond (K.two k q) (T.cost_two k q p r d e) C;
  cost_enforcer = λ k p d. cond (K.enforcer k) (T.cost_enforcer k p d) C;
}

-- a bound that is at most C and, where it is allowed, at most the cost
either_way : (b : Bool) (x n C m : ℕ) → x ≤ C → (b ≡ true → x ≤ n + m) → x ≤ cond b n C + m
either_way true x n C m c h = h refl
either_way false x n C m c h = omega (arith, c)

module _ (K : Conditions) (C : ℕ) (T : PlaceTable) where
  limited_bound : (M : Memo) (at : ℕ → Place) (B : ℕ → Delivered → ℕ) → IsBoundedWithin K C T M at B → IsBounded (limited K C T) M at B
  limited_bound M at B h = record {
    leaves = λ g q k d l m. h.leaves g q k d l m;
    ones = λ g i q k have l e f m. either_way (K.one k q) (B g _) (T.cost_one k q (at i) have) C (B i have) (h.capped g _) (λ b. h.ones g i q k have l e b f m);
    twos = λ g i j q k op have beside l o f p m n. either_way (K.two k q) (B g _) (T.cost_two k q (at i) (at j) have beside) C (B i have + B j beside) (h.capped g _) (λ b. h.twos g i j q k op have beside l b o f p m n);
    enforcers = λ g k have d e m. either_way (K.enforcer k) (B g d) (T.cost_enforcer k (at g) have) C (B g have) (h.capped g d) (λ b. h.enforcers g k have d e b m);
  }

  allowed : (b : Bool) (n : ℕ) → b ≡ true → n ≡ cond b n C
  allowed b n e = ap (λ a. cond a n C) (sym e)

  abbrev Limits : (Shape → Type 0) → (Expression → Shape → Delivered → ℕ → Type 0) → (Expression → Shape → Delivered → ℕ → Type 0) → Type 0
  Limits Keep P Q = (u : Expression) (s : Shape) (d : Delivered) (n : ℕ) → Keep s → P u s d n → Q u s d n

  step_limited : (k : PlanKind) (b : Bool) (Keep : Shape → Type 0) (P Q : Expression → Shape → Delivered → ℕ → Type 0) → Limits Keep P Q → Limits (StepKeeps K k b Keep) (StepTells T k b P) (StepTells (limited K C T) k b Q)
  step_limited k true Keep P Q h u s d n a m = (m.0, m.1, h u s m.0 m.1 a.1 m.2, m.3, m.4 ∙ ap (λ x. x + m.1) (allowed (K.enforcer k) _ a.0))
  step_limited k false Keep P Q h (one op t) (shape.one q r) d n a m = (m.0, m.1, h t r m.0 m.1 a.1 m.2, m.3, m.4 ∙ ap (λ x. x + m.1) (allowed (K.one k q) _ a.0))
  step_limited k false Keep P Q h (one op t) (shape.leaf q) d n a m = absurd m
  step_limited k false Keep P Q h (one op t) (shape.two q r s) d n a m = absurd m
  step_limited k false Keep P Q h (leaf op) s d n a m = absurd m
  step_limited k false Keep P Q h (two op t u) s d n a m = absurd m

  plan_limited : (p : Plan) → Limits (Keeps K p) (Tells T p) (Tells (limited K C T) p)
  plan_limited (leaf k) u (shape.leaf q) d n a m = m
  plan_limited (leaf k) u (shape.one q s) d n a m = absurd m
  plan_limited (leaf k) u (shape.two q r s) d n a m = absurd m
  plan_limited (one k p) u s d n a m = step_limited k (is_enforcer k) (Keeps K p) (Tells T p) (Tells (limited K C T) p) (plan_limited p) u s d n a m
  plan_limited (two k p q) (two op t u) (shape.two j r s) d n a m =
      (m.0, m.1, m.2, m.3, plan_limited p t r m.0 m.2 a.1 m.4, plan_limited q u s m.1 m.3 a.2 m.5, m.6, m.7 ∙ ap (λ x. x + (m.2 + m.3)) (allowed (K.two k j) _ a.0))
  plan_limited (two k p q) (two op t u) (shape.leaf j) d n a m = absurd m
  plan_limited (two k p q) (two op t u) (shape.one j r) d n a m = absurd m
  plan_limited (two k p q) (one op t) s d n a m = absurd m
  plan_limited (two k p q) (leaf op) s d n a m = absurd m

-- ---- all trees

abbrev limited_setting : Setting → (ℕ → Conditions) → ℕ → Setting
limited_setting W K C = record {
  dag = W.dag;
  parts = W.parts;
  streams = W.streams;
  lent = W.lent;
  known = W.known;
  costs = λ given t. limit (K t) C (W.costs given t);
  need = W.need;
}

groups_limited : (W : Setting) (K : ℕ → Conditions) (C t : ℕ) (c : TreeGroups) → AreGroupsWithin W (K t) C t c → AreTreeGroups (limited_setting W K C) t c
groups_limited W K C t c h = record {
  there = h.there;
  begins = h.begins;
  stepped = h.stepped;
  placed = h.placed;
  closed = h.closed;
  bounded = λ given. limited_bound (K t) C (table_for W given t c.tree) c.memo c.at (c.bound given) (h.bounded given);
}

plan_of_limited : (W : Setting) (K : ℕ → Conditions) (C t : ℕ) (given : List Scheme) (c : TreeGroups) (p : Plan) (n : ℕ) → IsPlanWithin W (K t) given t c p n → IsPlanOf (limited_setting W K C) given t c.tree p n
plan_of_limited W K C t given c p n h =
    let k = h.0 in
    record {
      of = k.of;
      reached = k.reached;
      shape = k.shape;
      path = k.path;
      shaped = k.shaped;
      gives = k.gives;
      delivers = k.delivers;
      tells = plan_limited (K t) C (table_for W given t c.tree) p k.of k.shape k.gives n h.1 k.tells;
      wanted = k.wanted;
    }

pub none_within : NoScriptCostsLessWithin
none_within W K groups C bound known each least given plans costs are =
    no_script_costs_less (limited_setting W K C) groups C bound known (λ t m. groups_limited W K C t (groups t) (each t m)) least given plans costs
    (λ t m. plan_of_limited W K C t given (groups t) (plans t) (costs t) (are t m))

groups_listed : (W : Setting) (K : ℕ → Conditions) (listed : Listing) (C t : ℕ) (c : TreeGroups) → AreGroupsListedWithin W (K t) listed C t c → AreGroupsListed (limited_setting W K C) listed C t c
groups_listed W K listed C t c h = record {
  there = h.there;
  begins = h.begins;
  stepped = h.stepped;
  placed = h.placed;
  closed = h.closed;
  bounded = λ given e. limited_bound (K t) C (table_for W given t c.tree) c.memo c.at (c.bound given) (h.bounded given e);
  unlisted = h.unlisted;
}

pub none_listed_within : NoScriptCostsLessListedWithin
none_listed_within W K listed groups C bound known each least given plans costs are =
    none_less (limited_setting W K C) listed groups C bound known (λ t m. groups_listed W K listed C t (groups t) (each t m)) least given plans costs
    (λ t m. plan_of_limited W K C t given (groups t) (plans t) (costs t) (are t m))
