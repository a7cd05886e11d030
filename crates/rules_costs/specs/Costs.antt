-- The costs of nodes, by the estimates of what they implement and by places.
use Rattle.std.specs.Prelude.{◌≡◌, ◌+◌, ◌-◌, ◌*◌, ◌/◌, ℕ, zero, suc, nat_eq, Bool, true, false, if◌then◌else◌, []}
use Rattle.structural_props.specs.declared.scheme.Scheme.{Scheme}
use Rattle.structural_props.specs.declared.scheme.Scheme.TheVariants.{Serial}
use Rattle.structural_props.specs.declared.property.Delivered.{Delivered}
use Rattle.logical_trees.specs.declared.logic_op.LogicOp.{LogicOp}
use Rattle.logical_trees.specs.declared.logic_op.LogicOp.TheVariants.{Scan, Ref}
use Rattle.logical_trees.specs.Tree.{Expression, leaf, one, two}
use Rattle.logical_dag.specs.Facts.{result_columns}
use Rattle.structural_props.specs.Named.{is_copies}
use Rattle.structural_props.specs.Handed.{width}
use Rattle.parts_plans.specs.Kinds.{PlanKind, hash_agg, hash_partial, hash_finish, hash_join, sort, hash_any, hash_merge, range_any, one_any, one_merge, one_concat, broadcast, scan_delivers, ref_delivers}
use Rattle.parts_plans.specs.Plans.{Plan, Env, Delivers, stream_at, scheme_at}
use Rattle.rules_plans.specs.Alike.{EnforcerDelivers, NodeDelivers, PairDelivers}
use Rattle.rules_plans.specs.Laws.{is_enforcer}
use Rattle.rules_shapes.specs.Shapes.{Shape}
use Rattle.rules_sizes.specs.Sizes.{Sizes, reached_size}
use Rattle.rules_tables.specs.Tables.{Costs, op_at, pairs_at}
use Rattle.rules_costs.specs.Places.{size_at}
use Rattle.rules_space.specs.Tree as shape
use Rattle.rules_space.specs.Place.{place}

-- what a node costs by its kind, the estimate of its child's rows and what the child delivers; a node without children by its own
pub record CostModel : Type 0 where
  pub leaf : PlanKind → ℕ → Delivered → ℕ
  pub one : PlanKind → ℕ → Delivered → ℕ
  pub two : PlanKind → ℕ → ℕ → Delivered → Delivered → ℕ
  pub enforcer : PlanKind → ℕ → Delivered → ℕ

-- ---- the table of costs

-- rows of a part, rounded up
abbrev pub per : ℕ → ℕ → ℕ
per r k = (r + (k - 1)) / k

-- rows of a part of a scheme, where an exchange makes n parts; a copy has all rows
abbrev pub per_part : ℕ → ℕ → Scheme → ℕ
per_part n r s = if is_copies s then r else per r (width n s)

-- the number of binary digits
abbrev pub bits_within : ℕ → ℕ → ℕ
bits_within zero x = 0
bits_within (suc n) x = if nat_eq x 0 then 0 else suc (bits_within n (x / 2))

abbrev pub bits : ℕ → ℕ
bits x = bits_within x x

-- from k to j parts
abbrev pub exchange : ℕ → ℕ → ℕ → ℕ
exchange r k j = 4 * per r k + 4 * per r j + k * j

abbrev pub merge_exchange : ℕ → ℕ → ℕ → ℕ
merge_exchange r k j = exchange r k j + per r j * bits k

-- by the rows of a part of the child
abbrev pub one_cost : PlanKind → ℕ → ℕ
one_cost hash_agg a = 2 * a
one_cost hash_partial a = 2 * a
one_cost hash_finish a = 2 * a
one_cost kind a = a

abbrev pub two_cost : PlanKind → ℕ → ℕ → ℕ
two_cost (hash_join site keys) a b = a + 2 * b
two_cost kind a b = a + b

-- an exchange makes `parts` parts, one, or so many copies; its child isn't copies
abbrev pub enforcer_cost : ℕ → PlanKind → ℕ → ℕ → ℕ
enforcer_cost parts (hash_any key) r k = exchange r k parts
enforcer_cost parts (hash_merge key keys rest) r k = merge_exchange r k parts
enforcer_cost parts (range_any keys) r k = exchange r k parts
enforcer_cost parts one_any r k = exchange r k 1
enforcer_cost parts (one_merge keys rest) r k = merge_exchange r k 1
enforcer_cost parts one_concat r k = exchange r k 1
enforcer_cost parts (sort keys rest) r k = per r k * bits (per r k)
enforcer_cost parts (broadcast j) r k = 4 * per r k + 4 * r + k * j
enforcer_cost parts kind r k = per r k

-- where an exchange makes so many parts
abbrev pub cost_model : ℕ → CostModel
cost_model parts = record {
  leaf = λ kind r d. per_part parts r d.scheme;
  one = λ kind r d. one_cost kind (per_part parts r d.scheme);
  two = λ kind r s d e. two_cost kind (per_part parts r d.scheme) (per_part parts s e.scheme);
  enforcer = λ kind r d. enforcer_cost parts kind r (width parts d.scheme);
}

-- ---- plans with costs by estimates

-- what a node without children delivers
abbrev pub leaf_delivers : Env → LogicOp → Delivered
leaf_delivers env (Scan i cols) = scan_delivers env.parts (stream_at env.streams i)
leaf_delivers env (Ref i cols) = ref_delivers env.parts (result_columns env.lent i) cols (scheme_at env.schemes i)
leaf_delivers env op = record { scheme = Serial; local = [] }

-- the costs by places: the model at the estimates there
abbrev pub costs_at : CostModel → Sizes → Env → Expression → Costs
costs_at model Z env tree = record {
  leaf = λ k q. model.leaf k (size_at Z tree (place (shape.leaf q))).rows (leaf_delivers env (op_at tree q));
  one = λ k q p d. model.one k (size_at Z tree p).rows d;
  two = λ k q p r d e. model.two k (size_at Z tree p).rows (size_at Z tree r).rows d e;
  enforcer = λ k p d. model.enforcer k (size_at Z tree p).rows d;
}

-- the estimate of an expression that steps reach from the tree, by a shape that it has
abbrev pub estimate : Sizes → Expression → Expression → Shape → ℕ
estimate Z tree u s = (reached_size Z (pairs_at tree) u s).rows

-- an enforcer, or a node for an operator, over a child that `below` tells of
abbrev pub StepCosts : CostModel → Sizes → Env → Expression → PlanKind → Bool → (Expression → Shape → Delivered → ℕ → Type 0) → Expression → Shape → Delivered → ℕ → Type 0
StepCosts model Z env tree k true below u s d n = (h : Delivered) × (m : ℕ) × below u s h m × EnforcerDelivers env k u h d × (n ≡ model.enforcer k (estimate Z tree u s) h + m)
StepCosts model Z env tree k false below (one op t) (shape.one q r) d n = (h : Delivered) × (m : ℕ) × below t r h m × NodeDelivers env k op t h d × (n ≡ model.one k (estimate Z tree t r) h + m)
StepCosts model Z env tree k false below u s d n = ⊥

-- the plan implements the expression, which has this shape, delivers d and costs n, by the estimates of what its nodes implement
abbrev pub PlanCosts : CostModel → Sizes → Env → Expression → Plan → Expression → Shape → Delivered → ℕ → Type 0
PlanCosts model Z env tree (leaf k) u (shape.leaf q) d n = Delivers env (leaf k) u d × (n ≡ model.leaf k (estimate Z tree u (shape.leaf q)) d)
PlanCosts model Z env tree (leaf k) u s d n = ⊥
PlanCosts model Z env tree (one k p) u s d n = StepCosts model Z env tree k (is_enforcer k) (PlanCosts model Z env tree p) u s d n
PlanCosts model Z env tree (two k p q) (two op t u) (shape.two j r s) d n =
    (h g : Delivered) × (a b : ℕ) × PlanCosts model Z env tree p t r h a × PlanCosts model Z env tree q u s g b × PairDelivers env k op t u h g d
    × (n ≡ model.two k (estimate Z tree t r) (estimate Z tree u s) h g + (a + b))
PlanCosts model Z env tree (two k p q) u s d n = ⊥
