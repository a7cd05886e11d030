-- No plan of a whole script costs less.
use Rattle.std.proofs.Common.{◌≡◌, ◌<◌, ◌≤◌, ℕ, zero, suc, List, arith, Some, slice_get}
use Rattle.structural_props.specs.declared.scheme.Scheme.{Scheme}
use Rattle.structural_props.specs.declared.property.Delivered.{Delivered}
use Rattle.logical_trees.specs.Tree.{Expression}
use Rattle.logical_dag.specs.Scripts.{all_trees, IsBindable}
use Rattle.logical_dag.proofs.Placed.{shared_columns, tree_formed}
use Rattle.parts_plans.specs.Plans.{Plan, Delivers}
use Rattle.rules_steps.specs.Steps.{Reaches}
use Rattle.rules_shapes.specs.Shapes.{Shape, shape_of, IsShaped}
use Rattle.rules_shapes.proofs.Shaped.{reached_shaped}
use Rattle.rules_shapes.proofs.Meant.{back_reached}
use Rattle.rules_optimal.specs.Tables.{AreByPlace}
use Rattle.rules_optimal.specs.Listed.{IsListed}
use Rattle.rules_optimal.proofs.ByPlace.{by_place}
use Rattle.rules_optimal.proofs.Bounded.{priced, above}
use Rattle.rules_optimal.proofs.Listed.{listed_in, told, told_delivers}
use Rattle.rules_tables.specs.Tables.{AreKnown}
use Rattle.rules_tables.specs.Scripts.{script_of, forms_of}
use Rattle.rules_tables.proofs.Table.{table_is}
use Rattle.rules_tables.proofs.Script.{script_is}
use Rattle.rules_tables.proofs.Forms.{forms_are, forms_linked}
use Rattle.rules_scripts.specs.Whole.{sum_to, Setting, tree_count, env_for, table_for, IsWanted, TreeGroups, root_of, AreTreeGroups, IsPlanOf}
use Rattle.rules_scripts.specs.Laws.{HasItsCost, NoScriptCostsLess, ListedIsPlan}
use Rattle.rules_space.specs.Steps.{IsMemo}
use Rattle.rules_space.proofs.Sound.{memo_is_space, found}
use Rattle.rules_space.proofs.Whole.{represented}

sum_most : (f g : ℕ → ℕ) (n : ℕ) → ((t : ℕ) → t < n → f t ≤ g t) → sum_to f n ≤ sum_to g n
sum_most f g zero h = omega arith
sum_most f g (suc n) h =
    let a = sum_most f g n (λ t l. h t (omega (arith, l))) in
    let b = h n (omega arith) in
    omega (arith, a, b)

module _ (W : Setting) (bound : IsBindable W.dag) (known : AreKnown W.lent W.dag W.known) (given : List Scheme) (t : ℕ) where
  abbrev results : List (List ℕ)
  results = shared_columns W.dag

  -- what is reached from the tree goes by its places
  placed : (tree u : Expression) (s : Shape) → slice_get (all_trees W.dag) t ≡ Some tree → IsShaped 0 tree u s → AreByPlace (table_for W given t tree) u s
  placed tree u s there g =
      by_place results (table_for W given t tree) tree (table_is (env_for W given t) (W.costs given t) W.dag W.known t tree there known) u s (tree_formed W.dag bound t tree there) g

  -- a plan has its cost
  has_cost : (tree u : Expression) (p : Plan) (d : Delivered) → slice_get (all_trees W.dag) t ≡ Some tree → Reaches tree u → Delivers (env_for W given t) p u d → IsWanted W given t d → (n : ℕ) × IsPlanOf W given t tree p n
  has_cost tree u p d there r m want =
      let h = tree_formed W.dag bound t tree there in
      let w = reached_shaped results (script_of tree) 0 tree u h (script_is results tree h).0 r in
      let n = priced (table_for W given t tree) p u w.0 d (placed tree u w.0 there w.2) m in
      (n.0, record { of = u; reached = r; shape = w.0; path = w.1; shaped = w.2; gives = d; delivers = m; tells = n.1; wanted = want })

  -- the groups of a tree
  memo_of : (c : TreeGroups) → AreTreeGroups W t c → IsMemo (script_of c.tree) (forms_of c.tree) c.memo c.at
  memo_of c h = record {
    begins = h.begins;
    stepped = h.stepped;
    placed = h.placed;
    linked_dag = forms_linked results c.tree c.memo c.at (tree_formed W.dag bound t c.tree h.there) h.begins h.placed;
  }

  -- a plan costs at least the bound of what it delivers
  bounded_below : (c : TreeGroups) → AreTreeGroups W t c → (p : Plan) (n : ℕ) (k : IsPlanOf W given t c.tree p n) → c.bound given (root_of c) k.gives ≤ n
  bounded_below c h p n k =
      let memo = memo_of c h in
      let i = represented (script_of c.tree) (forms_of c.tree) c.memo c.at (root_of c) memo h.closed (shape_of 0 c.tree) k.shape (forms_are c.tree) k.path in
      above (table_for W given t c.tree) c.memo c.at (c.bound given) (found (script_of c.tree) (forms_of c.tree) c.memo c.at memo) (h.bounded given) p (root_of c) k.of k.shape k.gives n i (placed c.tree k.of k.shape h.there k.shaped) k.tells

  -- a plan of listed expressions
  listed_plan : (c : TreeGroups) → AreTreeGroups W t c → (p : Plan) (s : Shape) (d : Delivered) (n : ℕ) → IsListed (table_for W given t c.tree) c.memo c.at p (root_of c) s d n → IsWanted W given t d → IsPlanOf W given t c.tree p n
  listed_plan c h p s d n l want =
      let T = table_for W given t c.tree in
      let S = script_of c.tree in
      let memo = memo_of c h in
      let formed = tree_formed W.dag bound t c.tree h.there in
      let i = listed_in T c.memo c.at p (root_of c) s d n l in
      let r = memo_is_space S (forms_of c.tree) c.memo c.at memo (root_of c) (shape_of 0 c.tree) s (forms_are c.tree) i in
      let u = back_reached results S 0 c.tree s formed (script_is results c.tree formed).1 r in
      let m = told T c.memo c.at (found S (forms_of c.tree) c.memo c.at memo) p (root_of c) u.0 s d n (placed c.tree u.0 s h.there u.2) l in
      record { of = u.0; reached = u.1; shape = s; path = r; shaped = u.2; gives = d; delivers = told_delivers T p u.0 s d n m; tells = m; wanted = want }

pub has_its_cost : HasItsCost
has_its_cost W given t tree u p d bound known there r m want = has_cost W bound known given t tree u p d there r m want

pub listed_is_plan : ListedIsPlan
listed_is_plan W c given t bound known h p s d n l want = listed_plan W bound known given t c h p s d n l want

pub no_script_costs_less : NoScriptCostsLess
no_script_costs_less W groups C bound known each least given plans costs are =
    let l = least given in
    let s = sum_most l.0 costs (tree_count W) (λ t m. go t m (l.1 t (are t m).gives m (are t m).wanted) (bounded_below W bound known given t (groups t) (each t m) (plans t) (costs t) (are t m))) in
    let c = l.2 in
    omega (arith, s, c)
  where
    go : (t : ℕ) (m : t < tree_count W) {a b c : ℕ} → a ≤ b → b ≤ c → a ≤ c
    go t m x y = omega (arith, x, y)
