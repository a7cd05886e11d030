-- A node by the children that a slice pattern found, and their numbers.
use Rattle.std.proofs.Common.{◌≡◌, ℕ, zero, suc, ◌+◌, ◌-◌, ◌<◌, ◌≤◌, List, [], ◌∷◌, map, length, get_or, refl, sym, ap, ◌∙◌, arith, Some, None, slice_get}
use Rattle.logical_trees.specs.declared.logic_op.LogicOp.{LogicOp}
use Rattle.logical_trees.specs.declared.logical.Logical.{Logical, out-Logical}
use Rattle.logical_trees.specs.Tree.{Expression, leaf, one, two, node, nodes, tree_of}
use Rattle.logical_trees.specs.Numbers.{child_numbers}
use Rattle.logical_trees.specs.NumberLemmas.{some_node, nodes_one, nodes_two}
use Rattle.logical_trees.specs.ShapeLemmas.{tree_one, tree_two}

-- ---- what the pattern says

pub one_child : (t : Logical) (kids : List Logical) → kids ≡ (out-Logical t).kids → 1 ≤ length kids → length kids < 2 → (u : Logical) × (tree_of t ≡ one (out-Logical t).op (tree_of u))
one_child t [] e l m = absurd (omega (arith, l))
one_child t (u ∷ []) e l m = (u, tree_one t (u ∷ []) u e l m refl)
one_child t (u ∷ v ∷ kids) e l m = absurd (omega (arith, m))

pub two_children : (t : Logical) (kids : List Logical) (v : Logical) → kids ≡ (out-Logical t).kids → 2 ≤ length kids → v ≡ get_or kids 1 v → (u : Logical) × (tree_of t ≡ two (out-Logical t).op (tree_of u) (tree_of v))
two_children t [] v e l is = absurd (omega (arith, l))
two_children t (u ∷ kids) v e l is = (u, tree_two t (u ∷ kids) u v e l refl is)

-- ---- how many nodes there are

pub many_one : (x : Expression) (op : LogicOp) (t : Expression) (n : ℕ) → x ≡ one op t → length (nodes x) ≤ n + 1 → 1 ≤ n
many_one x op t n e l = let k = ap (λ y. length (nodes y)) e ∙ nodes_one op t in let s = some_node t in omega (arith, k, s, l)

pub many_two : (x : Expression) (op : LogicOp) (t u : Expression) (n : ℕ) → x ≡ two op t u → length (nodes x) ≤ n + 1 → 1 + length (nodes u) ≤ n
many_two x op t u n e l = let k = ap (λ y. length (nodes y)) e ∙ nodes_two op t u in let s = some_node t in omega (arith, k, s, l)

-- ---- the numbers

pub none_numbered : (x : Expression) (op : LogicOp) (n i : ℕ) → x ≡ leaf op → None ≡ slice_get (child_numbers x n) i
none_numbered x op n i e = rw e refl

pub one_numbered : (x : Expression) (op : LogicOp) (t : Expression) (n i : ℕ) → x ≡ one op t → i ≡ 0 → Some (n - 1) ≡ slice_get (child_numbers x n) i
one_numbered x op t n i e z = rw (e, z) refl

pub one_past : (x : Expression) (op : LogicOp) (t : Expression) (n i : ℕ) → x ≡ one op t → (i ≡ 0 → ⊥) → None ≡ slice_get (child_numbers x n) i
one_past x op t n zero e h = absurd (h refl)
one_past x op t n (suc i) e h = rw e refl

pub left_numbered : (x : Expression) (op : LogicOp) (t u : Expression) (n i first : ℕ) → x ≡ two op t u → i ≡ 0 → n ≡ length (nodes u) + first → Some (first - 1) ≡ slice_get (child_numbers x n) i
left_numbered x op t u n i first e z h = let k : first - 1 ≡ n - length (nodes u) - 1 = omega (arith, h) in rw (e, z) (ap Some k)

pub right_numbered : (x : Expression) (op : LogicOp) (t u : Expression) (n i : ℕ) → x ≡ two op t u → i ≡ 1 → Some (n - 1) ≡ slice_get (child_numbers x n) i
right_numbered x op t u n i e z = rw (e, z) refl
