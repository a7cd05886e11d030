-- A node's children stand at their numbers.
use Rattle.std.proofs.Common.{◌≡◌, ℕ, zero, suc, ◌+◌, ◌-◌, ◌<◌, ◌≤◌, List, [], ◌∷◌, ◌++◌, length, refl, sym, ap, ◌∙◌, subst, arith, append_assoc, length-append, ◌⊎◌, inl, inr, Some, slice_get}
use Rattle.list_lemmas.specs.Reading.{get_front, get_past, get_last, split_get}
use Rattle.logical_trees.specs.Tree.{Expression, leaf, one, two, nodes}
use Rattle.logical_trees.specs.Numbers.{children, child_numbers, FitsNumber, HasChildren}

-- at the only place of a list of one
only_get : {X : Type 0} (x v : X) (m : ℕ) → slice_get (x ∷ []) m ≡ Some v → (m ≡ 0) × (v ≡ x)
only_get x v zero h = (refl, cc)
only_get x v (suc m) h = absurd (cc)

-- an expression is its own last node
pub some_node : (t : Expression) → 1 ≤ length (nodes t)
some_node (leaf op) = omega arith
some_node (one op t) = let e = length-append (nodes t) (one op t ∷ []) in omega (arith, e)
some_node (two op t u) = let e = length-append (nodes t) (nodes u ++ two op t u ∷ []) in let f = length-append (nodes u) (two op t u ∷ []) in omega (arith, e, f)

-- how many nodes a node with children has
pub nodes_one : (op : _) (t : Expression) → length (nodes (one op t)) ≡ length (nodes t) + 1
nodes_one op t = length-append (nodes t) (one op t ∷ [])

pub nodes_two : (op : _) (t u : Expression) → length (nodes (two op t u)) ≡ length (nodes t) + length (nodes u) + 1
nodes_two op t u =
    let e = length-append (nodes t) (nodes u ++ two op t u ∷ []) in
    let f = length-append (nodes u) (two op t u ∷ []) in
    omega (arith, e, f)

last_node : (t : Expression) (k : ℕ) → k + 1 ≡ length (nodes t) → slice_get (nodes t) k ≡ Some t
last_node (leaf op) zero h = refl
last_node (leaf op) (suc k) h = absurd (omega (arith, h))
last_node (one op t) k h =
    let e = length-append (nodes t) (one op t ∷ []) in
    get_last (nodes t) (one op t) (one op t) k 0 (omega (arith, e, h)) refl refl
last_node (two op t u) k h =
    let e = length-append (nodes t) (nodes u ++ two op t u ∷ []) in
    let f = length-append (nodes u) (two op t u ∷ []) in
    let m : k ≡ length (nodes t) + length (nodes u) = omega (arith, e, f, h) in
    get_past (nodes t) (nodes u ++ two op t u ∷ []) k (length (nodes u)) (two op t u) m (get_last (nodes u) (two op t u) (two op t u) (length (nodes u)) 0 (omega arith) refl refl)

-- ---- a node has no more nodes than its number says

pub fits_number : FitsNumber
fits_number (leaf op) v n h = let o = only_get (leaf op) v n h in subst (λ (w : Expression). length (nodes w) ≤ n + 1) (sym o.1) (omega arith)
fits_number (one op t) v n h = go (fits_number t v n) (split_get (nodes t) (one op t ∷ []) n v h)
  where
    go : (slice_get (nodes t) n ≡ Some v → length (nodes v) ≤ n + 1) → (slice_get (nodes t) n ≡ Some v) ⊎ ((m : ℕ) × (n ≡ length (nodes t) + m) × (slice_get (one op t ∷ []) m ≡ Some v)) → length (nodes v) ≤ n + 1
    go below (inl k) = below k
    go below (inr k) =
        let o = only_get (one op t) v k.0 k.2 in
        let e = length-append (nodes t) (one op t ∷ []) in
        let i : n ≡ length (nodes t) + k.0 = k.1 in
        subst (λ (w : Expression). length (nodes w) ≤ n + 1) (sym o.1) (omega (arith, e, i))
fits_number (two op t u) v n h = go (fits_number t v n) (fits_number u v) (split_get (nodes t) (nodes u ++ two op t u ∷ []) n v h)
  where
    later : ((m : ℕ) → slice_get (nodes u) m ≡ Some v → length (nodes v) ≤ m + 1) → (m : ℕ) → n ≡ length (nodes t) + m
        → (slice_get (nodes u) m ≡ Some v) ⊎ ((j : ℕ) × (m ≡ length (nodes u) + j) × (slice_get (two op t u ∷ []) j ≡ Some v)) → length (nodes v) ≤ n + 1
    later right m i (inl k) = let l : length (nodes v) ≤ m + 1 = right m k in omega (arith, i, l)
    later right m i (inr k) =
        let o = only_get (two op t u) v k.0 k.2 in
        let e = length-append (nodes t) (nodes u ++ two op t u ∷ []) in
        let f = length-append (nodes u) (two op t u ∷ []) in
        let j : m ≡ length (nodes u) + k.0 = k.1 in
        subst (λ (w : Expression). length (nodes w) ≤ n + 1) (sym o.1) (omega (arith, e, f, i, j))

    go : (slice_get (nodes t) n ≡ Some v → length (nodes v) ≤ n + 1) → ((m : ℕ) → slice_get (nodes u) m ≡ Some v → length (nodes v) ≤ m + 1)
        → (slice_get (nodes t) n ≡ Some v) ⊎ ((m : ℕ) × (n ≡ length (nodes t) + m) × (slice_get (nodes u ++ two op t u ∷ []) m ≡ Some v)) → length (nodes v) ≤ n + 1
    go left right (inl k) = left k
    go left right (inr k) = later right k.0 k.1 (split_get (nodes u) (two op t u ∷ []) k.0 v k.2)

-- ---- at the numbers of its children stand these

-- the child stands at the number
abbrev Stands : Expression → Expression → ℕ → ℕ → Type 0
Stands t v i k = (w : Expression) × (slice_get (children v) i ≡ Some w) × (slice_get (nodes t) k ≡ Some w)

-- numbers that begin later
shifted : (v : Expression) (before m i k : ℕ) → length (nodes v) ≤ m + 1 → slice_get (child_numbers v (before + m)) i ≡ Some k → (j : ℕ) × (k ≡ before + j) × (slice_get (child_numbers v m) i ≡ Some j)
shifted (leaf op) before m i k l h = absurd (cc)
shifted (one op t) before m zero k l h =
    let e = length-append (nodes t) (one op t ∷ []) in
    let s = some_node t in
    let is : before + m - 1 ≡ k = cc in
    (m - 1, omega (arith, e, s, is, l), refl)
shifted (one op t) before m (suc i) k l h = absurd (cc)
shifted (two op t u) before m zero k l h =
    let e = length-append (nodes t) (nodes u ++ two op t u ∷ []) in
    let f = length-append (nodes u) (two op t u ∷ []) in
    let s = some_node t in
    let is : before + m - length (nodes u) - 1 ≡ k = cc in
    (m - length (nodes u) - 1, omega (arith, e, f, s, is, l), refl)
shifted (two op t u) before m (suc zero) k l h =
    let e = length-append (nodes t) (nodes u ++ two op t u ∷ []) in
    let f = length-append (nodes u) (two op t u ∷ []) in
    let s = some_node t in
    let is : before + m - 1 ≡ k = cc in
    (m - 1, omega (arith, e, f, s, is, l), refl)
shifted (two op t u) before m (suc (suc i)) k l h = absurd (cc)

-- the children of the top
under_one : (op : _) (t : Expression) (n i k : ℕ) → n ≡ length (nodes t) → slice_get (child_numbers (one op t) n) i ≡ Some k → Stands (one op t) (one op t) i k
under_one op t n zero k e h =
    let s = some_node t in
    let is : n - 1 ≡ k = cc in
    (t, refl, get_front (nodes t) (one op t ∷ []) k t (last_node t k (omega (arith, e, s, is))))
under_one op t n (suc i) k e h = absurd (cc)

under_two : (op : _) (t u : Expression) (n i k : ℕ) → n ≡ length (nodes t) + length (nodes u) → slice_get (child_numbers (two op t u) n) i ≡ Some k → Stands (two op t u) (two op t u) i k
under_two op t u n zero k e h =
    let s = some_node t in
    let is : n - length (nodes u) - 1 ≡ k = cc in
    (t, refl, get_front (nodes t) (nodes u ++ two op t u ∷ []) k t (last_node t k (omega (arith, e, s, is))))
under_two op t u n (suc zero) k e h =
    let s = some_node u in
    let is : n - 1 ≡ k = cc in
    let m : k ≡ length (nodes t) + (length (nodes u) - 1) = omega (arith, e, s, is) in (
      u,
      refl,
      get_past (nodes t) (nodes u ++ two op t u ∷ []) k (length (nodes u) - 1) u m
          (get_front (nodes u) (two op t u ∷ []) (length (nodes u) - 1) u (last_node u (length (nodes u) - 1) (omega (arith, s)))),
    )
under_two op t u n (suc (suc i)) k e h = absurd (cc)

stands : (t v : Expression) (n i k : ℕ) → slice_get (nodes t) n ≡ Some v → slice_get (child_numbers v n) i ≡ Some k → Stands t v i k
stands (leaf op) v n i k h c =
    let o = only_get (leaf op) v n h in
    absurd (none i (subst (λ (w : Expression). slice_get (child_numbers w n) i ≡ Some k) o.1 c))
  where
    none : (i : ℕ) → slice_get (child_numbers (leaf op) n) i ≡ Some k → ⊥
    none i e = absurd (cc)
stands (one op t) v n i k h c = go (λ s. stands t v n i k s c) (split_get (nodes t) (one op t ∷ []) n v h)
  where
    go : (slice_get (nodes t) n ≡ Some v → Stands t v i k) → (slice_get (nodes t) n ≡ Some v) ⊎ ((m : ℕ) × (n ≡ length (nodes t) + m) × (slice_get (one op t ∷ []) m ≡ Some v)) → Stands (one op t) v i k
    go below (inl s) = let w = below s in (w.0, w.1, get_front (nodes t) (one op t ∷ []) k w.0 w.2)
    go below (inr s) =
        let o = only_get (one op t) v s.0 s.2 in
        let e : n ≡ length (nodes t) + s.0 = s.1 in
        subst (λ (w : Expression). Stands (one op t) w i k) (sym o.1)
        (under_one op t n i k (let z : s.0 ≡ 0 = o.0 in omega (arith, e, z)) (subst (λ (w : Expression). slice_get (child_numbers w n) i ≡ Some k) o.1 c))
stands (two op t u) v n i k h c = go (λ s. stands t v n i k s c) (λ m j. stands u v m i j) (split_get (nodes t) (nodes u ++ two op t u ∷ []) n v h)
  where
    right : ((m j : ℕ) → slice_get (nodes u) m ≡ Some v → slice_get (child_numbers v m) i ≡ Some j → Stands u v i j) → (m : ℕ) → n ≡ length (nodes t) + m → slice_get (nodes u) m ≡ Some v → Stands (two op t u) v i k
    right inner m e s =
        let j = shifted v (length (nodes t)) m i k (fits_number u v m s) (subst (λ (x : ℕ). slice_get (child_numbers v x) i ≡ Some k) e c) in
        let w = inner m j.0 s j.2 in
        (w.0, w.1, get_past (nodes t) (nodes u ++ two op t u ∷ []) k j.0 w.0 j.1 (get_front (nodes u) (two op t u ∷ []) j.0 w.0 w.2))

    later : ((m j : ℕ) → slice_get (nodes u) m ≡ Some v → slice_get (child_numbers v m) i ≡ Some j → Stands u v i j) → (m : ℕ) → n ≡ length (nodes t) + m
        → (slice_get (nodes u) m ≡ Some v) ⊎ ((j : ℕ) × (m ≡ length (nodes u) + j) × (slice_get (two op t u ∷ []) j ≡ Some v)) → Stands (two op t u) v i k
    later inner m e (inl s) = right inner m e s
    later inner m e (inr s) =
        let o = only_get (two op t u) v s.0 s.2 in
        let f : m ≡ length (nodes u) + s.0 = s.1 in
        subst (λ (w : Expression). Stands (two op t u) w i k) (sym o.1)
        (under_two op t u n i k (let z : s.0 ≡ 0 = o.0 in omega (arith, e, f, z)) (subst (λ (w : Expression). slice_get (child_numbers w n) i ≡ Some k) o.1 c))

    go : (slice_get (nodes t) n ≡ Some v → Stands t v i k) → ((m j : ℕ) → slice_get (nodes u) m ≡ Some v → slice_get (child_numbers v m) i ≡ Some j → Stands u v i j)
        → (slice_get (nodes t) n ≡ Some v) ⊎ ((m : ℕ) × (n ≡ length (nodes t) + m) × (slice_get (nodes u ++ two op t u ∷ []) m ≡ Some v)) → Stands (two op t u) v i k
    go left inner (inl s) = let w = left s in (w.0, w.1, get_front (nodes t) (nodes u ++ two op t u ∷ []) k w.0 w.2)
    go left inner (inr s) = later inner s.0 s.1 (split_get (nodes u) (two op t u ∷ []) s.0 v s.2)

pub has_children : HasChildren
has_children t v n i k h c = let w = stands t v n i k h c in w.2 ∙ sym w.1
