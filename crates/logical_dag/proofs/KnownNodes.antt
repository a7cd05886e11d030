-- The facts of the nodes of a tree in a list: those below a node are found from it, and they are put one after the other.
use Rattle.std.proofs.Common.{◌≡◌, ◌≢◌, Bool, true, false, nat_eq, ℕ, zero, suc, ◌+◌, ◌-◌, ◌<◌, ◌≤◌, List, [], ◌∷◌, ◌++◌, length, map, refl, sym, ap, ◌∙◌, subst, arith, ◌⊎◌, inl, inr, Option, Some, None, slice_get, append_assoc, length-append}
use Rattle.std.specs.Prelude.{IsSomeAnd, IfSome, IfOk, Result, Ok, Err}
use Rattle.std.proofs.lemmas.Bool.Decides.{nat_tests}
use Rattle.std.proofs.lemmas.Option.{slice_get_within}
use Rattle.col_sets.specs.Tests.{from_test}
use Rattle.fd_closure.specs.declared.facts.Facts.{Facts}
use Rattle.logical_trees.specs.declared.logic_op.LogicOp.{LogicOp}
use Rattle.logical_dag.specs.declared.known_nodes.NodeFacts.{NodeFacts}
use Rattle.logical_trees.specs.declared.logical.Logical.{Logical, out-Logical}
use Rattle.logical_trees.specs.Tree.{Expression, leaf, one, two, node, nodes, columns_of, tree_of}
use Rattle.logical_trees.specs.ShapeLemmas.{opened}
use Rattle.logical_trees.specs.Formed.{IsFormed, IsOneFormed, IsTwoFormed}
use Rattle.logical_dag.specs.Facts.{AreFactsOf}
use Rattle.logical_dag.specs.Known.{IsOwn, IsJoinApart}
use Rattle.logical_dag.specs.Laws.{lent_columns}
use Rattle.logical_dag.specs.KnownNodes.{HasFacts, HasNodes, MayHaveFacts, MayHaveNodes, ArePut, IsPutAbove, IsPutOver}
use Rattle.list_lemmas.specs.Reading.{get_front, get_last, split_get}
use Rattle.logical_dag.proofs.Placed.{some_and, and_some}
use Rattle.logical_dag.proofs.KnownTables.{facts_own, joined_apart}

-- what follows from what is said of a success
pub if_ok_more : {X Y P Q : Type 0} (r : Result X Y) → (P → Q) → IfOk r (λ x. P) → IfOk r (λ x. Q)
if_ok_more (Ok x) f h = f h
if_ok_more (Err e) f h = tt

-- ---- places of lists

-- what is said of the value that is there, by that value
pub at_some : {X : Type 0} (o : Option X) (P : X → Type 0) (x : X) → o ≡ Some x → IsSomeAnd o P → P x
at_some o P x e h = subst (λ q. IsSomeAnd q P) e h

-- one element has one place
get_only : {X : Type 0} (y : X) (n : ℕ) (x : X) → slice_get (y ∷ []) n ≡ Some x → (n ≡ 0) × (x ≡ y)
get_only y zero x h = (refl, cc)
get_only y (suc n) x h = absurd (cc)

-- the last place
get_end : {X : Type 0} (xs : List X) (x : X) → slice_get (xs ++ x ∷ []) (length xs) ≡ Some x
get_end xs x = get_last xs x x (length xs) 0 (omega arith) refl refl

-- what holds of two values that stand at places holds of what stands there
pub at_both : {X Y : Type 0} (get : X → Y) (o q : Option X) (y z : Y) (R : Y → Y → Type 0) → IsSomeAnd o (λ x. y ≡ get x) → IsSomeAnd q (λ x. z ≡ get x) → R y z → IsSomeAnd o (λ x. IsSomeAnd q (λ w. R (get x) (get w)))
at_both get None q y z R h k r = h
at_both get (Some x) None y z R h k r = k
at_both get (Some x) (Some w) y z R h k r = subst (λ v. R v (get w)) h (subst (λ v. R y v) k r)

-- ---- the nodes of a tree

-- the last node is the tree itself
pub nodes_last : (t : Expression) → (xs : List Expression) × (nodes t ≡ xs ++ t ∷ [])
nodes_last (leaf op) = ([], refl)
nodes_last (one op t) = (nodes t, refl)
nodes_last (two op t u) = (nodes t ++ nodes u, sym (append_assoc (nodes t) (nodes u) (two op t u ∷ [])))

-- ---- facts that are there

module _ (shared : List Facts) where
  -- the facts of the expression stand at its number
  pub top_there : (known : List NodeFacts) (t : Expression) (n : ℕ) → HasFacts shared known t n → IsSomeAnd (slice_get known n) (λ k. AreFactsOf shared t k.facts)
  top_there known (leaf op) n h = h
  top_there known (one op t) n h = let m = some_and (slice_get known n) _ h in and_some (slice_get known n) _ m.0 m.1 m.2.0
  top_there known (two op t u) n h = let m = some_and (slice_get known n) _ h in and_some (slice_get known n) _ m.0 m.1 m.2.0

  -- those below it are there too
  pub right_has : (known : List NodeFacts) (op : LogicOp) (t u : Expression) (n : ℕ) → HasFacts shared known (two op t u) n → HasFacts shared known u (n - 1)
  right_has known op t u n h = (some_and (slice_get known n) _ h).2.2

  pub left_has : (known : List NodeFacts) (op : LogicOp) (t u : Expression) (n l : ℕ) → IfSome (slice_get known n) (λ k. l ≡ k.left) → HasFacts shared known (two op t u) n → HasFacts shared known t l
  left_has known op t u n l e h =
      let m = some_and (slice_get known n) _ h in
      let is : l ≡ m.0.left = subst (λ q. IfSome q (λ k. l ≡ k.left)) m.1 e in
      subst (λ (i : ℕ). HasFacts shared known t i) (sym is) m.2.1

  pub right_may : (known : List NodeFacts) (op : LogicOp) (t u : Expression) (n : ℕ) → MayHaveFacts shared known (two op t u) n → MayHaveFacts shared known u (n - 1)
  right_may known op t u n (inl e) = inl e
  right_may known op t u n (inr h) = inr (right_has known op t u n h)

  pub left_may : (known : List NodeFacts) (op : LogicOp) (t u : Expression) (n l : ℕ) → IfSome (slice_get known n) (λ k. l ≡ k.left) → MayHaveFacts shared known (two op t u) n → MayHaveFacts shared known t l
  left_may known op t u n l e (inl h) = inl h
  left_may known op t u n l e (inr h) = inr (left_has known op t u n l e h)

  -- what is found at the number are the facts of the expression
  pub found_facts : (known : List NodeFacts) (t : Expression) (n : ℕ) (k : NodeFacts) → slice_get known n ≡ Some k → MayHaveFacts shared known t n → AreFactsOf shared t k.facts
  found_facts known t n k e (inl none) = absurd (let l = slice_get_within known n k e in let z = ap length none in omega (arith, l, z))
  found_facts known t n k e (inr h) = at_some (slice_get known n) (λ f. AreFactsOf shared t f.facts) k e (top_there known t n h)

  -- of a node of a tree whose nodes' facts are known
  pub node_may : (known : List NodeFacts) (t u : Expression) (i : ℕ) → slice_get (nodes t) i ≡ Some u → MayHaveNodes shared known t → MayHaveFacts shared known u i
  node_may known t u i e (inl none) = inl none
  node_may known t u i e (inr h) = let same : 0 + i ≡ i = omega arith in inr (subst (λ (n : ℕ). HasFacts shared known u n) same (h i u e))

  -- ---- facts that are put

  -- more facts take nothing away
  has_more : (known more : List NodeFacts) (t : Expression) (n : ℕ) → HasFacts shared known t n → HasFacts shared (known ++ more) t n
  has_more known more (leaf op) n h = let m = some_and (slice_get known n) _ h in and_some (slice_get (known ++ more) n) _ m.0 (get_front known more n m.0 m.1) m.2
  has_more known more (one op t) n h =
      let m = some_and (slice_get known n) _ h in
      and_some (slice_get (known ++ more) n) _ m.0 (get_front known more n m.0 m.1) (m.2.0, has_more known more t (n - 1) m.2.1)
  has_more known more (two op t u) n h =
      let m = some_and (slice_get known n) _ h in
      and_some (slice_get (known ++ more) n) _ m.0 (get_front known more n m.0 m.1) (m.2.0, has_more known more t m.0.left m.2.1, has_more known more u (n - 1) m.2.2)

  -- facts that stood before others were put still stand
  pub kept_has : (u : Expression) (before after : List NodeFacts) → ArePut shared u before after → (t : Expression) (n : ℕ) → HasFacts shared before t n → HasFacts shared after t n
  kept_has u before after put t n h = subst (λ ks. HasFacts shared ks t n) (sym put.longer.1) (has_more before put.longer.0 t n h)

  -- the facts of the tree stand last
  pub last_has : (t : Expression) (before after : List NodeFacts) → ArePut shared t before after → (1 ≤ length after) × HasFacts shared after t (length after - 1)
  last_has t before after put =
      let xs = nodes_last t in
      let more = put.longer in
      let e : length (nodes t) ≡ length xs.0 + 1 = ap length xs.1 ∙ length-append xs.0 (t ∷ []) in
      let f : length after ≡ length before + length more.0 = ap length more.1 ∙ length-append before more.0 in
      let g = more.2 in
      let n : length before + length xs.0 ≡ length after - 1 = omega (arith, e, f, g) in
      let there : slice_get (nodes t) (length xs.0) ≡ Some t = ap (λ ys. slice_get ys (length xs.0)) xs.1 ∙ get_end xs.0 t in
      (omega (arith, e, f, g), subst (λ (i : ℕ). HasFacts shared after t i) n (put.nodes (length xs.0) t there))

  -- a node over one
  pub above_put : (op : LogicOp) (t : Expression) (before middle after : List NodeFacts) → IsFormed (lent_columns shared) (one op t) → ArePut shared t before middle
      → IsPutAbove op (length middle - 1) middle after → ArePut shared (one op t) before after
  above_put op t before middle after formed put top = record {
    longer = (more.0 ++ k ∷ [], e ∙ ap (λ ks. ks ++ k ∷ []) more.1 ∙ append_assoc before more.0 (k ∷ []), length-append more.0 (k ∷ []) ∙ ap (λ n. n + 1) more.2 ∙ sym (length-append (nodes t) (one op t ∷ [])));
    nodes = λ i u h. go i u (split_get (nodes t) (one op t ∷ []) i u h);
  }
    where
      k : NodeFacts
      k = top.0

      e : after ≡ middle ++ k ∷ []
      e = top.1

      more : (rest : List NodeFacts) × (middle ≡ before ++ rest) × (length rest ≡ length (nodes t))
      more = put.longer

      last : HasFacts shared middle t (length middle - 1)
      last = (last_has t before middle put).1

      facts : AreFactsOf shared (one op t) k.facts
      facts =
          let b = some_and (slice_get middle (length middle - 1)) _ top.2 in
          b.2 shared t formed (at_some (slice_get middle (length middle - 1)) (λ f. AreFactsOf shared t f.facts) b.0 b.1 (top_there middle t (length middle - 1) last))

      own : HasFacts shared after (one op t) (length middle)
      own = subst (λ ks. HasFacts shared ks (one op t) (length middle)) (sym e)
          (and_some (slice_get (middle ++ k ∷ []) (length middle)) _ k (get_end middle k) (facts, has_more middle (k ∷ []) t (length middle - 1) last))

      go : (i : ℕ) (u : Expression) → (slice_get (nodes t) i ≡ Some u) ⊎ ((m : ℕ) × (i ≡ length (nodes t) + m) × (slice_get (one op t ∷ []) m ≡ Some u)) → HasFacts shared after u (length before + i)
      go i u (inl h) = subst (λ ks. HasFacts shared ks u (length before + i)) (sym e) (has_more middle (k ∷ []) u (length before + i) (put.nodes i u h))
      go i u (inr h) =
          let m = get_only (one op t) h.0 u h.2 in
          let f : length middle ≡ length before + length more.0 = ap length more.1 ∙ length-append before more.0 in
          let g = more.2 in
          let z = m.0 in
          let at = h.1 in
          let n : length middle ≡ length before + i = omega (arith, f, g, z, at) in
          subst (λ (j : ℕ). HasFacts shared after u j) n (subst (λ v. HasFacts shared after v (length middle)) (sym m.1) own)

  -- a node over two
  pub over_put : (op : LogicOp) (t u : Expression) (before middle both after : List NodeFacts) → IsFormed (lent_columns shared) (two op t u) → ArePut shared t before middle → ArePut shared u middle both
      → IsPutOver op (length middle - 1) (length both - 1) both after → ArePut shared (two op t u) before after
  over_put op t u before middle both after formed put beside top = record {
    longer = (more.0 ++ (rest.0 ++ k ∷ []), whole, counted);
    nodes = λ i v h. go i v (split_get (nodes t) (nodes u ++ two op t u ∷ []) i v h);
  }
    where
      k : NodeFacts
      k = top.0

      e : after ≡ both ++ k ∷ []
      e = top.1

      more : (some : List NodeFacts) × (middle ≡ before ++ some) × (length some ≡ length (nodes t))
      more = put.longer

      rest : (some : List NodeFacts) × (both ≡ middle ++ some) × (length some ≡ length (nodes u))
      rest = beside.longer

      whole : after ≡ before ++ (more.0 ++ (rest.0 ++ k ∷ []))
      whole =
          e ∙ ap (λ ks. ks ++ k ∷ []) (rest.1 ∙ ap (λ ks. ks ++ rest.0) more.1) ∙ append_assoc (before ++ more.0) rest.0 (k ∷ [])
          ∙ append_assoc before more.0 (rest.0 ++ k ∷ [])

      counted : length (more.0 ++ (rest.0 ++ k ∷ [])) ≡ length (nodes t ++ (nodes u ++ two op t u ∷ []))
      counted =
          let a = length-append more.0 (rest.0 ++ k ∷ []) in
          let b = length-append rest.0 (k ∷ []) in
          let c = length-append (nodes t) (nodes u ++ two op t u ∷ []) in
          let d = length-append (nodes u) (two op t u ∷ []) in
          let f = more.2 in
          let g = rest.2 in
          omega (arith, a, b, c, d, f, g)

      still : (v : Expression) (n : ℕ) → HasFacts shared middle v n → HasFacts shared both v n
      still = kept_has u middle both beside

      last : (v : Expression) (n : ℕ) → HasFacts shared both v n → HasFacts shared after v n
      last v n h = subst (λ ks. HasFacts shared ks v n) (sym e) (has_more both (k ∷ []) v n h)

      left : HasFacts shared both t (length middle - 1)
      left = still t (length middle - 1) (last_has t before middle put).1

      right : HasFacts shared both u (length both - 1)
      right = (last_has u middle both beside).1

      facts : AreFactsOf shared (two op t u) k.facts
      facts =
          let b = some_and (slice_get both (length middle - 1)) _ top.3 in
          let c = some_and (slice_get both (length both - 1)) _ b.2 in
          c.2 shared t u formed (at_some (slice_get both (length middle - 1)) (λ f. AreFactsOf shared t f.facts) b.0 b.1 (top_there both t (length middle - 1) left))
          (at_some (slice_get both (length both - 1)) (λ f. AreFactsOf shared u f.facts) c.0 c.1 (top_there both u (length both - 1) right))

      own : HasFacts shared after (two op t u) (length both)
      own =
          and_some (slice_get after (length both)) _ k (ap (λ ks. slice_get ks (length both)) e ∙ get_end both k)
          (facts, subst (λ (n : ℕ). HasFacts shared after t n) (sym top.2) (last t (length middle - 1) left), last u (length both - 1) right)

      go : (i : ℕ) (v : Expression) → (slice_get (nodes t) i ≡ Some v) ⊎ ((m : ℕ) × (i ≡ length (nodes t) + m) × (slice_get (nodes u ++ two op t u ∷ []) m ≡ Some v))
          → HasFacts shared after v (length before + i)
      go i v (inl h) = last v (length before + i) (still v (length before + i) (put.nodes i v h))
      go i v (inr h) = past (split_get (nodes u) (two op t u ∷ []) h.0 v h.2)
        where
          f : length middle ≡ length before + length more.0
          f = ap length more.1 ∙ length-append before more.0

          g : length both ≡ length middle + length rest.0
          g = ap length rest.1 ∙ length-append middle rest.0

          past : (slice_get (nodes u) h.0 ≡ Some v) ⊎ ((m : ℕ) × (h.0 ≡ length (nodes u) + m) × (slice_get (two op t u ∷ []) m ≡ Some v)) → HasFacts shared after v (length before + i)
          past (inl j) =
              let at = h.1 in
              let count = more.2 in
              let n : length middle + h.0 ≡ length before + i = omega (arith, f, at, count) in
              subst (λ (l : ℕ). HasFacts shared after v l) n (last v (length middle + h.0) (beside.nodes h.0 v j))
          past (inr j) =
              let m = get_only (two op t u) j.0 v j.2 in
              let at = h.1 in
              let there = j.1 in
              let z = m.0 in
              let count = more.2 in
              let more_count = rest.2 in
              let n : length both ≡ length before + i = omega (arith, f, g, at, there, z, count, more_count) in
              subst (λ (l : ℕ). HasFacts shared after v l) n (subst (λ w. HasFacts shared after w (length both)) (sym m.1) own)

  -- ---- what the steps ask for

  -- a node over an expression whose facts stand at that number
  pub above_asks : (known : List NodeFacts) (op : LogicOp) (t : Expression) (n : ℕ) → IsFormed (lent_columns shared) (one op t) → HasFacts shared known t n
      → IsSomeAnd (slice_get known n) (λ k. IsOneFormed k.facts.columns op × IsOwn k.facts)
  above_asks known op t n formed h =
      let m = some_and (slice_get known n) _ (top_there known t n h) in
      and_some (slice_get known n) _ m.0 m.1 (subst (λ (cols : List ℕ). IsOneFormed cols op) (sym m.2.columns) formed.1, facts_own shared t m.0.facts m.2)

  pub over_asks : (known : List NodeFacts) (op : LogicOp) (t u : Expression) (n l : ℕ) → IsFormed (lent_columns shared) (two op t u) → HasFacts shared known t n → HasFacts shared known u l
      → IsSomeAnd (slice_get known n) (λ k. IsSomeAnd (slice_get known l) (λ m. IsTwoFormed k.facts.columns m.facts.columns op × IsOwn k.facts × IsJoinApart op k.facts m.facts))
  over_asks known op t u n l formed h j =
      let a = some_and (slice_get known n) _ (top_there known t n h) in
      let b = some_and (slice_get known l) _ (top_there known u l j) in
      and_some (slice_get known n) _ a.0 a.1
      (and_some (slice_get known l) _ b.0 b.1 (
        subst (λ (cols : List ℕ). IsTwoFormed a.0.facts.columns cols op) (sym b.2.columns) (subst (λ (cols : List ℕ). IsTwoFormed cols (columns_of u) op) (sym a.2.columns) formed.2),
        facts_own shared t a.0.facts a.2,
        joined_apart shared (lent_columns shared) op t u a.0.facts b.0.facts formed a.2 b.2,
      ))

-- ---- tree after tree

-- of the first n of these trees the facts of all nodes stand in the lists
pub record ArePutTrees (lent : List Facts) (all : List Expression) (n : ℕ) (trees : List (List NodeFacts)) : Type 0 where
  pub count : length trees ≡ n
  pub facts : (i : ℕ) (t : Expression) → i < n → slice_get all i ≡ Some t → IsSomeAnd (slice_get trees i) (λ known. HasNodes lent known t 0)

-- the next tree
pub put_tree : (lent : List Facts) (all : List Expression) (n : ℕ) (trees : List (List NodeFacts)) (known : List NodeFacts) (t : Expression) → ArePutTrees lent all n trees → slice_get all n ≡ Some t → HasNodes lent known t 0
    → ArePutTrees lent all (n + 1) (trees ++ known ∷ [])
put_tree lent all n trees known t put there has = record { count = length-append trees (known ∷ []) ∙ ap (λ k. k + 1) put.count; facts = λ i u l e. go i u l e (nat_eq i n) refl }
  where
    go : (i : ℕ) (u : Expression) → i < n + 1 → slice_get all i ≡ Some u → (b : Bool) → nat_eq i n ≡ b → IsSomeAnd (slice_get (trees ++ known ∷ []) i) (λ known. HasNodes lent known u 0)
    go i u l e true b =
        let same : i ≡ n = from_test i n b in
        let is : Some t ≡ Some u = sym there ∙ ap (slice_get all) (sym same) ∙ e in
        let at : slice_get (trees ++ known ∷ []) i ≡ Some known = ap (slice_get (trees ++ known ∷ [])) (same ∙ sym put.count) ∙ get_end trees known in
        and_some (slice_get (trees ++ known ∷ []) i) _ known at (let one : t ≡ u = cc in subst (λ v. HasNodes lent known v 0) one has)
    go i u l e false b =
        let other : i ≢ n = grind (arith, nat_tests) in
        let low : i < n = omega (arith, l, other) in
        let m = some_and (slice_get trees i) _ (put.facts i u low e) in
        and_some (slice_get (trees ++ known ∷ []) i) _ m.0 (get_front trees (known ∷ []) i m.0 m.1) m.2
