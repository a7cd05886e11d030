-- A table for a join of two streams.
use Rattle.std.proofs.Common.{◌≡◌, ◌≤◌, ℕ, Bool, true, false, cond, List, [], ◌∷◌, ◌++◌, map, length, length-append, arith, refl, sym, ap, ◌∙◌, subst, ◌⊎◌, inl, inr, IsPermutation}
use Rattle.std.proofs.lemmas.List.Sorted.{IsPermutation-trans, IsPermutation-sym, IsPermutation-map, Contains-permutation, length_permutation}
use Rattle.fd_closure.specs.declared.facts.Facts.{Facts}
use Rattle.structural_props.specs.Actions.{In}
use Rattle.structural_props.specs.KeptLemmas.{in_left}
use Rattle.std.proofs.lemmas.List.{length-map}
use Rattle.logical_trees.specs.declared.logic_op.LogicOp.{LogicOp}
use Rattle.logical_trees.specs.declared.logic_op.LogicOp.TheVariants.{Group, Top}
use Rattle.logical_trees.specs.Tree.{Expression, one}
use Rattle.logical_dag.specs.Facts.{AreFactsOf}
use Rattle.logical_trees.specs.Blocks.{IsJoinOf}
use Rattle.logical_trees.specs.Blocks as joins
use Rattle.logical_dag.specs.Scripts.{top_of}
use Rattle.logical_trees.specs.Worked.{two_joined}
use Rattle.list_lemmas.specs.Members.{in_list, list_in}
use Rattle.rules_places.specs.Space.{is_block}
use Rattle.rules_shapes.specs.Shapes.{top_number, numbered_leaves}
use Rattle.rules_optimal.specs.Places.{numbered, HasNumbers}
use Rattle.rules_optimal.specs.Showing.{first_stream, second_stream, their_pairs, facts_by, op_by, IsTwoJoinedTable}
use Rattle.rules_space.specs.declared.kind.Kind.TheVariants as kind
use Rattle.rules_space.specs.Place.{Leaves, Whole, Block}

abbrev Numbered : Type 0
Numbered = ℕ × Expression

abbrev both_leaves : List Numbered
both_leaves = (0, first_stream) ∷ (1, second_stream) ∷ []

abbrev number : Numbered → ℕ
number v = top_number v.0 v.1

abbrev exprs : List Numbered → List Expression
exprs leaves = map (λ w. w.1) leaves

-- a node with one child is none of these
has_one : Expression → Bool
has_one (one op t) = true
has_one t = false

none_with_one : (v : Numbered) → In v (numbered 0 two_joined) → has_one v.1 ≡ false
unfolding has_one
none_with_one v (inl e) = ap (λ (u : Numbered). has_one u.1) e
none_with_one v (inr (inl e)) = ap (λ (u : Numbered). has_one u.1) e
none_with_one v (inr (inr (inl e))) = ap (λ (u : Numbered). has_one u.1) e
none_with_one v (inr (inr (inr m))) = absurd m

-- a join has some leaf
join_some : (pairs : List (ℕ × ℕ)) (leaves : List Expression) (t : Expression) → IsJoinOf pairs leaves t → 1 ≤ length leaves
join_some pairs leaves t (joins.alone o) = omega arith
join_some pairs leaves t (joins.both {before = before} {beside = beside} {t = x} {u = y} j k p d) =
    let a = join_some pairs before x j in
    let b = length_permutation (before ++ beside) leaves p in
    let c = length-append before beside in
    omega arith

-- a join of one leaf is the leaf
join_one : (pairs : List (ℕ × ℕ)) (leaves : List Expression) (x t : Expression) → leaves ≡ x ∷ [] → IsJoinOf pairs leaves t → t ≡ x
join_one pairs leaves x t e (joins.alone o) = cc
join_one pairs leaves x t e (joins.both {before = before} {beside = beside} {t = y} {u = z} j k p d) =
    let a = join_some pairs before y j in
    let b = join_some pairs beside z k in
    let c = length_permutation (before ++ beside) leaves p in
    let f = length-append before beside in
    let g = ap length e in
    absurd (omega arith)

-- a join of two leaves is one in any order
join_moved : (pairs : List (ℕ × ℕ)) (leaves others : List Expression) (t : Expression) → 2 ≤ length leaves → IsPermutation leaves others → IsJoinOf pairs leaves t → IsJoinOf pairs others t
join_moved pairs leaves others t l q (joins.alone o) = absurd (omega arith)
join_moved pairs leaves others t l q (joins.both j k p d) = joins.both j k (IsPermutation-trans _ _ _ p q) d

-- ---- some of the two leaves

moved : (x : Numbered) (xs ys : List Numbered) → IsPermutation xs ys → In x xs → In x ys
moved x xs ys p h = in_list ys x (Contains-permutation xs ys x p (list_in xs x h))

-- with both numbers they are both
both_there : (leaves out : List Numbered) → IsPermutation (leaves ++ out) both_leaves → (v w : Numbered) → In v leaves → In w leaves → number v ≡ 0 → number w ≡ 1 → IsPermutation leaves both_leaves × (2 ≤ length leaves)
both_there [] out p v w i j a b = absurd i
both_there (x ∷ []) out p v w (inl i) (inl j) a b = absurd (let z : number v ≡ number w = ap number (i ∙ sym j) in let y : 0 ≡ 1 = sym a ∙ z ∙ b in cc)
both_there (x ∷ []) out p v w (inr i) j a b = absurd i
both_there (x ∷ []) out p v w (inl i) (inr j) a b = absurd j
both_there (x ∷ y ∷ []) [] p v w i j a b = (p, omega arith)
both_there (x ∷ y ∷ []) (z ∷ out) p v w i j a b = absurd (let l = length_permutation (x ∷ y ∷ (z ∷ out)) both_leaves p in omega arith)
both_there (x ∷ y ∷ (z ∷ more)) out p v w i j a b = absurd (let l = length_permutation (x ∷ y ∷ (z ∷ (more ++ out))) both_leaves p in omega arith)

-- each is one of the two
one_of : (leaves out : List Numbered) → IsPermutation (leaves ++ out) both_leaves → (v : Numbered) → In v leaves → (v ≡ (0, first_stream)) ⊎ (v ≡ (1, second_stream))
one_of leaves out p v i = go (moved v (leaves ++ out) both_leaves p (in_left v leaves out i))
  where
    go : In v both_leaves → (v ≡ (0, first_stream)) ⊎ (v ≡ (1, second_stream))
    go (inl e) = inl e
    go (inr (inl e)) = inr e
    go (inr (inr m)) = absurd m

-- where each is x, x alone is there
alone_there : (leaves out : List Numbered) → IsPermutation (leaves ++ out) both_leaves → (x other v : Numbered) → In other both_leaves → In v leaves → ((w : Numbered) → In w leaves → w ≡ x) → (other ≡ x → ⊥) → leaves ≡ x ∷ []
alone_there [] out p x other v o i all apart = absurd i
alone_there (y ∷ []) out p x other v o i all apart = ap (λ (z : Numbered). z ∷ []) (all y (inl refl))
alone_there (y ∷ z ∷ []) [] p x other v o i all apart = absurd (apart (all other (moved other both_leaves (y ∷ z ∷ []) (IsPermutation-sym (y ∷ z ∷ []) both_leaves p) o)))
alone_there (y ∷ z ∷ []) (q ∷ out) p x other v o i all apart = absurd (let l = length_permutation (y ∷ z ∷ (q ∷ out)) both_leaves p in omega arith)
alone_there (y ∷ z ∷ (q ∷ more)) out p x other v o i all apart = absurd (let l = length_permutation (y ∷ z ∷ (q ∷ (more ++ out))) both_leaves p in omega arith)

module _ (f g h : Facts) (first : AreFactsOf [] first_stream f) (second : AreFactsOf [] second_stream g) (all : (t : Expression) → IsJoinOf their_pairs (first_stream ∷ second_stream ∷ []) t → AreFactsOf [] t h) where
  abbrev IsWholeKnown : Numbered → Type 0
  IsWholeKnown v = AreFactsOf [] v.1 (facts_by f g h (Whole (number v))) × (top_of v.1 ≡ op_by (kind.Node (number v)))

  whole : (v : Numbered) → In v (numbered 0 two_joined) → is_block v.1 ≡ false → IsWholeKnown v
  whole v (inl e) b = absurd (let z : true ≡ false = sym (ap (λ (u : Numbered). is_block u.1) e) ∙ b in cc)
  whole v (inr (inl e)) b = subst IsWholeKnown (sym e) (first, refl)
  whole v (inr (inr (inl e))) b = subst IsWholeKnown (sym e) (second, refl)
  whole v (inr (inr (inr m))) b = absurd m

  known : (L : Leaves) (leaves out : List Numbered) → IsPermutation (leaves ++ out) both_leaves → (v : Numbered) → In v leaves → HasNumbers L leaves → (t : Expression) → IsJoinOf their_pairs (exprs leaves) t
      → AreFactsOf [] t (facts_by f g h (Block L))
  known L leaves out p v i num t j = go (L 0) refl (L 1) refl
    where
      go : (a : Bool) → L 0 ≡ a → (b : Bool) → L 1 ≡ b → AreFactsOf [] t (cond (L 0) (cond (L 1) h f) g)
      go true x true y =
          let m = (num 0).0 x in
          let n = (num 1).0 y in
          let q = both_there leaves out p m.0 n.0 m.1 n.1 m.2 n.2 in
          rw (x, y) (all t (join_moved their_pairs (exprs leaves) (exprs both_leaves) t (long q.1) (IsPermutation-map (λ (w : Numbered). w.1) leaves both_leaves q.0) j))
        where
          long : 2 ≤ length leaves → 2 ≤ length (exprs leaves)
          long l = let e = length-map leaves (λ (w : Numbered). w.1) in omega arith
      go true x false y =
          let e = alone_there leaves out p (0, first_stream) (1, second_stream) v (inr (inl refl)) i each (λ k. let z : 1 ≡ 0 = ap number k in absurd (cc)) in
          let k = join_one their_pairs (exprs leaves) first_stream t (ap exprs e) j in
          rw (x, y) (subst (λ (u : Expression). AreFactsOf [] u f) (sym k) first)
        where
          each : (w : Numbered) → In w leaves → w ≡ (0, first_stream)
          each w n = side (one_of leaves out p w n)
            where
              side : (w ≡ (0, first_stream)) ⊎ (w ≡ (1, second_stream)) → w ≡ (0, first_stream)
              side (inl k) = k
              side (inr k) = absurd (let z : true ≡ false = sym ((num 1).1 (w, n, ap number k)) ∙ y in cc)
      go false x b y =
          let e = alone_there leaves out p (1, second_stream) (0, first_stream) v (inl refl) i each (λ k. let z : 0 ≡ 1 = ap number k in absurd (cc)) in
          let k = join_one their_pairs (exprs leaves) second_stream t (ap exprs e) j in
          rw x (subst (λ (u : Expression). AreFactsOf [] u g) (sym k) second)
        where
          each : (w : Numbered) → In w leaves → w ≡ (1, second_stream)
          each w n = side (one_of leaves out p w n)
            where
              side : (w ≡ (0, first_stream)) ⊎ (w ≡ (1, second_stream)) → w ≡ (1, second_stream)
              side (inl k) = absurd (let z : true ≡ false = sym ((num 0).1 (w, n, ap number k)) ∙ x in cc)
              side (inr k) = k

  no_one : (base : ℕ) (t : Expression) → has_one t ≡ true → In (base, t) (numbered 0 two_joined) → ⊥
  no_one base t e m = let z : true ≡ false = sym e ∙ none_with_one (base, t) m in cc

  a_one : (op : LogicOp) (t : Expression) → has_one (one op t) ≡ true
  unfolding has_one
  a_one op t = refl

pub two_joined_table : IsTwoJoinedTable
two_joined_table f g h first second all = record {
  whole = whole f g h first second all;
  group = λ base args t m. absurd (no_one f g h first second all base (one (Group args) t) (a_one f g h first second all (Group args) t) m);
  top = λ base args t m. absurd (no_one f g h first second all base (one (Top args) t) (a_one f g h first second all (Top args) t) m);
  block = λ base n m L leaves out p v i num. at base n m L leaves out p v i num;
}
  where
    at : (base : ℕ) (n : Expression) → In {X = Numbered} (base, n) ((0, two_joined) ∷ []) → (L : Leaves) (leaves out : List Numbered) → IsPermutation (leaves ++ out) (numbered_leaves base n) → (v : Numbered) → In v leaves → HasNumbers L leaves
        → ((t : Expression) → IsJoinOf (joins.block_pairs n) (exprs leaves) t → AreFactsOf [] t (facts_by f g h (Block L))) × (their_pairs ≡ joins.block_pairs n)
    at base n (inl e) L leaves out p v i num =
        let k : n ≡ two_joined = ap (λ (u : Numbered). u.1) e in
        let q : IsPermutation (leaves ++ out) both_leaves = subst (λ (u : Numbered). IsPermutation (leaves ++ out) (numbered_leaves u.0 u.1)) e p in
        subst (λ (w : Expression). ((t : Expression) → IsJoinOf (joins.block_pairs w) (exprs leaves) t → AreFactsOf [] t (facts_by f g h (Block L))) × (their_pairs ≡ joins.block_pairs w)) (sym k)
        ((λ t j. known f g h first second all L leaves out q v i num t j), refl)
    at base n (inr m) L leaves out p v i num = absurd m
