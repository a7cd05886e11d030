-- What steps reach has at each node the facts at the place of its shape.
use Rattle.std.proofs.Common.{◌≡◌, ◌+◌, ◌||◌, ◌==◌, ℕ, Bool, true, false, List, [], ◌∷◌, ◌++◌, cond, append_assoc, append-nil, refl, sym, ap, ◌∙◌, subst, arith, ◌⊎◌, inl, inr, IsPermutation}
use Rattle.std.specs.Prelude.{◌↔◌}
use Rattle.std.proofs.lemmas.Bool.Decides.{nat_tests}
use Rattle.std.proofs.lemmas.List.Sorted.{IsPermutation-sym, IsPermutation-trans, IsPermutation-append_left, IsPermutation-append_comm, Contains-permutation}
use Rattle.col_sets.specs.Tests.{or_left, or_right}
use Rattle.col_sets.specs.Tests as tests
use Rattle.structural_props.specs.Actions.{In}
use Rattle.structural_props.specs.KeptLemmas.{in_append, in_left, in_right}
use Rattle.logical_trees.specs.declared.args.GroupArgs.{GroupArgs}
use Rattle.logical_trees.specs.declared.args.TopArgs.{TopArgs}
use Rattle.logical_trees.specs.declared.logic_op.LogicOp.{LogicOp}
use Rattle.logical_trees.specs.declared.logic_op.LogicOp.TheVariants.{Join, Group, Top, Partial, Finish, LocalTop, LastTop}
use Rattle.logical_trees.specs.Tree.{Expression, leaf, one, two, columns_of}
use Rattle.logical_trees.specs.Formed.{IsFormed}
use Rattle.logical_dag.specs.Facts.{AreFactsOf}
use Rattle.logical_trees.specs.Blocks.{block_pairs, IsPairing}
use Rattle.list_lemmas.specs.Bags.{same_permuted}
use Rattle.list_lemmas.specs.Members.{in_list, list_in, in_moved}
use Rattle.logical_trees.specs.LeafLemmas.{AreApart, apart_left, apart_right, apart_permuted}
use Rattle.logical_trees.specs.JoinLemmas.{join_formed}
use Rattle.logical_trees.specs.BlockLemmas.{block_apart}
use Rattle.rules_steps.specs.Steps.{Pairs, IsDealt, Reaches, here, after}
use Rattle.rules_steps.specs.Steps as steps
use Rattle.rules_facts.proofs.Known.{facts_kept}
use Rattle.rules_places.specs.Space.{is_join, is_block}
use Rattle.rules_places.proofs.Reaching.{reach_below, reach_both}
use Rattle.rules_places.proofs.Grown.{AreLeaves, of_block, on_left_leaves, on_right_leaves}
use Rattle.rules_places.proofs.Placing.{straight}
use Rattle.rules_shapes.specs.Shapes.{Shape, size, top_number, numbered_leaves, IsShaped, of_leaf, of_one, of_group, of_top, of_two, of_join, IsKnit, alone, both}
use Rattle.rules_shapes.proofs.Knit.{leaves_of, leaves_permuted, leaves_are, grown_of}
use Rattle.rules_optimal.specs.Tables.{PlaceTable, AreByPlace}
use Rattle.rules_optimal.specs.Places.{numbered, tops, HasNumbers, IsTableOf}
use Rattle.rules_space.specs.Tree as shape
use Rattle.rules_space.specs.declared.kind.Kind.TheVariants as kind
use Rattle.rules_space.specs.Place.{Place, Leaves, Whole, Half, Block, leaves_at, place}

-- ---- numbered expressions

-- an expression is one of its own
pub itself_in : (base : ℕ) (t : Expression) → In (base, t) (numbered base t)
itself_in base (leaf op) = inl refl
itself_in base (one op t) = inl refl
itself_in base (two op t u) = inl refl

-- those of a leaf of a block are of the block
pub leaf_numbered : (base : ℕ) (t : Expression) (v x : ℕ × Expression) → In v (numbered_leaves base t) → In x (numbered v.0 v.1) → In x (numbered base t)
leaf_numbered base (two (Join on) t u) v x m n = go (leaf_numbered base t v x) (leaf_numbered (base + size t) u v x) (in_append v (numbered_leaves base t) (numbered_leaves (base + size t) u) m)
  where
    go : (In v (numbered_leaves base t) → In x (numbered v.0 v.1) → In x (numbered base t)) → (In v (numbered_leaves (base + size t) u) → In x (numbered v.0 v.1) → In x (numbered (base + size t) u))
        → In v (numbered_leaves base t) ⊎ In v (numbered_leaves (base + size t) u) → In x (numbered base (two (Join on) t u))
    go left right (inl k) = inr (in_left x (numbered base t) (numbered (base + size t) u) (left k n))
    go left right (inr k) = inr (in_right x (numbered base t) (numbered (base + size t) u) (right k n))
leaf_numbered base (two op t u) v x (inl e) n = subst (λ (w : ℕ × Expression). In x (numbered w.0 w.1)) e n
leaf_numbered base (two op t u) v x (inr m) n = absurd m
leaf_numbered base (one op t) v x (inl e) n = subst (λ (w : ℕ × Expression). In x (numbered w.0 w.1)) e n
leaf_numbered base (one op t) v x (inr m) n = absurd m
leaf_numbered base (leaf op) v x (inl e) n = subst (λ (w : ℕ × Expression). In x (numbered w.0 w.1)) e n
leaf_numbered base (leaf op) v x (inr m) n = absurd m

-- and so are the blocks below it
pub leaf_tops : (under : Bool) (base : ℕ) (t : Expression) (v x : ℕ × Expression) → In v (numbered_leaves base t) → In x (tops false v.0 v.1) → In x (tops under base t)
leaf_tops under base (two (Join on) t u) v x m n = go (leaf_tops true base t v x) (leaf_tops true (base + size t) u v x) (in_append v (numbered_leaves base t) (numbered_leaves (base + size t) u) m)
  where
    go : (In v (numbered_leaves base t) → In x (tops false v.0 v.1) → In x (tops true base t)) → (In v (numbered_leaves (base + size t) u) → In x (tops false v.0 v.1) → In x (tops true (base + size t) u))
        → In v (numbered_leaves base t) ⊎ In v (numbered_leaves (base + size t) u) → In x (tops under base (two (Join on) t u))
    go left right (inl k) = in_right x (cond under [] ((base, two (Join on) t u) ∷ [])) (tops true base t ++ tops true (base + size t) u) (in_left x (tops true base t) (tops true (base + size t) u) (left k n))
    go left right (inr k) = in_right x (cond under [] ((base, two (Join on) t u) ∷ [])) (tops true base t ++ tops true (base + size t) u) (in_right x (tops true base t) (tops true (base + size t) u) (right k n))
leaf_tops under base (two op t u) v x (inl e) n = subst (λ (w : ℕ × Expression). In x (tops false w.0 w.1)) e n
leaf_tops under base (two op t u) v x (inr m) n = absurd m
leaf_tops under base (one op t) v x (inl e) n = subst (λ (w : ℕ × Expression). In x (tops false w.0 w.1)) e n
leaf_tops under base (one op t) v x (inr m) n = absurd m
leaf_tops under base (leaf op) v x (inl e) n = subst (λ (w : ℕ × Expression). In x (tops false w.0 w.1)) e n
leaf_tops under base (leaf op) v x (inr m) n = absurd m

-- the blocks below a node over two that is no Join
pub left_tops : (base : ℕ) (op : LogicOp) (t u : Expression) (x : ℕ × Expression) → is_join op ≡ false → In x (tops false base t) → In x (tops false base (two op t u))
left_tops base (Join on) t u x e m = absurd (cc)
left_tops base op t u x e m = in_left x (tops false base t) (tops false (base + size t) u) m

pub right_tops : (base : ℕ) (op : LogicOp) (t u : Expression) (x : ℕ × Expression) → is_join op ≡ false → In x (tops false (base + size t) u) → In x (tops false base (two op t u))
right_tops base (Join on) t u x e m = absurd (cc)
right_tops base op t u x e m = in_right x (tops false base t) (tops false (base + size t) u) m

-- ---- the numbers of a shape

pub shaped_place : (base : ℕ) (t u : Expression) (s : Shape) → is_block t ≡ false → IsShaped base t u s → place s ≡ Whole (top_number base t)
shaped_place base t u s e (of_leaf b op) = refl
shaped_place base t u s e (of_one b op g r) = refl
shaped_place base t u s e (of_group b args g r) = refl
shaped_place base t u s e (of_top b args g r) = refl
shaped_place base t u s e (of_two b op n g r h q) = refl
shaped_place base t u s e (of_join b on a c g) = absurd (cc)

pub is_number : (n m : ℕ) → (n == m) ≡ true → n ≡ m
is_number n m h = grind (arith, nat_tests)

pub number_is : (n m : ℕ) → n ≡ m → (n == m) ≡ true
number_is n m h = grind (arith, nat_tests)

module _ (results : List (List ℕ)) where
  pub knit_numbers : (pairs : List (ℕ × ℕ)) (leaves : List (ℕ × Expression)) (u : Expression) (s : Shape) → AreLeaves results pairs (leaves_of leaves) → IsKnit pairs leaves u s → HasNumbers (leaves_at (place s)) leaves
  knit_numbers pairs leaves u s h (alone base {t = t} g r) m =
      let e = shaped_place base t u s (h.plain t (inl refl)) g in
      ((λ k. ((base, t), inl refl, is_number (top_number base t) m (ap (λ p. leaves_at p m) (sym e) ∙ k))), λ k. ap (λ p. leaves_at p m) e ∙ number_is (top_number base t) m (back k.0 k.1 k.2))
    where
      back : (v : ℕ × Expression) → In v ((base, t) ∷ []) → top_number v.0 v.1 ≡ m → top_number base t ≡ m
      back v (inl e) k = subst (λ (w : ℕ × Expression). top_number w.0 w.1 ≡ m) e k
      back v (inr n) k = absurd n
  knit_numbers pairs leaves u s h (both {before = before} {beside = beside} on {t = a} {u = b} {r = x} {s = y} j k p d) m =
      go (knit_numbers pairs before a x (on_left_leaves results pairs (leaves_of before) (leaves_of beside) (leaves_of leaves) (leaves_permuted before beside leaves p) h) j m)
      (knit_numbers pairs beside b y (on_right_leaves results pairs (leaves_of before) (leaves_of beside) (leaves_of leaves) (leaves_permuted before beside leaves p) h) k m)
    where
      go : (leaves_at (place x) m ≡ true) ↔ ((v : ℕ × Expression) × In v before × (top_number v.0 v.1 ≡ m)) → (leaves_at (place y) m ≡ true) ↔ ((v : ℕ × Expression) × In v beside × (top_number v.0 v.1 ≡ m))
          → ((leaves_at (place x) m || leaves_at (place y) m) ≡ true) ↔ ((v : ℕ × Expression) × In v leaves × (top_number v.0 v.1 ≡ m))
      go left right = ((λ n. found (tests.either (leaves_at (place x) m) (leaves_at (place y) m) n)), λ n. back n.0 n.2 (in_append n.0 before beside (moved_back n.0 n.1)))
        where
          moved_back : (v : ℕ × Expression) → In v leaves → In v (before ++ beside)
          moved_back v i = in_moved v leaves (before ++ beside) (IsPermutation-sym (before ++ beside) leaves p) i

          found : (leaves_at (place x) m ≡ true) ⊎ (leaves_at (place y) m ≡ true) → (v : ℕ × Expression) × In v leaves × (top_number v.0 v.1 ≡ m)
          found (inl n) = let w = left.0 n in (w.0, in_moved w.0 (before ++ beside) leaves p (in_left w.0 before beside w.1), w.2)
          found (inr n) = let w = right.0 n in (w.0, in_moved w.0 (before ++ beside) leaves p (in_right w.0 before beside w.1), w.2)

          back : (v : ℕ × Expression) → top_number v.0 v.1 ≡ m → In v before ⊎ In v beside → (leaves_at (place x) m || leaves_at (place y) m) ≡ true
          back v e (inl i) = or_left (leaves_at (place x) m) (leaves_at (place y) m) (left.1 (v, i, e))
          back v e (inr i) = or_right (leaves_at (place x) m) (leaves_at (place y) m) (right.1 (v, i, e))

  pub knit_leaf : (pairs : List (ℕ × ℕ)) (leaves : List (ℕ × Expression)) (u : Expression) (s : Shape) → IsKnit pairs leaves u s → (v : ℕ × Expression) × In v leaves
  knit_leaf pairs leaves u s (alone base {t = t} g r) = ((base, t), inl refl)
  knit_leaf pairs leaves u s (both {before = before} {beside = beside} on {t = a} {r = x} j k p d) =
      let v = knit_leaf pairs before a x j in (v.0, in_moved v.0 (before ++ beside) leaves p (in_left v.0 before beside v.1))

  -- ---- by place

  module _ (T : PlaceTable) (tree : Expression) (table : IsTableOf T tree) where
    -- the facts at a place are those of what is reached
    kept : (t u : Expression) (p : Place) → IsFormed results t → Reaches t u → AreFactsOf T.env.lent t (T.facts p) → AreFactsOf T.env.lent u (T.facts p)
    kept t u p h r a = facts_kept T.env.lent results t u (T.facts p) h r a

    -- a join of some leaves of a block of the tree
    block_known : (base : ℕ) (n : Expression) → In (base, n) (tops false 0 tree) → (leaves out : List (ℕ × Expression)) → IsPermutation (leaves ++ out) (numbered_leaves base n)
        → AreLeaves results (block_pairs n) (leaves_of leaves) → AreApart (leaves_of leaves) → (u : Expression) (s : Shape) → IsKnit (block_pairs n) leaves u s → (L : Leaves) → place s ≡ Block L
        → AreFactsOf T.env.lent u (T.facts (Block L)) × (T.pairs (Block L) ≡ block_pairs n)
    block_known base n m leaves out p h apart u s g L e =
        let v = knit_leaf (block_pairs n) leaves u s g in
        let k = table.block base n m L leaves out p v.0 v.1 (subst (λ (q : Place). HasNumbers (leaves_at q) leaves) e (knit_numbers (block_pairs n) leaves u s h g)) in
        let w = straight results (block_pairs n) (leaves_of leaves) u h (grown_of (block_pairs n) leaves u s g) in
        let f = join_formed (block_pairs n) results (leaves_of leaves) w.of w.join h.formed apart in
        (kept w.of u (Block L) f w.reach (k.0 w.of w.join), k.1)

    -- a node with one child
    one_known : (base : ℕ) (op : LogicOp) (t u : Expression) (s : Shape) → IsFormed results (one op t) → In (base, one op t) (numbered 0 tree) → Reaches t u → AreByPlace T u s → AreByPlace T (one op u) (shape.one (kind.Node (base + size t)) s)
    one_known base op t u s h m r a =
        let k = table.whole (base, one op t) m refl in
        (kept (one op t) (one op u) (Whole (base + size t)) h (reach_below op t u r) k.0, k.1, a)

    group_known : (base : ℕ) (args : GroupArgs) (t u : Expression) (s : Shape) → IsFormed results (one (Group args) t) → In (base, one (Group args) t) (numbered 0 tree) → Reaches t u → AreByPlace T u s
        → AreByPlace T (one (Finish args) (one (Partial args) u)) (shape.one (kind.Finish (base + size t)) (shape.one (kind.Partial (base + size t)) s))
    group_known base args t u s h m r a =
        let k = table.whole (base, one (Group args) t) m refl in
        let l = table.group base args t m in (
          kept (one (Group args) t) (one (Finish args) (one (Partial args) u)) (Whole (base + size t)) h
              (after (here (steps.split_group args t)) (reach_below (Finish args) (one (Partial args) t) (one (Partial args) u) (reach_below (Partial args) t u r))) k.0,
          l.2,
          (kept (one (Partial args) t) (one (Partial args) u) (Half (base + size t)) h (reach_below (Partial args) t u r) l.0, l.1, a),
        )

    top_known : (base : ℕ) (args : TopArgs) (t u : Expression) (s : Shape) → IsFormed results (one (Top args) t) → In (base, one (Top args) t) (numbered 0 tree) → Reaches t u → AreByPlace T u s
        → AreByPlace T (one (LastTop args) (one (LocalTop args) u)) (shape.one (kind.Finish (base + size t)) (shape.one (kind.Partial (base + size t)) s))
    top_known base args t u s h m r a =
        let k = table.whole (base, one (Top args) t) m refl in
        let l = table.top base args t m in (
          kept (one (Top args) t) (one (LastTop args) (one (LocalTop args) u)) (Whole (base + size t)) h
              (after (here (steps.split_top args t)) (reach_below (LastTop args) (one (LocalTop args) t) (one (LocalTop args) u) (reach_below (LocalTop args) t u r))) k.0,
          l.2,
          (kept (one (LocalTop args) t) (one (LocalTop args) u) (Half (base + size t)) h (reach_below (LocalTop args) t u r) l.0, l.1, a),
        )

    two_known : (base : ℕ) (op : LogicOp) (t u v w : Expression) (r s : Shape) → is_join op ≡ false → IsFormed results (two op t v) → In (base, two op t v) (numbered 0 tree) → Reaches t u → Reaches v w → AreByPlace T u r → AreByPlace T w s
        → AreByPlace T (two op u w) (shape.two (kind.Node (base + (size t + size v))) r s)
    two_known base op t u v w r s e h m x y a b =
        let k = table.whole (base, two op t v) m e in
        (kept (two op t v) (two op u w) (Whole (base + (size t + size v))) h (reach_both op t u v w x y) k.0, k.1, a, b)

    join_known : (base : ℕ) (n : Expression) → In (base, n) (tops false 0 tree) → (leaves out : List (ℕ × Expression)) → IsPermutation (leaves ++ out) (numbered_leaves base n)
        → AreLeaves results (block_pairs n) (leaves_of leaves) → AreApart (leaves_of leaves) → (on : Pairs) (t u : Expression) (r s : Shape) → IsKnit (block_pairs n) leaves (two (Join on) t u) (shape.two kind.Join r s)
        → IsDealt (block_pairs n) t u on → AreByPlace T t r → AreByPlace T u s → AreByPlace T (two (Join on) t u) (shape.two kind.Join r s)
    join_known base n m leaves out p h apart on t u r s g d a b =
        let k = block_known base n m leaves out p h apart (two (Join on) t u) (shape.two kind.Join r s) g (leaves_at (place (shape.two kind.Join r s))) refl in
        (k.0, subst (λ (pairs : List (ℕ × ℕ)). IsPairing pairs (columns_of t) (columns_of u) (Join on)) (sym k.1) d, a, b)

    join_by : (base : ℕ) (n : Expression) → In (base, n) (tops false 0 tree) → (pairs : List (ℕ × ℕ)) (leaves out before beside : List (ℕ × Expression)) (on : Pairs) (t u : Expression) (r s : Shape) → pairs ≡ block_pairs n
        → IsPermutation (leaves ++ out) (numbered_leaves base n) → AreLeaves results pairs (leaves_of leaves) → AreApart (leaves_of leaves)
        → IsKnit pairs before t r → IsKnit pairs beside u s → IsPermutation (before ++ beside) leaves → IsDealt pairs t u on → AreByPlace T t r → AreByPlace T u s → AreByPlace T (two (Join on) t u) (shape.two kind.Join r s)
    join_by base n m pairs leaves out before beside on t u r s e p h apart j k q d a b =
        join_known base n m leaves out p (subst (λ (l : List (ℕ × ℕ)). AreLeaves results l (leaves_of leaves)) e h) apart on t u r s
        (subst (λ (l : List (ℕ × ℕ)). IsKnit l leaves (two (Join on) t u) (shape.two kind.Join r s)) e (both on j k q d))
        (subst (λ (l : List (ℕ × ℕ)). IsDealt l t u on) e d) a b

    mutual
      shaped_known : (base : ℕ) (t u : Expression) (s : Shape) → IsFormed results t → ((x : ℕ × Expression) → In x (numbered base t) → In x (numbered 0 tree)) → ((x : ℕ × Expression) → In x (tops false base t) → In x (tops false 0 tree))
          → IsShaped base t u s → AreByPlace T u s
      shaped_known base t u s h inside blocks (of_leaf b op) = let k = table.whole (base, leaf op) (inside (base, leaf op) (inl refl)) refl in (k.0, k.1)
      shaped_known base t u s h inside blocks (of_one b op {t = a} {u = c} {s = q} g r) =
          one_known base op a c q h (inside (base, one op a) (inl refl)) r (shaped_known base a c q h.0 (λ x m. inside x (inr m)) blocks g)
      shaped_known base t u s h inside blocks (of_group b args {t = a} {u = c} {s = q} g r) =
          group_known base args a c q h (inside (base, one (Group args) a) (inl refl)) r (shaped_known base a c q h.0 (λ x m. inside x (inr m)) blocks g)
      shaped_known base t u s h inside blocks (of_top b args {t = a} {u = c} {s = q} g r) =
          top_known base args a c q h (inside (base, one (Top args) a) (inl refl)) r (shaped_known base a c q h.0 (λ x m. inside x (inr m)) blocks g)
      shaped_known base t u s h inside blocks (of_two b op {t = a} {u = c} {v = d} {w = e} {r = x} {s = y} n g r k q) =
          two_known base op a c d e x y n h (inside (base, two op a d) (inl refl)) r q
          (shaped_known base a c x h.0 (λ z m. inside z (inr (in_left z (numbered base a) (numbered (base + size a) d) m))) (λ z m. blocks z (left_tops base op a d z n m)) g)
          (shaped_known (base + size a) d e y h.1 (λ z m. inside z (inr (in_right z (numbered base a) (numbered (base + size a) d) m))) (λ z m. blocks z (right_tops base op a d z n m)) k)
      shaped_known base t u s h inside blocks (of_join b on a c {s = q} g) =
          knit_known base (two (Join on) a c) (blocks (base, two (Join on) a c) (inl refl)) (block_pairs (two (Join on) a c)) (numbered_leaves base (two (Join on) a c)) [] u q refl
          (same_permuted _ _ (append-nil (numbered_leaves base (two (Join on) a c))))
          (subst (λ (l : List Expression). AreLeaves results (block_pairs (two (Join on) a c)) l) (sym (leaves_are base (two (Join on) a c))) (of_block results (two (Join on) a c) h))
          (subst AreApart (sym (leaves_are base (two (Join on) a c))) (block_apart results (two (Join on) a c) h))
          (λ v m x n. inside x (leaf_numbered base (two (Join on) a c) v x m n)) (λ v m x n. blocks x (leaf_tops false base (two (Join on) a c) v x m n)) g

      knit_known : (base : ℕ) (n : Expression) → In (base, n) (tops false 0 tree) → (pairs : List (ℕ × ℕ)) (leaves out : List (ℕ × Expression)) (u : Expression) (s : Shape) → pairs ≡ block_pairs n
          → IsPermutation (leaves ++ out) (numbered_leaves base n) → AreLeaves results pairs (leaves_of leaves) → AreApart (leaves_of leaves)
          → ((v : ℕ × Expression) → In v leaves → (x : ℕ × Expression) → In x (numbered v.0 v.1) → In x (numbered 0 tree)) → ((v : ℕ × Expression) → In v leaves → (x : ℕ × Expression) → In x (tops false v.0 v.1) → In x (tops false 0 tree))
          → IsKnit pairs leaves u s → AreByPlace T u s
      knit_known base n m pairs leaves out u s e p h apart inside blocks (alone b {t = t} g r) =
          shaped_known b t u s (h.formed t (inl refl)) (inside (b, t) (inl refl)) (blocks (b, t) (inl refl)) g
      knit_known base n m pairs leaves out u s e p h apart inside blocks (both {before = before} {beside = beside} on {t = a} {u = c} {r = x} {s = y} j k q d) =
          join_by base n m pairs leaves out before beside on a c x y e p h apart j k q d
          (knit_known base n m pairs before (beside ++ out) a x e
          (IsPermutation-trans _ _ _ (same_permuted _ _ (sym (append_assoc before beside out))) (IsPermutation-trans _ _ _ (IsPermutation-append_left out _ _ q) p))
          (on_left_leaves results pairs (leaves_of before) (leaves_of beside) (leaves_of leaves) (leaves_permuted before beside leaves q) h)
          (apart_left (leaves_of before) (leaves_of beside) (apart_permuted (leaves_of before ++ leaves_of beside) (leaves_of leaves) (leaves_permuted before beside leaves q) apart))
          (λ v i. inside v (in_moved v (before ++ beside) leaves q (in_left v before beside i))) (λ v i. blocks v (in_moved v (before ++ beside) leaves q (in_left v before beside i))) j)
          (knit_known base n m pairs beside (before ++ out) c y e
          (IsPermutation-trans _ _ _ (same_permuted _ _ (sym (append_assoc beside before out)))
          (IsPermutation-trans _ _ _ (IsPermutation-append_left out _ _ (IsPermutation-append_comm beside before)) (IsPermutation-trans _ _ _ (IsPermutation-append_left out _ _ q) p)))
          (on_right_leaves results pairs (leaves_of before) (leaves_of beside) (leaves_of leaves) (leaves_permuted before beside leaves q) h)
          (apart_right (leaves_of before) (leaves_of beside) (apart_permuted (leaves_of before ++ leaves_of beside) (leaves_of leaves) (leaves_permuted before beside leaves q) apart))
          (λ v i. inside v (in_moved v (before ++ beside) leaves q (in_right v before beside i))) (λ v i. blocks v (in_moved v (before ++ beside) leaves q (in_right v before beside i))) k)

    -- each node of what steps reach from the tree goes by its place
    pub by_place : (u : Expression) (s : Shape) → IsFormed results tree → IsShaped 0 tree u s → AreByPlace T u s
    by_place u s h g = shaped_known 0 tree u s h (λ x m. m) (λ x m. m) g
