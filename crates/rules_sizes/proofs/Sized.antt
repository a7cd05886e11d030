-- What steps reach has the sizes of the tree that it is reached from.
use Rattle.std.proofs.Common.{◌≡◌, ◌<◌, ◌≤◌, ◌+◌, ℕ, Bool, true, false, List, [], ◌∷◌, ◌++◌, map, cond, length, length-append, append_assoc, append-nil, refl, sym, ap, ap₂, ◌∙◌, subst, arith, ◌⊎◌, inl, inr, IsPermutation}
use Rattle.std.proofs.lemmas.List.Sorted.{IsPermutation-sym, IsPermutation-trans, IsPermutation-append, IsPermutation-append_left, IsPermutation-append_comm, IsPermutation-map}
use Rattle.col_sets.specs.Sets.{has}
use Rattle.structural_props.specs.Actions.{In}
use Rattle.structural_props.specs.KeptLemmas.{in_append, in_left, in_right}
use Rattle.logical_trees.specs.declared.args.GroupArgs.{GroupArgs}
use Rattle.logical_trees.specs.declared.args.TopArgs.{TopArgs}
use Rattle.logical_trees.specs.declared.logic_op.LogicOp.{LogicOp}
use Rattle.logical_trees.specs.declared.logic_op.LogicOp.TheVariants.{Join, Group, Top, Partial, Finish, LocalTop, LastTop}
use Rattle.logical_trees.specs.Tree.{Expression, leaf, one, two, group_columns}
use Rattle.logical_trees.specs.Formed.{IsFormed}
use Rattle.logical_trees.specs.Blocks.{block_pairs}
use Rattle.list_lemmas.specs.Bags.{same_permuted}
use Rattle.rules_steps.specs.Steps.{Pairs}
use Rattle.rules_places.specs.Space.{is_join, is_block}
use Rattle.rules_places.proofs.Grown.{AreLeaves, of_block, on_left_leaves, on_right_leaves}
use Rattle.rules_shapes.specs.Shapes.{Shape, size, numbered_leaves, IsShaped, of_leaf, of_one, of_group, of_top, of_two, of_join, IsKnit, alone, both}
use Rattle.rules_shapes.proofs.Knit.{leaves_of, leaves_permuted, leaves_are}
use Rattle.rules_optimal.specs.Places.{numbered, tops, HasNumbers}
use Rattle.rules_optimal.proofs.ByPlace.{leaf_numbered, leaf_tops, left_tops, right_tops, knit_numbers, knit_leaf}
use Rattle.rules_sizes.specs.Sizes.{Size, Sizes, one_size, two_size, one_rows, group_rows, join_size, leaf_sizes, size_of, by_number, node_number, shape_sizes, reached_size}
use Rattle.rules_sizes.specs.Places.{leaves_size, ArePairsOf, AreSizesOf, AreSized}
use Rattle.rules_sizes.proofs.Sorting.{AreDifferent, AreAscending, sort_alike, ascending_different, sorted_is}
use Rattle.rules_sizes.proofs.Numbers.{Numbered}
use Rattle.rules_space.specs.Tree as shape
use Rattle.rules_space.specs.declared.kind.Kind.{Kind}
use Rattle.rules_space.specs.declared.kind.Kind.TheVariants as kind
use Rattle.rules_space.specs.Place.{Place, Leaves, Block, leaves_at, place}
use Rattle.list_lemmas.specs.Members.{in_moved}

-- ---- a Group or Top in two steps

cond_twice : (b : Bool) (x y z : ℕ) → cond b (cond b x y) z ≡ cond b x z
cond_twice true x y z = refl
cond_twice false x y z = refl

group_same : (Z : Sizes) (n : ℕ) (args : GroupArgs) (x : Size) → one_size Z n (Finish args) (one_size Z n (Partial args) x) ≡ one_size Z n (Group args) x
group_same Z n args x = λ i. record {
  number = n;
  columns = group_columns args;
  rows = group_rows x args.keys;
  distinct = λ c. cond_twice (has args.keys c) (x.distinct c) (one_rows Z (Partial args) x) (group_rows x args.keys) i;
  finished = group_rows x args.keys;
}

top_same : (Z : Sizes) (n : ℕ) (args : TopArgs) (x : Size) → one_size Z n (LastTop args) (one_size Z n (LocalTop args) x) ≡ one_size Z n (Top args) x
top_same Z n args x = refl

-- ---- the sizes of the leaves of a tree ascend

abbrev IsWithin : ℕ → ℕ → Size → Type 0
IsWithin base over x = (base ≤ x.number) × (x.number < over)

pub sizes_within : (Z : Sizes) (base : ℕ) (t : Expression) (x : Size) → In x (leaf_sizes Z base t) → IsWithin base (base + size t) x
sizes_within Z base (two (Join on) t u) x m = go (sizes_within Z base t x) (sizes_within Z (base + size t) u x) (in_append x (leaf_sizes Z base t) (leaf_sizes Z (base + size t) u) m)
  where
    go : (In x (leaf_sizes Z base t) → IsWithin base (base + size t) x) → (In x (leaf_sizes Z (base + size t) u) → IsWithin (base + size t) (base + size t + size u) x) → In x (leaf_sizes Z base t) ⊎ In x (leaf_sizes Z (base + size t) u)
        → IsWithin base (base + (size t + (size u + 1))) x
    go left right (inl k) = let h = left k in (h.0, (let l = h.1 in omega (arith, l)))
    go left right (inr k) = let h = right k in ((let l = h.0 in omega (arith, l)), (let l = h.1 in omega (arith, l)))
sizes_within Z base (two op t u) x (inl e) = let k = ap (λ (y : Size). y.number) e in (omega (arith, k), omega (arith, k))
sizes_within Z base (two op t u) x (inr m) = absurd m
sizes_within Z base (one op t) x (inl e) = let k = ap (λ (y : Size). y.number) e in (omega (arith, k), omega (arith, k))
sizes_within Z base (one op t) x (inr m) = absurd m
sizes_within Z base (leaf op) x (inl e) = let k = ap (λ (y : Size). y.number) e in (omega (arith, k), omega (arith, k))
sizes_within Z base (leaf op) x (inr m) = absurd m

pub ascending_append : (xs ys : List Size) → AreAscending xs → AreAscending ys → ((x y : Size) → In x xs → In y ys → x.number < y.number) → AreAscending (xs ++ ys)
ascending_append [] ys a b h = b
ascending_append (x ∷ xs) ys a b h = ((λ y m. go y (in_append y xs ys m)), ascending_append xs ys a.1 b (λ z y i j. h z y (inr i) j))
  where
    go : (y : Size) → In y xs ⊎ In y ys → x.number < y.number
    go y (inl m) = a.0 y m
    go y (inr m) = h x y (inl refl) m

pub sizes_ascend : (Z : Sizes) (base : ℕ) (t : Expression) → AreAscending (leaf_sizes Z base t)
sizes_ascend Z base (two (Join on) t u) =
    ascending_append (leaf_sizes Z base t) (leaf_sizes Z (base + size t) u) (sizes_ascend Z base t) (sizes_ascend Z (base + size t) u)
    (λ x y i j. let a = sizes_within Z base t x i in let b = sizes_within Z (base + size t) u y j in let k = a.1 in let l = b.0 in omega (arith, k, l))
sizes_ascend Z base (two op t u) = ((λ y m. absurd m), tt)
sizes_ascend Z base (one op t) = ((λ y m. absurd m), tt)
sizes_ascend Z base (leaf op) = ((λ y m. absurd m), tt)

-- ---- the sizes of numbered leaves

abbrev pub own : Sizes → Numbered → Size
own Z v = size_of Z v.0 v.1

abbrev pub owns : Sizes → List Numbered → List Size
owns Z leaves = map (λ v. size_of Z v.0 v.1) leaves

owns_both : (Z : Sizes) (xs ys : List Numbered) → owns Z (xs ++ ys) ≡ owns Z xs ++ owns Z ys
owns_both Z [] ys = refl
owns_both Z (x ∷ xs) ys = ap (λ l. own Z x ∷ l) (owns_both Z xs ys)

pub owns_are : (Z : Sizes) (base : ℕ) (t : Expression) → owns Z (numbered_leaves base t) ≡ leaf_sizes Z base t
owns_are Z base (two (Join on) t u) = owns_both Z (numbered_leaves base t) (numbered_leaves (base + size t) u) ∙ ap₂ ◌++◌ (owns_are Z base t) (owns_are Z (base + size t) u)
owns_are Z base (two op t u) = refl
owns_are Z base (one op t) = refl
owns_are Z base (leaf op) = refl

different_first : (xs ys : List Size) → AreDifferent (xs ++ ys) → AreDifferent xs
different_first [] ys h = tt
different_first (x ∷ xs) ys h = ((λ y m. h.0 y (in_left y xs ys m)), different_first xs ys h.1)

-- some leaves of a block have different numbers
pub owns_different : (Z : Sizes) (base : ℕ) (n : Expression) (leaves out : List Numbered) → IsPermutation (leaves ++ out) (numbered_leaves base n) → AreDifferent (owns Z leaves)
owns_different Z base n leaves out p =
    different_first (owns Z leaves) (owns Z out) (subst AreDifferent (owns_both Z leaves out)
    (sort_alike (owns Z (numbered_leaves base n)) (owns Z (leaves ++ out)) (IsPermutation-sym (owns Z (leaves ++ out)) (owns Z (numbered_leaves base n)) (IsPermutation-map (λ (v : Numbered). size_of Z v.0 v.1) (leaves ++ out) (numbered_leaves base n) p))
    (subst AreDifferent (sym (owns_are Z base n)) (ascending_different (leaf_sizes Z base n) (sizes_ascend Z base n)))).1)

leaves_some : (base : ℕ) (t : Expression) → 1 ≤ length (numbered_leaves base t)
leaves_some base (two (Join on) t u) = let k = length-append (numbered_leaves base t) (numbered_leaves (base + size t) u) in let l = leaves_some base t in omega (arith, k, l)
leaves_some base (two op t u) = omega arith
leaves_some base (one op t) = omega arith
leaves_some base (leaf op) = omega arith

-- a join has two leaves
two_leaves : (base : ℕ) (on : Pairs) (t u : Expression) → 2 ≤ length (numbered_leaves base (two (Join on) t u))
two_leaves base on t u =
    let k = length-append (numbered_leaves base t) (numbered_leaves (base + size t) u) in
    let l = leaves_some base t in
    let m = leaves_some (base + size t) u in
    omega (arith, k, l, m)

-- ---- what steps reach

abbrev IsBlockAt : Place → Type 0
IsBlockAt p = (L : Leaves) × (p ≡ Block L)

knit_block : (ps : List (ℕ × ℕ)) (leaves : List Numbered) (u : Expression) (s : Shape) → 2 ≤ length leaves → IsKnit ps leaves u s → IsBlockAt (place s)
knit_block ps leaves u s l (alone base g r) = absurd (omega (arith, l))
knit_block ps leaves u s l (both on {r = x} {s = y} j k p d) = (leaves_at (place (shape.two kind.Join x y)), refl)

module _ (results : List (List ℕ)) (Z : Sizes) (pairs : Place → List (ℕ × ℕ)) where
  two_single : (op : LogicOp) (t u : Expression) (k : Kind) (r s : Shape) → is_join op ≡ false → shape_sizes Z pairs (two op t u) (shape.two k r s) ≡ two_size Z (node_number k) op (reached_size Z pairs t r) (reached_size Z pairs u s) ∷ []
  two_single (Join on) t u k r s e = absurd (cc)
  two_single op t u k r s e = refl

  two_own : (op : LogicOp) (base : ℕ) (t u : Expression) → is_join op ≡ false → leaf_sizes Z base (two op t u) ≡ two_size Z (base + (size t + size u)) op (size_of Z base t) (size_of Z (base + size t) u) ∷ []
  two_own (Join on) base t u e = absurd (cc)
  two_own op base t u e = refl

  two_reached : (op : LogicOp) (t u : Expression) (k : Kind) (r s : Shape) → is_join op ≡ false → reached_size Z pairs (two op t u) (shape.two k r s) ≡ two_size Z (node_number k) op (reached_size Z pairs t r) (reached_size Z pairs u s)
  two_reached op t u k r s e = ap (λ l. join_size (pairs (place (shape.two k r s))) (by_number l)) (two_single op t u k r s e)

  two_size_of : (op : LogicOp) (base : ℕ) (t u : Expression) → is_join op ≡ false → size_of Z base (two op t u) ≡ two_size Z (base + (size t + size u)) op (size_of Z base t) (size_of Z (base + size t) u)
  two_size_of op base t u e = ap (join_size (block_pairs (two op t u))) (two_own op base t u e)

  -- what is no join of leaves has its own size alone
  single : (base : ℕ) (t u : Expression) (s : Shape) → is_block t ≡ false → IsShaped base t u s → shape_sizes Z pairs u s ≡ reached_size Z pairs u s ∷ []
  single base t u s e (of_leaf b op) = refl
  single base t u s e (of_one b op g r) = refl
  single base t u s e (of_group b args g r) = refl
  single base t u s e (of_top b args g r) = refl
  single base t u s e (of_two b op {t = a} {u = c} {v = d} {w = f} {r = x} {s = y} n g r h q) =
      two_single op c f (kind.Node (b + (size a + size d))) x y n ∙ ap (λ z. z ∷ []) (sym (two_reached op c f (kind.Node (b + (size a + size d))) x y n))
  single base t u s e (of_join b on a c g) = absurd (cc)

  module _ (tree : Expression) (are : ArePairsOf pairs tree) where
    -- a join of some leaves of a block, by the sizes of these
    knit_size : (base : ℕ) (n : Expression) → In (base, n) (tops false 0 tree) → (leaves out : List Numbered) → IsPermutation (leaves ++ out) (numbered_leaves base n) → AreLeaves results (block_pairs n) (leaves_of leaves)
        → (u : Expression) (s : Shape) → IsKnit (block_pairs n) leaves u s → (L : Leaves) → place s ≡ Block L → IsPermutation (shape_sizes Z pairs u s) (owns Z leaves)
        → (reached_size Z pairs u s ≡ join_size (block_pairs n) (leaves_size Z leaves)) × HasNumbers L leaves
    knit_size base n m leaves out p h u s g L e q =
        let v = knit_leaf results (block_pairs n) leaves u s g in
        let l = subst (λ (q : Place). HasNumbers (leaves_at q) leaves) e (knit_numbers results (block_pairs n) leaves u s h g) in
        let d = owns_different Z base n leaves out p in
        let k = (sort_alike (owns Z leaves) (shape_sizes Z pairs u s) (IsPermutation-sym (shape_sizes Z pairs u s) (owns Z leaves) q) d).0 in
        (ap (λ w. join_size (pairs w) (by_number (shape_sizes Z pairs u s))) e ∙ ap₂ join_size (are base n m L leaves out p v.0 v.1 l) (sym k), l)

    mutual
      pub shaped_same : (base : ℕ) (t u : Expression) (s : Shape) → IsFormed results t → ((x : Numbered) → In x (tops false base t) → In x (tops false 0 tree)) → IsShaped base t u s → reached_size Z pairs u s ≡ size_of Z base t
      shaped_same base t u s h blocks (of_leaf b op) = refl
      shaped_same base t u s h blocks (of_one b op {t = a} {u = c} {s = q} g r) = ap (one_size Z (base + size a) op) (shaped_same base a c q h.0 blocks g)
      shaped_same base t u s h blocks (of_group b args {t = a} {u = c} {s = q} g r) =
          group_same Z (base + size a) args (reached_size Z pairs c q) ∙ ap (one_size Z (base + size a) (Group args)) (shaped_same base a c q h.0 blocks g)
      shaped_same base t u s h blocks (of_top b args {t = a} {u = c} {s = q} g r) =
          top_same Z (base + size a) args (reached_size Z pairs c q) ∙ ap (one_size Z (base + size a) (Top args)) (shaped_same base a c q h.0 blocks g)
      shaped_same base t u s h blocks (of_two b op {t = a} {u = c} {v = d} {w = f} {r = x} {s = y} n g r k q) =
          two_reached op c f (kind.Node (base + (size a + size d))) x y n
          ∙ ap₂ (two_size Z (base + (size a + size d)) op) (shaped_same base a c x h.0 (λ z m. blocks z (left_tops base op a d z n m)) g) (shaped_same (base + size a) d f y h.1 (λ z m. blocks z (right_tops base op a d z n m)) k)
          ∙ sym (two_size_of op base a d n)
      shaped_same base t u s h blocks (of_join b on a c {s = q} g) =
          let n : Expression = two (Join on) a c in
          let p = same_permuted (numbered_leaves base n ++ []) (numbered_leaves base n) (append-nil (numbered_leaves base n)) in
          let l = subst (λ (l : List Expression). AreLeaves results (block_pairs n) l) (sym (leaves_are base n)) (of_block results n h) in
          let k = knit_block (block_pairs n) (numbered_leaves base n) u q (two_leaves base on a c) g in
          let e = knit_same base n (blocks (base, n) (inl refl)) (block_pairs n) (numbered_leaves base n) [] u q refl p l (λ v m x i. blocks x (leaf_tops false base n v x m i)) g in
          (knit_size base n (blocks (base, n) (inl refl)) (numbered_leaves base n) [] p l u q g k.0 k.1 e).0
          ∙ ap (join_size (block_pairs n)) (sorted_is (owns Z (numbered_leaves base n)) (leaf_sizes Z base n) (same_permuted (owns Z (numbered_leaves base n)) (leaf_sizes Z base n) (owns_are Z base n)) (sizes_ascend Z base n))

      knit_same : (base : ℕ) (n : Expression) → In (base, n) (tops false 0 tree) → (ps : List (ℕ × ℕ)) (leaves out : List Numbered) (u : Expression) (s : Shape) → ps ≡ block_pairs n → IsPermutation (leaves ++ out) (numbered_leaves base n)
          → AreLeaves results ps (leaves_of leaves) → ((v : Numbered) → In v leaves → (x : Numbered) → In x (tops false v.0 v.1) → In x (tops false 0 tree)) → IsKnit ps leaves u s → IsPermutation (shape_sizes Z pairs u s) (owns Z leaves)
      knit_same base n m ps leaves out u s e p h blocks (alone b {t = t} g r) =
          same_permuted _ _ (single b t u s (h.plain t (inl refl)) g ∙ ap (λ z. z ∷ []) (shaped_same b t u s (h.formed t (inl refl)) (blocks (b, t) (inl refl)) g))
      knit_same base n m ps leaves out u s e p h blocks (both {before = before} {beside = beside} on {t = a} {u = c} {r = x} {s = y} j k q d) =
          IsPermutation-trans _ _ _ (IsPermutation-append _ _ _ _
          (knit_same base n m ps before (beside ++ out) a x e
          (IsPermutation-trans _ _ _ (same_permuted _ _ (sym (append_assoc before beside out))) (IsPermutation-trans _ _ _ (IsPermutation-append_left out _ _ q) p))
          (on_left_leaves results ps (leaves_of before) (leaves_of beside) (leaves_of leaves) (leaves_permuted before beside leaves q) h) (λ v i. blocks v (in_moved v (before ++ beside) leaves q (in_left v before beside i))) j)
          (knit_same base n m ps beside (before ++ out) c y e
          (IsPermutation-trans _ _ _ (same_permuted _ _ (sym (append_assoc beside before out)))
          (IsPermutation-trans _ _ _ (IsPermutation-append_left out _ _ (IsPermutation-append_comm beside before)) (IsPermutation-trans _ _ _ (IsPermutation-append_left out _ _ q) p)))
          (on_right_leaves results ps (leaves_of before) (leaves_of beside) (leaves_of leaves) (leaves_permuted before beside leaves q) h) (λ v i. blocks v (in_moved v (before ++ beside) leaves q (in_right v before beside i))) k))
          (IsPermutation-trans _ _ _ (same_permuted _ _ (sym (owns_both Z before beside))) (IsPermutation-map (λ (v : Numbered). size_of Z v.0 v.1) (before ++ beside) leaves q))

    -- ---- by place

    module _ (at : Place → Size) (sizes : AreSizesOf Z at tree) where
      -- a join of some leaves has the size of its place
      join_at : (base : ℕ) (n : Expression) → In (base, n) (tops false 0 tree) → (leaves out : List Numbered) → IsPermutation (leaves ++ out) (numbered_leaves base n) → AreLeaves results (block_pairs n) (leaves_of leaves)
          → ((v : Numbered) → In v leaves → (x : Numbered) → In x (tops false v.0 v.1) → In x (tops false 0 tree))
          → (u : Expression) (s : Shape) → IsKnit (block_pairs n) leaves u s → (L : Leaves) → place s ≡ Block L → reached_size Z pairs u s ≡ at (place s)
      join_at base n m leaves out p h blocks u s g L e =
          let q = knit_same base n m (block_pairs n) leaves out u s refl p h blocks g in
          let k = knit_size base n m leaves out p h u s g L e q in
          let v = knit_leaf results (block_pairs n) leaves u s g in
          k.0 ∙ sym (sizes.block base n m L leaves out p v.0 v.1 k.1) ∙ ap at (sym e)

      mutual
        pub shaped_sized : (base : ℕ) (t u : Expression) (s : Shape) → IsFormed results t → ((x : Numbered) → In x (numbered base t) → In x (numbered 0 tree)) → ((x : Numbered) → In x (tops false base t) → In x (tops false 0 tree))
            → IsShaped base t u s → AreSized Z pairs at u s
        shaped_sized base t u s h inside blocks (of_leaf b op) = sym (sizes.whole (base, leaf op) (inside (base, leaf op) (inl refl)) refl)
        shaped_sized base t u s h inside blocks (of_one b op {t = a} {u = c} {s = q} g r) = (
          shaped_same base (one op a) (one op c) (shape.one (kind.Node (base + size a)) q) h blocks (of_one b op g r) ∙ sym (sizes.whole (base, one op a) (inside (base, one op a) (inl refl)) refl),
          shaped_sized base a c q h.0 (λ x m. inside x (inr m)) blocks g,
        )
        shaped_sized base t u s h inside blocks (of_group b args {t = a} {u = c} {s = q} g r) = (
          shaped_same base (one (Group args) a) (one (Finish args) (one (Partial args) c)) (shape.one (kind.Finish (base + size a)) (shape.one (kind.Partial (base + size a)) q)) h blocks (of_group b args g r)
              ∙ sym (sizes.whole (base, one (Group args) a) (inside (base, one (Group args) a) (inl refl)) refl),
          (
            ap (one_size Z (base + size a) (Partial args)) (shaped_same base a c q h.0 blocks g) ∙ sym (sizes.group base args a (inside (base, one (Group args) a) (inl refl))),
            shaped_sized base a c q h.0 (λ x m. inside x (inr m)) blocks g,
          ),
        )
        shaped_sized base t u s h inside blocks (of_top b args {t = a} {u = c} {s = q} g r) = (
          shaped_same base (one (Top args) a) (one (LastTop args) (one (LocalTop args) c)) (shape.one (kind.Finish (base + size a)) (shape.one (kind.Partial (base + size a)) q)) h blocks (of_top b args g r)
              ∙ sym (sizes.whole (base, one (Top args) a) (inside (base, one (Top args) a) (inl refl)) refl),
          (
            ap (one_size Z (base + size a) (LocalTop args)) (shaped_same base a c q h.0 blocks g) ∙ sym (sizes.top base args a (inside (base, one (Top args) a) (inl refl))),
            shaped_sized base a c q h.0 (λ x m. inside x (inr m)) blocks g,
          ),
        )
        shaped_sized base t u s h inside blocks (of_two b op {t = a} {u = c} {v = d} {w = f} {r = x} {s = y} n g r k q) = (
          shaped_same base (two op a d) (two op c f) (shape.two (kind.Node (base + (size a + size d))) x y) h blocks (of_two b op n g r k q) ∙ sym (sizes.whole (base, two op a d) (inside (base, two op a d) (inl refl)) n),
          shaped_sized base a c x h.0 (λ z m. inside z (inr (in_left z (numbered base a) (numbered (base + size a) d) m))) (λ z m. blocks z (left_tops base op a d z n m)) g,
          shaped_sized (base + size a) d f y h.1 (λ z m. inside z (inr (in_right z (numbered base a) (numbered (base + size a) d) m))) (λ z m. blocks z (right_tops base op a d z n m)) k,
        )
        shaped_sized base t u s h inside blocks (of_join b on a c {s = q} g) =
            let n : Expression = two (Join on) a c in
            knit_sized base n (blocks (base, n) (inl refl)) (block_pairs n) (numbered_leaves base n) [] u q refl
            (same_permuted _ _ (append-nil (numbered_leaves base n)))
            (subst (λ (l : List Expression). AreLeaves results (block_pairs n) l) (sym (leaves_are base n)) (of_block results n h))
            (λ v m x i. inside x (leaf_numbered base n v x m i)) (λ v m x i. blocks x (leaf_tops false base n v x m i)) g

        knit_sized : (base : ℕ) (n : Expression) → In (base, n) (tops false 0 tree) → (ps : List (ℕ × ℕ)) (leaves out : List Numbered) (u : Expression) (s : Shape) → ps ≡ block_pairs n → IsPermutation (leaves ++ out) (numbered_leaves base n)
            → AreLeaves results ps (leaves_of leaves) → ((v : Numbered) → In v leaves → (x : Numbered) → In x (numbered v.0 v.1) → In x (numbered 0 tree)) → ((v : Numbered) → In v leaves → (x : Numbered) → In x (tops false v.0 v.1) → In x (tops false 0 tree))
            → IsKnit ps leaves u s → AreSized Z pairs at u s
        knit_sized base n m ps leaves out u s e p h inside blocks (alone b {t = t} g r) = shaped_sized b t u s (h.formed t (inl refl)) (inside (b, t) (inl refl)) (blocks (b, t) (inl refl)) g
        knit_sized base n m ps leaves out u s e p h inside blocks (both {before = before} {beside = beside} on {t = a} {u = c} {r = x} {s = y} j k q d) = (
          join_at base n m leaves out p (subst (λ (l : List (ℕ × ℕ)). AreLeaves results l (leaves_of leaves)) e h) blocks (two (Join on) a c) (shape.two kind.Join x y)
              (subst (λ (l : List (ℕ × ℕ)). IsKnit l leaves (two (Join on) a c) (shape.two kind.Join x y)) e (both on j k q d)) (leaves_at (place (shape.two kind.Join x y))) refl,
          knit_sized base n m ps before (beside ++ out) a x e
              (IsPermutation-trans _ _ _ (same_permuted _ _ (sym (append_assoc before beside out))) (IsPermutation-trans _ _ _ (IsPermutation-append_left out _ _ q) p))
              (on_left_leaves results ps (leaves_of before) (leaves_of beside) (leaves_of leaves) (leaves_permuted before beside leaves q) h)
              (λ v i. inside v (in_moved v (before ++ beside) leaves q (in_left v before beside i))) (λ v i. blocks v (in_moved v (before ++ beside) leaves q (in_left v before beside i))) j,
          knit_sized base n m ps beside (before ++ out) c y e
              (IsPermutation-trans _ _ _ (same_permuted _ _ (sym (append_assoc beside before out)))
              (IsPermutation-trans _ _ _ (IsPermutation-append_left out _ _ (IsPermutation-append_comm beside before)) (IsPermutation-trans _ _ _ (IsPermutation-append_left out _ _ q) p)))
              (on_right_leaves results ps (leaves_of before) (leaves_of beside) (leaves_of leaves) (leaves_permuted before beside leaves q) h)
              (λ v i. inside v (in_moved v (before ++ beside) leaves q (in_right v before beside i))) (λ v i. blocks v (in_moved v (before ++ beside) leaves q (in_right v before beside i))) k,
        )
