-- A step of shapes is a step of the expressions that they stand for.
use Rattle.std.proofs.Common.{◌≡◌, ◌<◌, ◌+◌, ◌==◌, ℕ, Bool, true, false, List, [], ◌∷◌, ◌++◌, length, append_assoc, arith, refl, sym, ap, ◌∙◌, subst, ◌⊎◌, inl, inr, IsPermutation}
use Rattle.std.specs.Prelude.{Contains}
use Rattle.std.proofs.lemmas.Bool.Decides.{nat_tests}
use Rattle.std.proofs.lemmas.List.Sorted.{IsPermutation-refl, IsPermutation-trans, IsPermutation-append_left, IsPermutation-append_comm, Contains-permutation}
use Rattle.col_sets.specs.Sets.{has, union}
use Rattle.col_sets.specs.Columns.{union_has}
use Rattle.col_sets.specs.Tests.{either}
use Rattle.structural_props.specs.Actions.{In}
use Rattle.structural_props.specs.KeptLemmas.{in_append, in_left, in_right}
use Rattle.logical_trees.specs.declared.args.GroupArgs.{GroupArgs}
use Rattle.logical_trees.specs.declared.args.TopArgs.{TopArgs}
use Rattle.logical_trees.specs.declared.logic_op.LogicOp.{LogicOp}
use Rattle.logical_trees.specs.declared.logic_op.LogicOp.TheVariants.{Join, Group, Top, Partial, Finish, LocalTop, LastTop}
use Rattle.logical_trees.specs.Tree.{Expression, leaf, one, two, columns_of}
use Rattle.logical_trees.specs.Formed.{IsFormed}
use Rattle.logical_trees.specs.Blocks.{block_pairs, IsAcross}
use Rattle.list_lemmas.specs.Bags.{same_permuted}
use Rattle.logical_trees.specs.ColumnLemmas.{into_union}
use Rattle.logical_trees.specs.LeafLemmas.{HasColumn}
use Rattle.list_lemmas.specs.Members.{in_list, list_in, in_moved}
use Rattle.rules_steps.specs.Steps.{Pairs, IsDealt, Step, here, below, on_left, on_right, Reaches, stays, after}
use Rattle.rules_steps.specs.Steps as steps
use Rattle.rules_steps.proofs.Kept.{step_same, step_formed, reached_same}
use Rattle.rules_places.specs.Space.{is_join, is_block}
use Rattle.rules_places.proofs.Reaching.{reach_step}
use Rattle.rules_places.proofs.Grown.{AreLeaves, of_block, on_left_leaves, on_right_leaves, pairs_back, dealt_up, dealt_moved}
use Rattle.rules_space.specs.Tree as shape
use Rattle.rules_space.specs.declared.kind.Kind.{Kind}
use Rattle.rules_space.specs.declared.kind.Kind.TheVariants as kind
use Rattle.rules_space.specs.Place.{Script, place, linked, leaves_at}
use Rattle.rules_space.specs.Space as rules
use Rattle.rules_shapes.specs.Shapes.{Shape, size, top_number, numbered_leaves, shape_of, is_split, IsShaped, of_leaf, of_one, of_group, of_top, of_two, of_join, IsKnit, alone, both, AreJust, IsJustScriptOf}
use Rattle.rules_shapes.proofs.Knit.{leaves_of, leaves_permuted, leaves_are, grown_of}
use Rattle.rules_shapes.proofs.Shaped.{own}
use Rattle.rules_shapes.proofs.Lists.{is_dealt, link_found}

-- a Join's shape
abbrev is_two : Shape → Bool
is_two (shape.two kind.Join r s) = true
is_two s = false

-- what is no Join has another shape
no_two : (base : ℕ) (t u : Expression) (s : Shape) → is_block t ≡ false → IsShaped base t u s → is_two s ≡ false
no_two base t u s e (of_leaf b op) = refl
no_two base t u s e (of_one b op g r) = refl
no_two base t u s e (of_group b args g r) = refl
no_two base t u s e (of_top b args g r) = refl
no_two base t u s e (of_two b op n g r h q) = refl
no_two base t u s e (of_join b on a c g) = absurd (cc)

is_number : (n m : ℕ) → (n == m) ≡ true → n ≡ m
is_number n m h = grind (arith, nat_tests)

leaf_number : (base : ℕ) (t u : Expression) (s : Shape) (m : ℕ) → is_block t ≡ false → IsShaped base t u s → leaves_at (place s) m ≡ true → top_number base t ≡ m
leaf_number base t u s m e (of_leaf b op) k = is_number base m k
leaf_number base t u s m e (of_one b op {t = a} g r) k = is_number (base + size a) m k
leaf_number base t u s m e (of_group b args {t = a} g r) k = is_number (base + size a) m k
leaf_number base t u s m e (of_top b args {t = a} g r) k = is_number (base + size a) m k
leaf_number base t u s m e (of_two b op {t = a} {v = c} n g r h q) k = is_number (base + (size a + size c)) m k
leaf_number base t u s m e (of_join b on a c g) k = absurd (cc)

-- kinds that rules are for
abbrev is_node : Kind → Bool
is_node (kind.Node n) = true
is_node k = false

abbrev is_pair : Kind → Bool
is_pair kind.Join = true
is_pair k = false

abbrev has_child : Shape → Bool
has_child (shape.leaf k) = false
has_child s = true

rule_node : {S : Script} (s r : Shape) → rules.Rule S s r → has_child s ≡ true
rule_node s r (rules.commute t u) = refl
rule_node s r (rules.associate t u v l) = refl
rule_node s r (rules.split n t y) = refl

module _ (results : List (List ℕ)) (S : Script) where
  -- the leaves of a block, and that the script has no other ties
  record AreMeant (pairs : List (ℕ × ℕ)) (leaves : List (ℕ × Expression)) : Type 0 where
    are : AreLeaves results pairs (leaves_of leaves)
    just : AreJust S pairs leaves
    scripts : (v : ℕ × Expression) → In v leaves → IsJustScriptOf S v.0 v.1

  module _ (pairs : List (ℕ × ℕ)) (before beside all : List (ℕ × Expression)) (p : IsPermutation (before ++ beside) all) (h : AreMeant pairs all) where
    left_in : (v : ℕ × Expression) → In v before → In v all
    left_in v m = in_moved v (before ++ beside) all p (in_left v before beside m)

    right_in : (v : ℕ × Expression) → In v beside → In v all
    right_in v m = in_moved v (before ++ beside) all p (in_right v before beside m)

    left_meant : AreMeant pairs before
    left_meant = record {
      are = on_left_leaves results pairs (leaves_of before) (leaves_of beside) (leaves_of all) (leaves_permuted before beside all p) h.are;
      just = λ v w i j m. h.just v w (left_in v i) (left_in w j) m;
      scripts = λ v m. h.scripts v (left_in v m);
    }

    right_meant : AreMeant pairs beside
    right_meant = record {
      are = on_right_leaves results pairs (leaves_of before) (leaves_of beside) (leaves_of all) (leaves_permuted before beside all p) h.are;
      just = λ v w i j m. h.just v w (right_in v i) (right_in w j) m;
      scripts = λ v m. h.scripts v (right_in v m);
    }

  block_scripts : (base : ℕ) (t : Expression) → IsJustScriptOf S base t → (v : ℕ × Expression) → In v (numbered_leaves base t) → IsJustScriptOf S v.0 v.1
  block_scripts base (two (Join on) t u) h v m =
      go (block_scripts base t h.1 v) (block_scripts (base + size t) u h.2 v) (in_append v (numbered_leaves base t) (numbered_leaves (base + size t) u) m)
    where
      go : (In v (numbered_leaves base t) → IsJustScriptOf S v.0 v.1) → (In v (numbered_leaves (base + size t) u) → IsJustScriptOf S v.0 v.1)
          → In v (numbered_leaves base t) ⊎ In v (numbered_leaves (base + size t) u) → IsJustScriptOf S v.0 v.1
      go left right (inl k) = left k
      go left right (inr k) = right k
  block_scripts base (two op t u) h v (inl e) = subst (λ (w : ℕ × Expression). IsJustScriptOf S w.0 w.1) (sym e) h
  block_scripts base (two op t u) h v (inr m) = absurd m
  block_scripts base (one op t) h v (inl e) = subst (λ (w : ℕ × Expression). IsJustScriptOf S w.0 w.1) (sym e) h
  block_scripts base (one op t) h v (inr m) = absurd m
  block_scripts base (leaf op) h v (inl e) = subst (λ (w : ℕ × Expression). IsJustScriptOf S w.0 w.1) (sym e) h
  block_scripts base (leaf op) h v (inr m) = absurd m

  block_meant : (base : ℕ) (on : Pairs) (t u : Expression) → IsFormed results (two (Join on) t u) → IsJustScriptOf S base (two (Join on) t u)
      → AreMeant (block_pairs (two (Join on) t u)) (numbered_leaves base (two (Join on) t u))
  block_meant base on t u f h = record {
    are = subst (λ (l : List Expression). AreLeaves results (block_pairs (two (Join on) t u)) l) (sym (leaves_are base (two (Join on) t u))) (of_block results (two (Join on) t u) f);
    just = h.0;
    scripts = block_scripts base (two (Join on) t u) h;
  }

  -- ---- the leaf of a number, and its columns

  number_leaf : (pairs : List (ℕ × ℕ)) (leaves : List (ℕ × Expression)) (u : Expression) (s : Shape) → AreMeant pairs leaves → IsKnit pairs leaves u s → IsFormed results u → (m : ℕ) → leaves_at (place s) m ≡ true
      → (v : ℕ × Expression) × In v leaves × (top_number v.0 v.1 ≡ m) × ((c : ℕ) → HasColumn c v.1 → HasColumn c u)
  number_leaf pairs leaves u s h (alone base {t = t} g r) f m k =
      let same : columns_of t ≡ columns_of u = (reached_same results t u (h.are.formed t (inl refl)) r).columns in
      ((base, t), inl refl, leaf_number base t u s m (h.are.plain t (inl refl)) g k, λ c n. subst (λ (cols : List ℕ). has cols c ≡ true) same n)
  number_leaf pairs leaves u s h (both {before = before} {beside = beside} on {t = a} {u = b} {r = x} {s = y} j k p d) f m n =
      go (number_leaf pairs before a x (left_meant pairs before beside leaves p h) j f.0 m) (number_leaf pairs beside b y (right_meant pairs before beside leaves p h) k f.1 m)
      (either (leaves_at (place x) m) (leaves_at (place y) m) n)
    where
      go : (leaves_at (place x) m ≡ true → (v : ℕ × Expression) × In v before × (top_number v.0 v.1 ≡ m) × ((c : ℕ) → HasColumn c v.1 → HasColumn c a))
          → (leaves_at (place y) m ≡ true → (v : ℕ × Expression) × In v beside × (top_number v.0 v.1 ≡ m) × ((c : ℕ) → HasColumn c v.1 → HasColumn c b))
          → (leaves_at (place x) m ≡ true) ⊎ (leaves_at (place y) m ≡ true)
          → (v : ℕ × Expression) × In v leaves × (top_number v.0 v.1 ≡ m) × ((c : ℕ) → HasColumn c v.1 → HasColumn c (two (Join on) a b))
      go left right (inl i) = let v = left i in (v.0, left_in pairs before beside leaves p h v.0 v.1, v.2, λ c z. into_union results a b f.0 f.1 c (inl (v.3 c z)))
      go left right (inr i) = let v = right i in (v.0, right_in pairs before beside leaves p h v.0 v.1, v.2, λ c z. into_union results a b f.0 f.1 c (inr (v.3 c z)))

  -- where two shapes are linked, an equality of the block has a side in each of the joins
  across_of : (pairs : List (ℕ × ℕ)) (first second all : List (ℕ × Expression)) (u v : Expression) (r s : Shape) → AreMeant pairs all → ((x : ℕ × Expression) → In x first → In x all) → ((x : ℕ × Expression) → In x second → In x all)
      → AreMeant pairs first → AreMeant pairs second → IsKnit pairs first u r → IsKnit pairs second v s → IsFormed results u → IsFormed results v → linked S (place r) (place s) ≡ true
      → (a b : ℕ) × IsAcross pairs (columns_of u) (columns_of v) (a, b)
  across_of pairs first second all u v r s h inf ins hf hs j k f g l = let m = link_found S.links (leaves_at (place r)) (leaves_at (place s)) l in at m.0 m.1 m.2 m.3
    where
      turn : (a b : ℕ) → Contains pairs (a, b) ⊎ Contains pairs (b, a) → Contains pairs (b, a) ⊎ Contains pairs (a, b)
      turn a b (inl m) = inr m
      turn a b (inr m) = inl m

      at : (i n : ℕ) → In (i, n) S.links → ((leaves_at (place r) i ≡ true) × (leaves_at (place s) n ≡ true)) ⊎ ((leaves_at (place r) n ≡ true) × (leaves_at (place s) i ≡ true))
          → (a b : ℕ) × IsAcross pairs (columns_of u) (columns_of v) (a, b)
      at i n m (inl e) =
          let x = number_leaf pairs first u r hf j f i e.0 in
          let y = number_leaf pairs second v s hs k g n e.1 in
          let link : In (top_number x.0.0 x.0.1, top_number y.0.0 y.0.1) S.links = subst (λ (z : ℕ). In (z, top_number y.0.0 y.0.1) S.links) (sym x.2) (subst (λ (z : ℕ). In (i, z) S.links) (sym y.2) m) in
          let w = h.just x.0 y.0 (inf x.0 x.1) (ins y.0 y.1) (list_in S.links _ link) in
          (w.0, w.1, (x.3 w.0 w.2, y.3 w.1 w.3, w.4))
      at i n m (inr e) =
          let x = number_leaf pairs first u r hf j f n e.0 in
          let y = number_leaf pairs second v s hs k g i e.1 in
          let link : In (top_number y.0.0 y.0.1, top_number x.0.0 x.0.1) S.links = subst (λ (z : ℕ). In (z, top_number x.0.0 x.0.1) S.links) (sym y.2) (subst (λ (z : ℕ). In (i, z) S.links) (sym x.2) m) in
          let w = h.just y.0 x.0 (ins y.0 y.1) (inf x.0 x.1) (list_in S.links _ link) in
          (w.1, w.0, (x.3 w.1 w.3, y.3 w.0 w.2, turn w.0 w.1 w.4))

  -- ---- what a step leads to

  abbrev IsMeantStep : ℕ → Expression → Expression → Shape → Type 0
  IsMeantStep base t u r = (v : Expression) × Step u v × IsShaped base t v r

  abbrev IsKnitMeant : List (ℕ × ℕ) → List (ℕ × Expression) → Expression → Shape → Type 0
  IsKnitMeant pairs leaves u r = (v : Expression) × Step u v × IsKnit pairs leaves v r

  -- a join with a Join's shape has two sides
  record AreSides (pairs : List (ℕ × ℕ)) (leaves : List (ℕ × Expression)) (w : Expression) (m n : Shape) : Type 0 where
    before : List (ℕ × Expression)
    beside : List (ℕ × Expression)
    on : Pairs
    x : Expression
    y : Expression
    is : w ≡ two (Join on) x y
    first : IsKnit pairs before x m
    second : IsKnit pairs beside y n
    all : IsPermutation (before ++ beside) leaves
    dealt_on : IsDealt pairs x y on

  sides : (pairs : List (ℕ × ℕ)) (leaves : List (ℕ × Expression)) (w : Expression) (s m n : Shape) → AreMeant pairs leaves → IsKnit pairs leaves w s → s ≡ shape.two kind.Join m n → AreSides pairs leaves w m n
  sides pairs leaves w s m n h (alone base {t = t} g r) e = absurd (let k = no_two base t w s (h.are.plain t (inl refl)) g in let z : is_two s ≡ true = ap is_two e in cc)
  sides pairs leaves w s m n h (both {before = before} {beside = beside} on {t = a} {u = b} {r = x} {s = y} j k p d) e =
      let l : x ≡ m = cc in
      let r : y ≡ n = cc in
      record { before = before; beside = beside; on = on; x = a; y = b; is = refl; first = subst (λ (z : Shape). IsKnit pairs before a z) l j; second = subst (λ (z : Shape). IsKnit pairs beside b z) r k; all = p; dealt_on = d }

  -- equalities across two parts of a join, from those of its block
  part_dealt : (pairs : List (ℕ × ℕ)) (leaves : List (ℕ × Expression)) (w : Expression) (s : Shape) → AreMeant pairs leaves → IsKnit pairs leaves w s → (x y : Expression) → ((c : ℕ) → HasColumn c x → HasColumn c w) → ((c : ℕ) → HasColumn c y → HasColumn c w)
      → (a b : ℕ) → IsAcross pairs (columns_of x) (columns_of y) (a, b) → (on : Pairs) × IsDealt (block_pairs w) x y on × IsDealt pairs x y on
  part_dealt pairs leaves w s h g x y left right a b m =
      let k : IsAcross (block_pairs w) (columns_of x) (columns_of y) (a, b) = (m.0, m.1, inside m.2) in
      let d = is_dealt (block_pairs w) x y a b k in
      (_, d, dealt_up results pairs (leaves_of leaves) w h.are (grown_of pairs leaves w s g) x y left right _ d)
    where
      turn : Contains (block_pairs w) (b, a) ⊎ Contains (block_pairs w) (a, b) → Contains (block_pairs w) (a, b) ⊎ Contains (block_pairs w) (b, a)
      turn (inl n) = inr n
      turn (inr n) = inl n

      inside : Contains pairs (a, b) ⊎ Contains pairs (b, a) → Contains (block_pairs w) (a, b) ⊎ Contains (block_pairs w) (b, a)
      inside (inl n) = pairs_back results pairs (leaves_of leaves) w h.are (grown_of pairs leaves w s g) a b (left a m.0) (right b m.1) n
      inside (inr n) = turn (pairs_back results pairs (leaves_of leaves) w h.are (grown_of pairs leaves w s g) b a (right b m.1) (left a m.0) n)

  -- some equality of a Join
  some_pair : (pairs : List (ℕ × ℕ)) (t u : Expression) (on : Pairs) → IsDealt pairs t u on → (a b : ℕ) × IsAcross pairs (columns_of t) (columns_of u) (a, b)
  some_pair pairs t u on d = go on.items refl d.0
    where
      go : (items : List (ℕ × ℕ)) → on.items ≡ items → 0 < length on.items → (a b : ℕ) × IsAcross pairs (columns_of t) (columns_of u) (a, b)
      go [] e l = absurd (let z = ap length e in omega (arith, z, l))
      go (p ∷ items) e l = (p.0, p.1, (d.1 (p.0, p.1)).0 (list_in on.items (p.0, p.1) (subst (λ (xs : List (ℕ × ℕ)). In (p.0, p.1) xs) (sym e) (inl refl))))

  across_turned : (pairs : List (ℕ × ℕ)) (t u : Expression) (a b : ℕ) → IsAcross pairs (columns_of t) (columns_of u) (a, b) → IsAcross pairs (columns_of u) (columns_of t) (b, a)
  across_turned pairs t u a b m = (m.1, m.0, turn m.2)
    where
      turn : Contains pairs (a, b) ⊎ Contains pairs (b, a) → Contains pairs (b, a) ⊎ Contains pairs (a, b)
      turn (inl n) = inr n
      turn (inr n) = inl n

  -- ---- the rules of Joins

  commute_meant : (pairs : List (ℕ × ℕ)) (before beside leaves : List (ℕ × Expression)) (on : Pairs) (t u : Expression) (q z : Shape) → AreMeant pairs leaves → IsFormed results (two (Join on) t u)
      → IsKnit pairs before t q → IsKnit pairs beside u z → IsPermutation (before ++ beside) leaves → IsDealt pairs t u on → IsKnitMeant pairs leaves (two (Join on) t u) (shape.two kind.Join z q)
  commute_meant pairs before beside leaves on t u q z h f j k p d =
      let s = some_pair pairs t u on d in
      let n = part_dealt pairs leaves (two (Join on) t u) (shape.two kind.Join q z) h (both on j k p d) u t (λ c m. into_union results t u f.0 f.1 c (inr m)) (λ c m. into_union results t u f.0 f.1 c (inl m))
      s.1 s.0 (across_turned pairs t u s.0 s.1 s.2) in
      (two (Join n.0) u t, here (steps.commute on n.0 t u n.1), both n.0 k j (IsPermutation-trans _ _ _ (IsPermutation-append_comm beside before) p) n.2)

  associate_meant : (pairs : List (ℕ × ℕ)) (before beside leaves : List (ℕ × Expression)) (on : Pairs) (w u : Expression) (q m n z : Shape) → AreMeant pairs leaves → IsFormed results (two (Join on) w u)
      → IsKnit pairs before w q → q ≡ shape.two kind.Join m n → IsKnit pairs beside u z → IsPermutation (before ++ beside) leaves → IsDealt pairs w u on → linked S (place n) (place z) ≡ true
      → IsKnitMeant pairs leaves (two (Join on) w u) (shape.two kind.Join m (shape.two kind.Join n z))
  associate_meant pairs before beside leaves on w u q m n z h f j e k p d l = go (sides pairs before w q m n (left_meant pairs before beside leaves p h) j e)
    where
      go : AreSides pairs before w m n → IsKnitMeant pairs leaves (two (Join on) w u) (shape.two kind.Join m (shape.two kind.Join n z))
      go s = inner s.before s.beside s.on s.x s.y s.is s.first s.second s.all s.dealt_on
        where
          inner : (fore mid : List (ℕ × Expression)) (lower : Pairs) (x y : Expression) → w ≡ two (Join lower) x y → IsKnit pairs fore x m → IsKnit pairs mid y n → IsPermutation (fore ++ mid) before → IsDealt pairs x y lower
              → IsKnitMeant pairs leaves (two (Join on) w u) (shape.two kind.Join m (shape.two kind.Join n z))
          inner fore mid lower x y is a b o dl =
              subst (λ (w : Expression). IsKnitMeant pairs leaves (two (Join on) w u) (shape.two kind.Join m (shape.two kind.Join n z))) (sym is)
              (made (subst (λ (w : Expression). IsFormed results (two (Join on) w u)) is f) (subst (λ (w : Expression). IsDealt pairs w u on) is d))
            where
              made : IsFormed results (two (Join on) (two (Join lower) x y) u) → IsDealt pairs (two (Join lower) x y) u on → IsKnitMeant pairs leaves (two (Join on) (two (Join lower) x y) u) (shape.two kind.Join m (shape.two kind.Join n z))
              made g dw =
                  let lk : IsKnit pairs before (two (Join lower) x y) (shape.two kind.Join m n) = both lower a b o dl in
                  let all : IsKnit pairs leaves (two (Join on) (two (Join lower) x y) u) (shape.two kind.Join (shape.two kind.Join m n) z) = both on lk k p dw in
                  let lm = left_meant pairs before beside leaves p h in
                  let rm = right_meant pairs before beside leaves p h in
                  let mm = right_meant pairs fore mid before o lm in
                  let in_x : (c : ℕ) → HasColumn c x → HasColumn c (two (Join on) (two (Join lower) x y) u) = λ c i. into_union results (two (Join lower) x y) u g.0 g.1 c (inl (into_union results x y g.0.0 g.0.1 c (inl i))) in
                  let in_y : (c : ℕ) → HasColumn c y → HasColumn c (two (Join on) (two (Join lower) x y) u) = λ c i. into_union results (two (Join lower) x y) u g.0 g.1 c (inl (into_union results x y g.0.0 g.0.1 c (inr i))) in
                  let in_u : (c : ℕ) → HasColumn c u → HasColumn c (two (Join on) (two (Join lower) x y) u) = λ c i. into_union results (two (Join lower) x y) u g.0 g.1 c (inr i) in
                  let across = across_of pairs mid beside leaves y u n z h (λ v i. left_in pairs before beside leaves p h v (right_in pairs fore mid before o lm v i)) (right_in pairs before beside leaves p h) mm rm b k g.0.1 g.1 l in
                  let di = part_dealt pairs leaves (two (Join on) (two (Join lower) x y) u) (shape.two kind.Join (shape.two kind.Join m n) z) h all y u in_y in_u across.0 across.1 across.2 in
                  let some = some_pair pairs x y lower dl in
                  let wide : IsAcross pairs (columns_of x) (columns_of (two (Join di.0) y u)) (some.0, some.1) = (some.2.0, into_union results y u g.0.1 g.1 some.1 (inl some.2.1), some.2.2) in
                  let dx = part_dealt pairs leaves (two (Join on) (two (Join lower) x y) u) (shape.two kind.Join (shape.two kind.Join m n) z) h all x (two (Join di.0) y u) in_x (λ c i. wider c (union_either c i)) some.0 some.1 wide in (
                    two (Join dx.0) x (two (Join di.0) y u),
                    here (steps.associate on lower dx.0 di.0 x y u di.1 dx.1),
                    both dx.0 a (both di.0 b k (IsPermutation-refl (mid ++ beside)) di.2)
                        (IsPermutation-trans _ _ _ (same_permuted _ _ (sym (append_assoc fore mid beside))) (IsPermutation-trans _ _ _ (IsPermutation-append_left beside _ _ o) p)) dx.2,
                  )
                where
                  union_either : (c : ℕ) → has (union (columns_of y) (columns_of u)) c ≡ true → HasColumn c y ⊎ HasColumn c u
                  union_either c i = union_has (columns_of y) (columns_of u) c i

                  wider : (c : ℕ) → HasColumn c y ⊎ HasColumn c u → HasColumn c (two (Join on) (two (Join lower) x y) u)
                  wider c (inl i) = into_union results (two (Join lower) x y) u g.0 g.1 c (inl (into_union results x y g.0.0 g.0.1 c (inr i)))
                  wider c (inr i) = into_union results (two (Join lower) x y) u g.0 g.1 c (inr i)

  rule_meant : (pairs : List (ℕ × ℕ)) (before beside leaves : List (ℕ × Expression)) (on : Pairs) (t u : Expression) (q z r : Shape) → AreMeant pairs leaves → IsFormed results (two (Join on) t u)
      → IsKnit pairs before t q → IsKnit pairs beside u z → IsPermutation (before ++ beside) leaves → IsDealt pairs t u on → rules.Rule S (shape.two kind.Join q z) r → IsKnitMeant pairs leaves (two (Join on) t u) r
  rule_meant pairs before beside leaves on t u q z r h f j k p d (rules.commute x y) = commute_meant pairs before beside leaves on t u q z h f j k p d
  rule_meant pairs before beside leaves on t u q z r h f j k p d (rules.associate x y w l) = associate_meant pairs before beside leaves on t u (shape.two kind.Join x y) x y z h f j refl k p d l

  both_meant : (pairs : List (ℕ × ℕ)) (before beside leaves : List (ℕ × Expression)) (on : Pairs) (t u : Expression) (q z r : Shape) → AreMeant pairs leaves → IsFormed results (two (Join on) t u)
      → IsKnit pairs before t q → IsKnit pairs beside u z → IsPermutation (before ++ beside) leaves → IsDealt pairs t u on
      → ((r : Shape) → rules.Step S q r → IsKnitMeant pairs before t r) → ((r : Shape) → rules.Step S z r → IsKnitMeant pairs beside u r) → rules.Step S (shape.two kind.Join q z) r → IsKnitMeant pairs leaves (two (Join on) t u) r
  both_meant pairs before beside leaves on t u q z r h f j k p d left right (rules.here rule) = rule_meant pairs before beside leaves on t u q z r h f j k p d rule
  both_meant pairs before beside leaves on t u q z r h f j k p d left right (rules.left o {u = e} w st) =
      let m = left e st in (two (Join on) m.0 u, on_left (Join on) u m.1, both on m.2 k p (dealt_moved results pairs t m.0 u u on (step_same results t m.0 f.0 m.1).columns refl d))
  both_meant pairs before beside leaves on t u q z r h f j k p d left right (rules.right o w {u = e} st) =
      let m = right e st in (two (Join on) t m.0, on_right (Join on) t m.1, both on j m.2 p (dealt_moved results pairs t t u m.0 on refl (step_same results u m.0 f.1 m.1).columns d))

  -- ---- the other nodes

  split_op : (base : ℕ) (op : LogicOp) (a b : Expression) (s : Shape) → IsShaped base a b s → Reaches a b → is_split op ≡ true
      → IsMeantStep base (one op a) (one op b) (shape.one (kind.Finish (base + size a)) (shape.one (kind.Partial (base + size a)) s))
  split_op base (Group args) a b s g q e = (one (Finish args) (one (Partial args) b), here (steps.split_group args b), of_group base args g q)
  split_op base (Top args) a b s g q e = (one (LastTop args) (one (LocalTop args) b), here (steps.split_top args b), of_top base args g q)
  split_op base op a b s g q e = absurd (cc)

  split_meant : (base : ℕ) (op : LogicOp) (a b : Expression) (s r : Shape) → IsJustScriptOf S base (one op a) → IsShaped base a b s → Reaches a b → rules.Rule S (shape.one (kind.Node (base + size a)) s) r
      → IsMeantStep base (one op a) (one op b) r
  split_meant base op a b s r x g q (rules.split n t y) = split_op base op a b s g q (x.0 y)

  one_meant : (base : ℕ) (op : LogicOp) (a b : Expression) (s r : Shape) → IsJustScriptOf S base (one op a) → IsShaped base a b s → Reaches a b → ((r : Shape) → rules.Step S s r → IsMeantStep base a b r)
      → rules.Step S (shape.one (kind.Node (base + size a)) s) r → IsMeantStep base (one op a) (one op b) r
  one_meant base op a b s r x g q more (rules.here rule) = split_meant base op a b s r x g q rule
  one_meant base op a b s r x g q more (rules.below o {u = e} st) = let m = more e st in (one op m.0, below op m.1, of_one base op m.2 (reach_step a b m.0 q m.1))

  -- a step from a shape that no rule is for
  rule_kind : (k : Kind) (s r : Shape) → rules.Rule S (shape.one k s) r → is_node k ≡ true
  rule_kind k s r (rules.split n t y) = refl

  step_below : (k : Kind) (s r : Shape) → is_node k ≡ false → rules.Step S (shape.one k s) r → (q : Shape) × rules.Step S s q × (r ≡ shape.one k q)
  step_below k s r e (rules.here rule) = absurd (let z = rule_kind k s r rule in cc)
  step_below k s r e (rules.below o {u = q} st) = (q, st, refl)

  rule_pair : (k : Kind) (q z r : Shape) → rules.Rule S (shape.two k q z) r → is_pair k ≡ true
  rule_pair k q z r (rules.commute t u) = refl
  rule_pair k q z r (rules.associate t u v l) = refl

  abbrev halves : ℕ → Shape → Shape
  halves n s = shape.one (kind.Finish n) (shape.one (kind.Partial n) s)

  group_meant : (base : ℕ) (args : GroupArgs) (a b : Expression) (s r : Shape) → IsShaped base a b s → Reaches a b → ((r : Shape) → rules.Step S s r → IsMeantStep base a b r)
      → rules.Step S (halves (base + size a) s) r → IsMeantStep base (one (Group args) a) (one (Finish args) (one (Partial args) b)) r
  group_meant base args a b s r g q more st =
      let m = step_below (kind.Finish (base + size a)) (shape.one (kind.Partial (base + size a)) s) r refl st in
      let n = step_below (kind.Partial (base + size a)) s m.0 refl m.1 in
      let o = more n.0 n.1 in (
        one (Finish args) (one (Partial args) o.0),
        below (Finish args) (below (Partial args) o.1),
        subst (λ (x : Shape). IsShaped base (one (Group args) a) (one (Finish args) (one (Partial args) o.0)) x) (sym (m.2 ∙ ap (λ (x : Shape). shape.one (kind.Finish (base + size a)) x) n.2)) (of_group base args o.2 (reach_step a b o.0 q o.1)),
      )

  top_meant : (base : ℕ) (args : TopArgs) (a b : Expression) (s r : Shape) → IsShaped base a b s → Reaches a b → ((r : Shape) → rules.Step S s r → IsMeantStep base a b r)
      → rules.Step S (halves (base + size a) s) r → IsMeantStep base (one (Top args) a) (one (LastTop args) (one (LocalTop args) b)) r
  top_meant base args a b s r g q more st =
      let m = step_below (kind.Finish (base + size a)) (shape.one (kind.Partial (base + size a)) s) r refl st in
      let n = step_below (kind.Partial (base + size a)) s m.0 refl m.1 in
      let o = more n.0 n.1 in (
        one (LastTop args) (one (LocalTop args) o.0),
        below (LastTop args) (below (LocalTop args) o.1),
        subst (λ (x : Shape). IsShaped base (one (Top args) a) (one (LastTop args) (one (LocalTop args) o.0)) x) (sym (m.2 ∙ ap (λ (x : Shape). shape.one (kind.Finish (base + size a)) x) n.2)) (of_top base args o.2 (reach_step a b o.0 q o.1)),
      )

  two_meant : (base : ℕ) (op : LogicOp) (a b c d : Expression) (q s r : Shape) → is_join op ≡ false → IsShaped base a b q → Reaches a b → IsShaped (base + size a) c d s → Reaches c d
      → ((r : Shape) → rules.Step S q r → IsMeantStep base a b r) → ((r : Shape) → rules.Step S s r → IsMeantStep (base + size a) c d r)
      → rules.Step S (shape.two (kind.Node (base + (size a + size c))) q s) r → IsMeantStep base (two op a c) (two op b d) r
  two_meant base op a b c d q s r plain g x k z left right (rules.here rule) = absurd (let e = rule_pair (kind.Node (base + (size a + size c))) q s r rule in cc)
  two_meant base op a b c d q s r plain g x k z left right (rules.left o {u = e} w st) =
      let m = left e st in (two op m.0 d, on_left op d m.1, of_two base op plain m.2 (reach_step a b m.0 x m.1) k z)
  two_meant base op a b c d q s r plain g x k z left right (rules.right o w {u = e} st) =
      let m = right e st in (two op b m.0, on_right op b m.1, of_two base op plain g x m.2 (reach_step c d m.0 z m.1))

  leaf_still : (k : Kind) (r : Shape) → rules.Step S (shape.leaf k) r → ⊥
  leaf_still k r st = let e = step_node (shape.leaf k) r st in cc
    where
      step_node : (s r : Shape) → rules.Step S s r → has_child s ≡ true
      step_node s r (rules.here rule) = rule_node s r rule
      step_node s r (rules.below o st) = refl
      step_node s r (rules.left o w st) = refl
      step_node s r (rules.right o w st) = refl

  two_scripts : (base : ℕ) (op : LogicOp) (t u : Expression) → is_join op ≡ false → IsJustScriptOf S base (two op t u) → IsJustScriptOf S base t × IsJustScriptOf S (base + size t) u
  two_scripts base (Join on) t u e h = absurd (cc)
  two_scripts base op t u e h = (h.1, h.2)

  mutual
    pub back_shaped : (base : ℕ) (t u : Expression) (s r : Shape) → IsFormed results t → IsFormed results u → IsJustScriptOf S base t → IsShaped base t u s → rules.Step S s r → IsMeantStep base t u r
    back_shaped base t u s r h f x (of_leaf b op) st = absurd (leaf_still (kind.Node base) r st)
    back_shaped base t u s r h f x (of_one b op {t = a} {u = c} {s = q} g y) st = one_meant base op a c q r x g y (λ e k. back_shaped base a c q e h.0 f.0 x.1 g k) st
    back_shaped base t u s r h f x (of_group b args {t = a} {u = c} {s = q} g y) st = group_meant base args a c q r g y (λ e k. back_shaped base a c q e h.0 f.0.0 x.1 g k) st
    back_shaped base t u s r h f x (of_top b args {t = a} {u = c} {s = q} g y) st = top_meant base args a c q r g y (λ e k. back_shaped base a c q e h.0 f.0.0 x.1 g k) st
    back_shaped base t u s r h f x (of_two b op {t = a} {u = c} {v = d} {w = e} {r = y} {s = z} n g o k q) st =
        two_meant base op a c d e y z r n g o k q (λ i m. back_shaped base a c y i h.0 f.0 (two_scripts base op a d n x).0 g m) (λ i m. back_shaped (base + size a) d e z i h.1 f.1 (two_scripts base op a d n x).1 k m) st
    back_shaped base t u s r h f x (of_join b on a c {s = q} g) st =
        let m = back_knit (block_pairs (two (Join on) a c)) (numbered_leaves base (two (Join on) a c)) u q r (block_meant base on a c h x) f g st in
        (m.0, m.1, of_join base on a c m.2)

    back_knit : (pairs : List (ℕ × ℕ)) (leaves : List (ℕ × Expression)) (u : Expression) (s r : Shape) → AreMeant pairs leaves → IsFormed results u → IsKnit pairs leaves u s → rules.Step S s r → IsKnitMeant pairs leaves u r
    back_knit pairs leaves u s r h f (alone base {t = t} g y) st =
        let m = back_shaped base t u s r (h.are.formed t (inl refl)) f (h.scripts (base, t) (inl refl)) g st in
        (m.0, m.1, alone base m.2 (reach_step t u m.0 y m.1))
    back_knit pairs leaves u s r h f (both {before = before} {beside = beside} on {t = a} {u = c} {r = q} {s = z} j k p d) st =
        both_meant pairs before beside leaves on a c q z r h f j k p d
        (λ e m. back_knit pairs before a q e (left_meant pairs before beside leaves p h) f.0 j m)
        (λ e m. back_knit pairs beside c z e (right_meant pairs before beside leaves p h) f.1 k m) st

  -- ---- any number of steps

  from_here : (base : ℕ) (t u : Expression) (s r : Shape) → IsFormed results t → IsFormed results u → IsJustScriptOf S base t → IsShaped base t u s → rules.Reaches S s r → (v : Expression) × Reaches u v × IsShaped base t v r
  from_here base t u s r h f x g (rules.stays q) = (u, stays u, g)
  from_here base t u s r h f x g (rules.after {u = q} st more) =
      let m = back_shaped base t u s q h f x g st in
      let n = from_here base t m.0 q r h (step_formed results u m.0 f m.1) x m.2 more in
      (n.0, after m.1 n.1, n.2)

  pub back_reached : (base : ℕ) (t : Expression) (s : Shape) → IsFormed results t → IsJustScriptOf S base t → rules.Reaches S (shape_of base t) s → (u : Expression) × Reaches t u × IsShaped base t u s
  back_reached base t s h x r = from_here base t t (shape_of base t) s h h x (own results S base t h).shaped r
