-- Knit joins are joins of leaves, and their shapes have the leaves' numbers.
use Rattle.std.proofs.Common.{◌≡◌, ◌<◌, ◌+◌, ◌&&◌, ◌==◌, ℕ, true, false, List, [], ◌∷◌, ◌++◌, map, length, arith, refl, sym, ap, ap₂, ◌∙◌, subst, ◌⊎◌, inl, inr, IsPermutation}
use Rattle.std.specs.Prelude.{Contains}
use Rattle.std.proofs.lemmas.Bool.Decides.{nat_tests}
use Rattle.std.proofs.lemmas.List.Sorted.{IsPermutation-map, Contains-permutation}
use Rattle.col_sets.specs.Sets.{has}
use Rattle.col_sets.specs.Columns.{union_has}
use Rattle.col_sets.specs.Tests.{or_left, or_right, and_true}
use Rattle.structural_props.specs.Actions.{In}
use Rattle.structural_props.specs.KeptLemmas.{in_left, in_right}
use Rattle.logical_trees.specs.declared.logic_op.LogicOp.TheVariants.{Join}
use Rattle.logical_trees.specs.Tree.{Expression, leaf, one, two, columns_of}
use Rattle.logical_trees.specs.Blocks.{block_leaves, block_pairs, IsAcross}
use Rattle.logical_trees.specs.LeafLemmas.{HasColumn}
use Rattle.list_lemmas.specs.Members.{in_list, list_in, in_moved}
use Rattle.rules_steps.specs.Steps.{Pairs, IsDealt}
use Rattle.rules_steps.proofs.Kept.{reached_same}
use Rattle.rules_places.specs.Space as space
use Rattle.rules_places.specs.Space.{is_block, IsSpace, IsGrown}
use Rattle.rules_places.proofs.Grown.{AreLeaves, on_left_leaves, on_right_leaves}
use Rattle.rules_space.specs.Tree as shape
use Rattle.rules_space.specs.declared.kind.Kind.TheVariants as kind
use Rattle.rules_space.specs.Place.{Script, Leaves, leaves_at, place, linked, linked_by}
use Rattle.rules_shapes.specs.Shapes.{Shape, size, top_number, numbered_leaves, IsShaped, of_leaf, of_one, of_group, of_top, of_two, of_join, IsKnit, alone, both, AreTied, IsScriptOf}

-- ---- without numbers

-- the expressions of numbered leaves
abbrev pub leaves_of : List (ℕ × Expression) → List Expression
leaves_of leaves = map (λ v. v.1) leaves

map_both : (xs ys : List (ℕ × Expression)) → leaves_of (xs ++ ys) ≡ leaves_of xs ++ leaves_of ys
map_both [] ys = refl
map_both (x ∷ xs) ys = ap (λ l. x.1 ∷ l) (map_both xs ys)

pub leaves_permuted : (before beside leaves : List (ℕ × Expression)) → IsPermutation (before ++ beside) leaves → IsPermutation (leaves_of before ++ leaves_of beside) (leaves_of leaves)
leaves_permuted before beside leaves p = subst (λ (l : List Expression). IsPermutation l (leaves_of leaves)) (map_both before beside) (IsPermutation-map (λ v. v.1) (before ++ beside) leaves p)

pub leaves_are : (base : ℕ) (t : Expression) → leaves_of (numbered_leaves base t) ≡ block_leaves t
leaves_are base (two (Join on) t u) = map_both (numbered_leaves base t) (numbered_leaves (base + size t) u) ∙ ap₂ ◌++◌ (leaves_are base t) (leaves_are (base + size t) u)
leaves_are base (two op t u) = refl
leaves_are base (one op t) = refl
leaves_are base (leaf op) = refl

mutual
  pub space_of : (base : ℕ) (t u : Expression) (s : Shape) → IsShaped base t u s → IsSpace t u
  space_of base t u s (of_leaf b op) = space.of_leaf op
  space_of base t u s (of_one b op {t = a} {u = c} {s = q} g r) = space.of_one op (space_of base a c q g) r
  space_of base t u s (of_group b args {t = a} {u = c} {s = q} g r) = space.of_group args (space_of base a c q g) r
  space_of base t u s (of_top b args {t = a} {u = c} {s = q} g r) = space.of_top args (space_of base a c q g) r
  space_of base t u s (of_two b op {t = a} {u = c} {v = d} {w = e} {r = x} {s = y} n g r h q) = space.of_two op n (space_of base a c x g) r (space_of (base + size a) d e y h) q
  space_of base t u s (of_join b on a c {s = q} g) =
      space.of_join on a c (subst (λ (l : List Expression). IsGrown (block_pairs (two (Join on) a c)) l u) (leaves_are base (two (Join on) a c)) (grown_of (block_pairs (two (Join on) a c)) (numbered_leaves base (two (Join on) a c)) u q g))

  pub grown_of : (pairs : List (ℕ × ℕ)) (leaves : List (ℕ × Expression)) (u : Expression) (s : Shape) → IsKnit pairs leaves u s → IsGrown pairs (leaves_of leaves) u
  grown_of pairs leaves u s (alone base {t = t} g r) = space.alone (space_of base t u s g) r
  grown_of pairs leaves u s (both {before = before} {beside = beside} on {t = a} {u = c} {r = x} {s = y} j k p d) =
      space.both on (grown_of pairs before a x j) (grown_of pairs beside c y k) (leaves_permuted before beside leaves p) d

-- ---- the leaves of a script's block

module _ (results : List (List ℕ)) (S : Script) where
  -- they are leaves, and the script has their ties
  pub record AreKnots (pairs : List (ℕ × ℕ)) (leaves : List (ℕ × Expression)) : Type 0 where
    pub are : AreLeaves results pairs (leaves_of leaves)
    pub ties : AreTied S pairs leaves
    pub scripts : (v : ℕ × Expression) → In v leaves → IsScriptOf S v.0 v.1

  module _ (pairs : List (ℕ × ℕ)) (before beside all : List (ℕ × Expression)) (p : IsPermutation (before ++ beside) all) (h : AreKnots pairs all) where
    pub left_in : (v : ℕ × Expression) → In v before → In v all
    left_in v m = in_moved v (before ++ beside) all p (in_left v before beside m)

    pub right_in : (v : ℕ × Expression) → In v beside → In v all
    right_in v m = in_moved v (before ++ beside) all p (in_right v before beside m)

    pub left_knots : AreKnots pairs before
    left_knots = record {
      are = on_left_leaves results pairs (leaves_of before) (leaves_of beside) (leaves_of all) (leaves_permuted before beside all p) h.are;
      ties = λ a b m v w i j x y. h.ties a b m v w (left_in v i) (left_in w j) x y;
      scripts = λ v m. h.scripts v (left_in v m);
    }

    pub right_knots : AreKnots pairs beside
    right_knots = record {
      are = on_right_leaves results pairs (leaves_of before) (leaves_of beside) (leaves_of all) (leaves_permuted before beside all p) h.are;
      ties = λ a b m v w i j x y. h.ties a b m v w (right_in v i) (right_in w j) x y;
      scripts = λ v m. h.scripts v (right_in v m);
    }

  -- ---- the leaf of a column

  same_number : (n : ℕ) → (n == n) ≡ true
  same_number n = grind (arith, nat_tests)

  -- what is made of a leaf stands at the leaf's number
  leaf_place : (base : ℕ) (t u : Expression) (s : Shape) → is_block t ≡ false → IsShaped base t u s → leaves_at (place s) (top_number base t) ≡ true
  leaf_place base t u s e (of_leaf b op) = same_number base
  leaf_place base t u s e (of_one b op {t = a} g r) = same_number (base + size a)
  leaf_place base t u s e (of_group b args {t = a} g r) = same_number (base + size a)
  leaf_place base t u s e (of_top b args {t = a} g r) = same_number (base + size a)
  leaf_place base t u s e (of_two b op {t = a} {v = c} n g r h q) = same_number (base + (size a + size c))
  leaf_place base t u s e (of_join b on a c g) = absurd (cc)

  -- a column of a join is one of a leaf whose number is among those of its shape
  abbrev HasLeaf : List (ℕ × Expression) → Shape → ℕ → Type 0
  HasLeaf leaves s c = (v : ℕ × Expression) × In v leaves × HasColumn c v.1 × (leaves_at (place s) (top_number v.0 v.1) ≡ true)

  pub column_leaf : (pairs : List (ℕ × ℕ)) (leaves : List (ℕ × Expression)) (u : Expression) (s : Shape) → AreKnots pairs leaves → IsKnit pairs leaves u s → (c : ℕ) → HasColumn c u → HasLeaf leaves s c
  column_leaf pairs leaves u s h (alone base {t = t} g r) c m =
      let same : columns_of t ≡ columns_of u = (reached_same results t u (h.are.formed t (inl refl)) r).columns in
      ((base, t), inl refl, subst (λ (cols : List ℕ). has cols c ≡ true) (sym same) m, leaf_place base t u s (h.are.plain t (inl refl)) g)
  column_leaf pairs leaves u s h (both {before = before} {beside = beside} on {t = a} {u = b} {r = x} {s = y} j k p d) c m =
      go (column_leaf pairs before a x (left_knots pairs before beside leaves p h) j c) (column_leaf pairs beside b y (right_knots pairs before beside leaves p h) k c) (union_has (columns_of a) (columns_of b) c m)
    where
      go : (HasColumn c a → HasLeaf before x c) → (HasColumn c b → HasLeaf beside y c) → HasColumn c a ⊎ HasColumn c b → HasLeaf leaves (shape.two kind.Join x y) c
      go left right (inl n) = let v = left n in (v.0, left_in pairs before beside leaves p h v.0 v.1, v.2, or_left _ _ v.3)
      go left right (inr n) = let v = right n in (v.0, right_in pairs before beside leaves p h v.0 v.1, v.2, or_right (leaves_at (place x) (top_number v.0.0 v.0.1)) _ v.3)

  -- ---- ties

  linked_at : (links : List (ℕ × ℕ)) (L R : Leaves) (i j : ℕ) → In (i, j) links → L i ≡ true → R j ≡ true → linked_by links L R ≡ true
  linked_at [] L R i j m l r = absurd m
  linked_at (q ∷ links) L R i j (inl e) l r =
      let f : q.0 ≡ i = cc in
      let g : q.1 ≡ j = cc in
      or_left _ _ (and_true _ _ (ap L f ∙ l) (ap R g ∙ r))
  linked_at (q ∷ links) L R i j (inr m) l r = or_right (L q.0 && R q.1) _ (or_right (L q.1 && R q.0) _ (linked_at links L R i j m l r))

  linked_back : (links : List (ℕ × ℕ)) (L R : Leaves) (i j : ℕ) → In (j, i) links → L i ≡ true → R j ≡ true → linked_by links L R ≡ true
  linked_back [] L R i j m l r = absurd m
  linked_back (q ∷ links) L R i j (inl e) l r =
      let f : q.1 ≡ i = cc in
      let g : q.0 ≡ j = cc in
      or_right (L q.0 && R q.1) _ (or_left (L q.1 && R q.0) _ (and_true _ _ (ap L f ∙ l) (ap R g ∙ r)))
  linked_back (q ∷ links) L R i j (inr m) l r = or_right (L q.0 && R q.1) _ (or_right (L q.1 && R q.0) _ (linked_back links L R i j m l r))

  -- an equality between two joins of leaves links their shapes
  pub shapes_linked : (pairs : List (ℕ × ℕ)) (first second all : List (ℕ × Expression)) (u v : Expression) (r s : Shape) (on : Pairs) → AreKnots pairs all
      → ((x : ℕ × Expression) → In x first → In x all) → ((x : ℕ × Expression) → In x second → In x all) → AreKnots pairs first → AreKnots pairs second
      → IsKnit pairs first u r → IsKnit pairs second v s → IsDealt pairs u v on → linked S (place r) (place s) ≡ true
  shapes_linked pairs first second all u v r s on h inf ins hf hs j k d = go on.items refl d.0
    where
      at : (a b : ℕ) → IsAcross pairs (columns_of u) (columns_of v) (a, b) → linked S (place r) (place s) ≡ true
      at a b m =
          let x = column_leaf pairs first u r hf j a m.0 in
          let y = column_leaf pairs second v s hs k b m.1 in
          turn x.0 y.0 (inf x.0 x.1) (ins y.0 y.1) x.2 y.2 x.3 y.3 m.2
        where
          turn : (x y : ℕ × Expression) → In x all → In y all → HasColumn a x.1 → HasColumn b y.1 → leaves_at (place r) (top_number x.0 x.1) ≡ true → leaves_at (place s) (top_number y.0 y.1) ≡ true
              → Contains pairs (a, b) ⊎ Contains pairs (b, a) → linked S (place r) (place s) ≡ true
          turn x y i n ca cb l q (inl m) =
              linked_at S.links (leaves_at (place r)) (leaves_at (place s)) (top_number x.0 x.1) (top_number y.0 y.1) (in_list S.links (top_number x.0 x.1, top_number y.0 y.1) (h.ties a b m x y i n ca cb)) l q
          turn x y i n ca cb l q (inr m) =
              linked_back S.links (leaves_at (place r)) (leaves_at (place s)) (top_number x.0 x.1) (top_number y.0 y.1) (in_list S.links (top_number y.0 y.1, top_number x.0 x.1) (h.ties b a m y x n i cb ca)) l q

      go : (items : List (ℕ × ℕ)) → on.items ≡ items → 0 < length on.items → linked S (place r) (place s) ≡ true
      go [] e l = absurd (let z = ap length e in omega (arith, z, l))
      go (p ∷ items) e l = at p.0 p.1 ((d.1 (p.0, p.1)).0 (list_in on.items (p.0, p.1) (subst (λ (xs : List (ℕ × ℕ)). In (p.0, p.1) xs) (sym e) (inl refl))))
