-- A step of expressions is a step of their shapes.
use Rattle.std.proofs.Common.{◌≡◌, ◌+◌, ℕ, true, false, List, [], ◌∷◌, ◌++◌, append_assoc, refl, sym, ap, ◌∙◌, subst, ◌⊎◌, inl, inr, IsPermutation}
use Rattle.std.proofs.lemmas.List.Sorted.{IsPermutation-refl, IsPermutation-trans, IsPermutation-append_left, IsPermutation-append_comm}
use Rattle.col_sets.specs.Columns.{union_has}
use Rattle.structural_props.specs.Actions.{In}
use Rattle.structural_props.specs.KeptLemmas.{in_append}
use Rattle.logical_trees.specs.declared.args.GroupArgs.{GroupArgs}
use Rattle.logical_trees.specs.declared.args.TopArgs.{TopArgs}
use Rattle.logical_trees.specs.declared.logic_op.LogicOp.{LogicOp}
use Rattle.logical_trees.specs.declared.logic_op.LogicOp.TheVariants.{Join, Group, Top, Partial, Finish, LocalTop, LastTop}
use Rattle.logical_trees.specs.Tree.{Expression, leaf, one, two, columns_of}
use Rattle.logical_trees.specs.Formed.{IsFormed}
use Rattle.logical_trees.specs.Blocks.{block_pairs}
use Rattle.list_lemmas.specs.Bags.{same_permuted}
use Rattle.logical_trees.specs.ColumnLemmas.{into_union}
use Rattle.logical_trees.specs.LeafLemmas.{HasColumn}
use Rattle.rules_steps.specs.Steps.{Pairs, IsDealt, Rule, commute, associate, split_group, split_top, Step, here, below, on_left, on_right, Reaches, stays, after}
use Rattle.rules_steps.proofs.Kept.{step_same, step_formed}
use Rattle.rules_places.specs.Space.{is_join, is_block}
use Rattle.rules_places.proofs.Reaching.{reach_step}
use Rattle.rules_places.proofs.Grown.{AreLeaves, of_block, no_block, rule_joins, step_only, leaf_step, dealt_up, dealt_moved}
use Rattle.logical_trees.specs.PairLemmas.{HasPairs, IsIn, own_dealt, left_all, right_all, left_just, right_just}
use Rattle.rules_space.specs.Tree as shape
use Rattle.rules_space.specs.declared.kind.Kind.TheVariants as kind
use Rattle.rules_space.specs.Place.{Script, place, linked}
use Rattle.rules_space.specs.Space as rules
use Rattle.rules_shapes.specs.Shapes.{Shape, size, numbered_leaves, shape_of, IsShaped, of_leaf, of_one, of_group, of_top, of_two, of_join, IsKnit, alone, both, IsScriptOf}
use Rattle.rules_shapes.proofs.Knit.{leaves_of, leaves_are, space_of, grown_of, AreKnots, left_in, right_in, left_knots, right_knots, shapes_linked}

-- the script of a node is that of its child
pub below_script : (S : Script) (base : ℕ) (op : LogicOp) (t : Expression) → IsScriptOf S base (one op t) → IsScriptOf S base t
below_script S base (Group args) t h = h.1
below_script S base (Top args) t h = h.1
below_script S base op t h = h.1

module _ (results : List (List ℕ)) (S : Script) where
  -- the leaves of a block of the script
  block_scripts : (base : ℕ) (t : Expression) → IsScriptOf S base t → (v : ℕ × Expression) → In v (numbered_leaves base t) → IsScriptOf S v.0 v.1
  block_scripts base (two (Join on) t u) h v m =
      go (block_scripts base t h.1 v) (block_scripts (base + size t) u h.2 v) (in_append v (numbered_leaves base t) (numbered_leaves (base + size t) u) m)
    where
      go : (In v (numbered_leaves base t) → IsScriptOf S v.0 v.1) → (In v (numbered_leaves (base + size t) u) → IsScriptOf S v.0 v.1)
          → In v (numbered_leaves base t) ⊎ In v (numbered_leaves (base + size t) u) → IsScriptOf S v.0 v.1
      go left right (inl k) = left k
      go left right (inr k) = right k
  block_scripts base (two op t u) h v (inl e) = subst (λ (w : ℕ × Expression). IsScriptOf S w.0 w.1) (sym e) h
  block_scripts base (two op t u) h v (inr m) = absurd m
  block_scripts base (one op t) h v (inl e) = subst (λ (w : ℕ × Expression). IsScriptOf S w.0 w.1) (sym e) h
  block_scripts base (one op t) h v (inr m) = absurd m
  block_scripts base (leaf op) h v (inl e) = subst (λ (w : ℕ × Expression). IsScriptOf S w.0 w.1) (sym e) h
  block_scripts base (leaf op) h v (inr m) = absurd m

  pub block_knots : (base : ℕ) (on : Pairs) (t u : Expression) → IsFormed results (two (Join on) t u) → IsScriptOf S base (two (Join on) t u)
      → AreKnots results S (block_pairs (two (Join on) t u)) (numbered_leaves base (two (Join on) t u))
  block_knots base on t u f h = record {
    are = subst (λ (l : List Expression). AreLeaves results (block_pairs (two (Join on) t u)) l) (sym (leaves_are base (two (Join on) t u))) (of_block results (two (Join on) t u) f);
    ties = h.0;
    scripts = block_scripts base (two (Join on) t u) h;
  }

  -- ---- what a step leads to

  -- an expression made of t with a shape that one rule gives
  abbrev IsStepOf : ℕ → Expression → Expression → Shape → Type 0
  IsStepOf base t v s = (r : Shape) × rules.Step S s r × IsShaped base t v r

  abbrev IsKnitStepOf : List (ℕ × ℕ) → List (ℕ × Expression) → Expression → Shape → Type 0
  IsKnitStepOf pairs leaves v s = (r : Shape) × rules.Step S s r × IsKnit pairs leaves v r

  leaf_knit : (pairs : List (ℕ × ℕ)) (base : ℕ) (a v : Expression) (s : Shape) → is_block v ≡ true → IsShaped base a v s → AreKnots results S pairs ((base, a) ∷ []) → ⊥
  leaf_knit pairs base a v s e g h = let k = no_block a v (space_of base a v s g) (h.are.plain a (inl refl)) in cc

  -- ---- Commute

  turn_knit : (pairs : List (ℕ × ℕ)) (leaves : List (ℕ × Expression)) (v t u : Expression) (s : Shape) (turned : Pairs) → AreKnots results S pairs leaves → IsKnit pairs leaves v s → (on : Pairs) → v ≡ two (Join on) t u
      → IsDealt pairs u t turned → IsKnitStepOf pairs leaves (two (Join turned) u t) s
  turn_knit pairs leaves v t u s turned h (alone base {t = a} g r) on e d = absurd (leaf_knit pairs base a v s (ap is_block e) g h)
  turn_knit pairs leaves v t u s turned h (both {before = before} {beside = beside} low {t = x} {u = y} {r = q} {s = z} j k p o) on e d =
      let left : x ≡ t = cc in
      let right : y ≡ u = cc in (
        shape.two kind.Join z q,
        rules.here (rules.commute q z),
        both turned (subst (λ (w : Expression). IsKnit pairs beside w z) right k) (subst (λ (w : Expression). IsKnit pairs before w q) left j)
            (IsPermutation-trans _ _ _ (IsPermutation-append_comm beside before) p) d,
      )

  -- ---- Associate

  group_inner : (pairs : List (ℕ × ℕ)) (before beside leaves : List (ℕ × Expression)) (w t u x : Expression) (r s : Shape) (lower outer inner : Pairs) → AreKnots results S pairs leaves → IsPermutation (before ++ beside) leaves
      → AreKnots results S pairs before → AreKnots results S pairs beside → IsKnit pairs before w r → w ≡ two (Join lower) t u
      → IsKnit pairs beside x s → IsDealt pairs u x inner → IsDealt pairs t (two (Join inner) u x) outer → IsKnitStepOf pairs leaves (two (Join outer) t (two (Join inner) u x)) (shape.two kind.Join r s)
  group_inner pairs before beside leaves w t u x r s lower outer inner all p h l (alone base {t = a} g q) e k di dx = absurd (leaf_knit pairs base a w r (ap is_block e) g h)
  group_inner pairs before beside leaves w t u x r s lower outer inner all p h l (both {before = first} {beside = second} low {t = y} {u = z} {r = m} {s = n} i j q d) e k di dx =
      let left : y ≡ t = cc in
      let right : z ≡ u = cc in
      let knit : IsKnit pairs second u n = subst (λ (o : Expression). IsKnit pairs second o n) right j in
      let tie : linked S (place n) (place s) ≡ true =
      shapes_linked results S pairs second beside leaves u x n s inner all
      (λ o b. left_in results S pairs before beside leaves p all o (right_in results S pairs first second before q h o b)) (right_in results S pairs before beside leaves p all)
      (right_knots results S pairs first second before q h) l knit k di in (
        shape.two kind.Join m (shape.two kind.Join n s),
        rules.here (rules.associate m n s tie),
        both outer (subst (λ (o : Expression). IsKnit pairs first o m) left i) (both inner knit k (IsPermutation-refl (second ++ beside)) di)
            (IsPermutation-trans _ _ _ (same_permuted _ _ (sym (append_assoc first second beside))) (IsPermutation-trans _ _ _ (IsPermutation-append_left beside _ _ q) p)) dx,
      )

  group_knit : (pairs : List (ℕ × ℕ)) (leaves : List (ℕ × Expression)) (v t u x : Expression) (s : Shape) (on lower outer inner : Pairs) → AreKnots results S pairs leaves → IsKnit pairs leaves v s → v ≡ two (Join on) (two (Join lower) t u) x
      → IsDealt pairs u x inner → IsDealt pairs t (two (Join inner) u x) outer → IsKnitStepOf pairs leaves (two (Join outer) t (two (Join inner) u x)) s
  group_knit pairs leaves v t u x s on lower outer inner h (alone base {t = a} g r) e di dx = absurd (leaf_knit pairs base a v s (ap is_block e) g h)
  group_knit pairs leaves v t u x s on lower outer inner h (both {before = before} {beside = beside} low {t = y} {u = z} {r = m} {s = n} j k p d) e di dx =
      let left : y ≡ two (Join lower) t u = cc in
      let right : z ≡ x = cc in
      group_inner pairs before beside leaves y t u x m n lower outer inner h p (left_knots results S pairs before beside leaves p h) (right_knots results S pairs before beside leaves p h) j left
      (subst (λ (o : Expression). IsKnit pairs beside o n) right k) di dx

  rule_knit : (pairs : List (ℕ × ℕ)) (leaves : List (ℕ × Expression)) (v w : Expression) (s : Shape) → AreKnots results S pairs leaves → IsFormed results v → is_block v ≡ true → IsKnit pairs leaves v s → Rule v w
      → IsKnitStepOf pairs leaves w s
  rule_knit pairs leaves v w s h f e g (commute on turned t u d) =
      turn_knit pairs leaves (two (Join on) t u) t u s turned h g on refl
      (dealt_up results pairs (leaves_of leaves) (two (Join on) t u) h.are (grown_of pairs leaves (two (Join on) t u) s g) u t
      (λ c m. into_union results t u f.0 f.1 c (inr m)) (λ c m. into_union results t u f.0 f.1 c (inl m)) turned d)
  rule_knit pairs leaves v w s h f e g (associate on lower outer inner t u x within above) =
      group_knit pairs leaves (two (Join on) (two (Join lower) t u) x) t u x s on lower outer inner h g refl
      (dealt_up results pairs (leaves_of leaves) (two (Join on) (two (Join lower) t u) x) h.are (grown_of pairs leaves (two (Join on) (two (Join lower) t u) x) s g) u x in_u in_x inner within)
      (dealt_up results pairs (leaves_of leaves) (two (Join on) (two (Join lower) t u) x) h.are (grown_of pairs leaves (two (Join on) (two (Join lower) t u) x) s g) t (two (Join inner) u x) in_t in_ux outer above)
    where
      in_t : (c : ℕ) → HasColumn c t → HasColumn c (two (Join on) (two (Join lower) t u) x)
      in_t c m = into_union results (two (Join lower) t u) x f.0 f.1 c (inl (into_union results t u f.0.0 f.0.1 c (inl m)))

      in_u : (c : ℕ) → HasColumn c u → HasColumn c (two (Join on) (two (Join lower) t u) x)
      in_u c m = into_union results (two (Join lower) t u) x f.0 f.1 c (inl (into_union results t u f.0.0 f.0.1 c (inr m)))

      in_x : (c : ℕ) → HasColumn c x → HasColumn c (two (Join on) (two (Join lower) t u) x)
      in_x c m = into_union results (two (Join lower) t u) x f.0 f.1 c (inr m)

      in_ux : (c : ℕ) → HasColumn c (two (Join inner) u x) → HasColumn c (two (Join on) (two (Join lower) t u) x)
      in_ux c m = side (union_has (columns_of u) (columns_of x) c m)
        where
          side : HasColumn c u ⊎ HasColumn c x → HasColumn c (two (Join on) (two (Join lower) t u) x)
          side (inl n) = in_u c n
          side (inr n) = in_x c n
  rule_knit pairs leaves v w s h f e g (split_group args t) = absurd (cc)
  rule_knit pairs leaves v w s h f e g (split_top args t) = absurd (cc)

  -- ---- a step at or below a node, by what a step below leads to

  one_rule : (base : ℕ) (op : LogicOp) (a b v : Expression) (s : Shape) → IsScriptOf S base (one op a) → IsShaped base a b s → Reaches a b → Rule (one op b) v → IsStepOf base (one op a) v (shape.one (kind.Node (base + size a)) s)
  one_rule base op a b v s k g r (split_group args t) =
      (shape.one (kind.Finish (base + size a)) (shape.one (kind.Partial (base + size a)) s), rules.here (rules.split (base + size a) s k.0), of_group base args g r)
  one_rule base op a b v s k g r (split_top args t) =
      (shape.one (kind.Finish (base + size a)) (shape.one (kind.Partial (base + size a)) s), rules.here (rules.split (base + size a) s k.0), of_top base args g r)

  one_step : (base : ℕ) (op : LogicOp) (a b v : Expression) (s : Shape) → IsScriptOf S base (one op a) → IsShaped base a b s → Reaches a b → ((c : Expression) → Step b c → IsStepOf base a c s) → Step (one op b) v
      → IsStepOf base (one op a) v (shape.one (kind.Node (base + size a)) s)
  one_step base op a b v s k g r more (here rule) = one_rule base op a b v s k g r rule
  one_step base op a b v s k g r more (below o {u = c} st) =
      let m = more c st in (shape.one (kind.Node (base + size a)) m.0, rules.below (kind.Node (base + size a)) m.1, of_one base op m.2 (reach_step a b c r st))

  abbrev in_halves : ℕ → Shape → Shape
  in_halves n s = shape.one (kind.Finish n) (shape.one (kind.Partial n) s)

  group_step : (base : ℕ) (args : GroupArgs) (a b v : Expression) (s : Shape) → IsShaped base a b s → Reaches a b → ((c : Expression) → Step b c → IsStepOf base a c s) → Step (one (Finish args) (one (Partial args) b)) v
      → IsStepOf base (one (Group args) a) v (in_halves (base + size a) s)
  group_step base args a b v s g r more st =
      let m = step_only (Finish args) (one (Partial args) b) v refl st in
      let n = step_only (Partial args) b m.0 refl m.1 in
      let o = more n.0 n.1 in (
        in_halves (base + size a) o.0,
        rules.below (kind.Finish (base + size a)) (rules.below (kind.Partial (base + size a)) o.1),
        subst (λ (w : Expression). IsShaped base (one (Group args) a) w (in_halves (base + size a) o.0)) (sym (m.2 ∙ ap (λ (w : Expression). one (Finish args) w) n.2)) (of_group base args o.2 (reach_step a b n.0 r n.1)),
      )

  top_step : (base : ℕ) (args : TopArgs) (a b v : Expression) (s : Shape) → IsShaped base a b s → Reaches a b → ((c : Expression) → Step b c → IsStepOf base a c s) → Step (one (LastTop args) (one (LocalTop args) b)) v
      → IsStepOf base (one (Top args) a) v (in_halves (base + size a) s)
  top_step base args a b v s g r more st =
      let m = step_only (LastTop args) (one (LocalTop args) b) v refl st in
      let n = step_only (LocalTop args) b m.0 refl m.1 in
      let o = more n.0 n.1 in (
        in_halves (base + size a) o.0,
        rules.below (kind.Finish (base + size a)) (rules.below (kind.Partial (base + size a)) o.1),
        subst (λ (w : Expression). IsShaped base (one (Top args) a) w (in_halves (base + size a) o.0)) (sym (m.2 ∙ ap (λ (w : Expression). one (LastTop args) w) n.2)) (of_top base args o.2 (reach_step a b n.0 r n.1)),
      )

  two_step : (base : ℕ) (op : LogicOp) (a b c d v : Expression) (q s : Shape) → is_join op ≡ false → IsShaped base a b q → Reaches a b → IsShaped (base + size a) c d s → Reaches c d
      → ((e : Expression) → Step b e → IsStepOf base a e q) → ((e : Expression) → Step d e → IsStepOf (base + size a) c e s) → Step (two op b d) v
      → IsStepOf base (two op a c) v (shape.two (kind.Node (base + (size a + size c))) q s)
  two_step base op a b c d v q s plain g r k z left right (here rule) = absurd (let e = rule_joins op b d v rule in cc)
  two_step base op a b c d v q s plain g r k z left right (on_left o {u = e} w st) =
      let m = left e st in (shape.two (kind.Node (base + (size a + size c))) m.0 s, rules.left (kind.Node (base + (size a + size c))) s m.1, of_two base op plain m.2 (reach_step a b e r st) k z)
  two_step base op a b c d v q s plain g r k z left right (on_right o w {u = e} st) =
      let m = right e st in (shape.two (kind.Node (base + (size a + size c))) q m.0, rules.right (kind.Node (base + (size a + size c))) q m.1, of_two base op plain g r m.2 (reach_step c d e z st))

  both_step : (pairs : List (ℕ × ℕ)) (before beside leaves : List (ℕ × Expression)) (on : Pairs) (t u w : Expression) (q s : Shape) → AreKnots results S pairs leaves → IsFormed results (two (Join on) t u)
      → IsKnit pairs before t q → IsKnit pairs beside u s → IsPermutation (before ++ beside) leaves → IsDealt pairs t u on
      → ((e : Expression) → Step t e → IsKnitStepOf pairs before e q) → ((e : Expression) → Step u e → IsKnitStepOf pairs beside e s) → Step (two (Join on) t u) w → IsKnitStepOf pairs leaves w (shape.two kind.Join q s)
  both_step pairs before beside leaves on t u w q s h f j k p d left right (here rule) = rule_knit pairs leaves (two (Join on) t u) w (shape.two kind.Join q s) h f refl (both on j k p d) rule
  both_step pairs before beside leaves on t u w q s h f j k p d left right (on_left o {u = e} x st) =
      let m = left e st in (shape.two kind.Join m.0 s, rules.left kind.Join s m.1, both on m.2 k p (dealt_moved results pairs t e u u on (step_same results t e f.0 st).columns refl d))
  both_step pairs before beside leaves on t u w q s h f j k p d left right (on_right o x {u = e} st) =
      let m = right e st in (shape.two kind.Join q m.0, rules.right kind.Join q m.1, both on j m.2 p (dealt_moved results pairs t t u e on refl (step_same results u e f.1 st).columns d))

  -- the scripts of the children
  pub two_scripts : (base : ℕ) (op : LogicOp) (t u : Expression) → is_join op ≡ false → IsScriptOf S base (two op t u) → IsScriptOf S base t × IsScriptOf S (base + size t) u
  two_scripts base (Join on) t u e h = absurd (cc)
  two_scripts base op t u e h = (h.1, h.2)

  mutual
    shaped_step : (base : ℕ) (t u v : Expression) (s : Shape) → IsFormed results t → IsFormed results u → IsScriptOf S base t → IsShaped base t u s → Step u v → IsStepOf base t v s
    shaped_step base t u v s h f x (of_leaf b op) st = absurd (leaf_step op v st)
    shaped_step base t u v s h f x (of_one b op {t = a} {u = c} {s = q} g r) st = one_step base op a c v q x g r (λ e k. shaped_step base a c e q h.0 f.0 (below_script S base op a x) g k) st
    shaped_step base t u v s h f x (of_group b args {t = a} {u = c} {s = q} g r) st = group_step base args a c v q g r (λ e k. shaped_step base a c e q h.0 f.0.0 x.1 g k) st
    shaped_step base t u v s h f x (of_top b args {t = a} {u = c} {s = q} g r) st = top_step base args a c v q g r (λ e k. shaped_step base a c e q h.0 f.0.0 x.1 g k) st
    shaped_step base t u v s h f x (of_two b op {t = a} {u = c} {v = d} {w = e} {r = y} {s = z} n g r k q) st =
        two_step base op a c d e v y z n g r k q (λ o m. shaped_step base a c o y h.0 f.0 (two_scripts base op a d n x).0 g m) (λ o m. shaped_step (base + size a) d e o z h.1 f.1 (two_scripts base op a d n x).1 k m) st
    shaped_step base t u v s h f x (of_join b on a c {s = q} g) st =
        let m = knit_step (block_pairs (two (Join on) a c)) (numbered_leaves base (two (Join on) a c)) u v q (block_knots base on a c h x) f g st in
        (m.0, m.1, of_join base on a c m.2)

    knit_step : (pairs : List (ℕ × ℕ)) (leaves : List (ℕ × Expression)) (v w : Expression) (s : Shape) → AreKnots results S pairs leaves → IsFormed results v → IsKnit pairs leaves v s → Step v w → IsKnitStepOf pairs leaves w s
    knit_step pairs leaves v w s h f (alone base {t = t} g r) st =
        let m = shaped_step base t v w s (h.are.formed t (inl refl)) f (h.scripts (base, t) (inl refl)) g st in
        (m.0, m.1, alone base m.2 (reach_step t v w r st))
    knit_step pairs leaves v w s h f (both {before = before} {beside = beside} on {t = t} {u = u} {r = q} {s = z} j k p d) st =
        both_step pairs before beside leaves on t u w q z h f j k p d
        (λ e m. knit_step pairs before t e q (left_knots results S pairs before beside leaves p h) f.0 j m)
        (λ e m. knit_step pairs beside u e z (right_knots results S pairs before beside leaves p h) f.1 k m) st

  -- ---- any number of steps

  from_here : (base : ℕ) (t u v : Expression) (s : Shape) → IsFormed results t → IsFormed results u → IsScriptOf S base t → IsShaped base t u s → Reaches u v → (r : Shape) × rules.Reaches S s r × IsShaped base t v r
  from_here base t u v s h f x g (stays a) = (s, rules.stays s, g)
  from_here base t u v s h f x g (after {u = b} st r) =
      let m = shaped_step base t u b s h f x g st in
      let n = from_here base t b v m.0 h (step_formed results u b f st) x m.2 r in
      (n.0, rules.after m.1 n.1, n.2)

  -- ---- an expression has its own shape

  pub record IsOwn (base : ℕ) (t : Expression) : Type 0 where
    pub shaped : IsShaped base t t (shape_of base t)
    pub knit : (pairs : List (ℕ × ℕ)) → HasPairs pairs t → IsIn pairs t → IsKnit pairs (numbered_leaves base t) t (shape_of base t)

  own_two : (base : ℕ) (op : LogicOp) (t u : Expression) → is_join op ≡ false → IsOwn base t → IsOwn (base + size t) u
      → shape.two (kind.Node (base + (size t + size u))) (shape_of base t) (shape_of (base + size t) u) ≡ shape_of base (two op t u)
      → (base, two op t u) ∷ [] ≡ numbered_leaves base (two op t u) → IsOwn base (two op t u)
  own_two base op t u e h k same leaves =
      let s : IsShaped base (two op t u) (two op t u) (shape_of base (two op t u)) =
      subst (λ (r : Shape). IsShaped base (two op t u) (two op t u) r) same (of_two base op e h.shaped (stays t) k.shaped (stays u)) in
      record { shaped = s; knit = λ pairs all just. subst (λ (l : List (ℕ × Expression)). IsKnit pairs l (two op t u) (shape_of base (two op t u))) leaves (alone base s (stays (two op t u))) }

  own_join : (base : ℕ) (on : Pairs) (t u : Expression) → IsFormed results (two (Join on) t u) → IsOwn base t → IsOwn (base + size t) u → IsOwn base (two (Join on) t u)
  own_join base on t u f h k = record { shaped = of_join base on t u (knit (block_pairs (two (Join on) t u)) (λ a b m. m) (λ a b x y m. m)); knit = knit }
    where
      knit : (pairs : List (ℕ × ℕ)) → HasPairs pairs (two (Join on) t u) → IsIn pairs (two (Join on) t u) → IsKnit pairs (numbered_leaves base (two (Join on) t u)) (two (Join on) t u) (shape_of base (two (Join on) t u))
      knit pairs all just =
          both on (h.knit pairs (left_all results on t u f pairs all just) (left_just results on t u f pairs all just)) (k.knit pairs (right_all results on t u f pairs all just) (right_just results on t u f pairs all just))
          (IsPermutation-refl _) (own_dealt results on t u f pairs all just)

  pub own : (base : ℕ) (t : Expression) → IsFormed results t → IsOwn base t
  own base (leaf op) f = record { shaped = of_leaf base op; knit = λ pairs all just. alone base (of_leaf base op) (stays (leaf op)) }
  own base (one op t) f =
      let s : IsShaped base (one op t) (one op t) (shape_of base (one op t)) = of_one base op (own base t f.0).shaped (stays t) in
      record { shaped = s; knit = λ pairs all just. alone base s (stays (one op t)) }
  own base (two (Join on) t u) f = own_join base on t u f (own base t f.0) (own (base + size t) u f.1)
  own base (two op t u) f = own_two base op t u refl (own base t f.0) (own (base + size t) u f.1) refl refl

  pub closed_shaped : (base : ℕ) (t u v : Expression) (s : Shape) → IsFormed results t → IsFormed results u → IsScriptOf S base t → IsShaped base t u s → Step u v → (r : Shape) × rules.Step S s r × IsShaped base t v r
  closed_shaped base t u v s h f x g st = shaped_step base t u v s h f x g st

  pub reached_shaped : (base : ℕ) (t u : Expression) → IsFormed results t → IsScriptOf S base t → Reaches t u → (s : Shape) × rules.Reaches S (shape_of base t) s × IsShaped base t u s
  reached_shaped base t u h x r = from_here base t t u (shape_of base t) h h x (own base t h).shaped r
