-- Each Join of a shape has a tie between its children.
use Rattle.std.proofs.Common.{◌+◌, ℕ, List, inl, refl}
use Rattle.logical_trees.specs.declared.logic_op.LogicOp.TheVariants.{Join}
use Rattle.logical_trees.specs.Tree.{Expression, two}
use Rattle.logical_trees.specs.Formed.{IsFormed}
use Rattle.logical_trees.specs.Blocks.{block_pairs}
use Rattle.rules_shapes.specs.Shapes.{Shape, size, numbered_leaves, IsShaped, of_leaf, of_one, of_group, of_top, of_two, of_join, IsKnit, alone, both, IsScriptOf, AllLinked}
use Rattle.rules_shapes.proofs.Knit.{AreKnots, left_in, right_in, left_knots, right_knots, shapes_linked}
use Rattle.rules_shapes.proofs.Shaped.{below_script, two_scripts, block_knots}
use Rattle.rules_space.specs.Place.{Script}

module _ (results : List (List ℕ)) (S : Script) where
  mutual
    pub shaped_tied : (base : ℕ) (t u : Expression) (s : Shape) → IsFormed results t → IsScriptOf S base t → IsShaped base t u s → AllLinked S s
    shaped_tied base t u s h x (of_leaf b op) = tt
    shaped_tied base t u s h x (of_one b op {t = a} {u = c} {s = q} g r) = shaped_tied base a c q h.0 (below_script S base op a x) g
    shaped_tied base t u s h x (of_group b args {t = a} {u = c} {s = q} g r) = shaped_tied base a c q h.0 x.1 g
    shaped_tied base t u s h x (of_top b args {t = a} {u = c} {s = q} g r) = shaped_tied base a c q h.0 x.1 g
    shaped_tied base t u s h x (of_two b op {t = a} {u = c} {v = d} {w = e} {r = y} {s = z} n g r k q) =
        (shaped_tied base a c y h.0 (two_scripts results S base op a d n x).0 g, shaped_tied (base + size a) d e z h.1 (two_scripts results S base op a d n x).1 k, tt)
    shaped_tied base t u s h x (of_join b on a c {s = q} g) = knit_tied (block_pairs (two (Join on) a c)) (numbered_leaves base (two (Join on) a c)) u q (block_knots results S base on a c h x) g

    knit_tied : (pairs : List (ℕ × ℕ)) (leaves : List (ℕ × Expression)) (u : Expression) (s : Shape) → AreKnots results S pairs leaves → IsKnit pairs leaves u s → AllLinked S s
    knit_tied pairs leaves u s h (alone base {t = t} g r) = shaped_tied base t u s (h.are.formed t (inl refl)) (h.scripts (base, t) (inl refl)) g
    knit_tied pairs leaves u s h (both {before = before} {beside = beside} on {t = a} {u = c} {r = y} {s = z} j k p d) =
        let l = left_knots results S pairs before beside leaves p h in
        let r = right_knots results S pairs before beside leaves p h in (
          knit_tied pairs before a y l j,
          knit_tied pairs beside c z r k,
          shapes_linked results S pairs before beside leaves a c y z on h (left_in results S pairs before beside leaves p h) (right_in results S pairs before beside leaves p h) l r j k d,
        )
