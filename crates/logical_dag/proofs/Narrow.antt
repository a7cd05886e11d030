-- What is measured of a node, of what was measured below it.
use Rattle.std.proofs.Common.{◌≡◌, ℕ, ◌+◌, ◌<◌, ◌≤◌, Bool, true, false, ◌&&◌, nat_lt, [], ◌∷◌, ◌++◌, refl, sym, ap, ◌∙◌, arith}
use Rattle.std.proofs.lemmas.Bool.Decides.{nat_tests}
use Rattle.std.proofs.lemmas.List.Folds.{list_all-append}
use Rattle.col_sets.specs.Tests.{both, and_true}
use Rattle.scope_expr.specs.declared.expr.Expr.{Expr}
use Rattle.logical_trees.specs.declared.logic_op.LogicOp.{LogicOp}
use Rattle.logical_trees.specs.declared.logic_op.LogicOp.TheVariants.{Filter, Join}
use Rattle.logical_trees.specs.Tree.{Expression, leaf, one, two, nodes}
use Rattle.logical_dag.specs.declared.bounds.Widths.{Widths}
use Rattle.logical_dag.specs.Bounds.{filter_depth, block_width, is_narrow}
use Rattle.logical_dag.specs.Measured.{AreWidths}

-- the node itself is within the bounds
abbrev fits : Expression → Bool
fits t = nat_lt (filter_depth t) 3 && nat_lt (block_width t) 6

and_one : (b : Bool) → (b && true) ≡ b
and_one true = refl
and_one false = refl

narrow_one : (op : LogicOp) (t : Expression) → is_narrow (one op t) ≡ (is_narrow t && fits (one op t))
narrow_one op t = list_all-append fits (nodes t) (one op t ∷ []) ∙ ap (λ b. is_narrow t && b) (and_one (fits (one op t)))

narrow_two : (op : LogicOp) (t u : Expression) → is_narrow (two op t u) ≡ (is_narrow t && (is_narrow u && fits (two op t u)))
narrow_two op t u =
    list_all-append fits (nodes t) (nodes u ++ two op t u ∷ [])
    ∙ ap (λ b. is_narrow t && b) (list_all-append fits (nodes u) (two op t u ∷ []) ∙ ap (λ b. is_narrow u && b) (and_one (fits (two op t u))))

below : (n m : ℕ) → nat_lt n m ≡ true → n < m
below n m h = grind (arith, nat_tests)

is_below : (n m : ℕ) → n < m → nat_lt n m ≡ true
is_below n m h = grind (arith, nat_tests)

fits_so : (t : Expression) → filter_depth t < 3 → block_width t < 6 → fits t ≡ true
fits_so t f w = and_true (nat_lt (filter_depth t) 3) (nat_lt (block_width t) 6) (is_below (filter_depth t) 3 f) (is_below (block_width t) 6 w)

-- a tree within the bounds is so at its top
top_fits : (t : Expression) → is_narrow t ≡ true → fits t ≡ true
top_fits (leaf op) h = refl
top_fits (one op t) h = (both (is_narrow t) (fits (one op t)) (sym (narrow_one op t) ∙ h)).1
top_fits (two op t u) h = (both (is_narrow u) (fits (two op t u)) (both (is_narrow t) (is_narrow u && fits (two op t u)) (sym (narrow_two op t u) ∙ h)).1).1

top_leaves : (t : Expression) → is_narrow t ≡ true → block_width t < 6
top_leaves t h = below (block_width t) 6 (both (nat_lt (filter_depth t) 3) (nat_lt (block_width t) 6) (top_fits t h)).1

-- ---- a node over one

module _ (t : Expression) (w new : Widths) (h : AreWidths t w) where
  pub filter_widths : (e : Expr) → w.filters < 2 → new.filters ≡ w.filters + 1 → new.leaves ≡ w.leaves → AreWidths (one (Filter e) t) new
  filter_widths e l filters leaves =
      let f : w.filters ≡ filter_depth t = h.filters in
      let depth : 1 + filter_depth t < 3 = omega (arith, f, l) in
      record {
        narrow = narrow_one (Filter e) t ∙ and_true (is_narrow t) _ h.narrow (fits_so (one (Filter e) t) depth (top_leaves t h.narrow));
        filters = omega (arith, f, filters);
        leaves = leaves ∙ h.leaves;
      }
