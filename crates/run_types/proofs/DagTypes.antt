-- What is typed of a Dag's tree, node by node.
use Rattle.std.proofs.Common.{◌≡◌, ℕ, Bool, true, false, not, ◌&&◌, List, [], ◌∷◌, ◌++◌, map, refl, sym, ap, ap₂, ◌∙◌, subst, Option, Some, None, slice_get}
use Rattle.std.specs.Prelude.{IfSome, IsSomeAnd, MatchOption, All, option_map}
use Rattle.std.specs.List.{list_all}
use Rattle.std.proofs.lemmas.List.Elements.{All-contains}
use Rattle.std.proofs.lemmas.List.Folds.{list_all-append}
use Rattle.std.proofs.lemmas.Option.{slice_get-map}
use Rattle.scope_value.specs.declared.schema.ColType.{ColType}
use Rattle.scope_value.specs.declared.schema.ColType.TheVariants.{Long}
use Rattle.scope_value.specs.Fits.{RowFits}
use Rattle.col_sets.specs.Sets.{has, within, union, IsColumnSet}
use Rattle.col_sets.specs.Columns.{within_of}
use Rattle.col_sets.specs.Tests.{both}
use Rattle.script_trees.specs.declared.agg.AggKind.{AggKind}
use Rattle.script_trees.specs.declared.agg.AggKind.TheVariants.{Count, CountIf, Sum, Min, Max}
use Rattle.scope_expr.specs.declared.expr.Expr.{Expr}
use Rattle.scope_expr.specs.Kinds.{kind_of}
use Rattle.scope_expr.specs.Aggs.{takes_argument, kind_of_agg}
use Rattle.structural_props.specs.Actions.{In}
use Rattle.structural_props.specs.Parts.{joined}
use Rattle.user_ops.proofs.FitLemmas.{All-slice_get}
use Rattle.list_lemmas.specs.Members.{list_in}
use Rattle.logical_trees.specs.declared.agg.Agg.{Agg}
use Rattle.logical_trees.specs.declared.logic_op.LogicOp.{LogicOp}
use Rattle.logical_trees.specs.declared.logic_op.LogicOp.TheVariants.{Scan, Ref, Filter, Project, Join, Group, Process, Reduce, Combine, Top, Partial, Finish, LocalTop, LastTop}
use Rattle.logical_trees.specs.Tree.{Expression, leaf, one, two, nodes, columns_of}
use Rattle.logical_trees.specs.Formed.{IsFormed}
use Rattle.logical_trees.specs.Rows.{Row}
use Rattle.logical_trees.specs.Types.{Typing, IsExprOf, IsAggOf}
use Rattle.logical_dag.specs.declared.dag.ScanDecl.{ScanDecl}
use Rattle.logical_dag.specs.Scripts.{top_of, is_step}
use Rattle.logical_dag.specs.Typed.{IsExprTyped, AreItemsTyped, IsAggTyped, IsScanTyped, IsLeafTyped, IsOneTyped, IsTwoTyped, IsTreeTyped}
use Rattle.parts_nodes.specs.Frame.{Setting}
use Rattle.parts_plans.specs.Plans.{parts_at}
use Rattle.parts_types.proofs.Called.{fits_typed}
use Rattle.run_types.specs.Typed.{fit_columns, Lent, results_of, LeafTyped, OneTyped, TwoTyped, IsTyped}
use Rattle.run_types.specs.Dags.{AreScansFit, HasTypes, AreLentOf, IsTypedAsOfDag, IsWholeAsOfDag}

-- ---- without the steps that rules alone add

abbrev IsPlain : Expression → Type 0
IsPlain t = list_all (λ u. not (is_step (top_of u))) (nodes t) ≡ true

plain_one : (op : LogicOp) (t : Expression) → IsPlain (one op t) → IsPlain t × (not (is_step op) ≡ true)
plain_one op t h =
    let parts = both _ _ (sym (list_all-append (λ u. not (is_step (top_of u))) (nodes t) (one op t ∷ [])) ∙ h) in
    (parts.0, (both (not (is_step op)) true parts.1).0)

plain_two : (op : LogicOp) (t u : Expression) → IsPlain (two op t u) → IsPlain t × IsPlain u
plain_two op t u h =
    let parts = both _ _ (sym (list_all-append (λ v. not (is_step (top_of v))) (nodes t) (nodes u ++ two op t u ∷ [])) ∙ h) in
    (parts.0, (both _ _ (sym (list_all-append (λ v. not (is_step (top_of v))) (nodes u) (two op t u ∷ [])) ∙ parts.1)).0)

-- then all columns fit
one_whole : (op : LogicOp) (t : Expression) → not (is_step op) ≡ true → fit_columns t ≡ columns_of t → fit_columns (one op t) ≡ columns_of (one op t)
one_whole (Project items new) t p e = refl
one_whole (Group args) t p e = refl
one_whole (Process call) t p e = refl
one_whole (Reduce call on presort) t p e = refl
one_whole (Partial args) t p e = absurd (cc)
one_whole (Finish args) t p e = absurd (cc)
one_whole op t p e = e

two_whole : (op : LogicOp) (t u : Expression) → fit_columns t ≡ columns_of t → fit_columns u ≡ columns_of u → fit_columns (two op t u) ≡ columns_of (two op t u)
two_whole (Combine call on before after) t u d e = refl
two_whole op t u d e = ap₂ union d e

whole : (t : Expression) → IsPlain t → fit_columns t ≡ columns_of t
whole (leaf op) p = refl
whole (one op t) p = let parts = plain_one op t p in one_whole op t parts.1 (whole t parts.0)
whole (two op t u) p = let parts = plain_two op t u p in two_whole op t u (whole t parts.0) (whole u parts.1)

pub whole_of_dag : IsWholeAsOfDag
whole_of_dag results t written = whole t written.plain

-- ---- items and aggregates

-- what stands at a place of two equal lists of what is made
made_same : {X Y Z : Type 0} (f : X → Z) (g : Y → Z) (xs : List X) (ys : List Y) (i : ℕ) (x : X) (y : Y) → map f xs ≡ map g ys → slice_get xs i ≡ Some x → slice_get ys i ≡ Some y → f x ≡ g y
made_same f g xs ys i x y e h k =
    let same : Some (f x) ≡ Some (g y) = sym (slice_get-map f xs i ∙ ap (option_map f) h) ∙ ap (λ zs. slice_get zs i) e ∙ (slice_get-map g ys i ∙ ap (option_map g) k) in cc

item_of : (types : Typing) (cols : List ℕ) (items : List Expr) (new : List ℕ) → AreItemsTyped types cols items new
    → (i c : ℕ) (e : Expr) → slice_get new i ≡ Some c → slice_get items i ≡ Some e → IsExprOf types cols (types c) e
item_of types cols items new h i c e at_new at_items =
    subst (λ (k : ColType). IsExprOf types cols k e) (made_same kind_of types items new i e c h.1 at_items at_new) (All-slice_get (IsExprTyped types cols) items i e at_items h.0)

agg_of : (types : Typing) (cols : List ℕ) (kind : AggKind) (arg : Option Expr) (id : ColType)
    → MatchOption arg ((kind ≡ Count) × (id ≡ Long)) (λ e. IsExprTyped types cols e × (takes_argument kind e ≡ true) × (kind_of_agg kind e ≡ id)) → IsAggOf types cols kind arg id
agg_of types cols Count None id h = h.1
agg_of types cols CountIf None id h = h.1
agg_of types cols Sum None id h = h.1
agg_of types cols Min None id h = absurd (let e : Min ≡ Count = h.0 in cc)
agg_of types cols Max None id h = absurd (let e : Max ≡ Count = h.0 in cc)
agg_of types cols Count (Some e) id h = sym h.2
agg_of types cols CountIf (Some e) id h = sym h.2
agg_of types cols Sum (Some e) id h = sym h.2
agg_of types cols Min (Some e) id h = subst (λ (k : ColType). IsExprOf types cols k e) h.2 h.0
agg_of types cols Max (Some e) id h = subst (λ (k : ColType). IsExprOf types cols k e) h.2 h.0

aggs_of : (types : Typing) (cols : List ℕ) (aggs : List Agg) → All (IsAggTyped types cols) aggs → (a : Agg) → In a aggs → IsAggOf types cols a.kind a.arg (types a.id)
aggs_of types cols aggs h a m = agg_of types cols a.kind a.arg (types a.id) (All-contains (IsAggTyped types cols) aggs a h (list_in aggs a m))

-- ---- the nodes

module _ (w : Setting) (scans : List ScanDecl) (results : List (List ColType)) (lents : List Lent) (types : Typing) (fit : AreScansFit w scans) (lent : AreLentOf results lents) where
  scan_typed : (i : ℕ) (cols : List ℕ) → IsColumnSet cols → (o : Option ScanDecl) → IfSome o (λ scan. (r : Row) → In r (joined (parts_at w.scans i)) → RowFits scan.schema r)
      → IsSomeAnd o (IsScanTyped types w.ops cols) → LeafTyped w lents types (Scan i cols)
  scan_typed i cols set None h k = absurd k
  scan_typed i cols set (Some scan) h k = let r = fits_typed types cols scan.schema (joined (parts_at w.scans i)) set k.of_schema h in (r.over, r.fit)

  ref_typed : (i : ℕ) (cols : List ℕ) (o : Option Lent) → slice_get lents i ≡ o → IsSomeAnd o (HasTypes (map types cols)) → LeafTyped w lents types (Ref i cols)
  ref_typed i cols None e h = absurd h
  ref_typed i cols (Some q) e h = (q, e, h.set, h.whole, h.typed)

  leaf_typed : (op : LogicOp) → IsFormed (results_of lents) (leaf op) → IsLeafTyped w.ops scans results types op → LeafTyped w lents types op
  leaf_typed (Scan i cols) f h = scan_typed i cols f (slice_get scans i) (fit i) h
  leaf_typed (Ref i cols) f h =
      ref_typed i cols (slice_get lents i) refl (subst (λ (o : Option (List ColType)). IfSome o (λ kinds. IsSomeAnd (slice_get lents i) (HasTypes kinds))) h (lent i))
  leaf_typed op f h = tt

  one_typed : (op : LogicOp) (t : Expression) → not (is_step op) ≡ true → fit_columns t ≡ columns_of t → IsFormed (results_of lents) (one op t) → IsOneTyped w.ops types (columns_of t) op → OneTyped w types t op
  one_typed (Project items new) t p same f h = subst (λ (s : List ℕ). (i c : ℕ) (e : Expr) → slice_get new i ≡ Some c → slice_get items i ≡ Some e → IsExprOf types s (types c) e) (sym same) (item_of types (columns_of t) items new h)
  one_typed (Group args) t p same f h =
      subst (λ (s : List ℕ). (within args.keys s ≡ true) × ((a : Agg) → In a args.aggs → IsAggOf types s a.kind a.arg (types a.id))) (sym same) (f.1.1, aggs_of types (columns_of t) args.aggs h)
  one_typed (Process call) t p same f h = (same, h.0)
  one_typed (Reduce call on presort) t p same f h = (same, h.0)
  one_typed (Partial args) t p same f h = absurd (cc)
  one_typed (Finish args) t p same f h = absurd (cc)
  one_typed op t p same f h = tt

  itself : (s t : List ℕ) → s ≡ t → within s t ≡ true
  itself s t e = within_of s t (λ c k. subst (λ (u : List ℕ). has u c ≡ true) e k)

  two_typed : (op : LogicOp) (t u : Expression) → fit_columns t ≡ columns_of t → fit_columns u ≡ columns_of u → IsTwoTyped w.ops types (columns_of t) (columns_of u) op → TwoTyped w types t u op
  two_typed (Join on) t u same also h = (itself _ _ same, itself _ _ also)
  two_typed (Combine call on before after) t u same also h = (same, also, h.1)
  two_typed op t u same also h = tt

  each : (t : Expression) → IsPlain t → IsFormed (results_of lents) t → IsTreeTyped w.ops scans results types t → IsTyped w lents types t
  each (leaf op) p f h = leaf_typed op f h
  each (one op t) p f h = let parts = plain_one op t p in (each t parts.0 f.0 h.0, one_typed op t parts.1 (whole t parts.0) f h.1)
  each (two op t u) p f h =
      let parts = plain_two op t u p in (each t parts.0 f.0 h.0, each u parts.1 f.1 h.1, two_typed op t u (whole t parts.0) (whole u parts.1) h.2)

pub typed_of_dag : IsTypedAsOfDag
typed_of_dag w scans results lents types t fit lent written h = each w scans results lents types fit lent t written.plain written.formed h
