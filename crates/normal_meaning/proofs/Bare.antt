-- Only Filters move: what doesn't look at Filters is the same of the normal form.
use Rattle.std.proofs.Common.{◌≡◌, ℕ, ◌+◌, Bool, true, false, cond, not, ◌&&◌, List, [], ◌∷◌, ◌++◌, map, flat_map, length, take, refl, sym, ap, ap₂, ◌∙◌, subst, append-nil, arith, nat_lt, ◌<◌, Option, Some, None, slice_get, slice_index_or}
use Rattle.std.specs.List.{list_all, range_with_len, fold}
use Rattle.std.specs.Prelude.{sum_by, All, IfSome}
use Rattle.std.proofs.lemmas.List.{length-map, map-append, get_or-map}
use Rattle.std.proofs.lemmas.Grind.{flat_map-append}
use Rattle.std.proofs.lemmas.Option.{slice_get-map}
use Rattle.std.proofs.lemmas.List.Folds.{list_all-append}
use Rattle.col_sets.specs.Tests.{both, and_true}
use Rattle.script_trees.specs.declared.op.PairOp.TheVariants.{And}
use Rattle.scope_expr.specs.declared.expr.Expr.{Expr}
use Rattle.scope_expr.specs.declared.expr.Expr.TheVariants.{Pair}
use Rattle.logical_trees.specs.declared.args.GroupArgs.{GroupArgs}
use Rattle.logical_trees.specs.declared.args.TopArgs.{TopArgs}
use Rattle.logical_trees.specs.declared.logic_op.LogicOp.TheVariants.{Filter, Project, Join, Group, Process, Reduce, Combine, Top, Partial, Finish, LocalTop, LastTop}
use Rattle.logical_trees.specs.Tree.{Expression, leaf, one, two, nodes, fresh_columns, numbered_columns, columns_of}
use Rattle.logical_trees.specs.Formed.{IsWhole, IsPartialOf, IsLocalTopOf, IsOrderOver}
use Rattle.logical_dag.specs.declared.dag.Stored.{Stored}
use Rattle.logical_dag.specs.Scripts.{top_of, is_step, scan_of, scans_of, IsWritten, IsStoredOver}
use Rattle.col_sets.specs.declared.dir.Dir.{Dir}
use Rattle.logical_trees.specs.Rows.{order_of}
use Rattle.script_meaning.specs.Dag.{ScriptDag}
use Rattle.script_meaning.specs.Written.{AreScansOver, AreOutputsOver, IsBindable}
use Rattle.normal_meaning.specs.Dags.{normal_dag}
use Rattle.logical_dag.specs.Bounds.{weight, node_count, filter_depth, block_width, is_narrow, AreBounded}
use Rattle.normal_meaning.specs.Sinking.{conjuncts, passes, below, goes_to, can_sink, sink, sink_all, normal}
use Rattle.normal_meaning.specs.Normal.{is_filter, IsNormal, bare}
use Rattle.normal_meaning.proofs.Sunk.{formed_normal, columns_normal}
use Rattle.normal_meaning.proofs.Stuck.{normal_is}

-- ---- the tree without its Filters

pub bare_sink : (t : Expression) (e : Expr) → bare (sink t e) ≡ bare t
bare_sink (leaf op) e = refl
bare_sink (one (Filter g) t) e = go (can_sink t e) (bare_sink t e)
  where
    go : (b : Bool) → bare (sink t e) ≡ bare t → bare (cond b (one (Filter g) (sink t e)) (one (Filter (Pair And g e)) t)) ≡ bare t
    go true h = h
    go false h = refl
bare_sink (one (Project items new) t) e = go (passes (Project items new) e) (bare_sink t (below (Project items new) e))
  where
    go : (b : Bool) → bare (sink t (below (Project items new) e)) ≡ bare t
        → bare (cond b (one (Project items new) (sink t (below (Project items new) e))) (one (Filter e) (one (Project items new) t))) ≡ one (Project items new) (bare t)
    go true h = ap (one (Project items new)) h
    go false h = refl
bare_sink (one (Group args) t) e = go (passes (Group args) e) (bare_sink t e)
  where
    go : (b : Bool) → bare (sink t e) ≡ bare t → bare (cond b (one (Group args) (sink t e)) (one (Filter e) (one (Group args) t))) ≡ one (Group args) (bare t)
    go true h = ap (one (Group args)) h
    go false h = refl
bare_sink (one op t) e = refl
bare_sink (two op t u) e = go (goes_to op (columns_of t) e) (goes_to op (columns_of u) e) (bare_sink t e) (bare_sink u e)
  where
    go : (b c : Bool) → bare (sink t e) ≡ bare t → bare (sink u e) ≡ bare u
        → bare (cond b (two op (sink t e) u) (cond c (two op t (sink u e)) (one (Filter e) (two op t u)))) ≡ two op (bare t) (bare u)
    go true c h k = ap (λ x. two op x (bare u)) h
    go false true h k = ap (two op (bare t)) k
    go false false h k = refl

bare_sink_all : (t : Expression) (es : List Expr) → bare (sink_all t es) ≡ bare t
bare_sink_all t [] = refl
bare_sink_all t (e ∷ es) = bare_sink_all (sink t e) es ∙ bare_sink t e

pub bare_normal : (t : Expression) → bare (normal t) ≡ bare t
bare_normal (leaf op) = refl
bare_normal (one (Filter e) t) = bare_sink_all (normal t) (conjuncts e) ∙ bare_normal t
bare_normal (one op t) = ap (one op) (bare_normal t)
bare_normal (two op t u) = ap₂ (two op) (bare_normal t) (bare_normal u)

-- ---- what doesn't look at Filters

-- what is the same without Filters is the same of the normal form
of_bare : {X : Type 0} (f : Expression → X) → ((t : Expression) → f t ≡ f (bare t)) → (t : Expression) → f (normal t) ≡ f t
of_bare f h t = h (normal t) ∙ ap f (bare_normal t) ∙ sym (h t)

numbered_bare : (t : Expression) → numbered_columns t ≡ numbered_columns (bare t)
numbered_bare (leaf op) = refl
numbered_bare (one (Filter e) t) = append-nil (numbered_columns t) ∙ numbered_bare t
numbered_bare (one op t) = ap (λ cols. cols ++ fresh_columns op) (numbered_bare t)
numbered_bare (two op t u) = ap₂ (λ left right. left ++ (right ++ fresh_columns op)) (numbered_bare t) (numbered_bare u)

count_bare : (t : Expression) → node_count t ≡ node_count (bare t)
count_bare (leaf op) = refl
count_bare (one (Filter e) t) = let h = count_bare t in omega (arith, h)
count_bare (one op t) = ap (λ n. weight op + n) (count_bare t)
count_bare (two op t u) = ap₂ (λ m n. weight op + (m + n)) (count_bare t) (count_bare u)

width_bare : (t : Expression) → block_width t ≡ block_width (bare t)
width_bare (leaf op) = refl
width_bare (one (Filter e) t) = width_bare t
width_bare (one op t) = refl
width_bare (two (Join on) t u) = ap₂ (λ m n. m + n) (width_bare t) (width_bare u)
width_bare (two op t u) = refl

pub numbered_normal : (t : Expression) → numbered_columns (normal t) ≡ numbered_columns t
numbered_normal = of_bare numbered_columns numbered_bare

pub count_normal : (t : Expression) → node_count (normal t) ≡ node_count t
count_normal = of_bare node_count count_bare

-- ---- tests of all nodes

abbrev every : (Expression → Bool) → Expression → Bool
every p (leaf op) = p (leaf op)
every p (one op t) = every p t && p (one op t)
every p (two op t u) = every p t && (every p u && p (two op t u))

and_so : (a b : Bool) → (a ≡ true → b ≡ true) → (a && b) ≡ a
and_so true b h = h refl
and_so false b h = refl

alone : (b : Bool) → (b && true) ≡ b
alone true = refl
alone false = refl

every_node : (p : Expression → Bool) (t : Expression) → list_all p (nodes t) ≡ every p t
every_node p (leaf op) = alone (p (leaf op))
every_node p (one op t) = list_all-append p (nodes t) (one op t ∷ []) ∙ ap₂ (λ a b. a && b) (every_node p t) (alone (p (one op t)))
every_node p (two op t u) =
    list_all-append p (nodes t) (nodes u ++ two op t u ∷ [])
    ∙ ap₂ (λ a b. a && b) (every_node p t) (list_all-append p (nodes u) (two op t u ∷ []) ∙ ap₂ (λ a b. a && b) (every_node p u) (alone (p (two op t u))))

every_root : (p : Expression → Bool) (t : Expression) → every p t ≡ true → p t ≡ true
every_root p (leaf op) h = h
every_root p (one op t) h = (both (every p t) (p (one op t)) h).1
every_root p (two op t u) h = (both (every p u) (p (two op t u)) (both (every p t) (every p u && p (two op t u)) h).1).1

-- a test that passes a Filter where it passes what stands under it, and that looks through Filters
module _ (p : Expression → Bool) (filters : (e : Expr) (t : Expression) → p t ≡ true → p (one (Filter e) t) ≡ true) (same : (t : Expression) → p t ≡ p (bare t)) where
  every_bare : (t : Expression) → every p t ≡ every p (bare t)
  every_bare (leaf op) = refl
  every_bare (one (Filter e) t) = and_so (every p t) (p (one (Filter e) t)) (λ h. filters e t (every_root p t h)) ∙ every_bare t
  every_bare (one op t) = ap₂ (λ a b. a && b) (every_bare t) (same (one op t))
  every_bare (two op t u) = ap₂ (λ a b. a && b) (every_bare t) (ap₂ (λ a b. a && b) (every_bare u) (same (two op t u)))

every_both : (p q : Expression → Bool) (t : Expression) → every p t ≡ true → every q t ≡ true → every (λ u. p u && q u) t ≡ true
every_both p q (leaf op) h k = and_true _ _ h k
every_both p q (one op t) h k =
    let a = both (every p t) (p (one op t)) h in
    let b = both (every q t) (q (one op t)) k in
    and_true _ _ (every_both p q t a.0 b.0) (and_true _ _ a.1 b.1)
every_both p q (two op t u) h k =
    let a = both (every p t) (every p u && p (two op t u)) h in
    let b = both (every q t) (every q u && q (two op t u)) k in
    let c = both (every p u) (p (two op t u)) a.1 in
    let d = both (every q u) (q (two op t u)) b.1 in
    and_true _ _ (every_both p q t a.0 b.0) (and_true _ _ (every_both p q u c.0 d.0) (and_true _ _ c.1 d.1))

every_second : (p q : Expression → Bool) (t : Expression) → every (λ u. p u && q u) t ≡ true → every q t ≡ true
every_second p q (leaf op) h = (both (p (leaf op)) (q (leaf op)) h).1
every_second p q (one op t) h =
    let a = both (every (λ u. p u && q u) t) (p (one op t) && q (one op t)) h in
    and_true _ _ (every_second p q t a.0) (both (p (one op t)) (q (one op t)) a.1).1
every_second p q (two op t u) h =
    let a = both (every (λ u. p u && q u) t) (every (λ u. p u && q u) u && (p (two op t u) && q (two op t u))) h in
    let b = both (every (λ u. p u && q u) u) (p (two op t u) && q (two op t u)) a.1 in
    and_true _ _ (every_second p q t a.0) (and_true _ _ (every_second p q u b.0) (both (p (two op t u)) (q (two op t u)) b.1).1)

-- ---- no node that rules alone add

abbrev is_plain : Expression → Bool
is_plain u = not (is_step (top_of u))

plain_bare : (t : Expression) → every is_plain t ≡ every is_plain (bare t)
plain_bare (leaf op) = refl
plain_bare (one (Filter e) t) = alone (every is_plain t) ∙ plain_bare t
plain_bare (one op t) = ap (λ b. b && not (is_step op)) (plain_bare t)
plain_bare (two op t u) = ap₂ (λ a b. a && (b && not (is_step op))) (plain_bare t) (plain_bare u)

plain_normal : (t : Expression) → list_all (λ u. not (is_step (top_of u))) (nodes t) ≡ true → list_all (λ u. not (is_step (top_of u))) (nodes (normal t)) ≡ true
plain_normal t h = every_node is_plain (normal t) ∙ of_bare (every is_plain) plain_bare t ∙ sym (every_node is_plain t) ∙ h

-- ---- how narrow

abbrev is_slim : Expression → Bool
is_slim u = nat_lt (block_width u) 6

abbrev is_low : Expression → Bool
is_low u = nat_lt (filter_depth u) 3

slim_bare : (t : Expression) → every is_slim t ≡ every is_slim (bare t)
slim_bare = every_bare is_slim (λ e t h. h) (λ t. ap (λ n. nat_lt n 6) (width_bare t))

no_depth : (t : Expression) → is_filter t ≡ false → filter_depth t ≡ 0
no_depth (leaf op) h = refl
no_depth (one (Filter e) t) h = absurd (cc)
no_depth (one op t) h = refl
no_depth (two op t u) h = refl

low_normal : (t : Expression) → IsNormal t → every is_low t ≡ true
low_normal (leaf op) n = refl
low_normal (one (Filter e) t) n = and_true _ _ (low_normal t n.0) (ap (λ d. nat_lt (1 + d) 3) (no_depth t n.1))
low_normal (one op t) n = and_true _ _ (low_normal t n) refl
low_normal (two op t u) n = and_true _ _ (low_normal t n.0) (and_true _ _ (low_normal u n.1) refl)

narrow_normal : (t : Expression) → is_narrow t ≡ true → is_narrow (normal t) ≡ true
narrow_normal t h =
    every_node (λ u. is_low u && is_slim u) (normal t)
    ∙ every_both is_low is_slim (normal t) (low_normal (normal t) (normal_is t))
    (of_bare (every is_slim) slim_bare t ∙ every_second is_low is_slim t (sym (every_node (λ u. is_low u && is_slim u) t) ∙ h))

-- ---- which children the kinds have

whole_sink : (t : Expression) (e : Expr) → IsWhole t → IsWhole (sink t e)
whole_sink (leaf op) e h = h
whole_sink (one (Filter g) t) e h = go (can_sink t e) (whole_sink t e h)
  where
    go : (b : Bool) → IsWhole (sink t e) → IsWhole (cond b (one (Filter g) (sink t e)) (one (Filter (Pair And g e)) t))
    go true k = k
    go false k = h
whole_sink (one (Project items new) t) e h = go (passes (Project items new) e) (whole_sink t (below (Project items new) e) h)
  where
    go : (b : Bool) → IsWhole (sink t (below (Project items new) e))
        → IsWhole (cond b (one (Project items new) (sink t (below (Project items new) e))) (one (Filter e) (one (Project items new) t)))
    go true k = k
    go false k = h
whole_sink (one (Group args) t) e h = go (passes (Group args) e) (whole_sink t e h)
  where
    go : (b : Bool) → IsWhole (sink t e) → IsWhole (cond b (one (Group args) (sink t e)) (one (Filter e) (one (Group args) t)))
    go true k = k
    go false k = h
whole_sink (one op t) e h = h
whole_sink (two (Join on) t u) e h = go (goes_to (Join on) (columns_of t) e) (goes_to (Join on) (columns_of u) e) (whole_sink t e h.0) (whole_sink u e h.1)
  where
    go : (b c : Bool) → IsWhole (sink t e) → IsWhole (sink u e)
        → IsWhole (cond b (two (Join on) (sink t e) u) (cond c (two (Join on) t (sink u e)) (one (Filter e) (two (Join on) t u))))
    go true c k l = (k, h.1)
    go false true k l = (h.0, l)
    go false false k l = h
whole_sink (two op t u) e h = h

whole_sink_all : (t : Expression) (es : List Expr) → IsWhole t → IsWhole (sink_all t es)
whole_sink_all t [] h = h
whole_sink_all t (e ∷ es) h = whole_sink_all (sink t e) es (whole_sink t e h)

mutual
  pub whole_normal : (t : Expression) → IsWhole t → IsWhole (normal t)
  whole_normal (leaf op) h = h
  whole_normal (one (Filter e) t) h = whole_sink_all (normal t) (conjuncts e) (whole_normal t h)
  whole_normal (one (Project items cols) t) h = whole_normal t h
  whole_normal (one (Group args) t) h = whole_normal t h
  whole_normal (one (Process call) t) h = whole_normal t h
  whole_normal (one (Reduce call on presort) t) h = whole_normal t h
  whole_normal (one (Top args) t) h = whole_normal t h
  whole_normal (one (Finish args) t) h = partial_normal args t h
  whole_normal (one (LastTop args) t) h = local_normal args t h
  whole_normal (one op t) h = absurd h
  whole_normal (two (Join on) t u) h = (whole_normal t h.0, whole_normal u h.1)
  whole_normal (two (Combine call on left right) t u) h = (whole_normal t h.0, whole_normal u h.1)
  whole_normal (two op t u) h = absurd h

  partial_normal : (args : GroupArgs) (t : Expression) → IsPartialOf args t → IsPartialOf args (normal t)
  partial_normal args (one (Partial more) t) h = (h.0, whole_normal t h.1)
  partial_normal args (leaf op) h = absurd h
  partial_normal args (one op t) h = absurd h
  partial_normal args (two op t u) h = absurd h

  local_normal : (args : TopArgs) (t : Expression) → IsLocalTopOf args t → IsLocalTopOf args (normal t)
  local_normal args (one (LocalTop more) t) h = (h.0, whole_normal t h.1)
  local_normal args (leaf op) h = absurd h
  local_normal args (one op t) h = absurd h
  local_normal args (two op t u) h = absurd h

-- ---- whole trees

pub written_normal : (results : List (List ℕ)) (t : Expression) → IsWritten results t → IsWritten results (normal t)
written_normal results t w = record {
  whole = whole_normal t w.whole;
  plain = plain_normal t w.plain;
  formed = formed_normal results t w.formed;
  numbered = numbered_normal t ∙ w.numbered ∙ ap (λ cols. range_with_len 0 (length cols)) (sym (numbered_normal t));
}

counts_from : (n : ℕ) (ts : List Expression) → fold (λ (a : ℕ) (t : Expression). a + node_count t) n (map normal ts) ≡ fold (λ (a : ℕ) (t : Expression). a + node_count t) n ts
counts_from n [] = refl
counts_from n (t ∷ ts) = ap (λ m. fold (λ (a : ℕ) (t : Expression). a + node_count t) (n + m) (map normal ts)) (count_normal t) ∙ counts_from (n + node_count t) ts

counts_normal : (ts : List Expression) → sum_by node_count (map normal ts) ≡ sum_by node_count ts
counts_normal = counts_from 0

all_narrow : (ts : List Expression) → list_all is_narrow ts ≡ true → list_all is_narrow (map normal ts) ≡ true
all_narrow [] h = refl
all_narrow (t ∷ ts) h = let parts = both (is_narrow t) (list_all is_narrow ts) h in and_true _ _ (narrow_normal t parts.0) (all_narrow ts parts.1)

pub bounded_normal : (scans : ℕ) (shared outputs : List Expression) → AreBounded scans shared outputs → AreBounded scans (map normal shared) (map normal outputs)
bounded_normal scans shared outputs b = record {
  few_scans = b.few_scans;
  few_shared = let l = b.few_shared in let e = length-map shared normal in omega (arith, l, e);
  few_outputs = let l = b.few_outputs in let e = length-map outputs normal in omega (arith, l, e);
  few_nodes = let l = b.few_nodes in let e : sum_by node_count (map normal shared ++ map normal outputs) ≡ sum_by node_count (shared ++ outputs) = ap (sum_by node_count) (sym (map-append normal shared outputs)) ∙ counts_normal (shared ++ outputs) in omega (arith, l, e);
  narrow = ap (list_all is_narrow) (sym (map-append normal shared outputs)) ∙ all_narrow (shared ++ outputs) b.narrow;
}

-- ---- scans, and the trees of a whole Dag

scans_bare : (t : Expression) → scans_of t ≡ scans_of (bare t)
scans_bare (leaf op) = refl
scans_bare (one (Filter e) t) = flat_map-append (λ u. scan_of (top_of u)) (nodes t) (one (Filter e) t ∷ []) ∙ append-nil (scans_of t) ∙ scans_bare t
scans_bare (one op t) =
    flat_map-append (λ u. scan_of (top_of u)) (nodes t) (one op t ∷ []) ∙ ap (λ l. l ++ (scan_of op ++ [])) (scans_bare t)
    ∙ sym (flat_map-append (λ u. scan_of (top_of u)) (nodes (bare t)) (one op (bare t) ∷ []))
scans_bare (two op t u) =
    flat_map-append (λ v. scan_of (top_of v)) (nodes t) (nodes u ++ two op t u ∷ [])
    ∙ ap₂ (λ l m. l ++ m) (scans_bare t) (flat_map-append (λ v. scan_of (top_of v)) (nodes u) (two op t u ∷ []) ∙ ap (λ l. l ++ (scan_of op ++ [])) (scans_bare u))
    ∙ sym (flat_map-append (λ v. scan_of (top_of v)) (nodes (bare t)) (nodes (bare u) ++ two op (bare t) (bare u) ∷ [])
    ∙ ap (λ l. scans_of (bare t) ++ l) (flat_map-append (λ v. scan_of (top_of v)) (nodes (bare u)) (two op (bare t) (bare u) ∷ [])))

pub scans_normal : (t : Expression) → scans_of (normal t) ≡ scans_of t
scans_normal = of_bare scans_of scans_bare

all_scans : (ts : List Expression) → flat_map scans_of (map normal ts) ≡ flat_map scans_of ts
all_scans [] = refl
all_scans (t ∷ ts) = ap₂ (λ l m. l ++ m) (scans_normal t) (all_scans ts)

pub scans_of_all : (shared outputs : List Expression) → flat_map scans_of (map normal shared ++ map normal outputs) ≡ flat_map scans_of (shared ++ outputs)
scans_of_all shared outputs = ap (flat_map scans_of) (sym (map-append normal shared outputs)) ∙ all_scans (shared ++ outputs)

pub columns_all : (ts : List Expression) → map columns_of (map normal ts) ≡ map columns_of ts
columns_all [] = refl
columns_all (t ∷ ts) = ap₂ (λ x xs. x ∷ xs) (columns_normal t) (columns_all ts)

each_written : (results : List (List ℕ)) (ts : List Expression) → All (IsWritten results) ts → All (IsWritten results) (map normal ts)
each_written results ts h k d l =
    let e = length-map ts normal in
    let within : k < length ts = omega (arith, l, e) in
    subst (IsWritten results) (sym (get_or-map normal ts k d d within)) (written_normal results (slice_index_or ts k d) (h k d within))

over_normal : (orders : List (Option (List (ℕ × Dir)))) (stored : List (Option Stored)) (ts : List Expression) → AreOutputsOver orders stored ts → AreOutputsOver orders stored (map normal ts)
over_normal [] [] [] h = tt
over_normal (o ∷ orders) (s ∷ stored) (t ∷ ts) h = (
  (
    subst (λ (cols : List ℕ). IsOrderOver cols (order_of o)) (sym (columns_normal t)) h.0.0,
    subst (λ (cols : List ℕ). IsStoredOver cols s) (sym (columns_normal t)) h.0.1,
    h.0.2,
  ),
  over_normal orders stored ts h.1,
)
over_normal [] [] (t ∷ ts) h = absurd h
over_normal [] (s ∷ stored) ts h = absurd h
over_normal (o ∷ orders) [] ts h = absurd h
over_normal (o ∷ orders) (s ∷ stored) [] h = absurd h

pub bindable_normal : (d : ScriptDag) → IsBindable d → IsBindable (normal_dag d)
bindable_normal d b = record {
  earlier = λ i. go i (slice_get d.shared i) refl;
  all = subst (λ (results : List (List ℕ)). All (IsWritten results) (map normal d.outputs)) (sym (columns_all d.shared)) (each_written (map columns_of d.shared) d.outputs b.all);
  numbered = ap (map (λ (s : ℕ × List ℕ). s.0)) (scans_of_all d.shared d.outputs) ∙ b.numbered;
  declared = subst (AreScansOver d.scans) (sym (scans_of_all d.shared d.outputs)) b.declared;
  over = over_normal d.orders d.stored d.outputs b.over;
}
  where
    go : (i : ℕ) (o : Option Expression) → slice_get d.shared i ≡ o → IfSome (slice_get (map normal d.shared) i) (IsWritten (take i (map columns_of (map normal d.shared))))
    go i None e = rw (slice_get-map normal d.shared i, e) tt
    go i (Some t) e =
        let h : IsWritten (take i (map columns_of d.shared)) t = subst (λ (o : Option Expression). IfSome o (IsWritten (take i (map columns_of d.shared)))) e (b.earlier i) in
        rw (slice_get-map normal d.shared i, e, columns_all d.shared) (written_normal (take i (map columns_of d.shared)) t h)
