-- The trees of a part are small at the top, wherever it stands, and what they refer to is shared.
use Rattle.std.proofs.Common.{◌≡◌, ℕ, zero, suc, ◌+◌, ◌<◌, ◌≤◌, Bool, true, false, ◌&&◌, nat_lt, nat_eq, cond, List, [], ◌∷◌, ◌++◌, length, refl, sym, ap, ap₂, ◌∙◌, subst, arith, Option, Some, None, slice_get, ◌==◌, ◌⊎◌, inl, inr}
use Rattle.std.specs.List.{range_with_len}
use Rattle.std.proofs.lemmas.Bool.Decides.{nat_tests}
use Rattle.std.proofs.lemmas.List.Folds.{list_all-append}
use Rattle.col_sets.specs.declared.dir.Dir.{Dir}
use Rattle.col_sets.specs.Sets.{has}
use Rattle.col_sets.specs.Tests.{either, and_true, from_test}
use Rattle.script_trees.specs.declared.agg.AggKind.{AggKind}
use Rattle.scope_expr.specs.declared.expr.Expr.{Expr}
use Rattle.scope_expr.specs.Moved.{moved}
use Rattle.logical_dag.specs.Bounds.{weight, node_count, filter_depth, block_width, is_narrow}
use Rattle.logical_trees.specs.declared.logic_op.LogicOp.{LogicOp}
use Rattle.logical_trees.specs.declared.logic_op.LogicOp.TheVariants.{Filter}
use Rattle.logical_trees.specs.Tree.{Expression, one, two, nodes}
use Rattle.placed_trees.specs.declared.call.Call.{Call}
use Rattle.placed_trees.specs.declared.command.Command.{Command}
use Rattle.placed_trees.specs.declared.command.Command.TheVariants.{Extract, Select, Process, Reduce, Combine, Output}
use Rattle.placed_trees.specs.declared.query.Beside.{Beside}
use Rattle.placed_trees.specs.declared.query.Beside.TheVariants.{Inners, Outer}
use Rattle.placed_trees.specs.declared.query.Grouping.{Grouping}
use Rattle.placed_trees.specs.declared.query.Joined.{Joined}
use Rattle.placed_trees.specs.declared.query.Query.{Query}
use Rattle.placed_trees.specs.declared.source.Source.{Source}
use Rattle.placed_trees.specs.declared.source.Source.TheVariants.{FromResult, FromStream}
use Rattle.placed_trees.specs.declared.source.StoredPlaces.{StoredPlaces}
use Rattle.placed_trees.specs.declared.source.Stream.{Stream}
use Rattle.placed_trees.specs.declared.statement.Statement.{Statement}
use Rattle.placed_trees.specs.Inputs.{input_at}
use Rattle.script_meaning.specs.Meaning.{order_list}
use Rattle.script_meaning.specs.Part.{Part, nothing, scanned, referred, over, joined_part, process_part, reduce_part, combine_part, join_on, combine_on, filter_part, filter_opt, group_part, grouping_opt, project_part, unique_opt, first_opt, query_part, stored_part}
use Rattle.script_meaning.specs.Bound.{is_shared, stands, found, placed, source_part, from_part, beside_part, bound, bound_from}
use Rattle.script_meaning.specs.Dag.{or_nothing, part_at, reached}
use Rattle.script_meaning.specs.Within.{IsBesideFew, AreJoinsFew, IsCommandWithin, AreWithin}
use Rattle.script_meaning.proofs.Shaped.{beside}
use Rattle.script_meaning.proofs.Reached.{in_either}
use Rattle.script_meaning.proofs.Env.{get_below, get_last, get_past}

-- ---- one node within the bounds

abbrev fits : Expression → Bool
fits t = nat_lt (filter_depth t) 3 && nat_lt (block_width t) 6

is_below : (n m : ℕ) → n < m → nat_lt n m ≡ true
is_below n m h = grind (arith, nat_tests)

fits_so : (t : Expression) → filter_depth t < 3 → block_width t < 6 → fits t ≡ true
fits_so t f w = and_true (nat_lt (filter_depth t) 3) (nat_lt (block_width t) 6) (is_below (filter_depth t) 3 f) (is_below (block_width t) 6 w)

narrow_one : (op : LogicOp) (t : Expression) → is_narrow t ≡ true → filter_depth (one op t) < 3 → block_width (one op t) < 6 → is_narrow (one op t) ≡ true
narrow_one op t h d w = list_all-append fits (nodes t) (one op t ∷ []) ∙ and_true (is_narrow t) (fits (one op t) && true) h (and_true (fits (one op t)) true (fits_so (one op t) d w) refl)

narrow_two : (op : LogicOp) (t u : Expression) → is_narrow t ≡ true → is_narrow u ≡ true → block_width (two op t u) < 6 → is_narrow (two op t u) ≡ true
narrow_two op t u h k w =
    list_all-append fits (nodes t) (nodes u ++ two op t u ∷ [])
    ∙ and_true _ _ h (list_all-append fits (nodes u) (two op t u ∷ []) ∙ and_true (is_narrow u) (fits (two op t u) && true) k (and_true (fits (two op t u)) true (fits_so (two op t u) (omega arith) w) refl))

-- ---- parts

-- how many nodes other than Filters there are, which is the same wherever the part stands
abbrev pub node_total : Part → ℕ
node_total a = node_count (a.tree (λ i. i) 0 0)

abbrev pub IsEven : Part → Type 0
IsEven a = (name : ℕ → ℕ) (s c : ℕ) → node_count (a.tree name s c) ≡ node_total a

-- at most m Filters and n leaves at the top
pub record IsSlim (all : List ℕ) (m n : ℕ) (a : Part) : Type 0 where
  pub even : IsEven a
  pub narrow : (name : ℕ → ℕ) (s c : ℕ) → is_narrow (a.tree name s c) ≡ true
  pub depth : (name : ℕ → ℕ) (s c : ℕ) → filter_depth (a.tree name s c) ≤ m
  pub width : (name : ℕ → ℕ) (s c : ℕ) → block_width (a.tree name s c) ≤ n
  pub shared : (j : ℕ) → has a.refs j ≡ true → is_shared all j ≡ true

module _ (all : List ℕ) where
  wider : (m n k l : ℕ) (a : Part) → IsSlim all m n a → m ≤ k → n ≤ l → IsSlim all k l a
  wider m n k l a h p q = record {
    even = h.even;
    narrow = h.narrow;
    depth = λ name s c. let d = h.depth name s c in omega (arith, d);
    width = λ name s c. let w = h.width name s c in omega (arith, w);
    shared = h.shared;
  }

  over_slim : (m n : ℕ) (a : Part) → IsSlim all m n a → (cols : List ℕ) (count : ℕ) (op : ℕ → LogicOp) → ((c : ℕ) → weight (op c) ≡ 1)
      → ((c : ℕ) (t : Expression) → filter_depth (one (op c) t) ≡ 0) → ((c : ℕ) (t : Expression) → block_width (one (op c) t) ≡ 1) → IsSlim all 0 1 (over a cols count op)
  over_slim m n a h cols count op weighs flat single = record {
    even = λ name s c. ap₂ (λ x y. x + y) (weighs c ∙ sym (weighs 0)) (h.even name s c);
    narrow = λ name s c.
        let d = flat c (a.tree name s c) in
        let w = single c (a.tree name s c) in
        narrow_one (op c) (a.tree name s c) (h.narrow name s c) (omega (arith, d)) (omega (arith, w));
    depth = λ name s c. let d = flat c (a.tree name s c) in omega (arith, d);
    width = λ name s c. let w = single c (a.tree name s c) in omega (arith, w);
    shared = h.shared;
  }

  filter_slim : (m n : ℕ) (e : Expr) (a : Part) → IsSlim all m n a → m < 2 → n < 6 → IsSlim all (suc m) n (filter_part e a)
  filter_slim m n e a h p q = record {
    even = λ name s c. ap (λ n. 0 + n) (h.even name s c);
    narrow = λ name s c.
        let d = h.depth name s c in
        let w = h.width name s c in
        narrow_one (Filter (moved _ e)) (a.tree name s c) (h.narrow name s c) (omega (arith, d)) (omega (arith, w));
    depth = λ name s c. let d = h.depth name s c in omega (arith, d);
    width = h.width;
    shared = h.shared;
  }

  filter_opt_slim : (m n : ℕ) (o : Option Expr) (a : Part) → IsSlim all m n a → m < 2 → n < 6 → IsSlim all (suc m) n (filter_opt o a)
  filter_opt_slim m n None a h p q = record {
    even = h.even;
    narrow = h.narrow;
    depth = λ name s c. let d = h.depth name s c in omega (arith, d);
    width = h.width;
    shared = h.shared;
  }
  filter_opt_slim m n (Some e) a h p q = filter_slim m n e a h p q

  group_slim : (m n : ℕ) (written : Option (List ℕ)) (keys : List ℕ) (aggs : List (AggKind × Option Expr)) (a : Part) → IsSlim all m n a → IsSlim all 0 1 (group_part written keys aggs a)
  group_slim m n written keys aggs a h = over_slim m n a h _ _ _ (λ c. refl) (λ c t. refl) (λ c t. refl)

  grouping_slim : (o : Option Grouping) (a : Part) → IsSlim all 2 5 a → IsSlim all 2 5 (grouping_opt o a)
  grouping_slim None a h = h
  grouping_slim (Some g) a h = wider 0 1 2 5 _ (group_slim 2 5 _ _ g.aggs a h) (omega arith) (omega arith)

  project_slim : (m n : ℕ) (items : List Expr) (a : Part) → IsSlim all m n a → IsSlim all 0 1 (project_part items a)
  project_slim m n items a h = over_slim m n a h _ _ _ (λ c. refl) (λ c t. refl) (λ c t. refl)

  unique_slim : (d : Bool) (a : Part) → IsSlim all 1 1 a → IsSlim all 1 1 (unique_opt d a)
  unique_slim false a h = h
  unique_slim true a h = wider 0 1 1 1 _ (group_slim 1 1 None (range_with_len 0 (length a.cols)) [] a h) (omega arith) (omega arith)

  first_slim : (o : Option ℕ) (order : List (ℕ × Dir)) (a : Part) → IsSlim all 1 1 a → IsSlim all 1 1 (first_opt o order a)
  first_slim None order a h = h
  first_slim (Some n) order a h = wider 0 1 1 1 _ (over_slim 1 1 a h _ _ _ (λ c. refl) (λ c t. refl) (λ c t. refl)) (omega arith) (omega arith)

  query_slim : (q : Query) (a : Part) → IsSlim all 1 5 a → IsSlim all 1 1 (query_part q a)
  query_slim q a h =
      let whole = first_slim q.top (order_list q.order) _ (unique_slim q.distinct _ (filter_opt_slim 0 1 q.having _
      (project_slim 2 5 q.items _ (grouping_slim q.group _ (filter_opt_slim 1 5 q.test a h (omega arith) (omega arith)))) (omega arith) (omega arith))) in
      record { even = whole.even; narrow = whole.narrow; depth = whole.depth; width = whole.width; shared = whole.shared }

  stored_slim : (m n : ℕ) (stored : Option StoredPlaces) (a : Part) → IsSlim all m n a → IsSlim all m n (stored_part stored a)
  stored_slim m n stored a h = record { even = h.even; narrow = h.narrow; depth = h.depth; width = h.width; shared = h.shared }

  process_slim : (m n : ℕ) (call : Call) (a : Part) → IsSlim all m n a → IsSlim all 0 1 (process_part call a)
  process_slim m n call a h = over_slim m n a h _ _ _ (λ c. refl) (λ c t. refl) (λ c t. refl)

  reduce_slim : (m n : ℕ) (on : List ℕ) (presort : Option (List (ℕ × Dir))) (call : Call) (a : Part) → IsSlim all m n a → IsSlim all 0 1 (reduce_part on presort call a)
  reduce_slim m n on presort call a h = over_slim m n a h _ _ _ (λ c. refl) (λ c t. refl) (λ c t. refl)

  beside_slim : (m n k l w : ℕ) (a b : Part) → IsSlim all m n a → IsSlim all k l b → (cols : List ℕ) (count : ℕ) (op : ℕ → LogicOp) → ((c : ℕ) → weight (op c) ≡ 1)
      → ((c : ℕ) (t u : Expression) → block_width t ≤ n → block_width u ≤ l → block_width (two (op c) t u) ≤ w) → w < 6 → IsSlim all 0 w (beside a b cols count op)
  beside_slim m n k l w a b x y cols count op weighs wide small = record {
    even = λ name s c.
        ap₂ (λ i j. i + j) (weighs c ∙ sym (weighs 0))
        (ap₂ (λ i j. i + j) (x.even name s c) (y.even name (s + length a.scans) (c + a.count) ∙ sym (y.even (λ i. i) (0 + length a.scans) (0 + a.count))));
    narrow = λ name s c.
        let v = wide c (a.tree name s c) (b.tree name (s + length a.scans) (c + a.count)) (x.width name s c) (y.width name (s + length a.scans) (c + a.count)) in
        narrow_two (op c) (a.tree name s c) (b.tree name (s + length a.scans) (c + a.count)) (x.narrow name s c) (y.narrow name (s + length a.scans) (c + a.count)) (omega (arith, v));
    depth = λ name s c. omega arith;
    width = λ name s c. wide c (a.tree name s c) (b.tree name (s + length a.scans) (c + a.count)) (x.width name s c) (y.width name (s + length a.scans) (c + a.count));
    shared = λ j h. go j (in_either a.refs b.refs j h);
  }
    where
      go : (j : ℕ) → (has a.refs j ≡ true) ⊎ (has b.refs j ≡ true) → is_shared all j ≡ true
      go j (inl q) = x.shared j q
      go j (inr q) = y.shared j q

  joined_slim : (m n k l : ℕ) (on : List (ℕ × ℕ)) (a b : Part) → IsSlim all m n a → IsSlim all k l b → n + l < 6 → IsSlim all 0 (n + l) (joined_part on a b)
  joined_slim m n k l on a b x y small = beside_slim m n k l (n + l) a b x y _ _ (join_on a b on) (λ c. refl) (λ c t u p q. omega arith) small

  combine_slim : (m n k l : ℕ) (on : List (ℕ × ℕ)) (before after : Option (List (ℕ × Dir))) (call : Call) (a b : Part) → IsSlim all m n a → IsSlim all k l b
      → IsSlim all 0 1 (combine_part on before after call a b)
  combine_slim m n k l on before after call a b x y = beside_slim m n k l 1 a b x y _ _ (combine_on a b on before after call) (λ c. refl) (λ c t u p q. omega arith) (omega arith)

  -- ---- sources

  pub nothing_slim : IsSlim all 1 1 nothing
  nothing_slim = record {
    even = λ name s c. refl;
    narrow = λ name s c. refl;
    depth = λ name s c. omega arith;
    width = λ name s c. omega arith;
    shared = λ j h. absurd (cc);
  }

  scanned_slim : (d : Stream) → IsSlim all 1 1 (scanned d)
  scanned_slim d = record {
    even = λ name s c. refl;
    narrow = λ name s c. refl;
    depth = λ name s c. omega arith;
    width = λ name s c. omega arith;
    shared = λ j h. absurd (cc);
  }

  referred_slim : (k : ℕ) (b : Part) → is_shared all k ≡ true → IsSlim all 1 1 (referred k b)
  referred_slim k b h = record {
    even = λ name s c. refl;
    narrow = λ name s c. refl;
    depth = λ name s c. omega arith;
    width = λ name s c. omega arith;
    shared = λ j q. go j (either _ _ q);
  }
    where
      go : (j : ℕ) → (nat_eq k j ≡ true) ⊎ (has [] j ≡ true) → is_shared all j ≡ true
      go j (inl q) = subst (λ (i : ℕ). is_shared all i ≡ true) (from_test k j q) h
      go j (inr q) = absurd (cc)

  abbrev pub AreSlim : List Part → Type 0
  AreSlim env = (k : ℕ) (b : Part) → slice_get env k ≡ Some b → IsSlim all 1 1 b

  placed_slim : (env : List Part) → AreSlim env → (i : Option ℕ) → IsSlim all 1 1 (placed all env i)
  placed_slim env h None = nothing_slim
  placed_slim env h (Some k) = go (slice_get env k) refl
    where
      go : (o : Option Part) → slice_get env k ≡ o → IsSlim all 1 1 (found all k o)
      go None e = nothing_slim
      go (Some b) e = at (is_shared all k) refl
        where
          at : (s : Bool) → is_shared all k ≡ s → IsSlim all 1 1 (stands s k b)
          at true f = referred_slim k b f
          at false f = h k b e

  pub source_slim : (earlier : List Statement) (env : List Part) → AreSlim env → (source : Source) → IsSlim all 1 1 (source_part all earlier env source)
  source_slim earlier env h (FromResult i) = placed_slim env h (input_at earlier i)
  source_slim earlier env h (FromStream d) = scanned_slim d

  from_slim : (earlier : List Statement) (env : List Part) → AreSlim env → (joins : List Joined) (n : ℕ) (a : Part) → IsSlim all 1 n a → n + length joins ≤ 5
      → IsSlim all 1 5 (from_part all earlier env a joins)
  from_slim earlier env h [] n a x small = wider 1 n 1 5 a x (omega arith) (omega arith)
  from_slim earlier env h (j ∷ joins) n a x small =
      from_slim earlier env h joins (n + 1) (joined_part j.on a (source_part all earlier env j.source))
      (wider 0 (n + 1) 1 (n + 1) _ (joined_slim 1 n 1 1 j.on a _ x (source_slim earlier env h j.source) (omega arith)) (omega arith) (omega arith)) (omega arith)

  beside_all_slim : (earlier : List Statement) (env : List Part) → AreSlim env → (b : Beside) (a : Part) → IsSlim all 1 1 a → IsBesideFew b → IsSlim all 1 5 (beside_part all earlier env a b)
  beside_all_slim earlier env h (Inners joins) a x few = let l : length joins ≤ 4 = few.0 in from_slim earlier env h joins 1 a x (omega (arith, l))
  beside_all_slim earlier env h (Outer side call j) a x few =
      wider 0 1 1 5 _ (combine_slim 1 1 1 1 j.on None None call a _ x (source_slim earlier env h j.source)) (omega arith) (omega arith)

  -- ---- statements

  bound_slim : (earlier : List Statement) (env : List Part) → AreSlim env → (name : Option (List ℕ)) (c : Command) → IsCommandWithin name c → IsSlim all 1 1 (bound all earlier env c)
  bound_slim earlier env h name (Extract d) w = scanned_slim d
  bound_slim earlier env h name (Select q) w = query_slim q _ (beside_all_slim earlier env h q.beside _ (source_slim earlier env h q.source) w.1)
  bound_slim earlier env h name (Process source call) w = wider 0 1 1 1 _ (process_slim 1 1 call _ (source_slim earlier env h source)) (omega arith) (omega arith)
  bound_slim earlier env h name (Reduce source on presort call) w = wider 0 1 1 1 _ (reduce_slim 1 1 on presort call _ (source_slim earlier env h source)) (omega arith) (omega arith)
  bound_slim earlier env h name (Combine source before other after on call) w =
      wider 0 1 1 1 _ (combine_slim 1 1 1 1 on before after call _ _ (source_slim earlier env h source) (source_slim earlier env h other)) (omega arith) (omega arith)
  bound_slim earlier env h name (Output o) w = stored_slim 1 1 o.stored _ (placed_slim env h (input_at earlier o.source))

  pub push_slim : (env : List Part) (b : Part) → AreSlim env → IsSlim all 1 1 b → AreSlim (env ++ b ∷ [])
  push_slim env b h new k x e = at (nat_lt k (length env)) refl (k == length env) refl
    where
      at : (l : Bool) → nat_lt k (length env) ≡ l → (m : Bool) → (k == length env) ≡ m → IsSlim all 1 1 x
      at true p m q = let w : k < length env = grind (arith, nat_tests, p) in h k x (sym (get_below env b k w) ∙ e)
      at false p true q =
          let w : k ≡ length env = grind (arith, nat_tests, q) in
          let f : Some b ≡ Some x = sym (get_last env b k w) ∙ e in
          let g : b ≡ x = cc in subst (IsSlim all 1 1) g new
      at false p false q =
          let w : length env < k = grind (arith, nat_tests, p, q) in
          let f : None ≡ Some x = sym (get_past env b k w) ∙ e in absurd (cc)

  pub command_slim : (earlier : List Statement) (env : List Part) (s : Statement) → AreSlim env → IsCommandWithin s.name s.command → AreSlim (env ++ bound all earlier env s.command ∷ [])
  command_slim earlier env s h w = push_slim env _ h (bound_slim earlier env h s.name s.command w)

  pub all_slim : (earlier : List Statement) (env : List Part) (rest : List Statement) → AreWithin rest → AreSlim env → AreSlim (bound_from all earlier env rest)
  all_slim earlier env [] w h = h
  all_slim earlier env (s ∷ rest) w h = all_slim (earlier ++ s ∷ []) _ rest w.1 (command_slim earlier env s h w.0)

  pub slim_at : (env : List Part) → AreSlim env → (k : ℕ) → IsSlim all 1 1 (part_at env k)
  slim_at env h k = go (slice_get env k) refl
    where
      go : (o : Option Part) → slice_get env k ≡ o → IsSlim all 1 1 (or_nothing o)
      go None e = nothing_slim
      go (Some b) e = h k b e

  -- what is reached is shared
  pub reached_shared : (outs : List ℕ) (n : ℕ) (env : List Part) → AreSlim env → (j : ℕ) → has (reached outs n env) j ≡ true → is_shared all j ≡ true
  reached_shared outs n [] h j m = absurd (cc)
  reached_shared outs n (b ∷ env) h j m = go (reached_shared outs (n + 1) env (λ k x e. h (suc k) x e) j) _ m
    where
      go : (has (reached outs (n + 1) env) j ≡ true → is_shared all j ≡ true) → (t : Bool)
          → has (cond t (reached outs (n + 1) env ++ b.refs) (reached outs (n + 1) env)) j ≡ true → is_shared all j ≡ true
      go more true q = which (in_either (reached outs (n + 1) env) b.refs j q)
        where
          which : (has (reached outs (n + 1) env) j ≡ true) ⊎ (has b.refs j ≡ true) → is_shared all j ≡ true
          which (inl p) = more p
          which (inr p) = (h 0 b refl).shared j p
      go more false q = more q
