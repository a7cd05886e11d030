-- The Dag of a script within the limits of the language is within the bounds of a Dag.
use Rattle.std.proofs.Common.{◌≡◌, ℕ, zero, suc, ◌+◌, ◌-◌, ◌*◌, ◌<◌, ◌≤◌, Bool, true, false, cond, ◌||◌, ◌&&◌, nat_le, nat_eq, nat_lt, List, [], ◌∷◌, ◌++◌, map, filter, flat_map, length, append_assoc, refl, sym, ap, ap₂, ◌∙◌, subst, arith, Option, Some, None, slice_get, get_or, ◌==◌, ◌⊎◌, inl, inr}
use Rattle.std.specs.Prelude.{IsSomeAnd, sum_by}
use Rattle.std.specs.List.{range_with_len, position, list_all}
use Rattle.std.proofs.lemmas.Bool.Decides.{nat_tests}
use Rattle.std.proofs.lemmas.List.{length-append, length_push}
use Rattle.std.proofs.lemmas.List.Sums.{sum_by-cons, sum_by-append}
use Rattle.std.proofs.lemmas.List.Folds.{list_all-append}
use Rattle.std.proofs.lemmas.List.Quantifiers.{position-Some}
use Rattle.std.proofs.lemmas.Option.{slice_get_within, slice_get-get_or}
use Rattle.std.proofs.lemmas.Grind.{flat_map-append}
use Rattle.col_sets.specs.declared.dir.Dir.{Dir}
use Rattle.col_sets.specs.Sets.{has}
use Rattle.col_sets.specs.Tests.{either, and_true, or_left, or_right, from_test, to_test}
use Rattle.scope_expr.specs.declared.expr.Expr.{Expr}
use Rattle.scope_value.specs.declared.cell.Cell.{Cell}
use Rattle.logical_dag.specs.Bounds.{node_count, is_narrow}
use Rattle.logical_dag.specs.Scripts.{scans_of}
use Rattle.logical_trees.specs.Tree.{Expression}
use Rattle.placed_trees.specs.declared.call.Call.{Call}
use Rattle.placed_trees.specs.declared.command.Command.{Command}
use Rattle.placed_trees.specs.declared.command.Command.TheVariants.{Extract, Select, Process, Reduce, Combine, Output}
use Rattle.placed_trees.specs.declared.query.Beside.{Beside}
use Rattle.placed_trees.specs.declared.query.Beside.TheVariants.{Inners, Outer}
use Rattle.placed_trees.specs.declared.query.Grouping.{Grouping}
use Rattle.placed_trees.specs.declared.query.Joined.{Joined}
use Rattle.placed_trees.specs.declared.query.Query.{Query}
use Rattle.placed_trees.specs.declared.source.Source.{Source}
use Rattle.placed_trees.specs.declared.source.Source.TheVariants.{FromResult, FromStream}
use Rattle.placed_trees.specs.declared.source.StoredPlaces.{StoredPlaces}
use Rattle.placed_trees.specs.declared.source.Stream.{Stream}
use Rattle.placed_trees.specs.declared.statement.Statement.{Statement}
use Rattle.placed_trees.specs.Inputs.{gives, is_named, result_of, input_at}
use Rattle.script_meaning.specs.Meaning.{order_list}
use Rattle.script_meaning.specs.Part.{Part, nothing, scanned, referred, joined_part, process_part, reduce_part, combine_part, filter_opt, grouping_opt, project_part, unique_opt, first_opt, query_part, stored_part}
use Rattle.script_meaning.specs.Bound.{source_inputs, beside_inputs, inputs, one_or_none, mentions, is_shared, stands, found, placed, source_part, from_part, beside_part, bound, bound_from, parts_of}
use Rattle.script_meaning.specs.Dag.{or_nothing, part_at, outputs_from, outs_of, reached, kept_of, place_in, scans_of_all, trees_from, dag_of}
use Rattle.script_meaning.specs.Within.{IsBesideFew, IsCommandWithin, AreWithin, shared_of, IsWithin, GivesBounded}
use Rattle.script_meaning.proofs.Declared.{length_declared}
use Rattle.script_meaning.proofs.Whole.{keeps_length, env_keeps, outs_below}
use Rattle.script_meaning.proofs.Env.{get_last}
use Rattle.script_meaning.proofs.Slim.{node_total, IsEven, IsSlim, AreSlim, source_slim, command_slim, all_slim, slim_at, reached_shared}
use Rattle.script_meaning.proofs.Counted.{total, total_append, total_filter, total_most, hits, no_hits, not_in, hits_once, shared_in, by_number}

-- the results that a command mentions
abbrev mentioned : List Statement → Command → List ℕ
mentioned earlier c = flat_map (λ i. one_or_none (input_at earlier i)) (inputs c)

-- n times w
abbrev repeated : ℕ → ℕ → ℕ
repeated w zero = 0
repeated w (suc n) = w + repeated w n

repeated_most : (w m n : ℕ) → m ≤ n → repeated w m ≤ repeated w n
repeated_most w zero n h = omega arith
repeated_most w (suc m) zero h = absurd (omega arith)
repeated_most w (suc m) (suc n) h = let e = repeated_most w m n (omega arith) in omega (arith, e)

-- a size of parts: a source has at most p, and each node adds at most q
record IsMeasure (size : Part → ℕ) (p q : ℕ) : Type 0 where
  pub none : size nothing ≤ p
  pub scan : (d : Stream) → size (scanned d) ≤ p
  pub ref : (k : ℕ) (b : Part) → size (referred k b) ≤ p
  pub join : (on : List (ℕ × ℕ)) (a b : Part) → IsEven b → size (joined_part on a b) ≤ q + size a + size b
  pub combine : (on : List (ℕ × ℕ)) (before after : Option (List (ℕ × Dir))) (call : Call) (a b : Part) → IsEven b → size (combine_part on before after call a b) ≤ q + size a + size b
  pub query : (s : Query) (a : Part) → size (query_part s a) ≤ repeated q 4 + size a
  pub process : (call : Call) (a : Part) → size (process_part call a) ≤ q + size a
  pub reduce : (on : List ℕ) (presort : Option (List (ℕ × Dir))) (call : Call) (a : Part) → size (reduce_part on presort call a) ≤ q + size a
  pub store : (stored : Option StoredPlaces) (a : Part) → size (stored_part stored a) ≤ size a

-- ---- how large a command's part is

module _ (size : Part → ℕ) (p q : ℕ) (measure : IsMeasure size p q) (all : List ℕ) (whole : List Part) where
  -- what a result adds to its consumer
  abbrev taken : ℕ → ℕ
  taken k = cond (is_shared all k) 0 (size (part_at whole k))

  module _ (earlier : List Statement) (env : List Part) (slim : AreSlim all env) (same : (k : ℕ) → k < length env → slice_get whole k ≡ slice_get env k) where
    placed_size : (i : Option ℕ) → size (placed all env i) ≤ p + total taken (one_or_none i)
    placed_size None = let l = measure.none in omega (arith, l)
    placed_size (Some k) = go (slice_get env k) refl
      where
        go : (o : Option Part) → slice_get env k ≡ o → size (found all k o) ≤ p + (cond (is_shared all k) 0 (size (part_at whole k)) + 0)
        go None e = let l = measure.none in omega (arith, l)
        go (Some b) e = at (is_shared all k)
          where
            at : (s : Bool) → size (stands s k b) ≤ p + (cond s 0 (size (part_at whole k)) + 0)
            at true = let l = measure.ref k b in omega (arith, l)
            at false =
                let is : slice_get whole k ≡ Some b = same k (slice_get_within env k b e) ∙ e in
                let l : size (part_at whole k) ≡ size b = ap (λ (o : Option Part). size (or_nothing o)) is in omega (arith, l)

    source_size : (source : Source) → size (source_part all earlier env source) ≤ p + total taken (flat_map (λ i. one_or_none (input_at earlier i)) (source_inputs source))
    source_size (FromResult i) =
        let l = placed_size (input_at earlier i) in
        let e = total_append taken (one_or_none (input_at earlier i)) [] in omega (arith, l, e)
    source_size (FromStream d) = let l = measure.scan d in omega (arith, l)

    from_size : (joins : List Joined) (a : Part)
        → size (from_part all earlier env a joins) ≤ size a + repeated (p + q) (length joins) + total taken (flat_map (λ i. one_or_none (input_at earlier i)) (flat_map (λ j. source_inputs j.source) joins))
    from_size [] a = omega arith
    from_size (j ∷ joins) a =
        let b = source_part all earlier env j.source in
        let l = from_size joins (joined_part j.on a b) in
        let m = measure.join j.on a b (source_slim all earlier env slim j.source).even in
        let n = source_size j.source in
        let e = ap (total taken) (flat_map-append (λ i. one_or_none (input_at earlier i)) (source_inputs j.source) (flat_map (λ j. source_inputs j.source) joins)) in
        let f = total_append taken (flat_map (λ i. one_or_none (input_at earlier i)) (source_inputs j.source)) (flat_map (λ i. one_or_none (input_at earlier i)) (flat_map (λ j. source_inputs j.source) joins)) in
        omega (arith, l, m, n, e, f)

    beside_size : (b : Beside) (a : Part) → IsBesideFew b
        → size (beside_part all earlier env a b) ≤ size a + repeated (p + q) 4 + total taken (flat_map (λ i. one_or_none (input_at earlier i)) (beside_inputs b))
    beside_size (Inners joins) a few =
        let l = from_size joins a in
        let m = repeated_most (p + q) (length joins) 4 few.0 in omega (arith, l, m)
    beside_size (Outer side call j) a few =
        let b = source_part all earlier env j.source in
        let m = measure.combine j.on None None call a b (source_slim all earlier env slim j.source).even in
        let n = source_size j.source in omega (arith, m, n)

    two_inputs : (s t : List (Option (List ℕ)))
        → total taken (flat_map (λ i. one_or_none (input_at earlier i)) (s ++ t))
        ≡ total taken (flat_map (λ i. one_or_none (input_at earlier i)) s) + total taken (flat_map (λ i. one_or_none (input_at earlier i)) t)
    two_inputs s t =
        ap (total taken) (flat_map-append (λ i. one_or_none (input_at earlier i)) s t)
        ∙ total_append taken (flat_map (λ i. one_or_none (input_at earlier i)) s) (flat_map (λ i. one_or_none (input_at earlier i)) t)

    bound_size : (name : Option (List ℕ)) (c : Command) → IsCommandWithin name c → size (bound all earlier env c) ≤ 5 * p + 8 * q + total taken (mentioned earlier c)
    bound_size name (Extract d) w = let l = measure.scan d in omega (arith, l)
    bound_size name (Select s) w =
        let a = source_part all earlier env s.source in
        let l = measure.query s (beside_part all earlier env a s.beside) in
        let m = beside_size s.beside a w.1 in
        let n = source_size s.source in
        let e = two_inputs (source_inputs s.source) (beside_inputs s.beside) in
        omega (arith, l, m, n, e)
    bound_size name (Process source call) w =
        let l = measure.process call (source_part all earlier env source) in
        let n = source_size source in omega (arith, l, n)
    bound_size name (Reduce source on presort call) w =
        let l = measure.reduce on presort call (source_part all earlier env source) in
        let n = source_size source in omega (arith, l, n)
    bound_size name (Combine source before other after on call) w =
        let b = source_part all earlier env other in
        let l = measure.combine on before after call (source_part all earlier env source) b (source_slim all earlier env slim other).even in
        let m = source_size source in
        let n = source_size other in
        let e = two_inputs (source_inputs source) (source_inputs other) in
        omega (arith, l, m, n, e)
    bound_size name (Output o) w =
        let l = measure.store o.stored (placed all env (input_at earlier o.source)) in
        let n = placed_size (input_at earlier o.source) in
        let e = total_append taken (one_or_none (input_at earlier o.source)) [] in
        omega (arith, l, n, e)

  -- all parts together
  all_size : (earlier : List Statement) (env : List Part) (rest : List Statement) (n : ℕ) → length env ≡ n → AreSlim all env → AreWithin rest → bound_from all earlier env rest ≡ whole
      → total (λ k. size (part_at whole k)) (range_with_len n (length rest)) ≤ total (λ k. 5 * p + 8 * q) (range_with_len n (length rest)) + total taken (mentions earlier rest)
  all_size earlier env [] n is slim w e = omega arith
  all_size earlier env (s ∷ rest) n is slim w e =
      let b = bound all earlier env s.command in
      let long = length_push env b in
      let l = all_size (earlier ++ s ∷ []) (env ++ b ∷ []) rest (n + 1) (omega (arith, long, is)) (command_slim all earlier env s slim w.0) w.1 e in
      let m = bound_size earlier env slim (λ k r. ap (λ (ps : List Part). slice_get ps k) (sym e) ∙ env_keeps all earlier env (s ∷ rest) k r) s.name s.command w.0 in
      let here : slice_get whole n ≡ Some b = ap (λ (ps : List Part). slice_get ps n) (sym e)
      ∙ env_keeps all (earlier ++ s ∷ []) (env ++ b ∷ []) rest n (omega (arith, long, is)) ∙ get_last env b n (sym is) in
      let k : size (part_at whole n) ≡ size b = ap (λ (o : Option Part). size (or_nothing o)) here in
      let f = total_append taken (mentioned earlier s.command) (mentions (earlier ++ s ∷ []) rest) in
      omega (arith, l, m, k, f)

-- ---- what is mentioned gives a result

pub named_gives : (xs : List Statement) → AreWithin xs → (n : List ℕ) (k : ℕ) (s : Statement) → slice_get xs k ≡ Some s → is_named n s ≡ true → gives s.command ≡ true
named_gives [] w n k s e h = absurd (cc)
named_gives (x ∷ xs) w n zero s e h = let same : x ≡ s = cc in go s.name s.command (subst (λ (y : Statement). IsCommandWithin y.name y.command) same w.0) h
  where
    go : (name : Option (List ℕ)) (c : Command) → IsCommandWithin name c → is_named n (record { name = name; command = c }) ≡ true → gives c ≡ true
    go None c v h = absurd (cc)
    go (Some m) (Output o) v h = absurd (let e : Some m ≡ None = v.0 in cc)
    go (Some m) (Extract d) v h = refl
    go (Some m) (Select q) v h = refl
    go (Some m) (Process source call) v h = refl
    go (Some m) (Reduce source on presort call) v h = refl
    go (Some m) (Combine source before other after on call) v h = refl
named_gives (x ∷ xs) w n (suc k) s e h = named_gives xs w.1 n k s e h

-- each mention is of a statement before that has a result
unfoldable pub Gives : List Statement → ℕ → Type 0
Gives xs k = IsSomeAnd (slice_get xs k) (λ s. gives s.command ≡ true)

pub input_gives : (earlier : List Statement) → AreWithin earlier → (i : Option (List ℕ)) (k : ℕ) → input_at earlier i ≡ Some k → Gives earlier k
unfolding Gives
input_gives earlier w (Some n) k e = go (slice_get earlier k) refl (position-Some (is_named n) earlier k)
  where
    go : (o : Option Statement) → slice_get earlier k ≡ o
        → ((d : Statement) → position (is_named n) earlier ≡ Some k → (k < length earlier) × (is_named n (get_or earlier k d) ≡ true) × ((j : ℕ) → j < k → is_named n (get_or earlier j d) ≡ false))
        → IsSomeAnd o (λ s. gives s.command ≡ true)
    go None f at = absurd (none earlier k f (at no_statement e).0)
      where
        no_statement : Statement
        no_statement = record { name = None; command = Output (record { source = None; stream = []; delimiter = 0; stored = None }) }

        none : (xs : List Statement) (j : ℕ) → slice_get xs j ≡ None → j < length xs → ⊥
        none [] j g l = omega arith
        none (x ∷ xs) zero g l = absurd (cc)
        none (x ∷ xs) (suc j) g l = none xs j g (omega arith)
    go (Some s) f at =
        let there = at s e in
        let is : Some (get_or earlier k s) ≡ Some s = sym (slice_get-get_or earlier k s there.0) ∙ f in
        let same : get_or earlier k s ≡ s = cc in
        named_gives earlier w n k s f (ap (is_named n) (sym same) ∙ there.1)
input_gives earlier w None k e = go (slice_get earlier (length earlier - 1)) refl e
  where
    go : (o : Option Statement) → slice_get earlier (length earlier - 1) ≡ o → result_of o (length earlier - 1) ≡ Some k → IsSomeAnd (slice_get earlier k) (λ s. gives s.command ≡ true)
    go None f h = absurd (cc)
    go (Some s) f h = at (gives s.command) refl h
      where
        at : (b : Bool) → gives s.command ≡ b → cond b (Some (length earlier - 1)) None ≡ Some k → IsSomeAnd (slice_get earlier k) (λ s. gives s.command ≡ true)
        at true g q =
            let same : length earlier - 1 ≡ k = cc in
            subst (λ (o : Option Statement). IsSomeAnd o (λ s. gives s.command ≡ true)) (sym (ap (slice_get earlier) (sym same) ∙ f)) g
        at false g q = absurd (cc)

gives_more : (xs ys : List Statement) (k : ℕ) → Gives xs k → Gives (xs ++ ys) k
unfolding Gives
gives_more [] ys k h = absurd h
gives_more (x ∷ xs) ys zero h = h
gives_more (x ∷ xs) ys (suc k) h = gives_more xs ys k h

in_one : (s : List ℕ) (t : List ℕ) (k : ℕ) → has (s ++ t) k ≡ true → (has s k ≡ true) ⊎ (has t k ≡ true)
in_one [] t k h = inr h
in_one (d ∷ s) t k h = go (d == k) (in_one s t k) h
  where
    go : (b : Bool) → (has (s ++ t) k ≡ true → (has s k ≡ true) ⊎ (has t k ≡ true)) → (b || has (s ++ t) k) ≡ true → ((b || has s k) ≡ true) ⊎ (has t k ≡ true)
    go true more q = inl refl
    go false more q = more q

mentioned_gives : (earlier : List Statement) → AreWithin earlier → (is : List (Option (List ℕ))) (k : ℕ) → has (flat_map (λ i. one_or_none (input_at earlier i)) is) k ≡ true → Gives earlier k
mentioned_gives earlier w [] k h = absurd (cc)
mentioned_gives earlier w (i ∷ is) k h = go (mentioned_gives earlier w is k) (in_one (one_or_none (input_at earlier i)) (flat_map (λ i. one_or_none (input_at earlier i)) is) k h)
  where
    one : (o : Option ℕ) → input_at earlier i ≡ o → has (one_or_none o) k ≡ true → Gives earlier k
    one None e q = absurd (cc)
    one (Some j) e q = at (either _ _ q)
      where
        at : (nat_eq j k ≡ true) ⊎ (has [] k ≡ true) → Gives earlier k
        at (inl p) = let same : j ≡ k = from_test j k p in input_gives earlier w i k (e ∙ ap Some same)
        at (inr p) = absurd (cc)

    go : (has (flat_map (λ i. one_or_none (input_at earlier i)) is) k ≡ true → Gives earlier k)
        → (has (one_or_none (input_at earlier i)) k ≡ true) ⊎ (has (flat_map (λ i. one_or_none (input_at earlier i)) is) k ≡ true) → Gives earlier k
    go more (inl q) = one (input_at earlier i) refl q
    go more (inr q) = more q

pub within_push : (xs : List Statement) (s : Statement) → AreWithin xs → IsCommandWithin s.name s.command → AreWithin (xs ++ s ∷ [])
within_push [] s w v = (v, tt)
within_push (x ∷ xs) s w v = (w.0, within_push xs s w.1 v)

mentions_give : (earlier rest : List Statement) → AreWithin earlier → AreWithin rest → (k : ℕ) → has (mentions earlier rest) k ≡ true → Gives (earlier ++ rest) k
mentions_give earlier [] w v k h = absurd (cc)
mentions_give earlier (s ∷ rest) w v k h = go (mentions_give (earlier ++ s ∷ []) rest (within_push earlier s w v.0) v.1 k) (in_one (mentioned earlier s.command) (mentions (earlier ++ s ∷ []) rest) k h)
  where
    go : (has (mentions (earlier ++ s ∷ []) rest) k ≡ true → Gives ((earlier ++ s ∷ []) ++ rest) k)
        → (has (mentioned earlier s.command) k ≡ true) ⊎ (has (mentions (earlier ++ s ∷ []) rest) k ≡ true) → Gives (earlier ++ s ∷ rest) k
    go more (inl q) = gives_more earlier (s ∷ rest) k (mentioned_gives earlier w (inputs s.command) k q)
    go more (inr q) = subst (λ (xs : List Statement). Gives xs k) (append_assoc earlier (s ∷ []) rest) (more q)

-- ---- the two measures

scan_total : Part → ℕ
scan_total a = length a.scans

scan_measure : IsMeasure scan_total 1 0
unfolding scan_total
scan_measure = record {
  none = omega arith;
  scan = λ d. omega arith;
  ref = λ k b. omega arith;
  join = λ on a b e. let l = length-append a.scans b.scans in omega (arith, l);
  combine = λ on before after call a b e. let l = length-append a.scans b.scans in omega (arith, l);
  query = λ s a. let l = go s a in omega (arith, l);
  process = λ call a. omega arith;
  reduce = λ on presort call a. omega arith;
  store = λ stored a. omega arith;
}
  where
    test : (o : Option Expr) (a : Part) → length (filter_opt o a).scans ≡ length a.scans
    test None a = refl
    test (Some e) a = refl

    group : (o : Option Grouping) (a : Part) → length (grouping_opt o a).scans ≡ length a.scans
    group None a = refl
    group (Some g) a = refl

    unique : (b : Bool) (a : Part) → length (unique_opt b a).scans ≡ length a.scans
    unique false a = refl
    unique true a = refl

    first : (o : Option ℕ) (order : List (ℕ × Dir)) (a : Part) → length (first_opt o order a).scans ≡ length a.scans
    first None order a = refl
    first (Some n) order a = refl

    go : (s : Query) (a : Part) → length (query_part s a).scans ≡ length a.scans
    go s a = first s.top _ _ ∙ unique s.distinct _ ∙ test s.having _ ∙ group s.group _ ∙ test s.test a

node_measure : IsMeasure node_total 2 1
node_measure = record {
  none = omega arith;
  scan = λ d. omega arith;
  ref = λ k b. omega arith;
  join = λ on a b e. let l = e (λ i. i) (0 + length a.scans) (0 + a.count) in omega (arith, l);
  combine = λ on before after call a b e. let l = e (λ i. i) (0 + length a.scans) (0 + a.count) in omega (arith, l);
  query = λ s a.
      let b = filter_opt s.test a in
      let c = grouping_opt s.group b in
      let d = project_part s.items c in
      let e = filter_opt s.having d in
      let f = unique_opt s.distinct e in
      let i = test s.test a in
      let j = group s.group b in
      let k : node_total d ≡ 1 + node_total c = refl in
      let l = test s.having d in
      let m = unique s.distinct e in
      let n = first s.top (order_list s.order) f in
      omega (arith, i, j, k, l, m, n);
  process = λ call a. omega arith;
  reduce = λ on presort call a. omega arith;
  store = λ stored a. omega arith;
}
  where
    test : (o : Option Expr) (a : Part) → node_total (filter_opt o a) ≡ node_total a
    test None a = refl
    test (Some e) a = omega arith

    group : (o : Option Grouping) (a : Part) → node_total (grouping_opt o a) ≤ 1 + node_total a
    group None a = omega arith
    group (Some g) a = omega arith

    unique : (b : Bool) (a : Part) → node_total (unique_opt b a) ≤ 1 + node_total a
    unique false a = omega arith
    unique true a = omega arith

    first : (o : Option ℕ) (order : List (ℕ × Dir)) (a : Part) → node_total (first_opt o order a) ≤ 1 + node_total a
    first None order a = omega arith
    first (Some n) order a = omega arith

-- ---- the trees of the Dag

fewer : (p q : ℕ → Bool) (ks : List ℕ) → ((k : ℕ) → p k ≡ true → q k ≡ true) → length (filter p ks) ≤ length (filter q ks)
fewer p q [] h = omega arith
fewer p q (k ∷ ks) h = go (p k) refl (q k) refl (fewer p q ks h)
  where
    go : (b : Bool) → p k ≡ b → (c : Bool) → q k ≡ c → length (filter p ks) ≤ length (filter q ks) → length (cond b (k ∷ filter p ks) (filter p ks)) ≤ length (cond c (k ∷ filter q ks) (filter q ks))
    go true e true f l = omega (arith, l)
    go true e false f l = absurd (let g : q k ≡ true = h k e in cc)
    go false e true f l = omega (arith, l)
    go false e false f l = l

few_outs : (n : ℕ) (rest : List Statement) → length (outputs_from n rest) ≤ length rest
few_outs n [] = omega arith
few_outs n (s ∷ rest) = go (gives s.command) (few_outs (n + 1) rest)
  where
    go : (b : Bool) → length (outputs_from (n + 1) rest) ≤ length rest → length (cond b (outputs_from (n + 1) rest) (n ∷ outputs_from (n + 1) rest)) ≤ suc (length rest)
    go true l = omega (arith, l)
    go false l = omega (arith, l)

module _ (size : ℕ → ℕ) (all near : List ℕ) (known : (k : ℕ) → has near k ≡ true → is_shared all k ≡ true) where
  abbrev share : ℕ → ℕ
  share k = cond (is_shared all k) 0 (size k)

  -- what has a result: its tree, where it is kept, or its mentions
  one_result : (k : ℕ) → cond (has near k) (size k) 0 + hits all share k ≤ size k
  one_result k = go (has near k) refl (is_shared all k) refl
    where
      go : (b : Bool) → has near k ≡ b → (c : Bool) → is_shared all k ≡ c → cond b (size k) 0 + hits all share k ≤ size k
      go true e true f = let l = no_hits all share k (rw f refl) in omega (arith, l)
      go true e false f = absurd (let g : is_shared all k ≡ true = known k e in cc)
      go false e true f = let l = no_hits all share k (rw f refl) in omega (arith, l)
      go false e false f =
          let l = hits_once all share k f in
          let m : share k ≡ size k = rw f refl in omega (arith, l, m)

  -- an OUTPUT is not mentioned
  one_output : (k : ℕ) → (has all k ≡ true → ⊥) → cond (has near k) (size k) 0 + hits all share k ≡ 0
  one_output k h = go (has near k) refl (has all k) refl
    where
      go : (b : Bool) → has near k ≡ b → (c : Bool) → has all k ≡ c → cond b (size k) 0 + hits all share k ≡ 0
      go b e true f = absurd (h f)
      go true e false f = absurd (let g : has all k ≡ true = shared_in all k (known k e) in cc)
      go false e false f = let l = not_in all share k f in omega (arith, l)

  all_trees : (n : ℕ) (rest : List Statement) → ((i : ℕ) (s : Statement) → slice_get rest i ≡ Some s → gives s.command ≡ false → has all (n + i) ≡ true → ⊥)
      → total (λ k. cond (has near k) (size k) 0) (range_with_len n (length rest)) + total (hits all share) (range_with_len n (length rest)) + total size (outputs_from n rest)
      ≤ total size (range_with_len n (length rest))
  all_trees n [] h = omega arith
  all_trees n (s ∷ rest) h =
      go (gives s.command) refl (all_trees (n + 1) rest (λ i t e f g. let m : n + suc i ≡ n + 1 + i = omega arith in h (suc i) t e f (subst (λ (j : ℕ). has all j ≡ true) (sym m) g)))
    where
      go : (b : Bool) → gives s.command ≡ b
          → total (λ k. cond (has near k) (size k) 0) (range_with_len (n + 1) (length rest)) + total (hits all share) (range_with_len (n + 1) (length rest)) + total size (outputs_from (n + 1) rest)
          ≤ total size (range_with_len (n + 1) (length rest))
          → cond (has near n) (size n) 0 + total (λ k. cond (has near k) (size k) 0) (range_with_len (n + 1) (length rest)) + (hits all share n + total (hits all share) (range_with_len (n + 1) (length rest)))
          + total size (cond b (outputs_from (n + 1) rest) (n ∷ outputs_from (n + 1) rest))
          ≤ size n + total size (range_with_len (n + 1) (length rest))
      go true e l = let m = one_result n in omega (arith, l, m)
      go false e l =
          let z : n + 0 ≡ n = omega arith in
          let m = one_output n (λ g. h 0 s refl e (subst (λ (j : ℕ). has all j ≡ true) (sym z) g)) in omega (arith, l, m)

module _ (name : ℕ → ℕ) (env : List Part) (all : List ℕ) (slim : AreSlim all env) where
  trees_nodes : (s : ℕ) (ks : List ℕ) → sum_by node_count (trees_from name env s ks) ≡ total (λ k. node_total (part_at env k)) ks
  trees_nodes s [] = refl
  trees_nodes s (k ∷ ks) =
      sum_by-cons node_count ((part_at env k).tree name s 0) (trees_from name env (s + length (part_at env k).scans) ks)
      ∙ ap₂ (λ i j. i + j) ((slim_at all env slim k).even name s 0) (trees_nodes (s + length (part_at env k).scans) ks)

  trees_narrow : (s : ℕ) (ks : List ℕ) → list_all is_narrow (trees_from name env s ks) ≡ true
  trees_narrow s [] = refl
  trees_narrow s (k ∷ ks) = and_true _ _ ((slim_at all env slim k).narrow name s 0) (trees_narrow (s + length (part_at env k).scans) ks)

  as_many : (s : ℕ) (ks : List ℕ) → length (trees_from name env s ks) ≡ length ks
  as_many s [] = refl
  as_many s (k ∷ ks) = ap suc (as_many (s + length (part_at env k).scans) ks)

all_scans : (env : List Part) (ks : List ℕ) → length (scans_of_all env ks) ≡ total (λ k. scan_total (part_at env k)) ks
unfolding scan_total
all_scans env [] = refl
all_scans env (k ∷ ks) = length-append (part_at env k).scans (scans_of_all env ks) ∙ ap (λ n. length (part_at env k).scans + n) (all_scans env ks)

pub gives_bounded : GivesBounded
unfolding Gives scan_total
gives_bounded script within = record {
  few_scans =
      let l = roots scan_total 1 0 scan_measure in
      let m = total_most 5 0 0 (length script) 64 within.few in
      let e = length_declared (scans_of_all env kept ++ scans_of_all env outs) (flat_map scans_of ((dag_of script).shared ++ (dag_of script).outputs)) in
      let f = length-append (scans_of_all env kept) (scans_of_all env outs) in
      let g = all_scans env kept in
      let h = all_scans env outs in
      omega (arith, l, m, e, f, g, h);
  few_shared =
      let l = as_many name env all slim 0 kept in
      let m = fewer (has near) (is_shared all) (range_with_len 0 (length env)) known in
      let n = within.shares in
      let e = ap (λ i. length (filter (is_shared all) (range_with_len 0 i))) long in
      omega (arith, l, m, n, e);
  few_outputs =
      let l = as_many name env all slim (length (scans_of_all env kept)) outs in
      let m = few_outs 0 script in
      let n = within.few in omega (arith, l, m, n);
  few_nodes =
      let l = roots node_total 2 1 node_measure in
      let m = total_most 18 0 0 (length script) 64 within.few in
      let e = sum_by-append node_count (dag_of script).shared (dag_of script).outputs in
      let f = trees_nodes name env all slim 0 kept in
      let g = trees_nodes name env all slim (length (scans_of_all env kept)) outs in
      omega (arith, l, m, e, f, g);
  narrow =
      list_all-append is_narrow (dag_of script).shared (dag_of script).outputs
      ∙ and_true _ _ (trees_narrow name env all slim 0 kept) (trees_narrow name env all slim (length (scans_of_all env kept)) outs);
}
  where
    all : List ℕ
    all = mentions [] script

    env : List Part
    env = parts_of script

    outs : List ℕ
    outs = outs_of script

    near : List ℕ
    near = reached outs 0 env

    kept : List ℕ
    kept = kept_of outs env

    name : ℕ → ℕ
    name = place_in kept

    slim : AreSlim all env
    slim = all_slim all [] [] script within.each (λ k b e. absurd (cc))

    long : length env ≡ length script
    long = keeps_length all [] [] script ∙ plain (length script)
      where
        plain : (n : ℕ) → 0 + n ≡ n
        plain n = omega arith

    known : (k : ℕ) → has near k ≡ true → is_shared all k ≡ true
    known = reached_shared all outs 0 env slim

    mentioned_there : (k : ℕ) → has all k ≡ true → Gives script k
    mentioned_there k h = mentions_give [] script tt within.each k h

    mentioned_below : (k : ℕ) → has all k ≡ true → k < length script
    mentioned_below k h = go (slice_get script k) refl (mentioned_there k h)
      where
        go : (o : Option Statement) → slice_get script k ≡ o → IsSomeAnd o (λ s. gives s.command ≡ true) → k < length script
        go None e g = absurd g
        go (Some s) e g = slice_get_within script k s e

    unmentioned : (i : ℕ) (s : Statement) → slice_get script i ≡ Some s → gives s.command ≡ false → has all (0 + i) ≡ true → ⊥
    unmentioned i s e f h =
        let z : 0 + i ≡ i = omega arith in
        let g : IsSomeAnd (slice_get script i) (λ t. gives t.command ≡ true) = mentioned_there i (subst (λ (j : ℕ). has all j ≡ true) z h) in
        let k : gives s.command ≡ true = subst (λ (o : Option Statement). IsSomeAnd o (λ t. gives t.command ≡ true)) e g in absurd (cc)

    roots : (size : Part → ℕ) (p q : ℕ) → IsMeasure size p q
        → total (λ k. size (part_at env k)) kept + total (λ k. size (part_at env k)) outs ≤ total (λ k. 5 * p + 8 * q) (range_with_len 0 (length script))
    roots size p q measure =
        let l = all_size size p q measure all env [] [] script 0 refl (λ k b e. absurd (cc)) within.each refl in
        let m = by_number (λ k. cond (is_shared all k) 0 (size (part_at env k))) all (length script) mentioned_below in
        let n = all_trees (λ k. size (part_at env k)) all near known 0 script unmentioned in
        let e = total_filter (λ k. size (part_at env k)) (has near) (range_with_len 0 (length env)) in
        let f = ap (λ i. total (λ k. cond (has near k) (size (part_at env k)) 0) (range_with_len 0 i)) long in
        omega (arith, l, m, n, e, f)
