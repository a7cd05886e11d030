-- The Dag of a script that names what is there is one that binding can give.
use Rattle.std.proofs.Common.{◌≡◌, ℕ, zero, suc, ◌+◌, ◌<◌, ◌≤◌, Bool, true, false, cond, ◌||◌, List, [], ◌∷◌, ◌++◌, map, flat_map, length, take, refl, sym, ap, ap₂, ◌∙◌, subst, arith, Option, Some, None, slice_get, ◌==◌, nat_eq, nat_lt, ◌⊎◌, inl, inr}
use Rattle.std.specs.Prelude.{option_map, IsSomeAnd, IfSome, All}
use Rattle.std.specs.List.{range_with_len}
use Rattle.std.proofs.lemmas.Bool.Decides.{nat_tests}
use Rattle.std.proofs.lemmas.List.{length-map, length-append, length_push, map-append}
use Rattle.std.proofs.lemmas.List.FromFn.{length-range_with_len}
use Rattle.std.proofs.lemmas.Grind.{flat_map-append}
use Rattle.std.proofs.lemmas.Option.{slice_get_within}
use Rattle.col_sets.specs.Sets.{has, count}
use Rattle.col_sets.specs.Columns.{has-filter}
use Rattle.col_sets.specs.Tests.{either, both, or_left, or_right, from_test, to_test}
use Rattle.col_sets.specs.declared.dir.Dir.{Dir}
use Rattle.logical_trees.specs.Tree.{Expression, columns_of}
use Rattle.logical_trees.specs.Rows.{order_of}
use Rattle.logical_trees.specs.Formed.{IsOrderOver}
use Rattle.logical_dag.specs.Scripts.{scans_of, IsWritten, IsStoredOver}
use Rattle.column_ranks.specs.Rising.{IsRising}
use Rattle.column_ranks.specs.RisingLemmas.{rising_from, rising_below, rising_range, rising_filter}
use Rattle.placed_trees.specs.declared.command.Command.{Command}
use Rattle.placed_trees.specs.declared.command.Command.TheVariants.{Extract, Select, Process, Reduce, Combine, Output}
use Rattle.placed_trees.specs.declared.query.Beside.{Beside}
use Rattle.placed_trees.specs.declared.query.Beside.TheVariants.{Inners, Outer}
use Rattle.placed_trees.specs.declared.query.Joined.{Joined}
use Rattle.placed_trees.specs.declared.source.Source.{Source}
use Rattle.placed_trees.specs.declared.source.Source.TheVariants.{FromResult, FromStream}
use Rattle.placed_trees.specs.declared.source.StoredPlaces.{StoredPlaces}
use Rattle.placed_trees.specs.declared.source.Stream.{Stream}
use Rattle.placed_trees.specs.declared.statement.Statement.{Statement}
use Rattle.placed_trees.specs.Inputs.{gives, input_at}
use Rattle.script_meaning.specs.Part.{Part, cols_at, number, stored_at}
use Rattle.script_meaning.specs.Bound.{mentions, is_shared, stands, found, placed, source_part, from_part, beside_part, bound, bound_from, parts_of}
use Rattle.script_meaning.specs.Dag.{or_nothing, part_at, outputs_from, outs_of, reached, kept_of, place_in, scans_of_all, trees_from, column_order, column_stored, dag_of}
use Rattle.script_meaning.specs.Placed.{IsSourceThere, AreJoinsPlaced, IsBesidePlaced, IsCommandPlaced, ArePlaced}
use Rattle.script_meaning.specs.Written.{AreOutputsOver, GivesBindable}
use Rattle.script_meaning.proofs.Named.{all_none, all_more, presort_over, stored_over}
use Rattle.script_meaning.proofs.Declared.{length_declared, declared_over}
use Rattle.script_meaning.proofs.Built.{range_append, AreDeclared, declared_append, AreKnown, IsBuilt, there, query_built, process_built, reduce_built, stored_built, scanned_built, referred_built, joined_built, combine_built}
use Rattle.script_meaning.proofs.Env.{get_below, get_last, get_past}
use Rattle.script_meaning.proofs.Reached.{AllBelow, below_at, all_below, refs_kept}

-- ---- places of lists

pub not_none : {X : Type 0} (xs : List X) (k : ℕ) → k < length xs → slice_get xs k ≡ None → ⊥
not_none [] k l h = omega arith
not_none (x ∷ xs) zero l h = absurd (cc)
not_none (x ∷ xs) (suc k) l h = not_none xs k (omega arith) h

get_take : {X : Type 0} (xs : List X) (i p : ℕ) → p < i → slice_get (take i xs) p ≡ slice_get xs p
get_take xs zero p l = absurd (omega arith)
get_take [] (suc i) p l = refl
get_take (x ∷ xs) (suc i) zero l = refl
get_take (x ∷ xs) (suc i) (suc p) l = get_take xs i p (omega arith)

at_has : (ks : List ℕ) (i k : ℕ) → slice_get ks i ≡ Some k → has ks k ≡ true
at_has [] i k h = absurd (cc)
at_has (x ∷ ks) zero k h = let e : x ≡ k = cc in or_left _ _ (to_test x k e)
at_has (x ∷ ks) (suc i) k h = or_right _ _ (at_has ks i k h)

-- in an ascending list a lesser element has a lesser place
place_before : (a b : ℕ) (ks : List ℕ) → IsRising a ks b → (i k j : ℕ) → slice_get ks i ≡ Some k → has ks j ≡ true → j < k → place_in ks j < i
place_before a b [] r i k j h m l = absurd (cc)
place_before a b (x ∷ ks) r zero k j h m l = let e : x ≡ k = cc in go e (either _ _ m)
  where
    go : x ≡ k → (nat_eq x j ≡ true) ⊎ (has ks j ≡ true) → place_in (x ∷ ks) j < 0
    go e (inl q) = let f : x ≡ j = from_test x j q in absurd (omega arith)
    go e (inr q) = let f : suc x ≤ j = rising_from (suc x) b ks j r.1 q in absurd (omega arith)
place_before a b (x ∷ ks) r (suc i) k j h m l = go (x == j) refl (λ q. place_before (suc x) b ks r.1 i k j h q l)
  where
    go : (t : Bool) → (x == j) ≡ t → (has ks j ≡ true → place_in ks j < i) → place_in (x ∷ ks) j < suc i
    go true e more = simp e (omega arith)
    go false e more = let q : has ks j ≡ true = (rw e at m) in let n : place_in ks j < i = more q in simp e (omega arith)

-- ---- the parts of all statements

pub keeps_length : (all : List ℕ) (earlier : List Statement) (env : List Part) (rest : List Statement) → length (bound_from all earlier env rest) ≡ length env + length rest
keeps_length all earlier env [] = omega arith
keeps_length all earlier env (s ∷ rest) =
    let h = keeps_length all (earlier ++ s ∷ []) (env ++ bound all earlier env s.command ∷ []) rest in
    let m = length_push env (bound all earlier env s.command) in
    omega (arith, h, m)

pub env_keeps : (all : List ℕ) (earlier : List Statement) (env : List Part) (rest : List Statement) (k : ℕ) → k < length env → slice_get (bound_from all earlier env rest) k ≡ slice_get env k
env_keeps all earlier env [] k l = refl
env_keeps all earlier env (s ∷ rest) k l =
    let m = length_push env (bound all earlier env s.command) in
    let more : k < length (env ++ bound all earlier env s.command ∷ []) = omega (arith, m) in
    env_keeps all (earlier ++ s ∷ []) (env ++ bound all earlier env s.command ∷ []) rest k more ∙ get_below env (bound all earlier env s.command) k l

module _ (width_of : ℕ → ℕ) where
  abbrev pub AreBuilt : List Part → Type 0
  AreBuilt env = (k : ℕ) (b : Part) → slice_get env k ≡ Some b → IsBuilt width_of b

  abbrev pub AreWide : List Part → Type 0
  AreWide env = (k : ℕ) (b : Part) → slice_get env k ≡ Some b → width_of k ≡ length b.cols

  pub placed_built : (all : List ℕ) (env : List Part) → AreBuilt env → AreWide env → (i : Option ℕ) → IsSomeAnd i (λ k. k < length env) → IsBuilt width_of (placed all env i)
  placed_built all env h w None l = absurd l
  placed_built all env h w (Some k) l = go (slice_get env k) refl
    where
      go : (o : Option Part) → slice_get env k ≡ o → IsBuilt width_of (found all k o)
      go None e = absurd (not_none env k l e)
      go (Some b) e = at (is_shared all k)
        where
          at : (s : Bool) → IsBuilt width_of (stands s k b)
          at true = referred_built width_of k b (h k b e) (w k b e)
          at false = h k b e

  pub source_built : (all : List ℕ) (earlier : List Statement) (env : List Part) → AreBuilt env → AreWide env → (source : Source) → IsSourceThere earlier env source
      → IsBuilt width_of (source_part all earlier env source)
  source_built all earlier env h w (FromResult i) l = placed_built all env h w (input_at earlier i) l
  source_built all earlier env h w (FromStream d) l = scanned_built width_of d l

  pub joins_built : (all : List ℕ) (earlier : List Statement) (env : List Part) → AreBuilt env → AreWide env → (joins : List Joined) (a : Part) → IsBuilt width_of a → AreJoinsPlaced all earlier env a joins
      → IsBuilt width_of (from_part all earlier env a joins)
  joins_built all earlier env h w [] a b p = b
  joins_built all earlier env h w (j ∷ joins) a b p =
      joins_built all earlier env h w joins _ (joined_built width_of j.on a _ b (source_built all earlier env h w j.source p.0) p.1) p.2

  pub beside_all_built : (all : List ℕ) (earlier : List Statement) (env : List Part) → AreBuilt env → AreWide env → (beside : Beside) (a : Part) → IsBuilt width_of a → IsBesidePlaced all earlier env a beside
      → IsBuilt width_of (beside_part all earlier env a beside)
  beside_all_built all earlier env h w (Inners joins) a b p = joins_built all earlier env h w joins a b p
  beside_all_built all earlier env h w (Outer side call j) a b p = combine_built width_of j.on None None call a _ b (source_built all earlier env h w j.source p.0) p.1 tt tt

  pub bound_built : (all : List ℕ) (earlier : List Statement) (env : List Part) → AreBuilt env → AreWide env → (c : Command) → IsCommandPlaced all earlier env c → IsBuilt width_of (bound all earlier env c)
  bound_built all earlier env h w (Extract d) p = scanned_built width_of d p
  bound_built all earlier env h w (Select q) p =
      query_built width_of q _ (beside_all_built all earlier env h w q.beside _ (source_built all earlier env h w q.source p.0) p.1) p.2
  bound_built all earlier env h w (Process source call) p = process_built width_of call _ (source_built all earlier env h w source p)
  bound_built all earlier env h w (Reduce source on presort call) p = reduce_built width_of on presort call _ (source_built all earlier env h w source p.0) p.1 p.2
  bound_built all earlier env h w (Combine source before other after on call) p =
      combine_built width_of on before after call _ _ (source_built all earlier env h w source p.0) (source_built all earlier env h w other p.1) p.2 p.3 p.4
  bound_built all earlier env h w (Output o) p = stored_built width_of o.stored _ (placed_built all env h w (input_at earlier o.source) p.0) p.1

  push_built : (env : List Part) (b : Part) → AreBuilt env → IsBuilt width_of b → AreBuilt (env ++ b ∷ [])
  push_built env b h new k x e = at (nat_lt k (length env)) refl (k == length env) refl
    where
      at : (l : Bool) → nat_lt k (length env) ≡ l → (m : Bool) → (k == length env) ≡ m → IsBuilt width_of x
      at true p m q = let w : k < length env = grind (arith, nat_tests, p) in h k x (sym (get_below env b k w) ∙ e)
      at false p true q =
          let w : k ≡ length env = grind (arith, nat_tests, q) in
          let f : Some b ≡ Some x = sym (get_last env b k w) ∙ e in
          let g : b ≡ x = cc in subst (IsBuilt width_of) g new
      at false p false q =
          let w : length env < k = grind (arith, nat_tests, p, q) in
          let f : None ≡ Some x = sym (get_past env b k w) ∙ e in absurd (cc)

  pub all_built : (all : List ℕ) (earlier : List Statement) (env : List Part) (rest : List Statement) → ArePlaced all earlier env rest → AreBuilt env → AreWide (bound_from all earlier env rest)
      → AreBuilt (bound_from all earlier env rest)
  all_built all earlier env [] p h w = h
  all_built all earlier env (s ∷ rest) p h w =
      all_built all (earlier ++ s ∷ []) _ rest p.1
      (push_built env _ h (bound_built all earlier env h (λ k b e. w k b (env_keeps all earlier env (s ∷ rest) k (slice_get_within env k b e) ∙ e)) s.command p.0)) w

pub outs_below : (n : ℕ) (rest : List Statement) (k : ℕ) → has (outputs_from n rest) k ≡ true → k < n + length rest
outs_below n [] k h = absurd (cc)
outs_below n (s ∷ rest) k h = go (gives s.command) (λ q. let l : k < n + 1 + length rest = outs_below (n + 1) rest k q in omega arith) h
  where
    go : (b : Bool) → (has (outputs_from (n + 1) rest) k ≡ true → k < n + suc (length rest)) → has (cond b (outputs_from (n + 1) rest) (n ∷ outputs_from (n + 1) rest)) k ≡ true → k < n + suc (length rest)
    go true more m = more m
    go false more m = which (either _ _ m)
      where
        which : (nat_eq n k ≡ true) ⊎ (has (outputs_from (n + 1) rest) k ≡ true) → k < n + suc (length rest)
        which (inl q) = let e : n ≡ k = from_test n k q in omega arith
        which (inr q) = more q

-- a stored output has no order in columns where it has none by place
unordered : (f : ℕ → ℕ) (stored : Option StoredPlaces) (order : Option (List (ℕ × Dir))) → IfSome stored (λ s. order ≡ None)
    → IfSome (stored_at f stored) (λ s. option_map (map {B = ℕ × Dir} (λ k. (f k.0, k.1))) order ≡ None)
unordered f None order h = tt
unordered f (Some s) order h = ap (option_map (map {B = ℕ × Dir} (λ k. (f k.0, k.1)))) h

-- ---- the trees of the Dag

module _ (name : ℕ → ℕ) (env : List Part) where
  -- the tree at a place of the list
  at_tree : (P : Expression → Type 0) (ks : List ℕ) (s i : ℕ) → ((k s' : ℕ) → slice_get ks i ≡ Some k → P ((part_at env k).tree name s' 0)) → IfSome (slice_get (trees_from name env s ks) i) P
  at_tree P [] s i f = tt
  at_tree P (k ∷ ks) s zero f = f k s refl
  at_tree P (k ∷ ks) s (suc i) f = at_tree P ks (s + length (part_at env k).scans) i f

  all_trees : (P : Expression → Type 0) (ks : List ℕ) (s : ℕ) → ((k s' : ℕ) → has ks k ≡ true → P ((part_at env k).tree name s' 0)) → All P (trees_from name env s ks)
  all_trees P [] s f = all_none P
  all_trees P (k ∷ ks) s f =
      all_more P ((part_at env k).tree name s 0) (trees_from name env (s + length (part_at env k).scans) ks) (f k s (or_left _ _ (to_test k k refl)))
      (all_trees P ks (s + length (part_at env k).scans) (λ j s' h. f j s' (or_right _ _ h)))

  -- what is known of each tree is known of the one at an element's place
  at_place : (P : List ℕ → Type 0) (ks : List ℕ) (s j : ℕ) → has ks j ≡ true → ((s' : ℕ) → P (columns_of ((part_at env j).tree name s' 0))) → IsSomeAnd (slice_get (map columns_of (trees_from name env s ks)) (place_in ks j)) P
  at_place P [] s j h f = absurd (cc)
  at_place P (x ∷ ks) s j h f = at (x == j) refl (λ q. at_place P ks (s + length (part_at env x).scans) j q f)
    where
      one_more : (m : ℕ) → 1 + m ≡ suc m
      one_more m = omega arith

      at : (b : Bool) → (x == j) ≡ b → (has ks j ≡ true → IsSomeAnd (slice_get (map columns_of (trees_from name env (s + length (part_at env x).scans) ks)) (place_in ks j)) P)
          → IsSomeAnd (slice_get (map columns_of (trees_from name env s (x ∷ ks))) (place_in (x ∷ ks) j)) P
      at true e again =
          let is : x ≡ j = grind (arith, nat_tests, e) in
          simp e (subst (λ (i : ℕ). P (columns_of ((part_at env i).tree name s 0))) (sym is) (f s))
      at false e again = let g = simp e at h in simp e (rw (one_more (place_in ks j)) (again g))

  module _ (width_of : ℕ → ℕ) (built : (k : ℕ) → k < length env → IsBuilt width_of (part_at env k)) where
    trees_scans : (ks : List ℕ) (s : ℕ) → ((k : ℕ) → has ks k ≡ true → k < length env)
        → map (λ x. x.0) (flat_map scans_of (trees_from name env s ks)) ≡ range_with_len s (length (scans_of_all env ks))
    trees_scans [] s h = refl
    trees_scans (k ∷ ks) s h =
        map-append (λ (x : ℕ × List ℕ). x.0) (scans_of ((part_at env k).tree name s 0)) (flat_map scans_of (trees_from name env (s + length (part_at env k).scans) ks))
        ∙ ap₂ (λ l m. l ++ m) ((built k (h k (or_left _ _ (to_test k k refl)))).scans name s 0) (trees_scans ks (s + length (part_at env k).scans) (λ j q. h j (or_right _ _ q)))
        ∙ range_append s (length (part_at env k).scans) (length (scans_of_all env ks))
        ∙ ap (range_with_len s) (sym (length-append (part_at env k).scans (scans_of_all env ks)))

    trees_wide : (ks : List ℕ) (s : ℕ) → ((k : ℕ) → has ks k ≡ true → k < length env)
        → map (λ x. count x.1) (flat_map scans_of (trees_from name env s ks)) ≡ map (λ d. length d.schema) (scans_of_all env ks)
    trees_wide [] s h = refl
    trees_wide (k ∷ ks) s h =
        map-append (λ (x : ℕ × List ℕ). length x.1) (scans_of ((part_at env k).tree name s 0)) (flat_map scans_of (trees_from name env (s + length (part_at env k).scans) ks))
        ∙ ap₂ (λ l m. l ++ m) ((built k (h k (or_left _ _ (to_test k k refl)))).widths name s 0) (trees_wide ks (s + length (part_at env k).scans) (λ j q. h j (or_right _ _ q)))
        ∙ sym (map-append (λ (d : Stream). length d.schema) (part_at env k).scans (scans_of_all env ks))

    scans_declared : (ks : List ℕ) → ((k : ℕ) → has ks k ≡ true → k < length env) → AreDeclared (scans_of_all env ks)
    scans_declared [] h = tt
    scans_declared (k ∷ ks) h =
        declared_append (part_at env k).scans (scans_of_all env ks) (built k (h k (or_left _ _ (to_test k k refl)))).declared (scans_declared ks (λ j q. h j (or_right _ _ q)))

    module _ (fits : (k : ℕ) → (part_at env k).count ≤ 128) where
      -- an output's order, and what it is stored by, are over its columns
      all_over : (ks : List ℕ) (s : ℕ) → ((k : ℕ) → has ks k ≡ true → k < length env)
          → AreOutputsOver (map (λ k. column_order (part_at env k)) ks) (map (λ k. column_stored (part_at env k)) ks) (trees_from name env s ks)
      all_over [] s h = tt
      all_over (k ∷ ks) s h =
          let a = part_at env k in
          let b = built k (h k (or_left _ _ (to_test k k refl))) in
          let room : 0 + a.count ≤ 128 = let l = fits k in omega (arith, l) in
          let same = sym (b.shape.columns name s 0 room) in (
            (
              subst (λ (cols : List ℕ). IsOrderOver cols (order_of (column_order a))) same
                  (presort_over (number a 0) (cols_at a 0) (length a.cols) (there width_of a 0) a.order b.order),
              subst (λ (cols : List ℕ). IsStoredOver cols (column_stored a)) same
                  (stored_over (number a 0) (cols_at a 0) (length a.cols) (there width_of a 0) a.stored b.stored.0),
              unordered (number a 0) a.stored a.order b.stored.1,
            ),
            all_over ks (s + length a.scans) (λ j q. h j (or_right _ _ q)),
          )

      -- a tree is written, where what it refers to is there
      tree_written : (results : List (List ℕ)) (k s : ℕ) → k < length env → AreKnown width_of results name (part_at env k).refs → IsWritten results ((part_at env k).tree name s 0)
      tree_written results k s l known =
          let b = built k l in
          let room : 0 + (part_at env k).count ≤ 128 = let m = fits k in omega (arith, m) in
          record {
            whole = b.whole name s 0;
            plain = b.plain name s 0;
            formed = b.formed name s 0 results room known;
            numbered = b.numbers name s 0 ∙ ap (range_with_len 0) (sym (ap length (b.numbers name s 0) ∙ length-range_with_len 0 (part_at env k).count));
          }

      tree_width : (k s : ℕ) → k < length env → width_of k ≡ length (part_at env k).cols → count (columns_of ((part_at env k).tree name s 0)) ≡ width_of k
      tree_width k s l w =
          let room : 0 + (part_at env k).count ≤ 128 = let m = fits k in omega (arith, m) in
          ap length ((built k l).shape.columns name s 0 room) ∙ length-map (part_at env k).cols (λ p. 0 + p) ∙ sym w

pub gives_bindable : GivesBindable
gives_bindable script fits is_placed = record {
  earlier = λ i. at_tree name env (IsWritten (take i results)) kept 0 i (λ k s e.
      let l : k < length env = kept_below k (at_has kept i k e) in
      tree_written name env width_of built fits (take i results) k s l (λ j m.
      let q : has kept j ≡ true = refs k (or_right _ _ (kept_reached k (at_has kept i k e))) j m in
      let before : place_in kept j < i = place_before 0 (length env) kept ascending i k j e q (lower k l j m) in
      subst (λ (o : Option (List ℕ)). IsSomeAnd o (λ result. count result ≡ width_of j)) (sym (get_take results i (place_in kept j) before)) (known j q)));
  all = all_trees name env (IsWritten results) outs (length (scans_of_all env kept)) (λ k s h.
      tree_written name env width_of built fits results k s (outs_in k h) (λ j m. known j (refs k (or_left _ _ h) j m)));
  numbered =
      ap (map (λ (x : ℕ × List ℕ). x.0)) (flat_map-append scans_of (dag_of script).shared (dag_of script).outputs)
      ∙ map-append (λ (x : ℕ × List ℕ). x.0) (flat_map scans_of (dag_of script).shared) (flat_map scans_of (dag_of script).outputs)
      ∙ ap₂ (λ l m. l ++ m) (trees_scans name env width_of built kept 0 kept_below) (trees_scans name env width_of built outs (length (scans_of_all env kept)) outs_in)
      ∙ ap (λ n. range_with_len 0 (length (scans_of_all env kept)) ++ range_with_len n (length (scans_of_all env outs))) (from_zero (length (scans_of_all env kept)))
      ∙ range_append 0 (length (scans_of_all env kept)) (length (scans_of_all env outs))
      ∙ ap (range_with_len 0)
      (sym (length_declared (scans_of_all env kept ++ scans_of_all env outs) (flat_map scans_of ((dag_of script).shared ++ (dag_of script).outputs))
      ∙ length-append (scans_of_all env kept) (scans_of_all env outs)));
  declared =
      declared_over (scans_of_all env kept ++ scans_of_all env outs) (flat_map scans_of ((dag_of script).shared ++ (dag_of script).outputs)) wide
      (declared_append (scans_of_all env kept) (scans_of_all env outs) (scans_declared name env width_of built kept kept_below) (scans_declared name env width_of built outs outs_in));
  over = all_over name env width_of built fits outs (length (scans_of_all env kept)) outs_in;
}
  where
    env : List Part
    env = parts_of script

    outs : List ℕ
    outs = outs_of script

    kept : List ℕ
    kept = kept_of outs env

    name : ℕ → ℕ
    name = place_in kept

    results : List (List ℕ)
    results = map columns_of (trees_from name env 0 kept)

    width_of : ℕ → ℕ
    width_of k = length (part_at env k).cols

    from_zero : (n : ℕ) → n ≡ 0 + n
    from_zero n = omega arith

    get_part : (k : ℕ) → k < length env → slice_get env k ≡ Some (part_at env k)
    get_part k l = go (slice_get env k) refl
      where
        go : (o : Option Part) → slice_get env k ≡ o → slice_get env k ≡ Some (or_nothing (slice_get env k))
        go None e = absurd (not_none env k l e)
        go (Some b) e = rw e refl

    built : (k : ℕ) → k < length env → IsBuilt width_of (part_at env k)
    built k l =
        all_built width_of (mentions [] script) [] [] script is_placed (λ j b e. absurd (cc)) (λ j b e. ap (λ o. length (or_nothing o).cols) e) k (part_at env k) (get_part k l)

    ascending : IsRising 0 kept (length env)
    ascending = rising_filter (has (reached outs 0 env)) 0 (length env) (range_with_len 0 (length env)) (rising_range 0 (length env) (length env) (omega arith))

    kept_below : (k : ℕ) → has kept k ≡ true → k < length env
    kept_below k h = rising_below 0 (length env) kept k ascending h

    outs_in : (k : ℕ) → has outs k ≡ true → k < length env
    outs_in k h =
        let l : k < 0 + length script = outs_below 0 script k h in
        let e : length env ≡ 0 + length script = keeps_length (mentions [] script) [] [] script in omega (arith, l, e)

    wide : map (λ x. count x.1) (flat_map scans_of ((dag_of script).shared ++ (dag_of script).outputs)) ≡ map (λ d. length d.schema) (scans_of_all env kept ++ scans_of_all env outs)
    wide =
        ap (map (λ (x : ℕ × List ℕ). length x.1)) (flat_map-append scans_of (dag_of script).shared (dag_of script).outputs)
        ∙ map-append (λ (x : ℕ × List ℕ). length x.1) (flat_map scans_of (dag_of script).shared) (flat_map scans_of (dag_of script).outputs)
        ∙ ap₂ (λ l m. l ++ m) (trees_wide name env width_of built kept 0 kept_below) (trees_wide name env width_of built outs (length (scans_of_all env kept)) outs_in)
        ∙ sym (map-append (λ (d : Stream). length d.schema) (scans_of_all env kept) (scans_of_all env outs))

    below : AllBelow 0 env
    below = all_below (mentions [] script) [] [] script tt

    refs : (k : ℕ) → (has outs k || has (reached outs 0 env) k) ≡ true → (j : ℕ) → has (part_at env k).refs j ≡ true → has kept j ≡ true
    refs k live j m = refs_kept outs env below k live j m

    kept_reached : (k : ℕ) → has kept k ≡ true → has (reached outs 0 env) k ≡ true
    kept_reached k h = (both (cond (nat_lt k 0) false (nat_lt k (0 + length env))) (has (reached outs 0 env) k) (sym (has-filter (has (reached outs 0 env)) k (length env) 0) ∙ h)).1

    lower : (k : ℕ) → k < length env → (j : ℕ) → has (part_at env k).refs j ≡ true → j < k
    lower k l j m = let h : j < 0 + k = below_at 0 env k (part_at env k) below (get_part k l) j m in omega arith

    known : (j : ℕ) → has kept j ≡ true → IsSomeAnd (slice_get results (place_in kept j)) (λ result. count result ≡ width_of j)
    known j q = at_place name env (λ result. count result ≡ width_of j) kept 0 j q (λ s. tree_width name env width_of built fits j s (kept_below j q) refl)
