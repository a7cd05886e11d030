-- The Dag of a script gives what the script means.
use Rattle.std.proofs.Common.{◌≡◌, ℕ, zero, suc, ◌+◌, ◌≤◌, Bool, true, false, cond, ◌||◌, List, [], ◌∷◌, ◌++◌, map, length, refl, sym, ap, ◌∙◌, arith, Option, Some, None, slice_get, ◌==◌, nat_lt}
use Rattle.std.specs.Prelude.{option_map, flat_map}
use Rattle.std.proofs.lemmas.Bool.Decides.{nat_tests}
use Rattle.col_sets.specs.declared.dir.Dir.{Dir}
use Rattle.col_sets.specs.Sets.{has}
use Rattle.col_sets.specs.Columns.{has-filter}
use Rattle.col_sets.specs.Tests.{both, or_left, or_right, to_test}
use Rattle.scope_value.specs.Keys.{keys_cmp}
use Rattle.scope_value.specs.Sorted.{sorted}
use Rattle.user_ops.specs.Told.{Operators}
use Rattle.placed_trees.specs.declared.source.Stream.{Stream}
use Rattle.logical_trees.specs.Tree.{columns_of}
use Rattle.logical_trees.specs.Rows.{Bag}
use Rattle.logical_trees.specs.Meaning.{Sources, bag_at, StandsFor}
use Rattle.column_ranks.specs.RowLemmas.{items_moved}
use Rattle.script_meaning.specs.Meaning.{places, Table}
use Rattle.script_meaning.specs.Part.{Part, number, cols_at}
use Rattle.script_meaning.specs.Bound.{mentions, parts_of}
use Rattle.script_meaning.specs.Dag.{part_at, outs_of, reached, kept_of, place_in, scans_of_all, trees_from, column_order, dag_of}
use Rattle.logical_dag.specs.DagMeaning.{in_order_opt, AllStand, Writes, drawn, scan_rows}
use Rattle.logical_dag.specs.Scripts.{scans_of}
use Rattle.script_meaning.specs.Laws.{stream_rows, table_at, written_at, results_of, GivesMeaning}
use Rattle.script_meaning.proofs.Declared.{rows_declared}
use Rattle.script_meaning.proofs.Shaped.{get_left, get_right}
use Rattle.script_meaning.proofs.Tied.{Reads, Tied, ranks}
use Rattle.script_meaning.proofs.Env.{AllTied, all_tied, start_tied}
use Rattle.script_meaning.proofs.Reached.{all_below, refs_kept}

-- what is made of an element, read at its place
read_place : (f : ℕ → Bag) (xs : List ℕ) (k : ℕ) → has xs k ≡ true → bag_at (map f xs) (place_in xs k) ≡ f k
read_place f [] k h = absurd (cc)
read_place f (x ∷ xs) k h = at (x == k) refl (read_place f xs k)
  where
    one_more : (m : ℕ) → 1 + m ≡ suc m
    one_more m = omega arith

    at : (b : Bool) → (x == k) ≡ b → (has xs k ≡ true → bag_at (map f xs) (place_in xs k) ≡ f k) → bag_at (map f (x ∷ xs)) (place_in (x ∷ xs) k) ≡ f k
    at true e again = let is : x ≡ k = grind (arith, nat_tests, e) in simp e (ap f is)
    at false e again = let g = simp e at h in simp e (rw (one_more (place_in xs k)) (again g))

bag_mapped : (input : Stream → Bag) (xs : List Stream) (i : ℕ) (d : Stream) → slice_get xs i ≡ Some d → bag_at (map input xs) i ≡ input d
bag_mapped input [] i d h = absurd (cc)
bag_mapped input (x ∷ xs) zero d h = let e : x ≡ d = cc in ap input e
bag_mapped input (x ∷ xs) (suc i) d h = bag_mapped input xs i d h

module _ (ops : Operators) (input : Stream → Bag) (rows_of : ℕ → Bag) (name : ℕ → ℕ) (env : List Part) (done : List Table) (from : Sources)
    (tied : AllTied ops input rows_of env done) (fits : (k : ℕ) → (part_at env k).count ≤ 128) where
  -- what the trees of these statements draw on is there
  record ReadsAll (s : ℕ) (ks : List ℕ) : Type 0 where
    scans : (i : ℕ) (d : Stream) → slice_get (scans_of_all env ks) i ≡ Some d → bag_at from.scans (s + i) ≡ input d
    refs : (k : ℕ) → has ks k ≡ true → (j : ℕ) → has (part_at env k).refs j ≡ true → bag_at from.shared (name j) ≡ rows_of j

  first_reads : (s k : ℕ) (ks : List ℕ) → ReadsAll s (k ∷ ks) → Reads ops input rows_of (part_at env k) name s 0 from
  first_reads s k ks r = record {
    scans = λ i d e. r.scans i d (get_left (part_at env k).scans (scans_of_all env ks) i d e);
    refs = λ j h. r.refs k (or_left _ _ (to_test k k refl)) j h;
    room = let l = fits k in omega (arith, l);
  }

  rest_reads : (s k : ℕ) (ks : List ℕ) → ReadsAll s (k ∷ ks) → ReadsAll (s + length (part_at env k).scans) ks
  rest_reads s k ks r = record {
    scans = λ i d e. ap (bag_at from.scans) (assoc s (length (part_at env k).scans) i) ∙ r.scans (length (part_at env k).scans + i) d (get_right (part_at env k).scans (scans_of_all env ks) i ∙ e);
    refs = λ j h. r.refs j (or_right _ _ h);
  }
    where
      assoc : (a b c : ℕ) → a + b + c ≡ a + (b + c)
      assoc a b c = omega arith

  stand : (s k : ℕ) (ks : List ℕ) → ReadsAll s (k ∷ ks) → StandsFor ops from ((part_at env k).tree name s 0) (table_at done k).rows
  stand s k ks r = (tied.each k).rows name s 0 from (first_reads s k ks r)

  all_stand : (s : ℕ) (ks : List ℕ) → ReadsAll s ks → AllStand ops from (trees_from name env s ks) (map (λ k. (table_at done k).rows) ks)
  all_stand s [] r = tt
  all_stand s (k ∷ ks) r = (stand s k ks r, all_stand (s + length (part_at env k).scans) ks (rest_reads s k ks r))

  ordered : (b : Part) (A : Table) → Tied ops input rows_of b A → b.count ≤ 128 → (s : ℕ) → in_order_opt (column_order b) (columns_of (b.tree name s 0)) A.rows ≡ in_order_opt A.order (places A.width) A.rows
  ordered b A t l s =
      ap (λ cs. in_order_opt (column_order b) cs A.rows) (t.shape.columns name s 0 (omega arith))
      ∙ go b.order
      ∙ ap (λ o. in_order_opt o (places A.width) A.rows) t.order
    where
      go : (o : Option (List (ℕ × Dir))) → in_order_opt (option_map (map (λ k. (number b 0 k.0, k.1))) o) (cols_at b 0) A.rows ≡ in_order_opt o (places A.width) A.rows
      go None = refl
      go (Some order) = ap (λ its. sorted (keys_cmp its true) A.rows) (items_moved (number b 0) (places A.width) (cols_at b 0) (ranks ops input rows_of b A t 0 (omega arith)) order)

  all_written : (s : ℕ) (ks : List ℕ) → ReadsAll s ks
      → Writes ops from (map (λ k. column_order (part_at env k)) ks) (trees_from name env s ks) (map (written_at done) ks)
  all_written s [] r = tt
  all_written s (k ∷ ks) r =
      (((table_at done k).rows, stand s k ks r, ordered (part_at env k) (table_at done k) (tied.each k) (fits k) s), all_written (s + length (part_at env k).scans) ks (rest_reads s k ks r))

pub gives_meaning : GivesMeaning
gives_meaning ops input script fits told = (
  map rows_of kept,
  all_stand ops (stream_rows input) rows_of (place_in kept) env done from tied fits 0 kept (record { scans = λ i d e. ap (bag_at from.scans) (zeroed i) ∙ in_scans i d (get_left _ _ i d e); refs = kept_refs }),
  all_written ops (stream_rows input) rows_of (place_in kept) env done from tied fits (length (scans_of_all env kept)) outs
      (record { scans = λ i d e. in_scans (length (scans_of_all env kept) + i) d (get_right (scans_of_all env kept) (scans_of_all env outs) i ∙ e); refs = out_refs }),
)
  where
    env : List Part
    env = parts_of script

    outs : List ℕ
    outs = outs_of script

    kept : List ℕ
    kept = kept_of outs env

    done : List Table
    done = results_of ops input script

    rows_of : ℕ → Bag
    rows_of k = (table_at done k).rows

    from : Sources
    from = drawn (map (scan_rows input) (dag_of script).scans) (map rows_of kept)

    tied : AllTied ops (stream_rows input) rows_of env done
    tied = all_tied ops (stream_rows input) rows_of (mentions [] script) [] [] [] script (start_tied ops (stream_rows input) rows_of) (λ k l. refl) told

    zeroed : (n : ℕ) → 0 + n ≡ n
    zeroed n = omega arith

    in_scans : (i : ℕ) (d : Stream) → slice_get (scans_of_all env kept ++ scans_of_all env outs) i ≡ Some d → bag_at from.scans i ≡ stream_rows input d
    in_scans i d e =
        ap (λ bags. bag_at bags i) (rows_declared input (scans_of_all env kept ++ scans_of_all env outs) (flat_map scans_of ((dag_of script).shared ++ (dag_of script).outputs)))
        ∙ bag_mapped (stream_rows input) (scans_of_all env kept ++ scans_of_all env outs) i d e

    live : (k : ℕ) → (has outs k || has (reached outs 0 env) k) ≡ true → (j : ℕ) → has (part_at env k).refs j ≡ true → bag_at from.shared (place_in kept j) ≡ rows_of j
    live k l j m = read_place rows_of kept j (refs_kept outs env (all_below (mentions [] script) [] [] script tt) k l j m)

    out_refs : (k : ℕ) → has outs k ≡ true → (j : ℕ) → has (part_at env k).refs j ≡ true → bag_at from.shared (place_in kept j) ≡ rows_of j
    out_refs k h = live k (or_left _ _ h)

    kept_refs : (k : ℕ) → has kept k ≡ true → (j : ℕ) → has (part_at env k).refs j ≡ true → bag_at from.shared (place_in kept j) ≡ rows_of j
    kept_refs k h = live k (or_right _ _ (both (cond (nat_lt k 0) false (nat_lt k (0 + length env))) (has (reached outs 0 env) k) (sym (has-filter (has (reached outs 0 env)) k (length env) 0) ∙ h)).1)
