-- The parts of all statements give their statements' results.
use Rattle.std.proofs.Common.{◌≡◌, ℕ, zero, suc, ◌<◌, ◌≤◌, Bool, true, false, List, [], ◌∷◌, ◌++◌, length, refl, ap, ◌∙◌, arith, Option, Some, None, subst, slice_get, ◌==◌, nat_lt}
use Rattle.std.proofs.lemmas.Bool.Decides.{nat_tests}
use Rattle.std.proofs.lemmas.List.{length_push}
use Rattle.std.proofs.lemmas.Option.{slice_get_within}
use Rattle.user_ops.specs.Told.{Operators}
use Rattle.logical_trees.specs.Rows.{Bag}
use Rattle.placed_trees.specs.declared.command.Command.{Command}
use Rattle.placed_trees.specs.declared.command.Command.TheVariants.{Extract, Select, Process, Reduce, Combine, Output}
use Rattle.placed_trees.specs.declared.query.Beside.{Beside}
use Rattle.placed_trees.specs.declared.query.Beside.TheVariants.{Inners, Outer}
use Rattle.placed_trees.specs.declared.query.Joined.{Joined}
use Rattle.placed_trees.specs.declared.source.Source.{Source}
use Rattle.placed_trees.specs.declared.source.Source.TheVariants.{FromResult, FromStream}
use Rattle.placed_trees.specs.declared.source.Stream.{Stream}
use Rattle.placed_trees.specs.declared.statement.Statement.{Statement}
use Rattle.placed_trees.specs.Inputs.{input_at}
use Rattle.script_meaning.specs.Meaning.{Table, or_no_table, result_at, source_rows, from_rows, beside_rows, result, results}
use Rattle.script_meaning.specs.Part.{Part}
use Rattle.script_meaning.specs.Bound.{is_shared, stands, found, placed, source_part, from_part, beside_part, bound, bound_from}
use Rattle.script_meaning.specs.Dag.{or_nothing, part_at}
use Rattle.script_meaning.specs.Laws.{table_at, IsBesideTold, IsCommandTold, AreOuterTold}
use Rattle.script_meaning.proofs.Tied.{Tied, nothing_tied, scanned_tied, referred_tied, joined_tied, process_tied, reduce_tied, combine_tied, outer_tied, query_tied, stored_tied}

pub get_below : {A : Type 0} (xs : List A) (x : A) (k : ℕ) → k < length xs → slice_get (xs ++ x ∷ []) k ≡ slice_get xs k
get_below [] x k h = absurd (omega arith)
get_below (y ∷ xs) x zero h = refl
get_below (y ∷ xs) x (suc k) h = get_below xs x k (omega arith)

pub get_last : {A : Type 0} (xs : List A) (x : A) (k : ℕ) → k ≡ length xs → slice_get (xs ++ x ∷ []) k ≡ Some x
get_last [] x zero h = refl
get_last [] x (suc k) h = absurd (omega arith)
get_last (y ∷ xs) x zero h = absurd (omega arith)
get_last (y ∷ xs) x (suc k) h = get_last xs x k (omega arith)

pub get_past : {A : Type 0} (xs : List A) (x : A) (k : ℕ) → length xs < k → slice_get (xs ++ x ∷ []) k ≡ None
get_past [] x zero h = absurd (omega arith)
get_past [] x (suc k) h = refl
get_past (y ∷ xs) x zero h = absurd (omega arith)
get_past (y ∷ xs) x (suc k) h = get_past xs x k (omega arith)

-- later statements change no earlier result
results_more : (ops : Operators) (input : Stream → Bag) (earlier : List Statement) (done : List Table) (rest : List Statement) → length done ≤ length (results ops input earlier done rest)
results_more ops input earlier done [] = omega arith
results_more ops input earlier done (s ∷ rest) =
    let h = results_more ops input (earlier ++ s ∷ []) (done ++ result ops input earlier done s.command ∷ []) rest in
    let m = length_push done (result ops input earlier done s.command) in
    omega (arith, h, m)

results_keep : (ops : Operators) (input : Stream → Bag) (earlier : List Statement) (done : List Table) (rest : List Statement) (k : ℕ) → k < length done
    → slice_get (results ops input earlier done rest) k ≡ slice_get done k
results_keep ops input earlier done [] k h = refl
results_keep ops input earlier done (s ∷ rest) k h =
    let a = result ops input earlier done s.command in
    let more : k < length (done ++ a ∷ []) = let m = length_push done a in omega (arith, m) in
    results_keep ops input (earlier ++ s ∷ []) (done ++ a ∷ []) rest k more ∙ get_below done a k h

module _ (ops : Operators) (input : Stream → Bag) (rows_of : ℕ → Bag) where
  pub record AllTied (env : List Part) (done : List Table) : Type 0 where
    pub same : length env ≡ length done
    pub each : (k : ℕ) → Tied ops input rows_of (part_at env k) (table_at done k)

  -- a shared result's rows are those of its statement, as far as the statements are done
  abbrev Known : List Table → Type 0
  Known done = (k : ℕ) → k < length done → rows_of k ≡ (table_at done k).rows

  placed_tied : (all : List ℕ) (env : List Part) (done : List Table) → AllTied env done → Known done → (i : Option ℕ)
      → Tied ops input rows_of (placed all env i) (result_at done i)
  placed_tied all env done t known None = nothing_tied ops input rows_of
  placed_tied all env done t known (Some k) = go (slice_get env k) refl (is_shared all k)
    where
      go : (o : Option Part) → slice_get env k ≡ o → (s : Bool) → Tied ops input rows_of (found all k (slice_get env k)) (table_at done k)
      go None e s = rw e (let h = rw e at (t.each k) in h)
      go (Some b) e s =
          let h : Tied ops input rows_of b (table_at done k) = subst (λ (o : Option Part). Tied ops input rows_of (or_nothing o) (table_at done k)) e (t.each k) in
          let lt : k < length done = let w : k < length env = slice_get_within env k b e in let same = t.same in omega arith in
          rw e (at (is_shared all k) h lt)
        where
          at : (s : Bool) → Tied ops input rows_of b (table_at done k) → k < length done → Tied ops input rows_of (stands s k b) (table_at done k)
          at true h lt = referred_tied ops input rows_of k b (table_at done k) h (known k lt)
          at false h lt = h

  source_tied : (all : List ℕ) (earlier : List Statement) (env : List Part) (done : List Table) → AllTied env done → Known done → (source : Source)
      → Tied ops input rows_of (source_part all earlier env source) (source_rows input earlier done source)
  source_tied all earlier env done t known (FromResult i) = placed_tied all env done t known (input_at earlier i)
  source_tied all earlier env done t known (FromStream d) = scanned_tied ops input rows_of d

  from_tied : (all : List ℕ) (earlier : List Statement) (env : List Part) (done : List Table) → AllTied env done → Known done → (joins : List Joined) (a : Part) (A : Table)
      → Tied ops input rows_of a A → Tied ops input rows_of (from_part all earlier env a joins) (from_rows input earlier done A joins)
  from_tied all earlier env done t known [] a A h = h
  from_tied all earlier env done t known (j ∷ joins) a A h =
      from_tied all earlier env done t known joins _ _ (joined_tied ops input rows_of j.on a _ A _ h (source_tied all earlier env done t known j.source))

  beside_tied : (all : List ℕ) (earlier : List Statement) (env : List Part) (done : List Table) → AllTied env done → Known done → (beside : Beside) (a : Part) (A : Table)
      → Tied ops input rows_of a A → IsBesideTold ops input earlier done A beside → Tied ops input rows_of (beside_part all earlier env a beside) (beside_rows input earlier done A beside)
  beside_tied all earlier env done t known (Inners joins) a A h told = from_tied all earlier env done t known joins a A h
  beside_tied all earlier env done t known (Outer side call j) a A h told = outer_tied ops input rows_of side j.on call a _ A _ h (source_tied all earlier env done t known j.source) told

  bound_tied : (all : List ℕ) (earlier : List Statement) (env : List Part) (done : List Table) → AllTied env done → Known done → (c : Command) → IsCommandTold ops input earlier done c
      → Tied ops input rows_of (bound all earlier env c) (result ops input earlier done c)
  bound_tied all earlier env done t known (Extract d) told = scanned_tied ops input rows_of d
  bound_tied all earlier env done t known (Select q) told =
      query_tied ops input rows_of q _ _ (beside_tied all earlier env done t known q.beside _ _ (source_tied all earlier env done t known q.source) told)
  bound_tied all earlier env done t known (Process source call) told = process_tied ops input rows_of call _ _ (source_tied all earlier env done t known source)
  bound_tied all earlier env done t known (Reduce source on presort call) told = reduce_tied ops input rows_of on presort call _ _ (source_tied all earlier env done t known source)
  bound_tied all earlier env done t known (Combine source before other after on call) told =
      combine_tied ops input rows_of on before after call _ _ _ _ (source_tied all earlier env done t known source) (source_tied all earlier env done t known other)
  bound_tied all earlier env done t known (Output w) told = stored_tied ops input rows_of w.stored _ _ (placed_tied all env done t known (input_at earlier w.source))

  push_tied : (env : List Part) (done : List Table) (b : Part) (A : Table) → AllTied env done → Tied ops input rows_of b A → AllTied (env ++ b ∷ []) (done ++ A ∷ [])
  push_tied env done b A t h = record {
    same = let same = t.same in rw (length_push env b, length_push done A) (omega arith);
    each = λ k. at k (nat_lt k (length env)) refl (k == length env) refl;
  }
    where
      at : (k : ℕ) (l : Bool) → nat_lt k (length env) ≡ l → (m : Bool) → (k == length env) ≡ m
          → Tied ops input rows_of (or_nothing (slice_get (env ++ b ∷ []) k)) (or_no_table (slice_get (done ++ A ∷ []) k))
      at k true e m f =
          let w : k < length env = grind (arith, nat_tests, e) in
          let v : k < length done = let same = t.same in omega arith in
          rw (get_below env b k w, get_below done A k v) (t.each k)
      at k false e true f =
          let w : k ≡ length env = grind (arith, nat_tests, f) in
          let v : k ≡ length done = let same = t.same in omega arith in
          rw (get_last env b k w, get_last done A k v) h
      at k false e false f =
          let w : length env < k = grind (arith, nat_tests, e, f) in
          let v : length done < k = let same = t.same in omega arith in
          rw (get_past env b k w, get_past done A k v) (nothing_tied ops input rows_of)

  known_before : (earlier : List Statement) (done : List Table) (rest : List Statement) → Known (results ops input earlier done rest) → Known done
  known_before earlier done rest known k lt =
      let keeps = results_keep ops input earlier done rest k lt in
      let far : k < length (results ops input earlier done rest) = let more = results_more ops input earlier done rest in omega arith in
      known k far ∙ ap (λ o. (or_no_table o).rows) keeps

  pub all_tied : (all : List ℕ) (earlier : List Statement) (env : List Part) (done : List Table) (rest : List Statement)
      → AllTied env done → Known (results ops input earlier done rest) → AreOuterTold ops input earlier done rest → AllTied (bound_from all earlier env rest) (results ops input earlier done rest)
  all_tied all earlier env done [] t known told = t
  all_tied all earlier env done (s ∷ rest) t known told =
      all_tied all (earlier ++ s ∷ []) (env ++ bound all earlier env s.command ∷ []) (done ++ result ops input earlier done s.command ∷ []) rest
      (push_tied env done _ _ t (bound_tied all earlier env done t (known_before earlier done (s ∷ rest) known) s.command told.0)) known told.1

  pub start_tied : AllTied [] []
  start_tied = record { same = refl; each = λ k. nothing_tied ops input rows_of }
