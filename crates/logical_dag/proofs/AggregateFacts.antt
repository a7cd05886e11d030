-- The constants and the dependencies that aggregates give, one after the other.
use Rattle.std.proofs.Common.{◌≡◌, ℕ, ◌+◌, ◌<◌, ◌≤◌, false, List, length, refl, sym, ap, ◌∙◌, subst, arith, ◌⊎◌, inl, inr, slice_index_or, slice_set}
use Rattle.std.specs.Prelude.{Any, All}
use Rattle.std.proofs.lemmas.List.Elements.{All-contains}
use Rattle.col_sets.specs.Sets.{has, with_column}
use Rattle.fd_closure.specs.declared.facts.Facts.{Facts}
use Rattle.fd_closure.specs.Known.{by_of}
use Rattle.logical_trees.specs.declared.agg.Agg.{Agg}
use Rattle.logical_dag.specs.Known.{AreDependencies, IsDependency}
use Rattle.list_lemmas.specs.Reading.{one_read}
use Rattle.logical_dag.proofs.Either.{either_both, either_second}
use Rattle.logical_dag.proofs.Dependencies.{dependencies_same, dependencies_kept, dependencies_chain, dependencies_with}
use Rattle.logical_dag.proofs.OneBelow.{OneBelow, one_more, one_split}

-- the aggregate at a place gives the column
abbrev pub IsAggregateAt : List Agg → ℕ → ℕ → Type 0
IsAggregateAt aggs i c = (a : Agg) × (i < length aggs) × (slice_index_or aggs i a ≡ a) × (a.id ≡ c)

pub aggregate_only : (aggs : List Agg) (n c : ℕ) (a : Agg) → n < length aggs → a ≡ slice_index_or aggs n a → IsAggregateAt aggs n c → c ≡ a.id
aggregate_only aggs n c a l e m = sym m.3 ∙ ap (λ (x : Agg). x.id) (one_read aggs n m.0 a l (sym m.2) e)

pub aggregate_is : (aggs : List Agg) (n c : ℕ) (a : Agg) → n < length aggs → a ≡ slice_index_or aggs n a → c ≡ a.id → IsAggregateAt aggs n c
aggregate_is aggs n c a l e i = (a, l, sym e, sym i)

-- all places of the list
pub aggregates_there : (aggs : List Agg) (n c : ℕ) → OneBelow (IsAggregateAt aggs) n c → Any (λ a. a.id ≡ c) aggs
aggregates_there aggs n c m = (m.0, m.2.0, m.2.1, m.2.2, m.2.3)

pub aggregates_back : (aggs : List Agg) (n c : ℕ) → length aggs ≤ n → Any (λ a. a.id ≡ c) aggs → OneBelow (IsAggregateAt aggs) n c
aggregates_back aggs n c l m = let k : m.0 < length aggs = m.2 in (m.0, omega arith, (m.1, m.2, m.3, m.4))

-- the aggregates' columns are below 128
pub aggregates_low : (aggs : List Agg) → All (λ a. a.id < 128) aggs → (i c : ℕ) → IsAggregateAt aggs i c → c < 128
aggregates_low aggs h i c m = subst (λ (d : ℕ). d < 128) m.3 (All-contains (λ a. a.id < 128) aggs m.0 h (i, m.1, m.2))

-- and the facts know no dependency of theirs
pub aggregate_free : (into : Facts) (aggs : List Agg) (n : ℕ) (a : Agg) → All (λ a. has into.determined a.id ≡ false) aggs → n < length aggs → a ≡ slice_index_or aggs n a → has into.determined a.id ≡ false
aggregate_free into aggs n a h l e = All-contains (λ a. has into.determined a.id ≡ false) aggs a h (n, l, sym e)

pub keyed_first : (into : Facts) (keys : List ℕ) (aggs : List Agg) → AreDependencies into (λ s c. IsDependency into s c ⊎ ((s ≡ keys) × OneBelow (IsAggregateAt aggs) 0 c))
keyed_first into keys aggs = dependencies_kept into (λ s c. (s ≡ keys) × OneBelow (IsAggregateAt aggs) 0 c) (λ s c m. let l : m.1.0 < 0 = m.1.1 in omega arith)

-- the dependencies of the facts, and those of the first n aggregates on the key
abbrev KeyedBelow : Facts → List ℕ → List Agg → ℕ → List ℕ → ℕ → Type 0
KeyedBelow into keys aggs n s c = IsDependency into s c ⊎ ((s ≡ keys) × OneBelow (IsAggregateAt aggs) n c)

-- with the dependency of the next aggregate on the key, as another aggregate may have given it to the column before
pub keyed_step : (into f g : Facts) (keys : List ℕ) (aggs : List Agg) (n : ℕ) (a : Agg) → n < length aggs → a ≡ slice_index_or aggs n a → ((i d : ℕ) → IsAggregateAt aggs i d → d < 128) → a.id < length f.by → has into.determined a.id ≡ false
    → g ≡ record f { determined = with_column f.determined a.id; by = slice_set f.by a.id keys }
    → AreDependencies f (λ s c. IsDependency into s c ⊎ ((s ≡ keys) × OneBelow (IsAggregateAt aggs) n c))
    → AreDependencies g (λ s c. IsDependency into s c ⊎ ((s ≡ keys) × OneBelow (IsAggregateAt aggs) (n + 1) c))
keyed_step into f g keys aggs n a l e lows room free is h =
    dependencies_same g _ (KeyedBelow into keys aggs (n + 1)) (dependencies_chain f g (KeyedBelow into keys aggs n) (λ s d. (s ≡ keys) × IsAggregateAt aggs n d) lower h next) forth back
  where
    lower : (s : List ℕ) (d : ℕ) → KeyedBelow into keys aggs n s d → d < 128
    lower s d (inl m) = m.0
    lower s d (inr m) = lows m.1.0 d m.1.2

    low : a.id < 128
    low = lows n a.id (a, l, sym e, refl)

    alike : KeyedBelow into keys aggs n (by_of f a.id) a.id → (i : ℕ) → has (by_of f a.id) i ≡ has keys i
    alike (inl k) i = absurd (let there = k.1 in cc)
    alike (inr k) i = ap (λ (r : List ℕ). has r i) k.0

    next : AreDependencies g (λ s d. IsDependency f s d ⊎ ((s ≡ keys) × IsAggregateAt aggs n d))
    next =
        dependencies_with f g a.id keys (λ s d. (s ≡ keys) × IsAggregateAt aggs n d) low room is (refl, aggregate_is aggs n a.id a l e refl)
        (λ r d m. (aggregate_only aggs n d a l e m.1, λ i. ap (λ (q : List ℕ). has q i) m.0)) (λ m. alike (h.stated a.id low m))

    forth : (s : List ℕ) (d : ℕ) → KeyedBelow into keys aggs n s d ⊎ ((s ≡ keys) × IsAggregateAt aggs n d) → KeyedBelow into keys aggs (n + 1) s d
    forth s d (inl (inl m)) = inl m
    forth s d (inl (inr m)) = inr (m.0, one_more into (IsAggregateAt aggs) n d m.1)
    forth s d (inr m) = inr (m.0, (n, omega arith, m.1))

    back : (s : List ℕ) (d : ℕ) → KeyedBelow into keys aggs (n + 1) s d → KeyedBelow into keys aggs n s d ⊎ ((s ≡ keys) × IsAggregateAt aggs n d)
    back s d (inl m) = inl (inl m)
    back s d (inr m) = either_both (λ k. inr (m.0, k)) (λ k. (m.0, k)) (one_split into (IsAggregateAt aggs) n d m.1)

pub keyed_done : (into f : Facts) (keys : List ℕ) (aggs : List Agg) (n : ℕ) → length aggs ≤ n → AreDependencies f (λ s c. IsDependency into s c ⊎ ((s ≡ keys) × OneBelow (IsAggregateAt aggs) n c))
    → AreDependencies f (λ s c. IsDependency into s c ⊎ ((s ≡ keys) × Any (λ a. a.id ≡ c) aggs))
keyed_done into f keys aggs n l h = dependencies_same f _ _ h (λ s c. either_second (λ m. (m.0, aggregates_there aggs n c m.1))) (λ s c. either_second (λ m. (m.0, aggregates_back aggs n c l m.1)))
