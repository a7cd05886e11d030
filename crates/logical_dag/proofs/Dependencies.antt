-- Dependencies of facts: said otherwise, none more, one more, and of one step after another.
use Rattle.std.proofs.Common.{◌≡◌, ◌≢◌, ℕ, ◌<◌, Bool, true, false, List, [], length, refl, sym, ap, ◌∙◌, subst, arith, ◌⊎◌, inl, inr, nat_eq, slice_index_or, slice_set}
use Rattle.std.proofs.lemmas.Bool.Decides.{nat_tests}
use Rattle.std.proofs.lemmas.List.{get_or-set_same, get_or-set_other}
use Rattle.col_sets.specs.Sets.{has, with_column}
use Rattle.col_sets.specs.Columns.{with_has, has_with}
use Rattle.col_sets.specs.Tests.{from_test, to_test}
use Rattle.fd_closure.specs.declared.facts.Facts.{Facts}
use Rattle.fd_closure.specs.Known.{by_of}
use Rattle.logical_dag.specs.Known.{IsDependency, AreDependencies}
use Rattle.logical_dag.proofs.Either.{from_either, either_first}

-- dependencies that are said otherwise
pub dependencies_same : (f : Facts) (D E : List ℕ → ℕ → Type 0) → AreDependencies f D → ((s : List ℕ) (c : ℕ) → D s c → E s c) → ((s : List ℕ) (c : ℕ) → E s c → D s c) → AreDependencies f E
dependencies_same f D E h there back = record { stated = λ c l m. there (by_of f c) c (h.stated c l m); all = λ s c m. h.all s c (back s c m) }

-- facts of the same dependencies
pub dependencies_moved : (f g : Facts) (D : List ℕ → ℕ → Type 0) → g.determined ≡ f.determined → g.by ≡ f.by → AreDependencies f D → AreDependencies g D
dependencies_moved f g D e i h = record { stated = given; all = all }
  where
    same : (c : ℕ) → by_of g c ≡ by_of f c
    same c = ap (λ (l : List (List ℕ)). slice_index_or l c []) i

    given : (c : ℕ) → c < 128 → has g.determined c ≡ true → D (by_of g c) c
    given c l m = subst (λ (s : List ℕ). D s c) (sym (same c)) (h.stated c l (subst (λ (s : List ℕ). has s c ≡ true) e m))

    all : (s : List ℕ) (c : ℕ) → D s c → (has g.determined c ≡ true) × ((d : ℕ) → has s d ≡ has (by_of g c) d)
    all s c m = let k = h.all s c m in (subst (λ (s : List ℕ). has s c ≡ true) (sym e) k.0, λ d. k.1 d ∙ ap (λ (r : List ℕ). has r d) (sym (same c)))

-- nothing more depends on anything
pub dependencies_kept : (f : Facts) (D : List ℕ → ℕ → Type 0) → ((s : List ℕ) (c : ℕ) → D s c → ⊥) → AreDependencies f (λ s c. IsDependency f s c ⊎ D s c)
dependencies_kept f D none = record { stated = λ c l m. inl (l, m, refl); all = all }
  where
    all : (s : List ℕ) (c : ℕ) → IsDependency f s c ⊎ D s c → (has f.determined c ≡ true) × ((d : ℕ) → has s d ≡ has (by_of f c) d)
    all s c = from_either (λ m. (m.1, λ d. ap (λ (r : List ℕ). has r d) m.2)) (λ m. absurd (none s c m))

-- dependencies of one step after another
pub dependencies_chain : (f g : Facts) (D E : List ℕ → ℕ → Type 0) → ((s : List ℕ) (c : ℕ) → D s c → c < 128) → AreDependencies f D → AreDependencies g (λ s c. IsDependency f s c ⊎ E s c)
    → AreDependencies g (λ s c. D s c ⊎ E s c)
dependencies_chain f g D E low h k = record { stated = λ c l m. either_first (λ n. subst (λ (r : List ℕ). D r c) (sym n.2) (h.stated c n.0 n.1)) (k.stated c l m); all = all }
  where
    all : (s : List ℕ) (c : ℕ) → D s c ⊎ E s c → (has g.determined c ≡ true) × ((d : ℕ) → has s d ≡ has (by_of g c) d)
    all s c (inl m) =
        let p = h.all s c m in
        let q = k.all (by_of f c) c (inl (low s c m, p.0, refl)) in
        (q.0, λ d. p.1 d ∙ q.1 d)
    all s c (inr m) = k.all s c (inr m)

-- the column c depends on s too, where it depended on no other columns
pub dependencies_with : (f g : Facts) (c : ℕ) (s : List ℕ) (D : List ℕ → ℕ → Type 0) → c < 128 → c < length f.by → g ≡ record f { determined = with_column f.determined c; by = slice_set f.by c s }
    → D s c → ((r : List ℕ) (d : ℕ) → D r d → (d ≡ c) × ((i : ℕ) → has r i ≡ has s i)) → (has f.determined c ≡ true → (i : ℕ) → has (by_of f c) i ≡ has s i)
    → AreDependencies g (λ r d. IsDependency f r d ⊎ D r d)
dependencies_with f g c s D low room is new only old =
    subst (λ (k : Facts). AreDependencies k (λ r d. IsDependency f r d ⊎ D r d)) (sym is) (record { stated = λ d l h. given d l (nat_eq d c) refl (with_has f.determined c d h); all = all })
  where
    same : (d : ℕ) → d ≡ c → slice_index_or (slice_set f.by c s) d [] ≡ s
    same d e = ap (λ (i : ℕ). slice_index_or (slice_set f.by c s) i []) e ∙ get_or-set_same f.by c s [] room

    kept : (d : ℕ) → nat_eq d c ≡ false → slice_index_or (slice_set f.by c s) d [] ≡ by_of f d
    kept d e = get_or-set_other f.by c d s [] (let other : d ≢ c = grind (arith, nat_tests) in other)

    given : (d : ℕ) → d < 128 → (t : Bool) → nat_eq d c ≡ t → (d ≡ c) ⊎ (has f.determined d ≡ true)
        → IsDependency f (slice_index_or (slice_set f.by c s) d []) d ⊎ D (slice_index_or (slice_set f.by c s) d []) d
    given d l true t h = let at : d ≡ c = from_test d c t in inr (subst (λ (r : List ℕ). D r d) (sym (same d at)) (subst (λ (i : ℕ). D s i) (sym at) new))
    given d l false t (inl i) = absurd (let k = to_test d c i in cc)
    given d l false t (inr h) = inl (l, h, kept d t)

    at_column : (r : List ℕ) (d : ℕ) → d ≡ c → ((i : ℕ) → has r i ≡ has s i) → (has (with_column f.determined c) d ≡ true) × ((i : ℕ) → has r i ≡ has (slice_index_or (slice_set f.by c s) d []) i)
    at_column r d at alike = (has_with f.determined c d (subst (λ (j : ℕ). j < 128) (sym at) low) (inl at), λ i. alike i ∙ ap (λ (q : List ℕ). has q i) (sym (same d at)))

    all : (r : List ℕ) (d : ℕ) → IsDependency f r d ⊎ D r d → (has (with_column f.determined c) d ≡ true) × ((i : ℕ) → has r i ≡ has (slice_index_or (slice_set f.by c s) d []) i)
    all r d (inl h) = go (nat_eq d c) refl
      where
        go : (t : Bool) → nat_eq d c ≡ t → (has (with_column f.determined c) d ≡ true) × ((i : ℕ) → has r i ≡ has (slice_index_or (slice_set f.by c s) d []) i)
        go true t =
            let at : d ≡ c = from_test d c t in
            let there : has f.determined c ≡ true = subst (λ (i : ℕ). has f.determined i ≡ true) at h.1 in
            at_column r d at (λ i. ap (λ (q : List ℕ). has q i) (h.2 ∙ ap (by_of f) at) ∙ old there i)
        go false t = (has_with f.determined c d h.0 (inr h.1), λ i. ap (λ (q : List ℕ). has q i) (h.2 ∙ sym (kept d t)))
    all r d (inr h) = let o = only r d h in at_column r d o.0 o.1
