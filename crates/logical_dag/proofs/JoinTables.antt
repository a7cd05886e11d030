-- What is known of a join of two sides, by what is known of each.
use Rattle.std.proofs.Common.{◌≡◌, ℕ, ◌<◌, true, List, refl, sym, ap, ◌∙◌, subst, ◌⊎◌, inl, inr}
use Rattle.std.specs.Prelude.{Contains}
use Rattle.col_sets.specs.Sets.{has}
use Rattle.fd_closure.specs.declared.facts.Facts.{Facts}
use Rattle.fd_closure.specs.Known.{by_of, equal_of}
use Rattle.logical_dag.specs.Facts.{IsLinked, stated, key_name}
use Rattle.logical_dag.specs.Known.{IsDependency, AreConstants, AreDependencies, AreClasses, CarriedEqualities, AreJoined}
use Rattle.logical_dag.proofs.Either.{from_either, either_both}
use Rattle.logical_dag.proofs.Classes.{linked_bind, linked_same, classes_same}
use Rattle.logical_dag.proofs.KnownColumns.{key_source, key_named}

module _ (on : List (ℕ × ℕ)) (left right f : Facts) (joined : AreJoined on left right f) where
  pub joined_constants : (C K : ℕ → Type 0) → AreConstants left C → AreConstants right K → AreConstants f (λ c. C c ⊎ K c)
  joined_constants C K h k c l = (λ m. either_both (h c l).0 (k c l).0 ((joined.constants c l).0 m), λ m. (joined.constants c l).1 (either_both (h c l).1 (k c l).1 m))

  module _ (D L : List ℕ → ℕ → Type 0) (low : (s : List ℕ) (c : ℕ) → D s c → c < 128) (below : (s : List ℕ) (c : ℕ) → L s c → c < 128) (h : AreDependencies left D) (k : AreDependencies right L) where
    pub joined_dependencies : AreDependencies f (λ s c. D s c ⊎ L s c)
    joined_dependencies = record {
      stated = λ c l m. either_both (λ n. subst (λ (s : List ℕ). D s c) (sym n.2) (h.stated c n.0 n.1)) (λ n. subst (λ (s : List ℕ). L s c) (sym n.2) (k.stated c n.0 n.1)) (joined.dependencies.stated c l m);
      all = all;
    }
      where
        all : (s : List ℕ) (c : ℕ) → D s c ⊎ L s c → (has f.determined c ≡ true) × ((d : ℕ) → has s d ≡ has (by_of f c) d)
        all s c (inl m) =
            let p = h.all s c m in
            let q = joined.dependencies.all (by_of left c) c (inl (low s c m, p.0, refl)) in
            (q.0, λ d. p.1 d ∙ q.1 d)
        all s c (inr m) =
            let p = k.all s c m in
            let q = joined.dependencies.all (by_of right c) c (inr (below s c m, p.0, refl)) in
            (q.0, λ d. p.1 d ∙ q.1 d)

  module _ (E F : ℕ → ℕ → Type 0) (h : AreClasses left E) (k : AreClasses right F) (within : (c d : ℕ) → F c d → (c ≡ d) ⊎ ((has right.columns c ≡ true) × (has right.columns d ≡ true))) where
    -- equal on either side, or a pair
    abbrev Either : ℕ → ℕ → Type 0
    Either c d = E c d ⊎ (F c d ⊎ Contains on (c, d))

    -- the same by the facts of the sides
    abbrev ByFacts : ℕ → ℕ → Type 0
    ByFacts c d = CarriedEqualities right (key_name right.columns) left c d ⊎ Contains on (c, d)

    pub joined_classes : AreClasses f Either
    joined_classes = classes_same f ByFacts joined.classes Either there back
      where
        there : (c d : ℕ) → ByFacts c d → IsLinked Either c d
        there c d (inl (inl m)) = linked_bind E Either (λ a b n. stated (inl n)) c d (h.there c d m)
        there c d (inl (inr m)) =
            let p = key_source right.columns m.0 c m.3 in
            let q = key_source right.columns m.1 d m.4 in
            subst (λ (i : ℕ). IsLinked Either i d) p.1 (subst (λ (j : ℕ). IsLinked Either m.0 j) q.1 (linked_bind F Either (λ a b n. stated (inr (inl n))) m.0 m.1 (k.there m.0 m.1 m.2)))
        there c d (inr m) = stated (inr (inr m))

        back : (c d : ℕ) → Either c d → IsLinked ByFacts c d
        back c d (inl m) = from_either (linked_same ByFacts c d) (λ n. stated (inl (inl n))) (h.back c d (stated m))
        back c d (inr (inl m)) =
            from_either (linked_same ByFacts c d)
            (λ n. from_either (linked_same ByFacts c d) (λ w. stated (inl (inr (c, d, n, key_named right.columns c w.0, key_named right.columns d w.1)))) (within c d m))
            (k.back c d (stated m))
        back c d (inr (inr m)) = stated (inr m)
