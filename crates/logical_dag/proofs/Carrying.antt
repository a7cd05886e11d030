-- Facts under new names, one column after the other.
use Rattle.std.proofs.Common.{◌≡◌, ◌≢◌, ℕ, ◌+◌, ◌<◌, ◌≤◌, Bool, true, false, List, length, refl, sym, ap, ◌∙◌, subst, arith, ◌⊎◌, inl, inr, nat_eq, nat_lt, Option, Some, None}
use Rattle.std.specs.Prelude.{◌↔◌, IsSome, slice_set}
use Rattle.std.proofs.lemmas.Bool.Decides.{nat_tests}
use Rattle.std.proofs.lemmas.List.{get_or_past}
use Rattle.col_sets.specs.Sets.{has, with_column}
use Rattle.col_sets.specs.Columns.{with_has, has_with}
use Rattle.col_sets.specs.Tests.{from_test, same_tests}
use Rattle.fd_closure.specs.declared.facts.Facts.{Facts}
use Rattle.fd_closure.specs.Known.{by_of, equal_of}
use Rattle.logical_dag.specs.declared.naming.Names.{Names}
use Rattle.logical_dag.specs.Facts.{IsLinked, stated, turned, chained, Renamed, BothRenamed, IsRenamedSet, DependencyRenamed}
use Rattle.logical_dag.specs.Known.{name_of, IsNaming, IsDependency, IsOwn, AreClasses, AreDependencies, AreConstants, CarriedConstants, CarriedDependencies, CarriedEqualities, AddedDependency, IsFirstAlike, IsEquated, AreCarried, AreApart}
use Rattle.logical_dag.proofs.Either.{from_either, either_both, either_second, below_or_last}
use Rattle.logical_dag.proofs.Classes.{linked_same, equal_turned, equal_chained, classes_same, classes_merged, classes_kept}
use Rattle.logical_dag.proofs.Constants.{constants_with}
use Rattle.logical_dag.proofs.Dependencies.{dependencies_same, dependencies_kept, dependencies_chain, dependencies_with}

-- a column with a name is below 128
pub named_low : (names : Names) (b c : ℕ) → length names.of ≡ 128 → name_of names b ≡ Some c → b < 128
named_low names b c l e = go (nat_lt b 128) refl
  where
    go : (t : Bool) → nat_lt b 128 ≡ t → b < 128
    go true k = grind (arith, nat_tests)
    go false k =
        let past : 128 ≤ b = grind (arith, nat_tests) in
        let none : name_of names b ≡ None = get_or_past names.of b None (omega arith) in
        absurd (cc)

-- a constant more
pub constant_added : (f g : Facts) (d : ℕ) (t : Bool) (o : Option ℕ) → g.constants ≡ with_column f.constants d → t ≡ true → o ≡ Some d
    → AreConstants g (λ c. (has f.constants c ≡ true) ⊎ ((t ≡ true) × (o ≡ Some c)))
constant_added f g d t o e h k = constants_with f g d (λ c. (t ≡ true) × (o ≡ Some c)) e (λ c m. let i : Some c ≡ Some d = sym m.1 ∙ k in cc) (λ c i. (h, k ∙ ap Some (sym i)))

-- what was constant, and what is constant under its name, of the columns below a
abbrev pub ConstantsBelow : Facts → (ℕ → Option ℕ) → Facts → ℕ → ℕ → Type 0
ConstantsBelow from name into a c = (has into.constants c ≡ true) ⊎ Renamed name (λ b. (has from.constants b ≡ true) × (b < a)) c

-- what a column depended on, and what it depends on under new names, of the columns below a
abbrev pub DependenciesBelow : Facts → (ℕ → Option ℕ) → Facts → ℕ → List ℕ → ℕ → Type 0
DependenciesBelow from name into a s c = IsDependency into s c ⊎ DependencyRenamed name (λ r b. (b < a) × IsDependency from r b) s c

-- what was equal, and what is equal under its names, of the columns below a
abbrev pub EqualitiesBelow : Facts → (ℕ → Option ℕ) → Facts → ℕ → ℕ → ℕ → Type 0
EqualitiesBelow from name into n c d = (equal_of into c d ≡ true) ⊎ BothRenamed name (λ a b. (a < n) × (b < n) × (equal_of from a b ≡ true)) c d

-- the renamed columns of a set so far, with one more column
pub renamed_put : (name : ℕ → Option ℕ) (set r : List ℕ) (c d : ℕ) → d < 128 → IsNaming name → has set c ≡ true → name c ≡ Some d
    → ((e : ℕ) → (has r e ≡ true) ↔ Renamed name (λ b. (has set b ≡ true) × (b < c)) e) → (e : ℕ) → (has (with_column r d) e ≡ true) ↔ Renamed name (λ b. (has set b ≡ true) × (b < c + 1)) e
renamed_put name set r c d low naming there named h e = (λ m. forth (with_has r d e m), λ m. has_with r d e (naming.below m.0 e m.2) (split m.0 m.1.0 m.2 (below_or_last m.0 c m.1.1)))
  where
    forth : (e ≡ d) ⊎ (has r e ≡ true) → Renamed name (λ b. (has set b ≡ true) × (b < c + 1)) e
    forth (inl i) = (c, (there, omega arith), named ∙ ap Some (sym i))
    forth (inr m) = let k = (h e).0 m in let l : k.0 < c = k.1.1 in (k.0, (k.1.0, omega arith), k.2)

    split : (b : ℕ) → has set b ≡ true → name b ≡ Some e → (b < c) ⊎ (b ≡ c) → (e ≡ d) ⊎ (has r e ≡ true)
    split b m n (inl l) = inr ((h e).1 (b, (m, l), n))
    split b m n (inr same) = let i : Some e ≡ Some d = sym n ∙ ap name same ∙ named in inl (cc)

-- a column that the set lacks changes nothing
pub renamed_skip : (name : ℕ → Option ℕ) (set r : List ℕ) (c : ℕ) → has set c ≡ false
    → ((e : ℕ) → (has r e ≡ true) ↔ Renamed name (λ b. (has set b ≡ true) × (b < c)) e) → (e : ℕ) → (has r e ≡ true) ↔ Renamed name (λ b. (has set b ≡ true) × (b < c + 1)) e
renamed_skip name set r c gone h e = (λ m. let k = (h e).0 m in let l : k.0 < c = k.1.1 in (k.0, (k.1.0, omega arith), k.2), λ m. (h e).1 (m.0, (m.1.0, less m.0 m.1.0 (below_or_last m.0 c m.1.1)), m.2))
  where
    less : (b : ℕ) → has set b ≡ true → (b < c) ⊎ (b ≡ c) → b < c
    less b m (inl l) = l
    less b m (inr e) = absurd (let same : has set b ≡ false = ap (has set) e ∙ gone in cc)

-- so far each column of the set has a name, and the next one too
pub named_more : (name : ℕ → Option ℕ) (set : List ℕ) (c : ℕ) → (has set c ≡ true → IsSome (name c)) → ((b : ℕ) → b < c → has set b ≡ true → IsSome (name b)) → (b : ℕ) → b < c + 1 → has set b ≡ true → IsSome (name b)
named_more name set c here before b l m =
    from_either (λ k. before b k m) (λ e. subst (λ (i : ℕ). IsSome (name i)) (sym e) (here (subst (λ (i : ℕ). has set i ≡ true) e m))) (below_or_last b c l)

-- once all columns have been looked at
pub renamed_all : (name : ℕ → Option ℕ) (set r : List ℕ) (n : ℕ) → ((b : ℕ) → has set b ≡ true → b < n) → ((b : ℕ) → b < n → has set b ≡ true → IsSome (name b))
    → ((e : ℕ) → (has r e ≡ true) ↔ Renamed name (λ b. (has set b ≡ true) × (b < n)) e) → IsRenamedSet name set r
renamed_all name set r n low all just = record {
  all = λ c h. all c (low c h) h;
  just = λ d. (λ m. let k = (just d).0 m in (k.0, k.1.0, k.2), λ m. (just d).1 (m.0, (m.1, low m.0 m.1), m.2));
}

-- the renamed columns of a set are one set
pub renamed_once : (name : ℕ → Option ℕ) (r s t : List ℕ) → IsRenamedSet name r s → IsRenamedSet name r t → (d : ℕ) → has s d ≡ has t d
renamed_once name r s t h k d = same_tests (has s d) (has t d) (λ m. (k.just d).1 ((h.just d).0 m)) (λ m. (h.just d).1 ((k.just d).0 m))

-- a dependency more
pub dependency_added : (from into g : Facts) (name : ℕ → Option ℕ) (a c : ℕ) (s : List ℕ) → c < 128 → c < length into.by → a < 128
    → g ≡ record into { determined = with_column into.determined c; by = slice_set into.by c s } → has from.determined a ≡ true → name a ≡ Some c
    → IsRenamedSet name (by_of from a) s → has into.determined c ≡ false → AreDependencies g (AddedDependency from name a into)
dependency_added from into g name a c s low n under e has_one named set free =
    dependencies_with into g c s (DependencyRenamed name (λ r b. (b ≡ a) × IsDependency from r b)) low n e (by_of from a, a, (refl, (under, has_one, refl)), named, set) only
    (λ h. absurd (let gone = free in cc))
  where
    only : (r : List ℕ) (d : ℕ) → DependencyRenamed name (λ r b. (b ≡ a) × IsDependency from r b) r d → (d ≡ c) × ((i : ℕ) → has r i ≡ has s i)
    only r d h =
        let b_is : h.1 ≡ a = h.2.0 in
        let i : Some d ≡ Some c = sym h.3 ∙ ap name b_is ∙ named in
        let at : d ≡ c = cc in
        let r_is : h.0 ≡ by_of from a = h.2.1.2 ∙ ap (by_of from) b_is in
        (at, renamed_once name (by_of from a) r s (subst (λ (q : List ℕ). IsRenamedSet name q r) r_is h.4) set)

module _ (from : Facts) (name : ℕ → Option ℕ) (into : Facts) (naming : IsNaming name) where
  -- the next column's dependency
  pub dependencies_step : (a : ℕ) (f g : Facts) → AreDependencies f (DependenciesBelow from name into a) → AreDependencies g (AddedDependency from name a f) → AreDependencies g (DependenciesBelow from name into (a + 1))
  dependencies_step a f g h k = dependencies_same g _ _ (dependencies_chain f g (DependenciesBelow from name into a) (DependencyRenamed name (λ r b. (b ≡ a) × IsDependency from r b)) low h k) forth back
    where
      low : (s : List ℕ) (c : ℕ) → DependenciesBelow from name into a s c → c < 128
      low s c (inl m) = m.0
      low s c (inr m) = naming.below m.1 c m.3

      forth : (s : List ℕ) (c : ℕ) → DependenciesBelow from name into a s c ⊎ DependencyRenamed name (λ r b. (b ≡ a) × IsDependency from r b) s c → DependenciesBelow from name into (a + 1) s c
      forth s c (inl (inl m)) = inl m
      forth s c (inl (inr m)) = let l : m.1 < a = m.2.0 in inr (m.0, m.1, (omega arith, m.2.1), m.3, m.4)
      forth s c (inr m) = let i : m.1 ≡ a = m.2.0 in inr (m.0, m.1, (omega arith, m.2.1), m.3, m.4)

      back : (s : List ℕ) (c : ℕ) → DependenciesBelow from name into (a + 1) s c → DependenciesBelow from name into a s c ⊎ DependencyRenamed name (λ r b. (b ≡ a) × IsDependency from r b) s c
      back s c (inl m) = inl (inl m)
      back s c (inr m) = either_both (λ l. inr (m.0, m.1, (l, m.2.1), m.3, m.4)) (λ e. (m.0, m.1, (e, m.2.1), m.3, m.4)) (below_or_last m.1 a m.2.0)

  -- once all columns have been looked at
  pub dependencies_end : (n : ℕ) (f : Facts) → ((b c : ℕ) → name b ≡ Some c → b < n) → AreDependencies f (DependenciesBelow from name into n) → AreDependencies f (CarriedDependencies from name into)
  dependencies_end n f low h = dependencies_same f _ _ h (λ s c. either_second (λ m. (m.0, m.1, m.2.1, m.3, m.4))) (λ s c. either_second (λ m. (m.0, m.1, (low m.1 c m.3, m.2), m.3, m.4)))

  -- at first nothing is equated
  pub equalities_init : IsOwn into → AreClasses into (EqualitiesBelow from name into 0)
  equalities_init own = classes_kept into (BothRenamed name (λ a b. (a < 0) × (b < 0) × (equal_of from a b ≡ true))) own (λ a b h. let none : h.0 < 0 = h.2.0 in omega arith)

  -- the next column's equalities: those with the first column that is equal to it give the others by chains
  module _ (n : ℕ) (f : Facts) (h : AreClasses f (EqualitiesBelow from name into n)) where
    grows : (a b : ℕ) → EqualitiesBelow from name into n a b → EqualitiesBelow from name into (n + 1) a b
    grows a b (inl m) = inl m
    grows a b (inr m) =
        let l : m.0 < n = m.2.0 in
        let k : m.1 < n = m.2.1 in
        inr (m.0, m.1, (omega arith, omega arith, m.2.2), m.3, m.4)

    -- a link for each pair of columns up to n, where there are links for those of n and the columns below it
    links : (Q : ℕ → ℕ → Type 0) → ((a b : ℕ) → EqualitiesBelow from name into n a b → IsLinked Q a b)
        → ((b x y : ℕ) → b < n → equal_of from b n ≡ true → name b ≡ Some x → name n ≡ Some y → IsLinked Q x y) → (x y : ℕ) → EqualitiesBelow from name into (n + 1) x y → IsLinked Q x y
    links Q below last x y (inl m) = below x y (inl m)
    links Q below last x y (inr m) = go m.0 m.1 m.2.0 m.2.1 m.2.2 m.3 m.4 (nat_eq m.0 n) refl (nat_eq m.1 n) refl
      where
        go : (a b : ℕ) → a < n + 1 → b < n + 1 → equal_of from a b ≡ true → name a ≡ Some x → name b ≡ Some y → (s : Bool) → nat_eq a n ≡ s → (t : Bool) → nat_eq b n ≡ t → IsLinked Q x y
        go a b l k e p q true s true t =
            let i : Some x ≡ Some y = sym p ∙ ap name (from_test a n s ∙ sym (from_test b n t)) ∙ q in
            linked_same Q x y (cc)
        go a b l k e p q true s false t =
            let same : a ≡ n = from_test a n s in
            let other : b ≢ n = grind (arith, nat_tests) in
            turned (last b y x (omega arith) (subst (λ (i : ℕ). equal_of from b i ≡ true) same (equal_turned from a b e)) q (subst (λ (i : ℕ). name i ≡ Some x) same p))
        go a b l k e p q false s true t =
            let same : b ≡ n = from_test b n t in
            let other : a ≢ n = grind (arith, nat_tests) in
            last a x y (omega arith) (subst (λ (i : ℕ). equal_of from a i ≡ true) same e) p (subst (λ (i : ℕ). name i ≡ Some y) same q)
        go a b l k e p q false s false t =
            let other : a ≢ n = grind (arith, nat_tests) in
            let another : b ≢ n = grind (arith, nat_tests) in
            below x y (inr (a, b, (omega arith, omega arith, e), p, q))

    pub equalities_step : (g : Facts) → IsEquated from name n f g → AreClasses g (EqualitiesBelow from name into (n + 1))
    equalities_step g (inl m) =
        subst (λ (f : Facts). AreClasses f (EqualitiesBelow from name into (n + 1))) (sym m.0)
        (classes_same f (EqualitiesBelow from name into n) h (EqualitiesBelow from name into (n + 1)) (λ a b k. stated (grows a b k))
        (links (EqualitiesBelow from name into n) (λ a b k. stated k) (none m.1)))
      where
        none : (name n ≡ None) ⊎ IsFirstAlike from name n → (b x y : ℕ) → b < n → equal_of from b n ≡ true → name b ≡ Some x → name n ≡ Some y → IsLinked (EqualitiesBelow from name into n) x y
        none (inl k) b x y l e p q = absurd (cc)
        none (inr k) b x y l e p q = absurd (let gone : name b ≡ None = k b l e in cc)
    equalities_step g (inr m) =
        classes_same g (λ a b. EqualitiesBelow from name into n a b ⊎ ((a ≡ m.0) × (b ≡ m.1)))
        (classes_merged f (EqualitiesBelow from name into n) h m.0 m.1 g (naming.below m.2.0 m.0 m.2.3) (naming.below n m.1 m.3) m.4)
        (EqualitiesBelow from name into (n + 1)) forth
        (links (λ a b. EqualitiesBelow from name into n a b ⊎ ((a ≡ m.0) × (b ≡ m.1))) (λ a b k. stated (inl k)) last)
      where
        forth : (a b : ℕ) → EqualitiesBelow from name into n a b ⊎ ((a ≡ m.0) × (b ≡ m.1)) → IsLinked (EqualitiesBelow from name into (n + 1)) a b
        forth a b (inl k) = stated (grows a b k)
        forth a b (inr k) =
            let l : m.2.0 < n = m.2.1 in
            stated (inr (m.2.0, n, (omega arith, omega arith, m.2.2), m.2.3 ∙ ap Some (sym k.0), m.3 ∙ ap Some (sym k.1)))

        last : (b x y : ℕ) → b < n → equal_of from b n ≡ true → name b ≡ Some x → name n ≡ Some y → IsLinked (λ a b. EqualitiesBelow from name into n a b ⊎ ((a ≡ m.0) × (b ≡ m.1))) x y
        last b x y l e p q =
            let i : Some y ≡ Some m.1 = sym q ∙ m.3 in
            let first : m.2.0 < n = m.2.1 in
            let alike : equal_of from b m.2.0 ≡ true = equal_chained from b n m.2.0 e (equal_turned from m.2.0 n m.2.2) in
            chained (stated (inl (inr (b, m.2.0, (l, first, alike), p, m.2.3)))) (stated (inr (refl, cc)))

  -- once all columns have been looked at
  pub equalities_end : (n : ℕ) (f : Facts) → ((b c : ℕ) → name b ≡ Some c → b < n) → AreClasses f (EqualitiesBelow from name into n) → AreClasses f (CarriedEqualities from name into)
  equalities_end n f low h = classes_same f (EqualitiesBelow from name into n) h (CarriedEqualities from name into)
      (λ a b k. stated (either_second (λ m. (m.0, m.1, m.2.2, m.3, m.4)) k)) (λ a b k. stated (either_second (λ m. (m.0, m.1, (low m.0 a m.3, low m.1 b m.4, m.2), m.3, m.4)) k))

-- constants first, then dependencies, then equalities
pub carried_all : (from : Facts) (name : ℕ → Option ℕ) (into f g h : Facts) → f ≡ record into { constants = f.constants } → g ≡ record f { determined = g.determined; by = g.by } → h ≡ record g { class = h.class }
    → AreConstants f (CarriedConstants from name into) → AreDependencies g (CarriedDependencies from name f) → AreClasses h (CarriedEqualities from name g) → AreCarried from name into h
carried_all from name into f g h e i j constants dependencies classes =
    subst (λ (k : Facts). AreCarried from name into k) (sym third) (record {
      columns = refl;
      constants = subst (λ (k : Facts). AreConstants k (CarriedConstants from name into)) e constants;
      dependencies = record { stated = depend.stated; all = depend.all };
      classes = equate;
    })
  where
    second : g ≡ record into { constants = f.constants; determined = g.determined; by = g.by }
    second = i ∙ ap (λ (k : Facts). record k { determined = g.determined; by = g.by }) e

    third : h ≡ record into { constants = f.constants; determined = g.determined; by = g.by; class = h.class }
    third = j ∙ ap (λ (k : Facts). record k { class = h.class }) second

    depend : AreDependencies (record into { constants = f.constants; determined = g.determined; by = g.by }) (CarriedDependencies from name (record into { constants = f.constants }))
    depend =
        subst (λ (k : Facts). AreDependencies k (CarriedDependencies from name (record into { constants = f.constants }))) second
        (subst (λ (k : Facts). AreDependencies g (CarriedDependencies from name k)) e dependencies)

    equate : AreClasses (record into { constants = f.constants; determined = g.determined; by = g.by; class = h.class })
        (CarriedEqualities from name (record into { constants = f.constants; determined = g.determined; by = g.by }))
    equate =
        subst (λ (k : Facts). AreClasses k (CarriedEqualities from name (record into { constants = f.constants; determined = g.determined; by = g.by }))) third
        (subst (λ (k : Facts). AreClasses h (CarriedEqualities from name k)) second classes)

-- what the columns below a depend on by other facts, and what columns depended on
abbrev pub SameBelow : Facts → Facts → ℕ → List ℕ → ℕ → Type 0
SameBelow from into a s c = IsDependency into s c ⊎ ((c < a) × IsDependency from s c)

-- a dependency of other facts more
pub same_added : (from into g : Facts) (a : ℕ) (s : List ℕ) → a < 128 → a < length into.by → g ≡ record into { determined = with_column into.determined a; by = slice_set into.by a s } → s ≡ by_of from a
    → has from.determined a ≡ true → has into.determined a ≡ false → AreDependencies g (λ s c. IsDependency into s c ⊎ ((c ≡ a) × IsDependency from s c))
same_added from into g a s low n e is has_one free =
    dependencies_with into g a s (λ r c. (c ≡ a) × IsDependency from r c) low n e (refl, (low, has_one, is))
    (λ r c m. (m.0, λ i. ap (λ (q : List ℕ). has q i) (m.1.2 ∙ ap (by_of from) m.0 ∙ sym is))) (λ h. absurd (let gone = free in cc))

-- nothing more depends on anything
pub same_none : (from into : Facts) (a : ℕ) → has from.determined a ≡ false → AreDependencies into (λ s c. IsDependency into s c ⊎ ((c ≡ a) × IsDependency from s c))
same_none from into a none =
    dependencies_kept into (λ s c. (c ≡ a) × IsDependency from s c) (λ s c m. let gone : has from.determined c ≡ false = ap (has from.determined) m.0 ∙ none in let there = m.1.1 in cc)

module _ (from into : Facts) (apart : AreApart into from) where
  -- the next column has no dependency yet
  pub same_free : (a : ℕ) (f : Facts) → a < 128 → AreDependencies f (SameBelow from into a) → has from.determined a ≡ true → has f.determined a ≡ false
  same_free a f l h k = go (has f.determined a) refl
    where
      no : SameBelow from into a (by_of f a) a → ⊥
      no (inl m) = let free = apart a l k in let there = m.1 in absurd (cc)
      no (inr m) = let below : a < a = m.0 in omega arith

      go : (t : Bool) → has f.determined a ≡ t → has f.determined a ≡ false
      go false t = t
      go true t = absurd (no (h.stated a l t))

  pub same_first : AreDependencies into (SameBelow from into 0)
  same_first = dependencies_kept into (λ s c. (c < 0) × IsDependency from s c) (λ s c m. let l : c < 0 = m.0 in omega arith)

  pub same_step : (a : ℕ) (f g : Facts) → AreDependencies f (SameBelow from into a) → AreDependencies g (λ s c. IsDependency f s c ⊎ ((c ≡ a) × IsDependency from s c)) → AreDependencies g (SameBelow from into (a + 1))
  same_step a f g h k = dependencies_same g _ _ (dependencies_chain f g (SameBelow from into a) (λ s c. (c ≡ a) × IsDependency from s c) low h k) forth back
    where
      low : (s : List ℕ) (c : ℕ) → SameBelow from into a s c → c < 128
      low s c (inl m) = m.0
      low s c (inr m) = m.1.0

      forth : (s : List ℕ) (c : ℕ) → SameBelow from into a s c ⊎ ((c ≡ a) × IsDependency from s c) → SameBelow from into (a + 1) s c
      forth s c (inl (inl m)) = inl m
      forth s c (inl (inr m)) = let l : c < a = m.0 in inr (omega arith, m.1)
      forth s c (inr m) = let e : c ≡ a = m.0 in inr (omega arith, m.1)

      back : (s : List ℕ) (c : ℕ) → SameBelow from into (a + 1) s c → SameBelow from into a s c ⊎ ((c ≡ a) × IsDependency from s c)
      back s c (inl m) = inl (inl m)
      back s c (inr m) = either_both (λ l. inr (l, m.1)) (λ e. (e, m.1)) (below_or_last c a m.0)

  pub same_end : (n : ℕ) (f : Facts) → 128 ≤ n → AreDependencies f (SameBelow from into n) → AreDependencies f (λ s c. IsDependency into s c ⊎ IsDependency from s c)
  same_end n f l h = dependencies_same f _ _ h (λ s c. either_second (λ m. m.1)) (λ s c. either_second (λ m. let k : c < 128 = m.0 in (omega arith, m)))
