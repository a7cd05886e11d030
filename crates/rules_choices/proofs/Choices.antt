-- A choice with a scheme that is not listed costs as much as the plan at the first of these.
use Rattle.std.proofs.Common.{◌≡◌, ◌<◌, ◌≤◌, ◌+◌, ℕ, zero, suc, Bool, true, false, cond, nat_eq, nat_lt, List, [], ◌∷◌, take, length, length-append, arith, refl, sym, ap, ◌∙◌, subst, ◌⊎◌, inl, inr, Some, slice_get}
use Rattle.std.proofs.lemmas.Bool.Decides.{nat_tests}
use Rattle.col_sets.specs.Tests.{and_true}
use Rattle.structural_props.specs.declared.scheme.Scheme.{Scheme}
use Rattle.structural_props.specs.declared.property.Delivered.{Delivered}
use Rattle.logical_dag.specs.Scripts.{shared_trees, output_trees}
use Rattle.rules_optimal.specs.Tables.{PlaceTable, IsBounded}
use Rattle.rules_scripts.specs.Whole.{sum_to, Setting, tree_count, table_for, IsWanted, IsWantedOf, TreeGroups, root_of, AreTreeGroups, IsLeastSum}
use Rattle.rules_scripts.proofs.Whole.{no_script_costs_less}
use Rattle.rules_choices.specs.Choices.{Listing, is_listed, all_listed, are_listed, AreGroupsListed, IsLeastListed}
use Rattle.rules_choices.specs.Laws.{NoScriptCostsLessListed}
use Rattle.rules_space.specs.Place.{Place}
use Rattle.rules_space.specs.Memo.{Memo}

-- ---- the first that is not listed

abbrev AllListed : Listing → ℕ → List Scheme → Type 0
AllListed listed i xs = (n : ℕ) → all_listed listed i (take n xs) ≡ true

abbrev HasFirst : Listing → ℕ → List Scheme → Type 0
HasFirst listed i xs = (k : ℕ) × (x : Scheme) × (all_listed listed i (take k xs) ≡ true) × (slice_get xs k ≡ Some x) × (listed (i + k) x ≡ false)

first : (listed : Listing) (i : ℕ) (xs : List Scheme) → AllListed listed i xs ⊎ HasFirst listed i xs
first listed i [] = inl none
  where
    none : (n : ℕ) → all_listed listed i (take n []) ≡ true
    none zero = refl
    none (suc n) = refl
first listed i (x ∷ xs) = go (listed i x) refl (first listed (suc i) xs)
  where
    go : (b : Bool) → listed i x ≡ b → AllListed listed (suc i) xs ⊎ HasFirst listed (suc i) xs → AllListed listed i (x ∷ xs) ⊎ HasFirst listed i (x ∷ xs)
    go false e later = inr (0, x, refl, refl, (let p : i + 0 ≡ i = omega arith in ap (λ j. listed j x) p ∙ e))
    go true e (inl h) = inl all
      where
        all : (n : ℕ) → all_listed listed i (take n (x ∷ xs)) ≡ true
        all zero = refl
        all (suc n) = and_true _ _ e (h n)
    go true e (inr h) = inr (suc h.0, h.1, and_true _ _ e h.2, h.3, (let p : i + suc h.0 ≡ suc i + h.0 = omega arith in ap (λ j. listed j h.1) p ∙ h.4))

-- ---- bounds that are 0 where a scheme before is not listed

zeroed : (b : Bool) (T : PlaceTable) (M : Memo) (at : ℕ → Place) (B : ℕ → Delivered → ℕ) → (b ≡ true → IsBounded T M at B) → IsBounded T M at (λ g d. cond b (B g d) 0)
zeroed true T M at B h = h refl
zeroed false T M at B h = record {
  leaves = λ g q k d l m. omega arith;
  ones = λ g i q k have l e f m. omega arith;
  twos = λ g i j q k op have beside l o f p m n. omega arith;
  enforcers = λ g k have d e m. omega arith;
}

module _ (W : Setting) (listed : Listing) (C : ℕ) where
  abbrev shared_count : ℕ
  shared_count = length (shared_trees W.dag)

  abbrev groups_zeroed : (ℕ → TreeGroups) → ℕ → TreeGroups
  groups_zeroed groups t = record {
    tree = (groups t).tree;
    memo = (groups t).memo;
    at = (groups t).at;
    bound = λ given g d. cond (are_listed W listed given t) ((groups t).bound given g d) 0;
  }

  are_groups : (groups : ℕ → TreeGroups) (t : ℕ) → AreGroupsListed W listed C t (groups t) → AreTreeGroups W t (groups_zeroed groups t)
  are_groups groups t h = record {
    there = h.there;
    begins = h.begins;
    stepped = h.stepped;
    placed = h.placed;
    closed = h.closed;
    bounded = λ given. zeroed (are_listed W listed given t) (table_for W given t (groups t).tree) (groups t).memo (groups t).at ((groups t).bound given) (h.bounded given);
  }

  some_shared : shared_count ≤ tree_count W
  some_shared = let k = length-append (shared_trees W.dag) (output_trees W.dag) in omega (arith, k)

  sum_has : (f : ℕ → ℕ) (s n : ℕ) → s < n → f s ≤ sum_to f n
  sum_has f s zero l = absurd (omega (arith, l))
  sum_has f s (suc n) l = go (nat_eq s n) refl (sum_has f s n)
    where
      go : (b : Bool) → nat_eq s n ≡ b → (s < n → f s ≤ sum_to f n) → f s ≤ sum_to f n + f n
      go true e h = let p : s ≡ n = grind (arith, nat_tests) in let q : f s ≡ f n = ap f p in omega (arith, q)
      go false e h = let p : s < n = grind (arith, nat_tests) in let q = h p in omega (arith, q)

  -- a tree that is not listed is a shared one
  is_shared : (s : ℕ) (x : Scheme) → is_listed W listed s x ≡ false → (nat_lt s shared_count ≡ true) × (listed s x ≡ false)
  is_shared s x e = go (nat_lt s shared_count) refl
    where
      go : (b : Bool) → nat_lt s shared_count ≡ b → (nat_lt s shared_count ≡ true) × (listed s x ≡ false)
      go true f = (f, ap (λ c. cond c (listed s x) true) (sym f) ∙ e)
      go false f = absurd (let z : true ≡ false = ap (λ c. cond c (listed s x) true) (sym f) ∙ e in cc)

  is_below : (s : ℕ) → nat_lt s shared_count ≡ true → s < shared_count
  is_below s h = grind (arith, nat_tests)

  equal_itself : (n : ℕ) → nat_eq n n ≡ true
  equal_itself n = grind (arith, nat_tests)

  is_equal : (n m : ℕ) → nat_eq n m ≡ true → n ≡ m
  is_equal n m h = grind (arith, nat_tests)

  some_same : (x y : Scheme) (o : _) → o ≡ Some x → o ≡ Some y → x ≡ y
  some_same x y o e f = let g : Some x ≡ Some y = sym e ∙ f in cc

  abbrev LeastAt : (ℕ → TreeGroups) → List Scheme → Type 0
  LeastAt groups given = (l : ℕ → ℕ) × ((t : ℕ) (d : Delivered) → t < tree_count W → IsWanted W given t d → l t ≤ (groups_zeroed groups t).bound given (root_of (groups t)) d) × (C ≤ sum_to l (tree_count W))

  least_sum : (groups : ℕ → TreeGroups) → ((t : ℕ) → t < tree_count W → AreGroupsListed W listed C t (groups t)) → IsLeastListed W listed groups C → IsLeastSum W (groups_zeroed groups) C
  least_sum groups each least given = go (first (is_listed W listed) 0 given)
    where
      at_first : (s : ℕ) (x : Scheme) → are_listed W listed given s ≡ true → slice_get given s ≡ Some x → nat_lt s shared_count ≡ true → listed s x ≡ false → LeastAt groups given
      at_first s x a e f h = (alone, below, most)
        where
          alone : ℕ → ℕ
          alone t = cond (nat_eq t s) C 0

          inside : s < tree_count W
          inside = let k = is_below s f in let l = some_shared in omega (arith, k, l)

          most : C ≤ sum_to (λ t. cond (nat_eq t s) C 0) (tree_count W)
          most = subst (λ b. cond b C 0 ≤ sum_to (λ t. cond (nat_eq t s) C 0) (tree_count W)) (equal_itself s) (sum_has (λ t. cond (nat_eq t s) C 0) s (tree_count W) inside)

          here : (d : Delivered) → IsWanted W given s d → C ≤ (groups_zeroed groups s).bound given (root_of (groups s)) d
          here d m =
              let g : slice_get given s ≡ Some d.scheme = subst (λ b. IsWantedOf W given s d b) f m in
              let y : x ≡ d.scheme = some_same x d.scheme (slice_get given s) e g in
              let z = (each s inside).unlisted given d a (ap (listed s) (sym y) ∙ h) in
              subst (λ b. C ≤ cond b ((groups s).bound given (root_of (groups s)) d) 0) (sym a) z

          below : (t : ℕ) (d : Delivered) → t < tree_count W → IsWanted W given t d → cond (nat_eq t s) C 0 ≤ (groups_zeroed groups t).bound given (root_of (groups t)) d
          below t d l m = side (nat_eq t s) refl
            where
              side : (b : Bool) → nat_eq t s ≡ b → cond b C 0 ≤ (groups_zeroed groups t).bound given (root_of (groups t)) d
              side true k = let p = is_equal t s k in subst (λ i. IsWanted W given i d → C ≤ (groups_zeroed groups i).bound given (root_of (groups i)) d) (sym p) (here d) m
              side false k = omega arith

      go : AllListed (is_listed W listed) 0 given ⊎ HasFirst (is_listed W listed) 0 given → LeastAt groups given
      go (inl h) =
          let l = least given h in
          (l.0, (λ t d m w. subst (λ b. l.0 t ≤ cond b ((groups t).bound given (root_of (groups t)) d) 0) (sym (h t)) (l.1 t d m w)), l.2)
      go (inr h) =
          let p : 0 + h.0 ≡ h.0 = omega arith in
          let k = is_shared h.0 h.1 (ap (λ j. is_listed W listed j h.1) (sym p) ∙ h.4) in
          at_first h.0 h.1 h.2 h.3 k.0 k.1

pub none_less : NoScriptCostsLessListed
none_less W listed groups C bound known each least given plans costs are =
    no_script_costs_less W (groups_zeroed W listed C groups) C bound known (λ t m. are_groups W listed C groups t (each t m)) (least_sum W listed C groups each least) given plans costs are
