-- Facts that are added hold.
use Rattle.std.proofs.Common.{◌≡◌, ℕ, ◌<◌, Bool, true, false, ◌&&◌, ◌||◌, List, [], length, slice_index, if◌then◌else◌, ◌≤◌, ◌≢◌, refl, sym, ap, ◌∙◌, subst, arith, nat_eq, nat_lt, ◌⊎◌, inl, inr}
use Rattle.std.specs.Prelude.{Contains, slice_set, slice_index_or}
use Rattle.std.proofs.lemmas.Bool.Decides.{nat_tests}
use Rattle.std.proofs.lemmas.List.{get_or-set_same, get_or-set_other}
use Rattle.scope_value.specs.declared.value.Value.{Value}
use Rattle.col_sets.specs.Sets.{has, with_column}
use Rattle.col_sets.specs.Columns.{with_has}
use Rattle.col_sets.specs.Tests.{both, either, and_true, or_left, or_right, same_tests, from_test, to_test}
use Rattle.fd_closure.specs.Laws.{equal_parts, equal_of_parts}
use Rattle.fd_closure.specs.Known.{by_of, class_of, equal_of, IsMerged}
use Rattle.fd_closure.specs.Hold.{at, AreOver, OneValue, Depends, AreEqual, FactsHold}
use Rattle.fd_closure.specs.declared.facts.Facts.{Facts}

pub plain_holds : (f : Facts) (rows : List (List Value)) → AreOver f.columns rows → f.constants ≡ [] → f.determined ≡ [] → ((c d : ℕ) → equal_of f c d ≡ (nat_lt c 128 && nat_eq c d)) → FactsHold f rows
plain_holds f rows over p q r = record {
  over = over;
  constants = λ c l h. absurd (let k : has [] c ≡ true = ap (λ s. has s c) (sym p) ∙ h in cc);
  determined = λ c l h. absurd (let k : has [] c ≡ true = ap (λ s. has s c) (sym q) ∙ h in cc);
  equal = λ c d h x m. ap (at f.columns x) (from_test c d (both (nat_lt c 128) (nat_eq c d) (sym (r c d) ∙ h)).1);
}

module _ (f : Facts) (rows : List (List Value)) (hold : FactsHold f rows) where
  pub constant_holds : (c : ℕ) → OneValue f.columns rows c → FactsHold (record f { constants = with_column f.constants c }) rows
  constant_holds c one = record {
    over = hold.over;
    constants = λ d l h. go d l (with_has f.constants c d h);
    determined = hold.determined;
    equal = hold.equal;
  }
    where
      go : (d : ℕ) → d < 128 → (d ≡ c) ⊎ (has f.constants d ≡ true) → OneValue f.columns rows d
      go d l (inl e) = subst (λ (i : ℕ). OneValue f.columns rows i) (sym e) one
      go d l (inr h) = hold.constants d l h

  pub dependency_holds : (c : ℕ) (s : List ℕ) → c < length f.by → Depends f.columns rows s c → FactsHold (record f { determined = with_column f.determined c; by = slice_set f.by c s }) rows
  dependency_holds c s n one = record {
    over = hold.over;
    constants = hold.constants;
    determined = λ d l h. go d l (nat_eq d c) refl (with_has f.determined c d h);
    equal = hold.equal;
  }
    where
      same : (d : ℕ) → d ≡ c → slice_index_or (slice_set f.by c s) d [] ≡ s
      same d e = ap (λ (i : ℕ). slice_index_or (slice_set f.by c s) i []) e ∙ get_or-set_same f.by c s [] n

      kept : (d : ℕ) → nat_eq d c ≡ false → slice_index_or (slice_set f.by c s) d [] ≡ by_of f d
      kept d e = get_or-set_other f.by c d s [] (let other : d ≢ c = grind (arith, nat_tests) in other)

      go : (d : ℕ) → d < 128 → (b : Bool) → nat_eq d c ≡ b → (d ≡ c) ⊎ (has f.determined d ≡ true) → Depends f.columns rows (slice_index_or (slice_set f.by c s) d []) d
      go d l true e h =
          let at_c : d ≡ c = from_test d c e in
          subst (λ (t : List ℕ). Depends f.columns rows t d) (sym (same d at_c)) (subst (λ (i : ℕ). Depends f.columns rows s i) (sym at_c) one)
      go d l false e (inl k) = absurd (let t = to_test d c k in let g : true ≡ false = sym t ∙ e in cc)
      go d l false e (inr k) = subst (λ (t : List ℕ). Depends f.columns rows t d) (sym (kept d e)) (hold.determined d l k)

  -- a number that is no column has no dependency
  pub no_dependency_holds : (c : ℕ) → 128 ≤ c → FactsHold (record f { determined = with_column f.determined c }) rows
  no_dependency_holds c n = record {
    over = hold.over;
    constants = hold.constants;
    determined = λ d l h. go d l (with_has f.determined c d h);
    equal = hold.equal;
  }
    where
      go : (d : ℕ) → d < 128 → (d ≡ c) ⊎ (has f.determined d ≡ true) → Depends f.columns rows (by_of f d) d
      go d l (inl e) = absurd (omega arith)
      go d l (inr h) = hold.determined d l h

  pub merged_holds : (class : List ℕ) (c d : ℕ) → IsMerged f c d (record f { class = class }) → AreEqual f.columns rows c d → FactsHold (record f { class = class }) rows
  merged_holds class c d merged one = record {
    over = hold.over;
    constants = hold.constants;
    determined = hold.determined;
    equal = λ a b h x m. go a b x m (either _ _ (sym (merged a b) ∙ h));
  }
    where
      go : (a b : ℕ) (x : List Value) → Contains rows x → (equal_of f a b ≡ true) ⊎ (((equal_of f a c && equal_of f d b) || (equal_of f a d && equal_of f c b)) ≡ true) → at f.columns x a ≡ at f.columns x b
      go a b x m (inl h) = hold.equal a b h x m
      go a b x m (inr h) = side (either _ _ h)
        where
          side : ((equal_of f a c && equal_of f d b) ≡ true) ⊎ ((equal_of f a d && equal_of f c b) ≡ true) → at f.columns x a ≡ at f.columns x b
          side (inl k) = let parts = both _ _ k in hold.equal a c parts.0 x m ∙ one x m ∙ hold.equal d b parts.1 x m
          side (inr k) = let parts = both _ _ k in hold.equal a d parts.0 x m ∙ sym (one x m) ∙ hold.equal c b parts.1 x m

-- where the class of c became part of the class of d, columns are equal that were, or of which one was equal to c and the other to d
module _ (f : Facts) (class : List ℕ) (c d : ℕ) (l : c < 128) (m : d < 128) (n : class_of f c < 128) (o : class_of f d < 128)
    (h : (a : ℕ) → a < 128 → slice_index class a ≡ (if nat_eq (class_of f a) (class_of f c) then class_of f d else class_of f a)) where
  abbrev g : Facts
  g = record f { class = class }

  joins : (a : ℕ) → a < 128 → class_of f a ≡ class_of f c → class_of g a ≡ class_of f d
  joins a p e = h a p ∙ ap (λ t. if t then class_of f d else class_of f a) (to_test (class_of f a) (class_of f c) e)

  keeps : (a : ℕ) → a < 128 → nat_eq (class_of f a) (class_of f c) ≡ false → class_of g a ≡ class_of f a
  keeps a p e = h a p ∙ ap (λ t. if t then class_of f d else class_of f a) e

  -- a column of the class of d has it still
  stays : (a : ℕ) → a < 128 → class_of f a ≡ class_of f d → class_of g a ≡ class_of f d
  stays a p e = go (nat_eq (class_of f a) (class_of f c)) refl
    where
      go : (b : Bool) → nat_eq (class_of f a) (class_of f c) ≡ b → class_of g a ≡ class_of f d
      go true k = joins a p (from_test (class_of f a) (class_of f c) k)
      go false k = keeps a p k ∙ e

  together : ℕ → ℕ → Bool
  together a b = equal_of f a b || ((equal_of f a c && equal_of f d b) || (equal_of f a d && equal_of f c b))

  forth : (a b : ℕ) → equal_of g a b ≡ true → together a b ≡ true
  unfolding together
  forth a b e = go (nat_eq (class_of f a) (class_of f c)) refl (nat_eq (class_of f b) (class_of f c)) refl
    where
      parts : (a < 128) × (b < 128) × (class_of g a < 128) × (class_of g a ≡ class_of g b)
      parts = equal_parts g a b e

      go : (s : Bool) → nat_eq (class_of f a) (class_of f c) ≡ s → (t : Bool) → nat_eq (class_of f b) (class_of f c) ≡ t → together a b ≡ true
      go true p true q =
          let i : class_of f a ≡ class_of f c = from_test (class_of f a) (class_of f c) p in
          let j : class_of f b ≡ class_of f c = from_test (class_of f b) (class_of f c) q in
          or_left _ _ (equal_of_parts f a b parts.0 parts.1 (omega arith) (i ∙ sym j))
      go true p false q =
          let i : class_of f a ≡ class_of f c = from_test (class_of f a) (class_of f c) p in
          let j : class_of f d ≡ class_of f b = sym (joins a parts.0 i) ∙ parts.3 ∙ keeps b parts.1 q in
          or_right _ _ (or_left _ _ (and_true _ _ (equal_of_parts f a c parts.0 l (omega arith) i) (equal_of_parts f d b m parts.1 o j)))
      go false p true q =
          let i : class_of f b ≡ class_of f c = from_test (class_of f b) (class_of f c) q in
          let j : class_of f a ≡ class_of f d = sym (keeps a parts.0 p) ∙ parts.3 ∙ joins b parts.1 i in
          or_right _ _ (or_right _ _ (and_true _ _ (equal_of_parts f a d parts.0 m (omega arith) j) (equal_of_parts f c b l parts.1 n (sym i))))
      go false p false q =
          let i : class_of g a ≡ class_of f a = keeps a parts.0 p in
          let j : class_of f a < 128 = subst (λ (k : ℕ). k < 128) i parts.2 in
          or_left _ _ (equal_of_parts f a b parts.0 parts.1 j (sym i ∙ parts.3 ∙ keeps b parts.1 q))

  back : (a b : ℕ) → together a b ≡ true → equal_of g a b ≡ true
  unfolding together
  back a b e = go (either _ _ e)
    where
      both_of_d : (a < 128) → (b < 128) → class_of g a ≡ class_of f d → class_of g b ≡ class_of f d → equal_of g a b ≡ true
      both_of_d p q i j = equal_of_parts g a b p q (subst (λ (k : ℕ). k < 128) (sym i) o) (i ∙ sym j)

      one : (a < 128) × (b < 128) × (class_of f a < 128) × (class_of f a ≡ class_of f b) → (t : Bool) → nat_eq (class_of f a) (class_of f c) ≡ t → equal_of g a b ≡ true
      one parts true k =
          let i : class_of f a ≡ class_of f c = from_test (class_of f a) (class_of f c) k in
          both_of_d parts.0 parts.1 (joins a parts.0 i) (joins b parts.1 (sym parts.3 ∙ i))
      one parts false k =
          let i : class_of g a ≡ class_of f a = keeps a parts.0 k in
          let j : class_of g b ≡ class_of f b = keeps b parts.1 (ap (λ v. nat_eq v (class_of f c)) (sym parts.3) ∙ k) in
          equal_of_parts g a b parts.0 parts.1 (subst (λ (v : ℕ). v < 128) (sym i) parts.2) (i ∙ parts.3 ∙ sym j)

      go : (equal_of f a b ≡ true) ⊎ (((equal_of f a c && equal_of f d b) || (equal_of f a d && equal_of f c b)) ≡ true) → equal_of g a b ≡ true
      go (inl k) = one (equal_parts f a b k) (nat_eq (class_of f a) (class_of f c)) refl
      go (inr k) = side (either _ _ k)
        where
          side : ((equal_of f a c && equal_of f d b) ≡ true) ⊎ ((equal_of f a d && equal_of f c b) ≡ true) → equal_of g a b ≡ true
          side (inl t) =
              let u = both (equal_of f a c) (equal_of f d b) t in
              let v = equal_parts f a c u.0 in
              let w = equal_parts f d b u.1 in
              both_of_d v.0 w.1 (joins a v.0 v.3) (stays b w.1 (sym w.3))
          side (inr t) =
              let u = both (equal_of f a d) (equal_of f c b) t in
              let v = equal_parts f a d u.0 in
              let w = equal_parts f c b u.1 in
              both_of_d v.0 w.1 (stays a v.0 v.3) (joins b w.1 (sym w.3))

  pub classes_merged : IsMerged f c d g
  unfolding together
  classes_merged a b = same_tests (equal_of g a b) (together a b) (forth a b) (back a b)
