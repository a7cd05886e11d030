-- Classes of equal columns and the chains that link their columns.
use Rattle.std.proofs.Common.{◌≡◌, ℕ, ◌<◌, true, ◌&&◌, ◌||◌, List, refl, sym, ap, ◌∙◌, subst, ◌⊎◌, inl, inr}
use Rattle.std.specs.Prelude.{◌↔◌}
use Rattle.col_sets.specs.Tests.{both, and_true, either, or_left, or_right}
use Rattle.fd_closure.specs.declared.facts.Facts.{Facts}
use Rattle.fd_closure.specs.Known.{class_of, equal_of, IsMerged}
use Rattle.fd_closure.specs.Laws.{equal_parts, equal_of_parts}
use Rattle.logical_dag.specs.Facts.{IsLinked, stated, itself, turned, chained}
use Rattle.logical_dag.specs.Known.{IsOwn, AreClasses}
use Rattle.logical_dag.proofs.Either.{from_either, either_both, either_second}

-- chains of links of another kind
pub linked_bind : (P Q : ℕ → ℕ → Type 0) → ((a b : ℕ) → P a b → IsLinked Q a b) → (a b : ℕ) → IsLinked P a b → IsLinked Q a b
linked_bind P Q h a b (stated p) = h a b p
linked_bind P Q h a b itself = itself
linked_bind P Q h a b (turned l) = turned (linked_bind P Q h b a l)
linked_bind P Q h a b (chained {d = c} l m) = chained (linked_bind P Q h a c l) (linked_bind P Q h c b m)

-- a column is linked to one that is equal to it
pub linked_same : (P : ℕ → ℕ → Type 0) (a b : ℕ) → a ≡ b → IsLinked P a b
linked_same P a b e = subst (λ (c : ℕ). IsLinked P a c) e itself

-- where nothing is stated, a column is linked to itself alone
pub linked_none : (P : ℕ → ℕ → Type 0) → ((a b : ℕ) → P a b → ⊥) → (a b : ℕ) → IsLinked P a b → a ≡ b
linked_none P none a b (stated p) = absurd (none a b p)
linked_none P none a b itself = refl
linked_none P none a b (turned l) = sym (linked_none P none b a l)
linked_none P none a b (chained {d = c} l m) = linked_none P none a c l ∙ linked_none P none c b m

module _ (f : Facts) where
  pub equal_turned : (a b : ℕ) → equal_of f a b ≡ true → equal_of f b a ≡ true
  equal_turned a b h =
      let p = equal_parts f a b h in
      let low : class_of f b < 128 = subst (λ (c : ℕ). c < 128) p.3 p.2 in
      equal_of_parts f b a p.1 p.0 low (sym p.3)

  pub equal_chained : (a b c : ℕ) → equal_of f a b ≡ true → equal_of f b c ≡ true → equal_of f a c ≡ true
  equal_chained a b c h k =
      let p = equal_parts f a b h in
      let q = equal_parts f b c k in
      equal_of_parts f a c p.0 q.1 p.2 (p.3 ∙ q.3)

  -- one column, or two that are equal by the facts
  abbrev pub AreOne : ℕ → ℕ → Type 0
  AreOne a b = (a ≡ b) ⊎ (equal_of f a b ≡ true)

  -- where stated columns are equal by the facts, so are those that chains link
  pub linked_one : (P : ℕ → ℕ → Type 0) → ((a b : ℕ) → P a b → AreOne a b) → (a b : ℕ) → IsLinked P a b → AreOne a b
  linked_one P h a b (stated p) = h a b p
  linked_one P h a b itself = inl refl
  linked_one P h a b (turned l) = go (linked_one P h b a l)
    where
      go : AreOne b a → AreOne a b
      go = either_both sym (equal_turned b a)
  linked_one P h a b (chained {d = c} l m) = go (linked_one P h a c l) (linked_one P h c b m)
    where
      go : AreOne a c → AreOne c b → AreOne a b
      go (inl e) (inl i) = inl (e ∙ i)
      go (inl e) (inr k) = inr (subst (λ (i : ℕ). equal_of f i b ≡ true) (sym e) k)
      go (inr k) (inl e) = inr (subst (λ (i : ℕ). equal_of f a i ≡ true) e k)
      go (inr k) (inr m) = inr (equal_chained a c b k m)

-- the classes are those of the equalities that the facts have
pub classes_start : (f : Facts) → IsOwn f → AreClasses f (λ a b. equal_of f a b ≡ true)
classes_start f own = record { own = own; there = λ a b h. stated h; back = linked_one f (λ a b. equal_of f a b ≡ true) (λ a b h. inr h) }

module _ (f : Facts) (P : ℕ → ℕ → Type 0) (h : AreClasses f P) where
  -- other equalities that link the same columns
  pub classes_same : (Q : ℕ → ℕ → Type 0) → ((a b : ℕ) → P a b → IsLinked Q a b) → ((a b : ℕ) → Q a b → IsLinked P a b) → AreClasses f Q
  classes_same Q there back = record {
    own = h.own;
    there = λ a b k. linked_bind P Q there a b (h.there a b k);
    back = λ a b l. h.back a b (linked_bind Q P back a b l);
  }

  -- columns below 128 are equal by the facts just where chains link them
  pub classes_linked : (a b : ℕ) → a < 128 → b < 128 → (equal_of f a b ≡ true) ↔ IsLinked P a b
  classes_linked a b l m = (h.there a b, λ k. from_either (λ e. subst (λ (i : ℕ). equal_of f a i ≡ true) e (h.own a l)) (λ n. n) (h.back a b k))

  -- with two classes merged
  pub classes_merged : (c d : ℕ) (g : Facts) → c < 128 → d < 128 → IsMerged f c d g → AreClasses g (λ a b. P a b ⊎ ((a ≡ c) × (b ≡ d)))
  classes_merged c d g l m merged = record { own = λ a n. kept a a (h.own a n); there = there; back = linked_back }
    where
      kept : (a b : ℕ) → equal_of f a b ≡ true → equal_of g a b ≡ true
      kept a b k = merged a b ∙ or_left _ _ k

      new : equal_of g c d ≡ true
      new = merged c d ∙ or_right (equal_of f c d) _ (or_left _ _ (and_true _ _ (h.own c l) (h.own d m)))

      old : (a b : ℕ) → equal_of f a b ≡ true → IsLinked (λ a b. P a b ⊎ ((a ≡ c) × (b ≡ d))) a b
      old a b k = linked_bind P (λ a b. P a b ⊎ ((a ≡ c) × (b ≡ d))) (λ a b p. stated (inl p)) a b (h.there a b k)

      pair : IsLinked (λ a b. P a b ⊎ ((a ≡ c) × (b ≡ d))) c d
      pair = stated (inr (refl, refl))

      there : (a b : ℕ) → equal_of g a b ≡ true → IsLinked (λ a b. P a b ⊎ ((a ≡ c) × (b ≡ d))) a b
      there a b k = go (either _ _ (sym (merged a b) ∙ k))
        where
          go : (equal_of f a b ≡ true) ⊎ (((equal_of f a c && equal_of f d b) || (equal_of f a d && equal_of f c b)) ≡ true) → IsLinked (λ a b. P a b ⊎ ((a ≡ c) × (b ≡ d))) a b
          go (inl i) = old a b i
          go (inr i) = side (either _ _ i)
            where
              side : ((equal_of f a c && equal_of f d b) ≡ true) ⊎ ((equal_of f a d && equal_of f c b) ≡ true) → IsLinked (λ a b. P a b ⊎ ((a ≡ c) × (b ≡ d))) a b
              side (inl j) = let p = both _ _ j in chained (old a c p.0) (chained pair (old d b p.1))
              side (inr j) = let p = both _ _ j in chained (old a d p.0) (chained (turned pair) (old c b p.1))

      stated_back : (a b : ℕ) → P a b ⊎ ((a ≡ c) × (b ≡ d)) → (a ≡ b) ⊎ (equal_of g a b ≡ true)
      stated_back a b (inl p) = either_second (kept a b) (h.back a b (stated p))
      stated_back a b (inr p) = inr (subst (λ (i : ℕ). equal_of g i b ≡ true) (sym p.0) (subst (λ (i : ℕ). equal_of g c i ≡ true) (sym p.1) new))

      linked_back : (a b : ℕ) → IsLinked (λ a b. P a b ⊎ ((a ≡ c) × (b ≡ d))) a b → (a ≡ b) ⊎ (equal_of g a b ≡ true)
      linked_back = linked_one g (λ a b. P a b ⊎ ((a ≡ c) × (b ≡ d))) stated_back

-- facts of the same classes
pub classes_moved : (f g : Facts) (P : ℕ → ℕ → Type 0) → g.class ≡ f.class → AreClasses f P → AreClasses g P
classes_moved f g P e h = record {
  own = λ c l. same c c ∙ h.own c l;
  there = λ c d k. h.there c d (sym (same c d) ∙ k);
  back = λ c d l. either_second (λ k. same c d ∙ k) (h.back c d l);
}
  where
    same : (c d : ℕ) → equal_of g c d ≡ equal_of f c d
    same c d = ap (λ (s : List ℕ). equal_of (record f { class = s }) c d) e

-- equalities of one step after another
pub classes_chain : (f g : Facts) (P Q : ℕ → ℕ → Type 0) → AreClasses f P → AreClasses g (λ c d. (equal_of f c d ≡ true) ⊎ Q c d) → AreClasses g (λ c d. P c d ⊎ Q c d)
classes_chain f g P Q h k = classes_same g (λ c d. (equal_of f c d ≡ true) ⊎ Q c d) k (λ c d. P c d ⊎ Q c d) there back
  where
    there : (c d : ℕ) → (equal_of f c d ≡ true) ⊎ Q c d → IsLinked (λ c d. P c d ⊎ Q c d) c d
    there c d = from_either (λ m. linked_bind P (λ c d. P c d ⊎ Q c d) (λ c d p. stated (inl p)) c d (h.there c d m)) (λ m. stated (inr m))

    back : (c d : ℕ) → P c d ⊎ Q c d → IsLinked (λ c d. (equal_of f c d ≡ true) ⊎ Q c d) c d
    back c d = from_either (λ m. from_either (linked_same (λ c d. (equal_of f c d ≡ true) ⊎ Q c d) c d) (λ k. stated (inl k)) (h.back c d (stated m))) (λ m. stated (inr m))

-- nothing more is equal
pub classes_kept : (f : Facts) (Q : ℕ → ℕ → Type 0) → IsOwn f → ((c d : ℕ) → Q c d → ⊥) → AreClasses f (λ c d. (equal_of f c d ≡ true) ⊎ Q c d)
classes_kept f Q own none = classes_same f (λ c d. equal_of f c d ≡ true) (classes_start f own) (λ c d. (equal_of f c d ≡ true) ⊎ Q c d) (λ c d k. stated (inl k)) (λ c d. from_either stated (λ k. absurd (none c d k)))

-- two columns more are equal
pub classes_with : (f g : Facts) (a b : ℕ) (Q : ℕ → ℕ → Type 0) → IsOwn f → a < 128 → b < 128 → IsMerged f a b g → ((c d : ℕ) → Q c d → (c ≡ a) × (d ≡ b)) → ((c d : ℕ) → (c ≡ a) × (d ≡ b) → Q c d)
    → AreClasses g (λ c d. (equal_of f c d ≡ true) ⊎ Q c d)
classes_with f g a b Q own l m merged only just =
    classes_same g (λ c d. (equal_of f c d ≡ true) ⊎ ((c ≡ a) × (d ≡ b))) (classes_merged f (λ c d. equal_of f c d ≡ true) (classes_start f own) a b g l m merged)
    (λ c d. (equal_of f c d ≡ true) ⊎ Q c d) (λ c d k. stated (either_second (just c d) k)) (λ c d k. stated (either_second (only c d) k))
