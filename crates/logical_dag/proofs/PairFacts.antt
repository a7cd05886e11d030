-- Facts with the pairs of columns that lie inside.
use Rattle.std.proofs.Common.{◌≡◌, ℕ, ◌<◌, true, List, [], ◌∷◌, ◌++◌, sym, ap, ◌∙◌, subst, ◌⊎◌, inl, inr}
use Rattle.std.specs.Prelude.{Contains}
use Rattle.std.proofs.lemmas.List.Elements.{Contains-append_left, Contains-append_right, Contains-append_cases}
use Rattle.col_sets.specs.Sets.{has}
use Rattle.structural_props.specs.Actions.{In}
use Rattle.fd_closure.specs.declared.facts.Facts.{Facts}
use Rattle.fd_closure.specs.Known.{equal_of, IsMerged}
use Rattle.logical_dag.specs.Facts.{stated}
use Rattle.logical_dag.specs.Known.{IsOwn, AreClasses}
use Rattle.logical_dag.specs.BlockFacts.{IsInside}
use Rattle.list_lemmas.specs.Members.{in_list, list_in}
use Rattle.logical_dag.proofs.Either.{either_both}
use Rattle.logical_dag.proofs.Classes.{classes_same, classes_chain, classes_kept, classes_with}

-- equal by the facts, or a pair that lies inside
abbrev pub EqualOrInside : Facts → List (ℕ × ℕ) → ℕ → ℕ → Type 0
EqualOrInside f pairs c d = (equal_of f c d ≡ true) ⊎ IsInside pairs f.columns c d

-- no pairs add nothing
pub no_pairs : (f : Facts) → IsOwn f → AreClasses f (EqualOrInside f [])
no_pairs f own = classes_kept f (IsInside [] f.columns) own (λ c d h. in_list [] (c, d) h.2)

-- a list of one pair has no other
one_pair : (a b c d : ℕ) → Contains {X = ℕ × ℕ} ((a, b) ∷ []) (c, d) → (c ≡ a) × (d ≡ b)
one_pair a b c d h = go (in_list ((a, b) ∷ []) (c, d) h)
  where
    go : In {X = ℕ × ℕ} (c, d) ((a, b) ∷ []) → (c ≡ a) × (d ≡ b)
    go (inl e) = (ap (λ (p : ℕ × ℕ). p.0) e, ap (λ (p : ℕ × ℕ). p.1) e)
    go (inr k) = absurd k

-- a pair that lies inside is set equal
pub pair_inside : (f g : Facts) (a b : ℕ) → IsOwn f → a < 128 → b < 128 → has f.columns a ≡ true → has f.columns b ≡ true → IsMerged f a b g → AreClasses g (EqualOrInside f ((a, b) ∷ []))
pair_inside f g a b own l m here there merged = classes_with f g a b (IsInside ((a, b) ∷ []) f.columns) own l m merged (λ c d h. one_pair a b c d h.2) just
  where
    just : (c d : ℕ) → (c ≡ a) × (d ≡ b) → IsInside ((a, b) ∷ []) f.columns c d
    just c d h = (subst (λ (i : ℕ). has f.columns i ≡ true) (sym h.0) here, subst (λ (i : ℕ). has f.columns i ≡ true) (sym h.1) there, list_in ((a, b) ∷ []) (c, d) (inl (same c d h.0 h.1)))
      where
        same : (c d : ℕ) → c ≡ a → d ≡ b → ◌≡◌ {A = ℕ × ℕ} (c, d) (a, b)
        same c d e k = (cc)

-- a pair that doesn't changes nothing
pub pair_outside : (f : Facts) (a b : ℕ) → IsOwn f → ((has f.columns a ≡ true) × (has f.columns b ≡ true) → ⊥) → AreClasses f (EqualOrInside f ((a, b) ∷ []))
pair_outside f a b own out = classes_kept f (IsInside ((a, b) ∷ []) f.columns) own none
  where
    none : (c d : ℕ) → IsInside ((a, b) ∷ []) f.columns c d → ⊥
    none c d h = let e = one_pair a b c d h.2 in out (subst (λ (i : ℕ). has f.columns i ≡ true) e.0 h.0, subst (λ (i : ℕ). has f.columns i ≡ true) e.1 h.1)

-- some pairs and then others are all of them
pub pairs_both : (f g h : Facts) (xs ys : List (ℕ × ℕ)) → g.columns ≡ f.columns → AreClasses g (EqualOrInside f xs) → AreClasses h (EqualOrInside g ys) → AreClasses h (EqualOrInside f (xs ++ ys))
pairs_both f g h xs ys same first second =
    classes_same h _ (classes_chain g h (EqualOrInside f xs) (IsInside ys g.columns) first second) (EqualOrInside f (xs ++ ys)) (λ c d m. stated (forth c d m)) (λ c d m. stated (back c d m))
  where
    forth : (c d : ℕ) → EqualOrInside f xs c d ⊎ IsInside ys g.columns c d → EqualOrInside f (xs ++ ys) c d
    forth c d (inl (inl m)) = inl m
    forth c d (inl (inr m)) = inr (m.0, m.1, Contains-append_left xs ys (c, d) m.2)
    forth c d (inr m) = inr (subst (λ (cols : List ℕ). has cols c ≡ true) same m.0, subst (λ (cols : List ℕ). has cols d ≡ true) same m.1, Contains-append_right xs ys (c, d) m.2)

    back : (c d : ℕ) → EqualOrInside f (xs ++ ys) c d → EqualOrInside f xs c d ⊎ IsInside ys g.columns c d
    back c d (inl m) = inl (inl m)
    back c d (inr m) =
        either_both (λ n. inr (m.0, m.1, n)) (λ n. (subst (λ (cols : List ℕ). has cols c ≡ true) (sym same) m.0, subst (λ (cols : List ℕ). has cols d ≡ true) (sym same) m.1, n))
        (Contains-append_cases xs ys (c, d) m.2)

-- what is kept but for the classes is kept over two steps
pub rest_kept : (f g h : Facts) → g ≡ record f { class = g.class } → h ≡ record g { class = h.class } → h ≡ record f { class = h.class }
rest_kept f g h e k = k ∙ ap (λ (i : Facts). record i { class = h.class }) e

-- the pairs of a Join, after those of its sides
pub block_pairs_both : (f g h k : Facts) (xs ys zs : List (ℕ × ℕ)) → g.columns ≡ f.columns → h.columns ≡ f.columns
    → AreClasses g (EqualOrInside f xs) → AreClasses h (EqualOrInside g ys) → AreClasses k (EqualOrInside h zs) → AreClasses k (EqualOrInside f (xs ++ (ys ++ zs)))
block_pairs_both f g h k xs ys zs e i p q r = pairs_both f g k xs (ys ++ zs) e p (pairs_both g h k ys zs (i ∙ sym e) q r)
