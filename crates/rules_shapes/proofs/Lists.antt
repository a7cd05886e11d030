-- The equalities that a Join of two expressions has, as a list; and which leaves a link ties.
use Rattle.std.proofs.Common.{◌≡◌, ◌<◌, ◌&&◌, ◌||◌, ℕ, Bool, true, false, cond, List, [], ◌∷◌, ◌++◌, length, arith, refl, sym, ap, ◌∙◌, subst, ◌⊎◌, inl, inr}
use Rattle.std.specs.Prelude.{Contains}
use Rattle.col_sets.specs.Sets.{has}
use Rattle.col_sets.specs.Tests.{both, and_true, either}
use Rattle.structural_props.specs.Actions.{In}
use Rattle.structural_props.specs.KeptLemmas.{in_append, in_left, in_right}
use Rattle.logical_trees.specs.Tree.{Expression, columns_of}
use Rattle.logical_trees.specs.Blocks.{IsAcross}
use Rattle.list_lemmas.specs.Members.{in_list, list_in}
use Rattle.rules_steps.specs.Steps.{IsDealt}
use Rattle.rules_space.specs.Place.{Leaves, linked_by}

abbrev kept_pair : Bool → ℕ × ℕ → List (ℕ × ℕ)
kept_pair b p = cond b (p ∷ []) []

-- the pairs with a side in each, those that are written the other way round turned
abbrev pub dealt : List (ℕ × ℕ) → List ℕ → List ℕ → List (ℕ × ℕ)
dealt [] left right = []
dealt (p ∷ pairs) left right = kept_pair (has left p.0 && has right p.1) p ++ (kept_pair (has left p.1 && has right p.0) (p.1, p.0) ++ dealt pairs left right)

in_kept : (b : Bool) (p x : ℕ × ℕ) → In x (kept_pair b p) → (x ≡ p) × (b ≡ true)
in_kept true p x (inl e) = (e, refl)
in_kept true p x (inr m) = absurd m
in_kept false p x m = absurd m

kept_in : (b : Bool) (p : ℕ × ℕ) → b ≡ true → In p (kept_pair b p)
kept_in true p e = inl refl
kept_in false p e = absurd (cc)

-- one of the pairs, or turned one
abbrev InEither : List (ℕ × ℕ) → ℕ → ℕ → Type 0
InEither pairs a b = In (a, b) pairs ⊎ In (b, a) pairs

in_later : (p : ℕ × ℕ) (pairs : List (ℕ × ℕ)) (a b : ℕ) → InEither pairs a b → InEither (p ∷ pairs) a b
in_later p pairs a b (inl m) = inl (inr m)
in_later p pairs a b (inr m) = inr (inr m)

dealt_there : (pairs : List (ℕ × ℕ)) (left right : List ℕ) (a b : ℕ) → In (a, b) (dealt pairs left right) → (has left a ≡ true) × (has right b ≡ true) × InEither pairs a b
dealt_there [] left right a b m = absurd m
dealt_there (p ∷ pairs) left right a b m = go (dealt_there pairs left right a b) (in_append (a, b) (kept_pair (has left p.0 && has right p.1) p) (kept_pair (has left p.1 && has right p.0) (p.1, p.0) ++ dealt pairs left right) m)
  where
    first : In (a, b) (kept_pair (has left p.0 && has right p.1) p) → (has left a ≡ true) × (has right b ≡ true) × InEither (p ∷ pairs) a b
    first n =
        let k = in_kept (has left p.0 && has right p.1) p (a, b) n in
        let s = both (has left p.0) (has right p.1) k.1 in
        let x : p.0 ≡ a = cc in
        let y : p.1 ≡ b = cc in
        (subst (λ (c : ℕ). has left c ≡ true) x s.0, subst (λ (c : ℕ). has right c ≡ true) y s.1, inl (inl k.0))

    second : In (a, b) (kept_pair (has left p.1 && has right p.0) (p.1, p.0)) → (has left a ≡ true) × (has right b ≡ true) × InEither (p ∷ pairs) a b
    second n =
        let k = in_kept (has left p.1 && has right p.0) (p.1, p.0) (a, b) n in
        let s = both (has left p.1) (has right p.0) k.1 in
        let e : ◌≡◌ {A = ℕ × ℕ} (a, b) (p.1, p.0) = k.0 in
        let x : p.1 ≡ a = ap (λ (z : ℕ × ℕ). z.0) (sym e) in
        let y : p.0 ≡ b = ap (λ (z : ℕ × ℕ). z.1) (sym e) in
        (subst (λ (c : ℕ). has left c ≡ true) x s.0, subst (λ (c : ℕ). has right c ≡ true) y s.1, inr (inl (same x y)))
      where
        same : p.1 ≡ a → p.0 ≡ b → ◌≡◌ {A = ℕ × ℕ} (b, a) p
        same x y = (λ i. (sym y i, sym x i))

    rest : ((has left a ≡ true) × (has right b ≡ true) × InEither pairs a b) → (has left a ≡ true) × (has right b ≡ true) × InEither (p ∷ pairs) a b
    rest n = (n.0, n.1, in_later p pairs a b n.2)

    later : (In (a, b) (dealt pairs left right) → (has left a ≡ true) × (has right b ≡ true) × InEither pairs a b) → In (a, b) (kept_pair (has left p.1 && has right p.0) (p.1, p.0)) ⊎ In (a, b) (dealt pairs left right)
        → (has left a ≡ true) × (has right b ≡ true) × InEither (p ∷ pairs) a b
    later more (inl n) = second n
    later more (inr n) = rest (more n)

    go : (In (a, b) (dealt pairs left right) → (has left a ≡ true) × (has right b ≡ true) × InEither pairs a b)
        → In (a, b) (kept_pair (has left p.0 && has right p.1) p) ⊎ In (a, b) (kept_pair (has left p.1 && has right p.0) (p.1, p.0) ++ dealt pairs left right)
        → (has left a ≡ true) × (has right b ≡ true) × InEither (p ∷ pairs) a b
    go more (inl n) = first n
    go more (inr n) = later more (in_append (a, b) (kept_pair (has left p.1 && has right p.0) (p.1, p.0)) (dealt pairs left right) n)

dealt_straight : (pairs : List (ℕ × ℕ)) (left right : List ℕ) (p : ℕ × ℕ) → In p pairs → has left p.0 ≡ true → has right p.1 ≡ true → In p (dealt pairs left right)
dealt_straight [] left right p m l r = absurd m
dealt_straight (q ∷ pairs) left right p (inl e) l r =
    in_left p (kept_pair (has left q.0 && has right q.1) q) _ (subst (λ (x : ℕ × ℕ). In x (kept_pair (has left q.0 && has right q.1) q)) (sym e)
    (kept_in (has left q.0 && has right q.1) q (and_true _ _ (ap (λ (x : ℕ × ℕ). has left x.0) (sym e) ∙ l) (ap (λ (x : ℕ × ℕ). has right x.1) (sym e) ∙ r))))
dealt_straight (q ∷ pairs) left right p (inr m) l r =
    in_right p (kept_pair (has left q.0 && has right q.1) q) _ (in_right p (kept_pair (has left q.1 && has right q.0) (q.1, q.0)) (dealt pairs left right) (dealt_straight pairs left right p m l r))

dealt_turned : (pairs : List (ℕ × ℕ)) (left right : List ℕ) (p : ℕ × ℕ) → In p pairs → has left p.1 ≡ true → has right p.0 ≡ true → In (p.1, p.0) (dealt pairs left right)
dealt_turned [] left right p m l r = absurd m
dealt_turned (q ∷ pairs) left right p (inl e) l r =
    in_right (p.1, p.0) (kept_pair (has left q.0 && has right q.1) q) _ (in_left (p.1, p.0) (kept_pair (has left q.1 && has right q.0) (q.1, q.0)) (dealt pairs left right)
    (subst (λ (x : ℕ × ℕ). In (x.1, x.0) (kept_pair (has left q.1 && has right q.0) (q.1, q.0))) (sym e)
    (kept_in (has left q.1 && has right q.0) (q.1, q.0) (and_true _ _ (ap (λ (x : ℕ × ℕ). has left x.1) (sym e) ∙ l) (ap (λ (x : ℕ × ℕ). has right x.0) (sym e) ∙ r)))))
dealt_turned (q ∷ pairs) left right p (inr m) l r =
    in_right (p.1, p.0) (kept_pair (has left q.0 && has right q.1) q) _ (in_right (p.1, p.0) (kept_pair (has left q.1 && has right q.0) (q.1, q.0)) (dealt pairs left right) (dealt_turned pairs left right p m l r))

in_some : {X : Type 0} (xs : List X) (x : X) → In x xs → 0 < length xs
in_some [] x m = absurd m
in_some (y ∷ xs) x m = omega arith

-- where some pair has a side in each, these are the equalities that a Join of the two has
pub is_dealt : (pairs : List (ℕ × ℕ)) (t u : Expression) (a b : ℕ) → IsAcross pairs (columns_of t) (columns_of u) (a, b) → IsDealt pairs t u (record { items = dealt pairs (columns_of t) (columns_of u) })
is_dealt pairs t u a b h = (in_some (dealt pairs (columns_of t) (columns_of u)) (a, b) (back a b h), λ p. ((λ m. there p.0 p.1 (in_list (dealt pairs (columns_of t) (columns_of u)) p m)), λ m. list_in (dealt pairs (columns_of t) (columns_of u)) p (back p.0 p.1 m)))
  where
    back : (a b : ℕ) → IsAcross pairs (columns_of t) (columns_of u) (a, b) → In (a, b) (dealt pairs (columns_of t) (columns_of u))
    back a b m = go m.2
      where
        go : Contains pairs (a, b) ⊎ Contains pairs (b, a) → In (a, b) (dealt pairs (columns_of t) (columns_of u))
        go (inl k) = dealt_straight pairs (columns_of t) (columns_of u) (a, b) (in_list pairs (a, b) k) m.0 m.1
        go (inr k) = dealt_turned pairs (columns_of t) (columns_of u) (b, a) (in_list pairs (b, a) k) m.0 m.1

    there : (a b : ℕ) → In (a, b) (dealt pairs (columns_of t) (columns_of u)) → IsAcross pairs (columns_of t) (columns_of u) (a, b)
    there a b m = let k = dealt_there pairs (columns_of t) (columns_of u) a b m in (k.0, k.1, go k.2)
      where
        go : InEither pairs a b → Contains pairs (a, b) ⊎ Contains pairs (b, a)
        go (inl n) = inl (list_in pairs (a, b) n)
        go (inr n) = inr (list_in pairs (b, a) n)

-- ---- links

-- two sets of leaves that are linked are by some link
abbrev pub IsLinkOf : List (ℕ × ℕ) → Leaves → Leaves → Type 0
IsLinkOf links L R = (i j : ℕ) × In (i, j) links × (((L i ≡ true) × (R j ≡ true)) ⊎ ((L j ≡ true) × (R i ≡ true)))

pub link_found : (links : List (ℕ × ℕ)) (L R : Leaves) → linked_by links L R ≡ true → IsLinkOf links L R
link_found [] L R h = absurd (cc)
link_found (p ∷ links) L R h = go (link_found links L R) (either (L p.0 && R p.1) _ h)
  where
    later : IsLinkOf links L R → IsLinkOf (p ∷ links) L R
    later m = (m.0, m.1, inr m.2, m.3)

    rest : (linked_by links L R ≡ true → IsLinkOf links L R) → ((L p.1 && R p.0) ≡ true) ⊎ (linked_by links L R ≡ true) → IsLinkOf (p ∷ links) L R
    rest more (inl k) = let s = both (L p.1) (R p.0) k in (p.0, p.1, inl refl, inr (s.0, s.1))
    rest more (inr k) = later (more k)

    go : (linked_by links L R ≡ true → IsLinkOf links L R) → ((L p.0 && R p.1) ≡ true) ⊎ (((L p.1 && R p.0) || linked_by links L R) ≡ true) → IsLinkOf (p ∷ links) L R
    go more (inl k) = let s = both (L p.0) (R p.1) k in (p.0, p.1, inl refl, inl (s.0, s.1))
    go more (inr k) = rest more (either (L p.1 && R p.0) (linked_by links L R) k)
