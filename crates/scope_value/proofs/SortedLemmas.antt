-- What a stable sort ensures leaves one list only.
use Rattle.std.proofs.Common.{◌≡◌, ℕ, zero, suc, ◌+◌, Bool, true, false, cond, List, [], ◌∷◌, length, get_or, refl, sym, ap, ap₂, ◌∙◌, arith, Ordering, Less, Equal, Greater, not, ◌&&◌}
use Rattle.std.specs.Ordering.{is_lt, is_eq, is_gt, ordering_reverse}
use Rattle.std.specs.Cmp.{IsTotalOrder}
use Rattle.std.specs.List.{filter, AllByRecursion}
use Rattle.std.specs.List.Sorted.{IsSorted, IsStable, IsPermutation, ties}
use Rattle.std.proofs.lemmas.Cmp.{tied_itself, alike_right, upto}
use Rattle.std.proofs.lemmas.List.Elements.{filter_agree, recursion_from_All}
use Rattle.std.proofs.lemmas.Fn.{always_returns_same}
use Rattle.std.specs.Fn.{Called, ComparesAs}
use denote.Ref.{Bor}
use denote.Param.Members.{Mut}
use Rattle.std.proofs.lemmas.List.Sorted.{sorted_far, ranks_by, sum_by-IsPermutation, IsPermutation-refl, IsPermutation-trans, IsPermutation-cons, IsPermutation-middle}
use Rattle.std.proofs.lemmas.List.Sums.{length-filter}
use Rattle.scope_value.specs.Sorted.{insert_by, sorted, IsInOrder}

-- the elements that tie with x
abbrev pub tied_with : {X : Type 0} → (X → X → Ordering) → X → List X → List X
tied_with cmp x = filter (λ y. is_eq (cmp x y))

either_way : (o p : Ordering) → o ≡ ordering_reverse p → (not (is_lt o) && not (is_lt p)) ≡ is_eq o
either_way o Less e = rw e refl
either_way o Equal e = rw e refl
either_way o Greater e = rw e refl

drop_head : {X : Type 0} (b : Bool) (y z : X) (ys zs : List X) → cond b (y ∷ ys) ys ≡ cond b (z ∷ zs) zs → ys ≡ zs
drop_head true y z ys zs h = cc
drop_head false y z ys zs h = h

swap_heads : {X : Type 0} (p q : Bool) (y w : X) (ys : List X) → (p ≡ true → q ≡ false)
    → cond q (w ∷ cond p (y ∷ ys) ys) (cond p (y ∷ ys) ys) ≡ cond p (y ∷ cond q (w ∷ ys) ys) (cond q (w ∷ ys) ys)
swap_heads true q y w ys h = rw (h refl) refl
swap_heads false q y w ys h = refl

is_Equal : (o : Ordering) → is_eq o ≡ true → o ≡ Equal
is_Equal Less h = absurd (cc)
is_Equal Equal h = refl
is_Equal Greater h = absurd (cc)

module _ {X : Type 0} {cmp : X → X → Ordering} (total : IsTotalOrder cmp) where
  ties_is : (x y : X) → ties (λ a b. is_lt (cmp a b)) x y ≡ is_eq (cmp x y)
  ties_is x y = either_way (cmp x y) (cmp y x) (total.antisymm x y)

  pub stable_is : (xs ys : List X) → IsStable cmp xs ys → (x : X) → tied_with cmp x ys ≡ tied_with cmp x xs
  stable_is xs ys stable x = sym (filter_agree _ _ (ties_is x) ys) ∙ stable x ∙ filter_agree _ _ (ties_is x) xs

  first_tied : (x : X) (xs : List X) → x ∷ tied_with cmp x xs ≡ tied_with cmp x (x ∷ xs)
  first_tied x xs = rw (tied_itself total x) refl

  -- none of ys ties with x, where x is below them all
  none_ties : (x : X) (ys : List X) → AllByRecursion (λ y. cmp x y ≡ Less) ys → tied_with cmp x ys ≡ []
  none_ties x [] h = refl
  none_ties x (y ∷ ys) h = rw h.0 (none_ties x ys h.1)

  below_all : (x y : X) (ys : List X) → cmp x y ≡ Less → AllByRecursion (λ z. is_gt (cmp y z) ≡ false) ys → AllByRecursion (λ z. cmp x z ≡ Less) ys
  below_all x y [] less h = tt
  below_all x y (z ∷ ys) less h = (below z (cmp y z) refl h.0, below_all x y ys less h.1)
    where
      below : (z : X) (o : Ordering) → o ≡ cmp y z → is_gt o ≡ false → cmp x z ≡ Less
      below z Less e k = total.trans x y z less (sym e)
      below z Equal e k = sym (alike_right total y z x (sym e)) ∙ less
      below z Greater e k = absurd (cc)

  -- a list in order is known by what ties with each element
  pub one_order : (ys zs : List X) → IsInOrder cmp ys → IsInOrder cmp zs → ((x : X) → tied_with cmp x ys ≡ tied_with cmp x zs) → ys ≡ zs
  one_order [] [] up vp same = refl
  one_order [] (z ∷ zs) up vp same = absurd (let e : [] ≡ z ∷ tied_with cmp z zs = same z ∙ sym (first_tied z zs) in cc)
  one_order (y ∷ ys) [] up vp same = absurd (let e : [] ≡ y ∷ tied_with cmp y ys = sym (same y) ∙ sym (first_tied y ys) in cc)
  one_order (y ∷ ys) (z ∷ zs) up vp same = by_first (one_order ys zs up.1 vp.1) (cmp y z) refl
    where
      rest : cmp y z ≡ Equal → (x : X) → tied_with cmp x ys ≡ tied_with cmp x zs
      rest e x = drop_head (is_eq (cmp x y)) y z _ _ (same x ∙ ap (λ b. cond b (z ∷ tied_with cmp x zs) (tied_with cmp x zs)) (ap is_eq (sym (alike_right total y z x e))))

      by_first : (((x : X) → tied_with cmp x ys ≡ tied_with cmp x zs) → ys ≡ zs) → (o : Ordering) → cmp y z ≡ o → y ∷ ys ≡ z ∷ zs
      by_first tails Less e = absurd (let k : y ∷ tied_with cmp y ys ≡ [] = first_tied y ys ∙ same y ∙ none_ties y (z ∷ zs) (e, below_all y z zs e vp.0) in cc)
      by_first tails Greater e =
          let back : cmp z y ≡ Less = total.antisymm z y ∙ ap ordering_reverse e in
          absurd (let k : z ∷ tied_with cmp z zs ≡ [] = first_tied z zs ∙ sym (same z) ∙ none_ties z (y ∷ ys) (back, below_all z y ys back up.0) in cc)
      by_first tails Equal e =
          let k : y ∷ tied_with cmp y ys ≡ z ∷ tied_with cmp y zs = first_tied y ys ∙ same y ∙ ap (λ b. cond b (z ∷ tied_with cmp y zs) (tied_with cmp y zs)) (ap is_eq e) in
          let heads : y ≡ z = cc in
          ap₂ ◌∷◌ heads (tails (rest e))

  not_above : (o p : Ordering) → p ≡ ordering_reverse o → is_lt o ≡ false → is_gt p ≡ false
  not_above Less p e h = absurd (cc)
  not_above Equal p e h = rw e refl
  not_above Greater p e h = rw e refl

  pub rises_is : (xs : List X) → IsSorted cmp xs → IsInOrder cmp xs
  rises_is [] up = tt
  rises_is (x ∷ xs) up = (
    recursion_from_All (λ y. is_gt (cmp x y) ≡ false) xs
        (λ k d h. not_above (cmp (get_or xs k d) x) (cmp x (get_or xs k d)) (total.antisymm x (get_or xs k d))
        (sorted_far (λ a b. is_lt (cmp a b)) (ranks_by total (λ a. a)) (x ∷ xs) up 0 (suc k) d (omega arith) (omega arith))),
    rises_is xs (λ k d low high. later k d (up (suc k) d (omega arith) (omega arith))),
  )
    where
      later : (k : ℕ) (d : X) → is_lt (cmp (get_or (x ∷ xs) (suc k + 1) d) (get_or (x ∷ xs) (suc k) d)) ≡ false → is_lt (cmp (get_or xs (k + 1) d) (get_or xs k d)) ≡ false
      later k d h = let e : suc k + 1 ≡ suc (k + 1) = omega arith in rw e at h

  insert_ties : (x y : X) (ys : List X) → tied_with cmp x (insert_by cmp y ys) ≡ tied_with cmp x (y ∷ ys)
  insert_ties x y [] = refl
  insert_ties x y (w ∷ ys) = go (insert_ties x y ys) (cmp y w) refl
    where
      go : tied_with cmp x (insert_by cmp y ys) ≡ tied_with cmp x (y ∷ ys) → (o : Ordering) → cmp y w ≡ o → tied_with cmp x (insert_by cmp y (w ∷ ys)) ≡ tied_with cmp x (y ∷ w ∷ ys)
      go more Less e = rw e refl
      go more Equal e = rw e refl
      go more Greater e =
          rw e (ap (λ f. cond (is_eq (cmp x w)) (w ∷ f) f) more
          ∙ swap_heads (is_eq (cmp x y)) (is_eq (cmp x w)) y w (tied_with cmp x ys) (λ h. ap is_eq (total.congr x y w (is_Equal (cmp x y) h) ∙ e)))

  all_insert : (P : X → Type 0) (y : X) (ys : List X) → P y → AllByRecursion P ys → AllByRecursion P (insert_by cmp y ys)
  all_insert P y [] p h = (p, tt)
  all_insert P y (w ∷ ys) p h = go (all_insert P y ys p h.1) (cmp y w) refl
    where
      go : AllByRecursion P (insert_by cmp y ys) → (o : Ordering) → cmp y w ≡ o → AllByRecursion P (insert_by cmp y (w ∷ ys))
      go more Less e = rw e (p, (h.0, h.1))
      go more Equal e = rw e (p, (h.0, h.1))
      go more Greater e = rw e (h.0, more)

  all_above : (y w : X) (ys : List X) → is_gt (cmp y w) ≡ false → AllByRecursion (λ z. is_gt (cmp w z) ≡ false) ys → AllByRecursion (λ z. is_gt (cmp y z) ≡ false) ys
  all_above y w [] h all = tt
  all_above y w (z ∷ ys) h all = (upto total y w z h all.0, all_above y w ys h all.1)

  insert_rises : (y : X) (ys : List X) → IsInOrder cmp ys → IsInOrder cmp (insert_by cmp y ys)
  insert_rises y [] up = (tt, tt)
  insert_rises y (w ∷ ys) up = go (insert_rises y ys up.1) (cmp y w) refl
    where
      go : IsInOrder cmp (insert_by cmp y ys) → (o : Ordering) → cmp y w ≡ o → IsInOrder cmp (insert_by cmp y (w ∷ ys))
      go more Less e = let h : is_gt (cmp y w) ≡ false = ap is_gt e in rw e ((h, all_above y w ys h up.0), up)
      go more Equal e = let h : is_gt (cmp y w) ≡ false = ap is_gt e in rw e ((h, all_above y w ys h up.0), up)
      go more Greater e =
          let back : is_gt (cmp w y) ≡ false = ap is_gt (total.antisymm w y ∙ ap ordering_reverse e) in
          rw e (all_insert (λ z. is_gt (cmp w z) ≡ false) y ys back up.0, more)

  pub sorted_rises : (xs : List X) → IsInOrder cmp (sorted cmp xs)
  sorted_rises [] = tt
  sorted_rises (x ∷ xs) = insert_rises x (sorted cmp xs) (sorted_rises xs)

  pub sorted_ties : (xs : List X) (x : X) → tied_with cmp x (sorted cmp xs) ≡ tied_with cmp x xs
  sorted_ties [] x = refl
  sorted_ties (y ∷ xs) x = insert_ties x y (sorted cmp xs) ∙ ap (λ f. cond (is_eq (cmp x y)) (y ∷ f) f) (sorted_ties xs x)

  -- what a stable sort ensures is one list
  pub sorted_is : (xs ys : List X) → IsSorted cmp ys → IsStable cmp xs ys → ys ≡ sorted cmp xs
  sorted_is xs ys up stable = one_order ys (sorted cmp xs) (rises_is ys up) (sorted_rises xs) (λ x. stable_is xs ys stable x ∙ sym (sorted_ties xs x))

-- with one more element at its place
insert_moves : {X : Type 0} (cmp : X → X → Ordering) (x : X) (ys : List X) → IsPermutation (x ∷ ys) (insert_by cmp x ys)
insert_moves cmp x [] = IsPermutation-refl (x ∷ [])
insert_moves cmp x (y ∷ ys) = go (insert_moves cmp x ys) (is_gt (cmp x y))
  where
    go : IsPermutation (x ∷ ys) (insert_by cmp x ys) → (b : Bool) → IsPermutation (x ∷ y ∷ ys) (cond b (y ∷ insert_by cmp x ys) (x ∷ y ∷ ys))
    go more false = IsPermutation-refl (x ∷ y ∷ ys)
    go more true = IsPermutation-trans _ _ _ (IsPermutation-middle (x ∷ []) y ys) (IsPermutation-cons y (x ∷ ys) _ more)

-- the sorted list is of the bag
pub sorted_moves : {X : Type 0} (cmp : X → X → Ordering) (xs : List X) → IsPermutation xs (sorted cmp xs)
sorted_moves cmp [] = IsPermutation-refl []
sorted_moves cmp (x ∷ xs) = IsPermutation-trans _ _ _ (IsPermutation-cons x xs _ (sorted_moves cmp xs)) (insert_moves cmp x (sorted cmp xs))

abbrev copies : {X : Type 0} → ℕ → X → List X
copies zero x = []
copies (suc n) x = x ∷ copies n x

module _ {X : Type 0} {cmp : X → X → Ordering} (total : IsTotalOrder cmp) (exact : (x y : X) → cmp x y ≡ Equal → x ≡ y) where
  -- what ties with x is x, so often
  all_copies : (x : X) (xs : List X) → tied_with cmp x xs ≡ copies (length (tied_with cmp x xs)) x
  all_copies x [] = refl
  all_copies x (y ∷ xs) = go (all_copies x xs) (cmp x y) refl
    where
      go : tied_with cmp x xs ≡ copies (length (tied_with cmp x xs)) x → (o : Ordering) → cmp x y ≡ o → tied_with cmp x (y ∷ xs) ≡ copies (length (tied_with cmp x (y ∷ xs))) x
      go more Less e = rw e more
      go more Equal e = rw e (ap₂ ◌∷◌ (sym (exact x y e)) more)
      go more Greater e = rw e more

  -- the list in order is a function of the bag, where elements that tie are one
  pub sorted_same : (xs ys : List X) → IsPermutation xs ys → sorted cmp xs ≡ sorted cmp ys
  sorted_same xs ys moved =
      one_order total (sorted cmp xs) (sorted cmp ys) (sorted_rises total xs) (sorted_rises total ys)
      (λ x. sorted_ties total xs x ∙ all_copies x xs ∙ ap (λ n. copies n x) (so_many x) ∙ sym (all_copies x ys) ∙ sym (sorted_ties total ys x))
    where
      so_many : (x : X) → length (tied_with cmp x xs) ≡ length (tied_with cmp x ys)
      so_many x = length-filter _ xs ∙ sym (sum_by-IsPermutation _ xs ys moved) ∙ sym (length-filter _ ys)

-- a list of the bag that is in the order is the sorted one
pub sorted_unique : {X : Type 0} {cmp : X → X → Ordering} (total : IsTotalOrder cmp) (exact : (x y : X) → cmp x y ≡ Equal → x ≡ y) (xs ys : List X) → IsPermutation xs ys → IsInOrder cmp ys → ys ≡ sorted cmp xs
sorted_unique total exact xs ys moved up =
    one_order total ys _ up (sorted_rises total ys) (λ x. sym (sorted_ties total ys x)) ∙ sym (sorted_same total exact xs ys moved)

-- a closure that answers by cmp and stays as it is
pub compares_as : {F X : Type 0} {g : Mut F (Bor X × (Bor X × Unit {0})) Ordering} (cmp : X → X → Ordering) (f : F)
    → ((a : Bor X × (Bor X × Unit {0})) (r : Ordering) (f' : F) → Called g f a r f' → (r ≡ cmp a.0.now a.1.0.now) × (f' ≡ f))
    → ComparesAs g (λ x y. is_lt (cmp x y)) f
compares_as cmp f h = always_returns_same _ _ f (λ a r f' k. (ap is_lt (h a r f' k).0, (h a r f' k).1))
