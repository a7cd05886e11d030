-- What stands at a place of a list, however it is read, and in lists that are joined.
use Rattle.std.proofs.Common.{◌≡◌, ℕ, zero, suc, ◌+◌, ◌<◌, List, [], ◌∷◌, ◌++◌, length, refl, sym, ap, ◌∙◌, arith, length-append, Some, None, slice_get, slice_index_or, ◌⊎◌, inl, inr}
use Rattle.std.proofs.lemmas.Option.{slice_get-get_or, slice_get_read, get_or_from_slice_get}

-- it is there
pub read_some : {X : Type 0} (xs : List X) (i : ℕ) (x : X) → i < length xs → x ≡ slice_index_or xs i x → slice_get xs i ≡ Some x
read_some xs i x l e = slice_get_read xs (length xs) i x refl l e

-- read with a default of no matter what it is the same
pub read_at : {X : Type 0} (xs : List X) (i : ℕ) (x d : X) → i < length xs → x ≡ slice_index_or xs i x → slice_index_or xs i d ≡ x
read_at xs i x d l e = get_or_from_slice_get xs i x d (read_some xs i x l e)

pub read_again : {X : Type 0} (xs : List X) (i : ℕ) (d e : X) → i < length xs → slice_index_or xs i d ≡ slice_index_or xs i e
read_again xs i d e l = get_or_from_slice_get xs i (slice_index_or xs i e) d (slice_get-get_or xs i e l)

-- it is one thing
pub one_read : {X : Type 0} (xs : List X) (i : ℕ) (x y : X) → i < length xs → x ≡ slice_index_or xs i x → y ≡ slice_index_or xs i y → x ≡ y
one_read xs i x y l e f = sym (read_at xs i x y l e) ∙ sym f

-- something stands at a place within the list
pub not_none : {X : Type 0} (xs : List X) (k : ℕ) → k < length xs → slice_get xs k ≡ None → ⊥
not_none [] k l h = omega arith
not_none (x ∷ xs) zero l h = absurd (cc)
not_none (x ∷ xs) (suc k) l h = not_none xs k (omega arith) h

-- what stands at a place of the first list stands there in both
pub get_front : {X : Type 0} (xs ys : List X) (n : ℕ) (v : X) → slice_get xs n ≡ Some v → slice_get (xs ++ ys) n ≡ Some v
get_front [] ys n v h = absurd (cc)
get_front (x ∷ xs) ys zero v h = h
get_front (x ∷ xs) ys (suc n) v h = get_front xs ys n v h

-- what stands past the first list stands in the second
pub get_back : {X : Type 0} (xs ys : List X) (n : ℕ) → slice_get (xs ++ ys) (length xs + n) ≡ slice_get ys n
get_back [] ys n = let e : 0 + n ≡ n = omega arith in ap (slice_get ys) e
get_back (x ∷ xs) ys n =
    let e : length (x ∷ xs) + n ≡ suc (length xs + n) = omega arith in
    ap (slice_get (x ∷ (xs ++ ys))) e ∙ get_back xs ys n

-- what stands at a place of two lists stands in the first or in the second
pub split_get : {X : Type 0} (xs ys : List X) (n : ℕ) (v : X) → slice_get (xs ++ ys) n ≡ Some v → (slice_get xs n ≡ Some v) ⊎ ((m : ℕ) × (n ≡ length xs + m) × (slice_get ys m ≡ Some v))
split_get [] ys n v h = inr (n, omega arith, h)
split_get (x ∷ xs) ys zero v h = inl h
split_get (x ∷ xs) ys (suc n) v h = go (split_get xs ys n v h)
  where
    go : (slice_get xs n ≡ Some v) ⊎ ((m : ℕ) × (n ≡ length xs + m) × (slice_get ys m ≡ Some v))
        → (slice_get (x ∷ xs) (suc n) ≡ Some v) ⊎ ((m : ℕ) × (suc n ≡ length (x ∷ xs) + m) × (slice_get ys m ≡ Some v))
    go (inl k) = inl k
    go (inr k) = let e : n ≡ length xs + k.0 = k.1 in inr (k.0, omega (arith, e), k.2)

-- a place past the first list, in the second
pub get_past : {X : Type 0} (xs ys : List X) (n past : ℕ) (v : X) → n ≡ length xs + past → slice_get ys past ≡ Some v → slice_get (xs ++ ys) n ≡ Some v
get_past xs ys n past v e h = ap (slice_get (xs ++ ys)) e ∙ get_back xs ys past ∙ h

-- the last place
pub get_last : {X : Type 0} (xs : List X) (x v : X) (n past : ℕ) → n ≡ length xs + past → past ≡ 0 → v ≡ x → slice_get (xs ++ x ∷ []) n ≡ Some v
get_last xs x v n past e z is = ap (slice_get (xs ++ x ∷ [])) (e ∙ ap (λ k. length xs + k) z) ∙ get_back xs (x ∷ []) 0 ∙ ap Some (sym is)

-- past the last place
pub past_last : {X : Type 0} (xs : List X) (x : X) (n past more : ℕ) → n ≡ length xs + past → past ≡ 1 + more → n ≡ length (xs ++ x ∷ []) + more
past_last xs x n past more e z = omega (arith, e, z, length-append xs (x ∷ []))

-- past both lists
pub past_both : {X : Type 0} (xs ys : List X) (n past more : ℕ) → n ≡ length xs + past → past ≡ length ys + more → n ≡ length (xs ++ ys) + more
past_both xs ys n past more e f = omega (arith, e, f, length-append xs ys)
