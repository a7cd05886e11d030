-- Operations on bits are operations on members.
use Rattle.std.proofs.Common.{◌≡◌, ℕ, zero, suc, ◌+◌, ◌*◌, ◌%◌, ◌/◌, ◌^◌, ◌-◌, ◌<◌, ◌≤◌, ◌≢◌, Bool, true, false, cond, ◌&&◌, ◌||◌, List, [], ◌∷◌, length, min, add-one, refl, sym, ap, ap₂, ◌∙◌, subst, arith, nat_eq, nat_lt, max}
use Rattle.std.specs.List.{filter, range_with_len}
use Rattle.std.specs.Int.{bit_at}
use Rattle.std.specs.Int.RustNames.{bit_or, bit_and}
use Rattle.std.specs.Int.Count.{ones}
use Rattle.std.specs.Int.{w128}
use Rattle.std.proofs.lemmas.Nat.Bits.{bit_at_or, bit_at-zero, same_from_bits, bit_at_above, bit_at-lt, bit_at_set_same, bit_at_set_other, bit_at_and, bit_at_ones, bit_at_ones_above}
use Rattle.std.proofs.lemmas.Nat.{ones_cat, ones-le, mod-pow-add, shr-shr, pow_below, and_le_l}
use Rattle.std.specs.Ordering.{eq_by_cmp, nat_cmp, is_eq}
use Rattle.std.specs.Cmp.Lexicographic.{slice_cmp}
use Rattle.std.proofs.lemmas.Map.Views.{tells_apart}
use Rattle.std.proofs.lemmas.List.FromFn.{length-range_with_len}
use Rattle.std.proofs.lemmas.List.Elements.{filter_agree}
use Rattle.col_sets.specs.Tests.{same_tests, from_test, to_test}
use Rattle.col_sets.specs.Columns.{filter-filter, columns_where-set}
use Rattle.std.proofs.lemmas.Map.Lookups.{exact_bytes}
use Rattle.std.proofs.lemmas.Cmp.{nat_list_cmp_total, tied_itself}
use Rattle.std.proofs.lemmas.Bool.Decides.{nat_tests}
use Rattle.col_sets.specs.Sets.{has, within, columns_where, rank, IsColumnSet}
use Rattle.col_sets.specs.Members.{members, bits_of}
use Rattle.col_sets.specs.Inverse.{bits_of-members}
use Rattle.col_sets.specs.Columns.{has-columns_where, columns_same, within_of, within_has}

pub has-members : (b c : ℕ) → c < 128 → has (members b) c ≡ nat_eq (bit_at b c) 1
unfolding members
has-members b c h =
    let e : nat_lt c 128 ≡ true = grind (arith, nat_tests) in
    has-columns_where (λ c. nat_eq (bit_at b c) 1) c ∙ rw e refl

pub has_below : (b c : ℕ) → has (members b) c ≡ true → c < 128
unfolding members
has_below b c h =
    let e = sym (has-columns_where (λ c. nat_eq (bit_at b c) 1) c) ∙ h in
    go (nat_lt c 128) refl e
  where
    go : (t : Bool) → nat_lt c 128 ≡ t → (t && nat_eq (bit_at b c) 1) ≡ true → c < 128
    go true e h = grind (arith, nat_tests)
    go false e h = absurd (cc)

pub no_members : members 0 ≡ []
unfolding members columns_where
no_members = none 128 0
  where
    none : (n a : ℕ) → filter (λ c. nat_eq (bit_at 0 c) 1) (range_with_len a n) ≡ []
    none zero a = refl
    none (suc n) a = rw (bit_at-zero a) (none n (a + 1))

pub members-or : (a b : ℕ) → members (bit_or a b) ≡ columns_where (λ d. has (members a) d || has (members b) d)
unfolding members
members-or a b = columns_same _ _ (λ c h. ap (λ v. nat_eq v 1) (bit_at_or a b c) ∙ go c ∙ sym (ap₂ (λ v w. v || w) (has-members a c h) (has-members b c h)))
  where
    go : (c : ℕ) → nat_eq (max (bit_at a c) (bit_at b c)) 1 ≡ (nat_eq (bit_at a c) 1 || nat_eq (bit_at b c) 1)
    go c = let l = bit_at-lt a c in let m = bit_at-lt b c in grind (arith, nat_tests)

pub members-with : (b k : ℕ) → k < 128 → members (bit_or b (1 * 2 ^ k % 2 ^ 128)) ≡ columns_where (λ d. nat_eq k d || has (members b) d)
unfolding members
members-with b k l = columns_same _ _ (λ c h. go c h (nat_eq k c) refl)
  where
    go : (c : ℕ) → c < 128 → (t : Bool) → nat_eq k c ≡ t → nat_eq (bit_at (bit_or b (1 * 2 ^ k % 2 ^ 128)) c) 1 ≡ (nat_eq k c || has (members b) c)
    go c h true e =
        let same : k ≡ c = grind (arith, nat_tests) in
        rw e (ap (λ v. nat_eq v 1) (subst (λ (i : ℕ). bit_at (bit_or b (1 * 2 ^ k % 2 ^ 128)) i ≡ 1) same (bit_at_set_same w128 b k l)))
    go c h false e =
        let other : c ≢ k = grind (arith, nat_tests) in
        rw e (ap (λ v. nat_eq v 1) (bit_at_set_other w128 b k l c other) ∙ sym (has-members b c h))

pub within-members : (a b : ℕ) → b < 2 ^ 128 → a < 2 ^ 128 → nat_eq (bit_or a b) b ≡ within (members a) (members b)
within-members a b l m = go (nat_eq (bit_or a b) b) refl (within (members a) (members b)) refl
  where
    top : (c : ℕ) → c < 128 → max (bit_at a c) (bit_at b c) ≡ bit_at b c → has (members a) c ≡ true → has (members b) c ≡ true
    top c h e k = has-members b c h ∙ one (sym (has-members a c h) ∙ k)
      where
        one : nat_eq (bit_at a c) 1 ≡ true → nat_eq (bit_at b c) 1 ≡ true
        one k = let n = bit_at-lt b c in grind (arith, nat_tests)

    go : (p : Bool) → nat_eq (bit_or a b) b ≡ p → (q : Bool) → within (members a) (members b) ≡ q → p ≡ q
    go true e true f = refl
    go false e false f = refl
    go true e false f =
        let same : bit_or a b ≡ b = grind (arith, nat_tests) in
        absurd (let g : true ≡ false = sym (within_of (members a) (members b) (λ c k. top c (has_below a c k) (sym (bit_at_or a b c) ∙ ap (λ v. bit_at v c) same) k)) ∙ f in cc)
    go false e true f =
        let same : bit_or a b ≡ b = same_from_bits _ _ (λ c. bit_at_or a b c ∙ bits c (nat_lt c 128) refl) in
        absurd (let g : nat_eq (bit_or a b) b ≡ true = grind (arith, nat_tests) in cc)
      where
        bits : (c : ℕ) → (t : Bool) → nat_lt c 128 ≡ t → max (bit_at a c) (bit_at b c) ≡ bit_at b c
        bits c true g = let h : c < 128 = grind (arith, nat_tests) in one h (nat_eq (bit_at a c) 1) refl
          where
            one : c < 128 → (u : Bool) → nat_eq (bit_at a c) 1 ≡ u → max (bit_at a c) (bit_at b c) ≡ bit_at b c
            one h true k =
                let there : nat_eq (bit_at b c) 1 ≡ true = sym (has-members b c h) ∙ within_has (members a) (members b) f c (has-members a c h ∙ k) in
                let n = bit_at-lt a c in grind (arith, nat_tests)
            one h false k = let n = bit_at-lt a c in let m = bit_at-lt b c in grind (arith, nat_tests)
        bits c false g =
            let h : 128 ≤ c = grind (arith, nat_tests) in
            let z : bit_at a c ≡ 0 = bit_at_above a 128 c m h in
            let y : bit_at b c ≡ 0 = bit_at_above b 128 c l h in
            rw (z, y) refl

pub has_not : (b c : ℕ) → nat_lt c 128 ≡ false → has (members b) c ≡ false
unfolding members
has_not b c e = has-columns_where (λ c. nat_eq (bit_at b c) 1) c ∙ rw e refl

pub members_beyond : (b k : ℕ) → 128 ≤ k → members b ≡ columns_where (λ d. nat_eq k d || has (members b) d)
unfolding members
members_beyond b k l = columns_same _ _ (λ c h. let e : nat_eq k c ≡ false = grind (arith, nat_tests) in rw e (sym (has-members b c h)))

one_bit : (d : ℕ) → d < 2 → ones d ≡ cond (nat_eq d 1) 1 0
unfolding ones
one_bit zero l = refl
one_bit (suc zero) l = refl
one_bit (suc (suc d)) l = absurd (omega arith)

with_first : (t : Bool) (a : ℕ) (cs : List ℕ) → length cs + cond t 1 0 ≡ length (cond t (a ∷ cs) cs)
with_first true a cs = omega arith
with_first false a cs = omega arith

-- how many of the n bits from a on are set
ones_run : (n a b : ℕ) → ones (b / 2 ^ a % 2 ^ n) ≡ length (filter (λ c. nat_eq (bit_at b c) 1) (range_with_len a n))
ones_run zero a b = let e : b / 2 ^ a % 1 ≡ 0 = omega arith in let l : ones 0 ≤ 0 = ones-le 0 0 (omega arith) in rw e (omega arith)
ones_run (suc n) a b =
    ap (λ (k : ℕ). ones (b / 2 ^ a % 2 ^ k)) (sym (add-one n))
    ∙ ap ones (mod-pow-add (b / 2 ^ a) n 1)
    ∙ ones_cat 1 (b / 2 ^ a / 2 ^ 1 % 2 ^ n) (b / 2 ^ a % 2 ^ 1) (omega arith)
    ∙ ap₂ (λ (v w : ℕ). v + w) (ap (λ (y : ℕ). ones (y % 2 ^ n)) (shr-shr b a 1) ∙ ones_run n (a + 1) b) (one_bit (bit_at b a) (bit_at-lt b a))
    ∙ with_first (nat_eq (bit_at b a) 1) a (filter (λ c. nat_eq (bit_at b c) 1) (range_with_len (a + 1) n))

-- a number has as many set bits as members
pub count_members : (b : ℕ) → b < 2 ^ 128 → ones b ≡ length (members b)
unfolding members columns_where
count_members b h =
    let e : b / 2 ^ 0 % 2 ^ 128 ≡ b = omega arith in
    ap ones (sym e) ∙ ones_run 128 0 b

-- the members below c are those of the bits below c
members-below : (b c : ℕ) → members (bit_and b (2 ^ c - 1)) ≡ filter (λ d. nat_lt d c) (members b)
unfolding members columns_where
members-below b c = sym (filter-filter (λ d. nat_lt d c) (λ d. nat_eq (bit_at b d) 1) (range_with_len 0 128) ∙ filter_agree (λ d. nat_eq (bit_at b d) 1 && nat_lt d c) (λ d. nat_eq (bit_at (bit_and b (2 ^ c - 1)) d) 1) one (range_with_len 0 128))
  where
    one : (d : ℕ) → (nat_eq (bit_at b d) 1 && nat_lt d c) ≡ nat_eq (bit_at (bit_and b (2 ^ c - 1)) d) 1
    one d = go (nat_lt d c) refl ∙ ap (λ v. nat_eq v 1) (sym (bit_at_and b (2 ^ c - 1) d))
      where
        left : (t : Bool) → (t && true) ≡ t
        left true = refl
        left false = refl

        right : (t : Bool) → (t && false) ≡ false
        right true = refl
        right false = refl

        go : (t : Bool) → nat_lt d c ≡ t → (nat_eq (bit_at b d) 1 && nat_lt d c) ≡ nat_eq (min (bit_at b d) (bit_at (2 ^ c - 1) d)) 1
        go true e =
            let k : bit_at (2 ^ c - 1) d ≡ 1 = bit_at_ones c d (let l : d < c = grind (arith, nat_tests) in l) in
            let m : bit_at b d < 2 = bit_at-lt b d in
            let same : min (bit_at b d) 1 ≡ bit_at b d = omega arith in
            rw (e, k, same) (left _)
        go false e =
            let k : bit_at (2 ^ c - 1) d ≡ 0 = bit_at_ones_above c d (let l : c ≤ d = grind (arith, nat_tests) in l) in
            let same : min (bit_at b d) 0 ≡ 0 = omega arith in
            rw (e, k, same) (right _)

-- the set bits below c are the rank of c
pub rank_members : (b c : ℕ) → b < 2 ^ 128 → c < 128 → ones (bit_and b (1 * 2 ^ c % 2 ^ 128 - 1)) ≡ rank (members b) c
rank_members b c h l =
    let p : 2 ^ c < 2 ^ 128 = pow_below c 128 l in
    let e : 1 * 2 ^ c % 2 ^ 128 ≡ 2 ^ c = omega arith in
    let k : bit_and b (2 ^ c - 1) < 2 ^ 128 = omega (arith, and_le_l b (2 ^ c - 1)) in
    rw e (count_members (bit_and b (2 ^ c - 1)) k ∙ ap length (members-below b c))

-- bits are equal where their members are
pub eq-members : (a b : ℕ) → a < 2 ^ 128 → b < 2 ^ 128 → nat_eq a b ≡ eq_by_cmp (slice_cmp nat_cmp) (members a) (members b)
eq-members a b l m = same_tests _ _ forth (λ h. to_test a b (sym (bits_of-members a l) ∙ ap bits_of (tells_apart exact_bytes (members a) (members b) h) ∙ bits_of-members b m))
  where
    forth : nat_eq a b ≡ true → eq_by_cmp (slice_cmp nat_cmp) (members a) (members b) ≡ true
    forth h = subst (λ (z : ℕ). eq_by_cmp (slice_cmp nat_cmp) (members a) (members z) ≡ true) (from_test a b h) (ap is_eq (tied_itself nat_list_cmp_total (members a)))

-- the members are a set of columns
pub members-set : (b : ℕ) → IsColumnSet (members b)
unfolding members
members-set b = columns_where-set (λ c. nat_eq (bit_at b c) 1)

-- what the test of a column says
pub column_is : (c : ℕ) → nat_lt c 128 ≡ true → c < 128
column_is c h = grind (arith, nat_tests)

pub column_not : (c : ℕ) → nat_lt c 128 ≡ false → 128 ≤ c
column_not c h = grind (arith, nat_tests)

pub column_test : (c : ℕ) → c < 128 → nat_lt c 128 ≡ true
column_test c h = grind (arith, nat_tests)

-- no more elements pass than there are
length-filter : {X : Type 0} (p : X → Bool) (xs : List X) → length (filter p xs) ≤ length xs
length-filter p [] = omega arith
length-filter p (x ∷ xs) = go (p x) (length-filter p xs)
  where
    go : (b : Bool) → length (filter p xs) ≤ length xs → length (cond b (x ∷ filter p xs) (filter p xs)) ≤ length (x ∷ xs)
    go true h = omega arith
    go false h = omega arith

pub length-filter_range : (p : ℕ → Bool) (n : ℕ) → length (filter p (range_with_len 0 n)) ≤ n
length-filter_range p n = omega (arith, length-filter p (range_with_len 0 n), length-range_with_len 0 n)
