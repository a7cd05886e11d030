-- A set's bits are those of its members.
use Rattle.std.proofs.Common.{◌≡◌, ℕ, ◌+◌, ◌*◌, ◌%◌, ◌/◌, ◌^◌, ◌<◌, ◌≤◌, ◌≢◌, Bool, true, false, cond, ◌&&◌, ◌||◌, List, [], ◌∷◌, refl, sym, ap, ◌∙◌, subst, arith, nat_eq, nat_lt, max}
use Rattle.std.specs.Int.{bit_at}
use Rattle.std.proofs.lemmas.Nat.Bits.{bit_at_or, bit_at-pow_same, bit_at-pow_other, bit_at-zero, same_from_bits, bit_at_above, bit_at-lt}
use Rattle.std.proofs.lemmas.Bool.Decides.{nat_tests}
use Rattle.col_sets.specs.Sets.{has}
use Rattle.col_sets.specs.Columns.{has-columns_where}
use Rattle.col_sets.specs.Members.{members, bits_of, both_halves}

-- the bit of a column of the list
bit_of : (s : List ℕ) (c : ℕ) → bit_at (bits_of s) c ≡ cond (has s c) 1 0
bit_of [] c = bit_at-zero c
bit_of (d ∷ s) c = bit_at_or (bits_of s) (2 ^ d) c ∙ ap (λ b. max b (bit_at (2 ^ d) c)) (bit_of s c) ∙ go (nat_eq d c) refl (has s c)
  where
    go : (b : Bool) → nat_eq d c ≡ b → (h : Bool) → max (cond h 1 0) (bit_at (2 ^ d) c) ≡ cond (nat_eq d c || h) 1 0
    go true e h =
        let f : d ≡ c = grind (arith, nat_tests) in
        let g : bit_at (2 ^ d) c ≡ 1 = subst (λ (i : ℕ). bit_at (2 ^ d) i ≡ 1) f (bit_at-pow_same d) in
        rw (g, e) (one h)
      where
        one : (h : Bool) → max (cond h 1 0) 1 ≡ 1
        one true = refl
        one false = refl
    go false e h =
        let f : c ≢ d = grind (arith, nat_tests) in
        let g : bit_at (2 ^ d) c ≡ 0 = bit_at-pow_other d c f in
        rw (g, e) (same h)
      where
        same : (h : Bool) → max (cond h 1 0) 0 ≡ cond h 1 0
        same true = refl
        same false = refl

-- the bits of the members of a number are that number
pub bits_of-members : (b : ℕ) → b < 2 ^ 128 → bits_of (members b) ≡ b
unfolding members
bits_of-members b h = same_from_bits _ _ (λ i. bit_of (members b) i ∙ ap (λ t. cond t 1 0) (has-columns_where (λ c. nat_eq (bit_at b c) 1) i) ∙ go i (nat_lt i 128) refl (nat_eq (bit_at b i) 1) refl)
  where
    go : (i : ℕ) (p : Bool) → nat_lt i 128 ≡ p → (q : Bool) → nat_eq (bit_at b i) 1 ≡ q → cond (nat_lt i 128 && nat_eq (bit_at b i) 1) 1 0 ≡ bit_at b i
    go i true e true f = let g : bit_at b i ≡ 1 = grind (arith, nat_tests) in rw (e, f) (sym g)
    go i true e false f = let l = bit_at-lt b i in let g : bit_at b i ≡ 0 = grind (arith, nat_tests) in rw (e, f) (sym g)
    go i false e q f = let l : 128 ≤ i = grind (arith, nat_tests) in rw e (sym (bit_at_above b 128 i h l))

-- the halves of the bits of the members are the halves
pub low_back : (low high : ℕ) → low < 2 ^ 64 → high < 2 ^ 64 → bits_of (members (both_halves low high)) % 2 ^ 64 ≡ low
low_back low high l m = rw (bits_of-members (both_halves low high) (omega arith)) (omega arith)

pub high_back : (low high : ℕ) → low < 2 ^ 64 → high < 2 ^ 64 → bits_of (members (both_halves low high)) / 2 ^ 64 ≡ high
high_back low high l m = rw (bits_of-members (both_halves low high) (omega arith)) (omega arith)
