-- Columns at ascending places ascend.
use Rattle.std.proofs.Common.{ℕ, zero, suc, ◌<◌, ◌≤◌, List, [], ◌∷◌, map, length, get_or, arith}
use Rattle.column_ranks.specs.Rising.{IsRising}
use Rattle.column_ranks.specs.RisingLemmas.{rising_le}

pub place_from : (a b : ℕ) (s : List ℕ) (i d : ℕ) → IsRising a s b → i < length s → a ≤ get_or s i d
place_from a b [] i d h l = absurd (omega arith)
place_from a b (c ∷ s) zero d h l = h.0
place_from a b (c ∷ s) (suc i) d h l = let k : a ≤ c = h.0 in let m : suc c ≤ get_or s i d = place_from (suc c) b s i d h.1 (omega arith) in omega arith

pub place_below : (a b : ℕ) (s : List ℕ) (i d : ℕ) → IsRising a s b → i < length s → get_or s i d < b
place_below a b [] i d h l = absurd (omega arith)
place_below a b (c ∷ s) zero d h l = rising_le (suc c) b s h.1
place_below a b (c ∷ s) (suc i) d h l = place_below (suc c) b s i d h.1 (omega arith)

pub place_rises : (a b : ℕ) (s : List ℕ) (i j d : ℕ) → IsRising a s b → i < j → j < length s → get_or s i d < get_or s j d
place_rises a b [] i j d h k l = absurd (omega arith)
place_rises a b (c ∷ s) i zero d h k l = absurd (omega arith)
place_rises a b (c ∷ s) zero (suc j) d h k l = place_from (suc c) b s j d h.1 (omega arith)
place_rises a b (c ∷ s) (suc i) (suc j) d h k l = place_rises (suc c) b s i j d h.1 (omega arith) (omega arith)

picked_from : (x b : ℕ) (s : List ℕ) (d : ℕ) → IsRising x s b → (ps : List ℕ) (p a : ℕ) → IsRising p ps (length s) → a ≤ b
    → ((j : ℕ) → p ≤ j → j < length s → a ≤ get_or s j d) → IsRising a (map (λ i. get_or s i d) ps) b
picked_from x b s d h [] p a k l low = l
picked_from x b s d h (q ∷ ps) p a k l low =
    let from : p ≤ q = k.0 in
    let in_list : q < length s = rising_le (suc q) (length s) ps k.1 in
    (low q from in_list, picked_from x b s d h ps (suc q) (suc (get_or s q d)) k.1 (place_below x b s q d h in_list) (λ j m n. place_rises x b s q j d h m n))

pub picked : (x b : ℕ) (s : List ℕ) (d : ℕ) → IsRising x s b → (ps : List ℕ) → IsRising 0 ps (length s) → IsRising x (map (λ i. get_or s i d) ps) b
picked x b s d h ps k = picked_from x b s d h ps 0 x k (rising_le x b s h) (λ j m n. place_from x b s j d h n)
