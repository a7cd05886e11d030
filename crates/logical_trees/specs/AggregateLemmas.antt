-- Aggregates over a list of values: step by step, in any order, and by parts.
use Rattle.std.proofs.Common.{◌≡◌, ℕ, ◌+◌, pos, ◌+ℤ◌, Bool, true, false, cond, not, List, [], ◌∷◌, ◌++◌, map, filter, flat_map, count_by, nat_eq, refl, sym, ap, ap₂, ◌∙◌, arith, IsPermutation, Ordering, Equal}
use Rattle.std.specs.List.{AllByRecursion}
use Rattle.std.specs.Ordering.{is_gt, flip_args}
use Rattle.std.specs.Cmp.{IsTotalOrder}
use Rattle.std.proofs.Math.IntN.{pos-+ℤ-pos, +ℤ_idl, +ℤ_idr, +ℤ_assoc, +ℤ_comm}
use Rattle.std.proofs.lemmas.Bool.Decides.{nat_tests}
use Rattle.std.proofs.lemmas.Cmp.{upto, back_total}
use Rattle.scope_value.specs.declared.value.Value.{Value}
use Rattle.scope_value.specs.declared.value.Value.TheVariants as value
use Rattle.scope_value.specs.Order.{value_cmp, value_cmp_total, value_cmp-Equal, number}
use Rattle.scope_value.specs.Keys.{column, directed}
use Rattle.scope_value.specs.Sorted.{sorted, insert_by}
use Rattle.script_trees.specs.declared.agg.AggKind.{AggKind}
use Rattle.script_trees.specs.declared.agg.AggKind.TheVariants.{Count, CountIf, Sum, Min, Max}
use Rattle.scope_expr.specs.Value.{is_true}
use Rattle.logical_trees.specs.Rows.{is_present, total, summed, first_in, exact, together}
use Rattle.logical_trees.specs.First.{first_of}
use Rattle.list_lemmas.specs.Counts.{count-cons, count-append, count_permuted}
use Rattle.list_lemmas.specs.Bags.{along_permutation, filter_permuted}
use Rattle.list_lemmas.specs.Sorting.{either_way, above_too, all_sorted}
use Rattle.scope_value.proofs.SortedLemmas.{sorted_same}

-- ---- presence

-- a value that is not present is null
pub absent_is : (v : Value) → is_present v ≡ false → v ≡ value.Null
absent_is value.Null h = refl
absent_is (value.Bool b) h = absurd (cc)
absent_is (value.Int n) h = absurd (cc)
absent_is (value.Bytes c) h = absurd (cc)
absent_is (value.Wide n) h = absurd (cc)

-- ---- counts

-- the counts of parts add up to the count of all
pub counts_together : (p : Value → Bool) (parts : List (List Value)) → total (map (λ vs. value.Int (pos (count_by p vs))) parts) ≡ pos (count_by p (flat_map (λ vs. vs) parts))
counts_together p [] = refl
counts_together p (vs ∷ parts) =
    ap (λ n. pos (count_by p vs) +ℤ n) (counts_together p parts)
    ∙ pos-+ℤ-pos (count_by p vs) (count_by p (flat_map (λ vs. vs) parts)) ∙ ap pos (sym (count-append p vs (flat_map (λ vs. vs) parts)))

-- ---- sums

-- totals of two lists add up
pub total-append : (vs ws : List Value) → total (vs ++ ws) ≡ total vs +ℤ total ws
total-append [] ws = sym (+ℤ_idl (total ws))
total-append (v ∷ vs) ws = ap (λ n. number v +ℤ n) (total-append vs ws) ∙ sym (+ℤ_assoc (number v) (total vs) (total ws))

-- the total with one value more
pub total-push : (vs : List Value) (v : Value) → total (vs ++ v ∷ []) ≡ total vs +ℤ number v
total-push vs v = total-append vs (v ∷ []) ∙ ap (λ n. total vs +ℤ n) (+ℤ_idr (number v))

-- a total does not see the order
pub total_permuted : (vs ws : List Value) → IsPermutation vs ws → total vs ≡ total ws
total_permuted = along_permutation (λ vs ws. total vs ≡ total ws) (λ vs. refl) (λ v vs ws h. ap (λ n. number v +ℤ n) h)
    (λ v w vs. sym (+ℤ_assoc (number v) (number w) (total vs)) ∙ ap (λ n. n +ℤ total vs) (+ℤ_comm (number v) (number w)) ∙ +ℤ_assoc (number w) (number v) (total vs))
    (λ vs ws us p q. p ∙ q)

-- where no value is present the total is 0
pub none_total : (vs : List Value) → count_by is_present vs ≡ 0 → total vs ≡ pos 0
none_total [] h = refl
none_total (v ∷ vs) h = go (none_total vs) (is_present v) refl
  where
    go : (count_by is_present vs ≡ 0 → total vs ≡ pos 0) → (b : Bool) → is_present v ≡ b → total (v ∷ vs) ≡ pos 0
    go more true e = absurd (let f : count_by is_present (v ∷ vs) ≡ 1 + count_by is_present vs = count-cons is_present v vs ∙ ap (λ b. cond {A = ℕ} b 1 0 + count_by is_present vs) e in omega arith)
    go more false e =
        let f : count_by is_present (v ∷ vs) ≡ 0 + count_by is_present vs = count-cons is_present v vs ∙ ap (λ b. cond {A = ℕ} b 1 0 + count_by is_present vs) e in
        ap (λ w. number w +ℤ total vs) (absent_is v e) ∙ +ℤ_idl (total vs) ∙ more (omega arith)

-- a sum is null exactly where no value is present
pub summed_present : (vs : List Value) → is_present (summed vs) ≡ not (nat_eq (count_by is_present vs) 0)
summed_present vs = elim (nat_eq (count_by is_present vs) 0) as (λ b. is_present (cond b value.Null (value.Wide (total vs))) ≡ not b) [ true ↦ refl | false ↦ refl ]

-- as a number it is the total
pub summed_number : (vs : List Value) → number (summed vs) ≡ total vs
summed_number vs = go (nat_eq (count_by is_present vs) 0) refl
  where
    go : (b : Bool) → nat_eq (count_by is_present vs) 0 ≡ b → number (cond b value.Null (value.Wide (total vs))) ≡ total vs
    go true e = let f : count_by is_present vs ≡ 0 = grind (arith, nat_tests) in sym (none_total vs f)
    go false e = refl

-- a sum does not see the order
pub summed_permuted : (vs ws : List Value) → IsPermutation vs ws → summed vs ≡ summed ws
summed_permuted vs ws h = ap₂ (λ n t. cond (nat_eq n 0) value.Null (value.Wide t)) (count_permuted is_present vs ws h) (total_permuted vs ws h)

-- the sums of parts have the total of all
totals_together : (parts : List (List Value)) → total (map summed parts) ≡ total (flat_map (λ vs. vs) parts)
totals_together [] = refl
totals_together (vs ∷ parts) = ap₂ ◌+ℤ◌ (summed_number vs) (totals_together parts) ∙ sym (total-append vs (flat_map (λ vs. vs) parts))

-- and one of them is present exactly where a value is
presence_together : (parts : List (List Value)) → nat_eq (count_by is_present (map summed parts)) 0 ≡ nat_eq (count_by is_present (flat_map (λ vs. vs) parts)) 0
presence_together [] = refl
presence_together (vs ∷ parts) =
    let n = count_by is_present vs in
    let m = count_by is_present (flat_map (λ vs. vs) parts) in
    let k = count_by is_present (map summed parts) in
    ap (λ c. nat_eq c 0) (count-cons is_present (summed vs) (map summed parts) ∙ ap (λ b. cond {A = ℕ} b 1 0 + k) (summed_present vs))
    ∙ go n m k (presence_together parts) (nat_eq n 0) refl ∙ ap (λ c. nat_eq c 0) (sym (count-append is_present vs (flat_map (λ vs. vs) parts)))
  where
    go : (n m k : ℕ) → nat_eq k 0 ≡ nat_eq m 0 → (b : Bool) → nat_eq n 0 ≡ b → nat_eq (cond {A = ℕ} (not (nat_eq n 0)) 1 0 + k) 0 ≡ nat_eq (n + m) 0
    go n m k h true e = grind (arith, nat_tests)
    go n m k h false e = grind (arith, nat_tests)

-- the sum of the sums of parts is the sum of all
pub sums_together : (parts : List (List Value)) → summed (map summed parts) ≡ summed (flat_map (λ vs. vs) parts)
sums_together parts = ap₂ (λ b t. cond b value.Null (value.Wide t)) (presence_together parts) (totals_together parts)

-- ---- the first in an order

-- what a filter keeps passes it
all_filter : (p : Value → Bool) (vs : List Value) → AllByRecursion (λ v. p v ≡ true) (filter p vs)
all_filter p [] = tt
all_filter p (v ∷ vs) = go (all_filter p vs) (p v) refl
  where
    go : AllByRecursion (λ v. p v ≡ true) (filter p vs) → (b : Bool) → p v ≡ b → AllByRecursion (λ w. p w ≡ true) (cond b (v ∷ filter p vs) (filter p vs))
    go more true e = (e, more)
    go more false e = more

-- where a present value is put among present ones, the first is the first of two
first_inserted : (cmp : Value → Value → Ordering) (v : Value) (vs : List Value) → is_present v ≡ true → AllByRecursion (λ w. is_present w ≡ true) vs
    → column 0 (insert_by cmp v vs) ≡ first_of cmp v (column 0 vs)
first_inserted cmp v [] h all = rw h refl
first_inserted cmp v (w ∷ vs) h all =
    let e : is_present w ≡ true = all.0 in
    rw (h, e) (elim (is_gt (cmp v w)) as (λ b. column 0 (cond b (w ∷ insert_by cmp v vs) (v ∷ w ∷ vs)) ≡ cond b w v) [ true ↦ refl | false ↦ refl ])

-- the first of one value and more
pub first_in-cons : (cmp : Value → Value → Ordering) (v : Value) (vs : List Value) → first_in cmp (v ∷ vs) ≡ first_of cmp v (first_in cmp vs)
first_in-cons cmp v vs = go (is_present v) refl
  where
    go : (b : Bool) → is_present v ≡ b → column 0 (sorted cmp (cond (is_present v) (v ∷ filter is_present vs) (filter is_present vs))) ≡ first_of cmp v (first_in cmp vs)
    go true e =
        ap (λ b. column 0 (sorted cmp (cond b (v ∷ filter is_present vs) (filter is_present vs)))) e
        ∙ first_inserted cmp v (sorted cmp (filter is_present vs)) e (all_sorted (λ w. is_present w ≡ true) cmp _ (all_filter is_present vs))
    go false e = rw e refl

-- the first of one value is that value
pub first_in_one : (cmp : Value → Value → Ordering) (v : Value) → first_in cmp (v ∷ []) ≡ v
first_in_one cmp v = first_in-cons cmp v [] ∙ go (is_present v) refl
  where
    go : (b : Bool) → is_present v ≡ b → first_of cmp v value.Null ≡ v
    go true e = simp e
    go false e = simp e (sym (absent_is v e))

module _ {cmp : Value → Value → Ordering} (by : IsTotalOrder cmp) (exact_by : (x y : Value) → cmp x y ≡ Equal → x ≡ y) where
  -- above what is above a value is above it
  above_all : (a b c : Value) → is_gt (cmp a b) ≡ true → is_gt (cmp b c) ≡ true → is_gt (cmp a c) ≡ true
  above_all a b c h k = at (is_gt (cmp a c)) refl
    where
      at : (x : Bool) → is_gt (cmp a c) ≡ x → x ≡ true
      at true e = refl
      at false e = absurd (let f = above_too by a b c e k in let g = either_way by a b h in cc)

  -- the first of three values, whichever two are looked at first
  pub first_of-assoc : (a b c : Value) → first_of cmp (first_of cmp a b) c ≡ first_of cmp a (first_of cmp b c)
  first_of-assoc a b c = at (is_present a) (is_present b) (is_present c) refl refl refl
    where
      all : (x y z : Bool) → is_present a ≡ true → is_present b ≡ true → is_present c ≡ true → is_gt (cmp a b) ≡ x → is_gt (cmp b c) ≡ y → is_gt (cmp a c) ≡ z
          → first_of cmp (first_of cmp a b) c ≡ first_of cmp a (first_of cmp b c)
      all true true z p q r e f g = let k = above_all a b c e f in simp (p, q, r, e, f, k)
      all true false z p q r e f g = simp (p, q, r, e, f)
      all false true z p q r e f g = simp (p, q, r, e, f)
      all false false z p q r e f g = let k = upto by a b c e f in simp (p, q, r, e, f, k)

      at : (x y z : Bool) → is_present a ≡ x → is_present b ≡ y → is_present c ≡ z → first_of cmp (first_of cmp a b) c ≡ first_of cmp a (first_of cmp b c)
      at true true true e f g = all (is_gt (cmp a b)) (is_gt (cmp b c)) (is_gt (cmp a c)) e f g refl refl refl
      at true true false e f g = two (is_gt (cmp a b)) refl
        where
          two : (x : Bool) → is_gt (cmp a b) ≡ x → first_of cmp (first_of cmp a b) c ≡ first_of cmp a (first_of cmp b c)
          two true k = simp (e, f, g, k)
          two false k = simp (e, f, g, k)
      at true false z e f g = simp (e, f)
      at false y z e f g = simp e

  -- the first of two lists
  pub first_in-append : (vs ws : List Value) → first_in cmp (vs ++ ws) ≡ first_of cmp (first_in cmp vs) (first_in cmp ws)
  first_in-append [] ws = refl
  first_in-append (v ∷ vs) ws =
      first_in-cons cmp v (vs ++ ws) ∙ ap (first_of cmp v) (first_in-append vs ws) ∙ sym (first_of-assoc v (first_in cmp vs) (first_in cmp ws))
      ∙ ap (λ a. first_of cmp a (first_in cmp ws)) (sym (first_in-cons cmp v vs))

  -- the first with one value more, as at a step of a loop
  pub first_in-push : (vs : List Value) (v : Value) → first_in cmp (vs ++ v ∷ []) ≡ first_of cmp (first_in cmp vs) v
  first_in-push vs v = first_in-append vs (v ∷ []) ∙ ap (first_of cmp (first_in cmp vs)) (first_in_one cmp v)

  -- the first does not see the order
  pub first_in_permuted : (vs ws : List Value) → IsPermutation vs ws → first_in cmp vs ≡ first_in cmp ws
  first_in_permuted vs ws h = ap (column 0) (sorted_same by exact_by _ _ (filter_permuted is_present vs ws h))

  -- the first of the firsts of parts is the first of all
  pub firsts_together : (parts : List (List Value)) → first_in cmp (map (first_in cmp) parts) ≡ first_in cmp (flat_map (λ vs. vs) parts)
  firsts_together [] = refl
  firsts_together (vs ∷ parts) =
      first_in-cons cmp (first_in cmp vs) (map (first_in cmp) parts) ∙ ap (first_of cmp (first_in cmp vs)) (firsts_together parts)
      ∙ sym (first_in-append vs (flat_map (λ vs. vs) parts))

-- ---- the aggregates

-- the reversed order of values is one too, and equal is identical
pub flip_total : IsTotalOrder (flip_args value_cmp)
flip_total = back_total value_cmp_total

pub flip_exact : (a b : Value) → flip_args value_cmp a b ≡ Equal → a ≡ b
flip_exact a b h = sym (value_cmp-Equal b a h)

-- an aggregate does not see the order of the values
pub exact_permuted : (kind : AggKind) (vs ws : List Value) → IsPermutation vs ws → exact kind vs ≡ exact kind ws
exact_permuted Count vs ws h = ap (λ n. value.Int (pos n)) (count_permuted is_present vs ws h)
exact_permuted CountIf vs ws h = ap (λ n. value.Int (pos n)) (count_permuted is_true vs ws h)
exact_permuted Sum vs ws h = summed_permuted vs ws h
exact_permuted Min vs ws h = first_in_permuted value_cmp_total value_cmp-Equal vs ws h
exact_permuted Max vs ws h = first_in_permuted flip_total flip_exact vs ws h

-- nor does it see that of partial values
pub together_permuted : (kind : AggKind) (vs ws : List Value) → IsPermutation vs ws → together kind vs ≡ together kind ws
together_permuted Count vs ws h = ap value.Int (total_permuted vs ws h)
together_permuted CountIf vs ws h = ap value.Int (total_permuted vs ws h)
together_permuted Sum vs ws h = summed_permuted vs ws h
together_permuted Min vs ws h = first_in_permuted value_cmp_total value_cmp-Equal vs ws h
together_permuted Max vs ws h = first_in_permuted flip_total flip_exact vs ws h

-- what an aggregate makes of parts, brought together, is what it makes of all
pub together_parts : (kind : AggKind) (parts : List (List Value)) → together kind (map (exact kind) parts) ≡ exact kind (flat_map (λ vs. vs) parts)
together_parts Count parts = ap value.Int (counts_together is_present parts)
together_parts CountIf parts = ap value.Int (counts_together is_true parts)
together_parts Sum parts = sums_together parts
together_parts Min parts = firsts_together value_cmp_total value_cmp-Equal parts
together_parts Max parts = firsts_together flip_total flip_exact parts

-- so is either of them
pub directed_total : (down : Bool) → IsTotalOrder (directed down value_cmp)
directed_total false = value_cmp_total
directed_total true = flip_total

pub directed_exact : (down : Bool) (a b : Value) → directed down value_cmp a b ≡ Equal → a ≡ b
directed_exact false = value_cmp-Equal
directed_exact true = flip_exact
