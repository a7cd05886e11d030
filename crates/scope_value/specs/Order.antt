-- The one order of values.
use Rattle.std.specs.Prelude.{◌≡◌, ℕ, ℤ, pos, true, false, List, [], ◌∷◌, ◌++◌, refl}
use Rattle.std.specs.declared.cmp.Ordering.{Ordering}
use Rattle.std.specs.declared.cmp.Ordering.TheVariants.{Less, Equal, Greater}
use Rattle.std.specs.Ordering.{nat_cmp, int_cmp, on, then_cmp, ordering_then, is_eq, eq_by_cmp}
use Rattle.std.specs.Cmp.{IsTotalOrder}
use Rattle.std.specs.Cmp.Lexicographic.{slice_cmp}
use Rattle.std.specs.Bool.{Decides}
use Rattle.std.specs.Hash as fed
use Rattle.std.proofs.Common.{ap, ap₂, subst, arith}
use Rattle.std.proofs.lemmas.Cmp.{on_total, then_total, nat_cmp_total, int_cmp_total, nat_list_cmp_total, lists_total, tied_itself}
use Rattle.std.proofs.lemmas.Map.Lookups.{exact_bytes, exact_signed, exact_unsigned}
use Rattle.scope_value.specs.declared.value.Value.{Value}
use Rattle.scope_value.specs.declared.value.Value.TheVariants as value

-- null, then false, true, numbers, strings, and last partial sums
abbrev pub rank : Value → ℕ
rank value.Null = 0
rank (value.Bool false) = 1
rank (value.Bool true) = 2
rank (value.Int n) = 3
rank (value.Bytes c) = 4
rank (value.Wide n) = 5

-- what a number or a partial sum is, 0 for the others
abbrev pub number : Value → ℤ
number value.Null = pos 0
number (value.Bool b) = pos 0
number (value.Int n) = n
number (value.Bytes c) = pos 0
number (value.Wide n) = n

-- the bytes of a string, none for the others
abbrev pub text : Value → List ℕ
text value.Null = []
text (value.Bool b) = []
text (value.Int n) = []
text (value.Bytes c) = c
text (value.Wide n) = []

-- by rank, then by the number, then by the bytes
unfoldable pub value_cmp : Value → Value → Ordering
value_cmp = then_cmp (on rank nat_cmp) (then_cmp (on number int_cmp) (on text (slice_cmp nat_cmp)))

-- value by value, and a row before what extends it
abbrev pub row_cmp : List Value → List Value → Ordering
row_cmp = slice_cmp value_cmp

-- what a value feeds a hasher
abbrev pub value_writes : Value → fed.HashWrites
value_writes v = fed.u8 (rank v) ++ fed.i128 (number v) ++ fed.slice fed.u8 (text v)

pub value_cmp_total : IsTotalOrder value_cmp
unfolding value_cmp
value_cmp_total = then_total (on_total rank nat_cmp_total) (then_total (on_total number int_cmp_total) (on_total text nat_list_cmp_total))

-- values that compare equal are one value
is_eq-Equal : (o : Ordering) → is_eq o ≡ true → o ≡ Equal
is_eq-Equal Less h = absurd (cc)
is_eq-Equal Equal h = refl
is_eq-Equal Greater h = absurd (cc)

pub tied : (o p : Ordering) → ordering_then o p ≡ Equal → (o ≡ Equal) × (p ≡ Equal)
tied Less p h = absurd (cc)
tied Equal p h = (refl, h)
tied Greater p h = absurd (cc)

same_parts : (a b : Value) → rank a ≡ rank b → number a ≡ number b → text a ≡ text b → a ≡ b
same_parts value.Null value.Null r n t = refl
same_parts value.Null (value.Bool false) r n t = absurd (omega arith)
same_parts value.Null (value.Bool true) r n t = absurd (omega arith)
same_parts value.Null (value.Int m) r n t = absurd (omega arith)
same_parts value.Null (value.Bytes d) r n t = absurd (omega arith)
same_parts value.Null (value.Wide m) r n t = absurd (omega arith)
same_parts (value.Bool false) value.Null r n t = absurd (omega arith)
same_parts (value.Bool false) (value.Bool false) r n t = refl
same_parts (value.Bool false) (value.Bool true) r n t = absurd (omega arith)
same_parts (value.Bool false) (value.Int m) r n t = absurd (omega arith)
same_parts (value.Bool false) (value.Bytes d) r n t = absurd (omega arith)
same_parts (value.Bool false) (value.Wide m) r n t = absurd (omega arith)
same_parts (value.Bool true) value.Null r n t = absurd (omega arith)
same_parts (value.Bool true) (value.Bool false) r n t = absurd (omega arith)
same_parts (value.Bool true) (value.Bool true) r n t = refl
same_parts (value.Bool true) (value.Int m) r n t = absurd (omega arith)
same_parts (value.Bool true) (value.Bytes d) r n t = absurd (omega arith)
same_parts (value.Bool true) (value.Wide m) r n t = absurd (omega arith)
same_parts (value.Int k) value.Null r n t = absurd (omega arith)
same_parts (value.Int k) (value.Bool false) r n t = absurd (omega arith)
same_parts (value.Int k) (value.Bool true) r n t = absurd (omega arith)
same_parts (value.Int k) (value.Int m) r n t = ap value.Int n
same_parts (value.Int k) (value.Bytes d) r n t = absurd (omega arith)
same_parts (value.Int k) (value.Wide m) r n t = absurd (omega arith)
same_parts (value.Bytes c) value.Null r n t = absurd (omega arith)
same_parts (value.Bytes c) (value.Bool false) r n t = absurd (omega arith)
same_parts (value.Bytes c) (value.Bool true) r n t = absurd (omega arith)
same_parts (value.Bytes c) (value.Int m) r n t = absurd (omega arith)
same_parts (value.Bytes c) (value.Bytes d) r n t = ap value.Bytes t
same_parts (value.Bytes c) (value.Wide m) r n t = absurd (omega arith)
same_parts (value.Wide k) value.Null r n t = absurd (omega arith)
same_parts (value.Wide k) (value.Bool false) r n t = absurd (omega arith)
same_parts (value.Wide k) (value.Bool true) r n t = absurd (omega arith)
same_parts (value.Wide k) (value.Int m) r n t = absurd (omega arith)
same_parts (value.Wide k) (value.Bytes d) r n t = absurd (omega arith)
same_parts (value.Wide k) (value.Wide m) r n t = ap value.Wide n

pub value_cmp-Equal : (a b : Value) → value_cmp a b ≡ Equal → a ≡ b
unfolding value_cmp
value_cmp-Equal a b h =
    let first = tied _ _ h in
    let second = tied _ _ first.1 in
    same_parts a b (exact_unsigned _ _ first.0) (exact_signed _ _ second.0) (exact_bytes _ _ second.1)

-- a test by an order at which equal is identical decides which is which
pub eq_by_cmp-decides : {K : Type 0} {R : K → K → Ordering} → IsTotalOrder R → ((x y : K) → R x y ≡ Equal → x ≡ y) → (x y : K) → Decides (eq_by_cmp R x y) (x ≡ y)
eq_by_cmp-decides {K} {R} total exact x y = (λ h. exact x y (is_eq-Equal (R x y) h), λ same. subst (λ (z : K). eq_by_cmp R x z ≡ true) same (ap is_eq (tied_itself total x)))

pub value_eq-decides : (a b : Value) → Decides (eq_by_cmp value_cmp a b) (a ≡ b)
value_eq-decides = eq_by_cmp-decides value_cmp_total value_cmp-Equal

pub row_cmp_total : IsTotalOrder row_cmp
row_cmp_total = lists_total value_cmp_total

pub row_cmp-Equal : (a b : List Value) → row_cmp a b ≡ Equal → a ≡ b
row_cmp-Equal [] [] h = refl
row_cmp-Equal [] (y ∷ b) h = absurd (cc)
row_cmp-Equal (x ∷ a) [] h = absurd (cc)
row_cmp-Equal (x ∷ a) (y ∷ b) h =
    let parts = tied (value_cmp x y) (row_cmp a b) h in
    ap₂ ◌∷◌ (value_cmp-Equal x y parts.0) (row_cmp-Equal a b parts.1)

pub row_eq-decides : (a b : List Value) → Decides (eq_by_cmp row_cmp a b) (a ≡ b)
row_eq-decides = eq_by_cmp-decides row_cmp_total row_cmp-Equal
