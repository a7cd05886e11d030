-- Numbers as args.
use Rattle.std.proofs.Common.{◌≡◌, ◌<◌, ◌^◌, ◌&&◌, ◌==◌, ℕ, Bool, true, false, if◌then◌else◌, List, [], ◌∷◌, ◌++◌, length, Option, Some, None, refl, sym, ap, ap₂, ◌∙◌, nat_lt, eq-eqb}
use Rattle.std.specs.Bool.{Decides}
use Rattle.std.specs.Str.{bytes_eq}
use Rattle.std.specs.Str.Parse.{digits_value}
use Rattle.std.specs.Fmt.{decimal}
use Rattle.std.proofs.lemmas.Bool.{eqb-true, lt-ltb, ltb-true}
use Rattle.std.proofs.lemmas.Fmt.{decimal_is_IsNumeral}
use Rattle.std.proofs.lemmas.Slice.Eq.{bytes_eq-Decides}
use Rattle.scope_value.specs.declared.schema.Column.{Column}
use Rattle.scope_shipped.specs.SameTypes.{same_types}
use Rattle.scope_shipped.specs.SameTypesLemmas.{and-first, and-second}
use Rattle.outer_joins.specs.declared.side.Side.{Side}
use Rattle.outer_joins.specs.Widths.{width, both, widths, are_widths}
use Rattle.outer_joins.specs.Combiners.{outer_given, outer_told}
use Rattle.outer_joins.specs.Laws.{width_args, TakesJustWidths, GivesOuterPairs}

-- what a number is written as names it
pub width-named : (text : List ℕ) (n : ℕ) → n < 2 ^ 64 → text ≡ decimal n → width text ≡ Some n
width-named text n small is =
    let value : digits_value 10 text ≡ n = ap (digits_value 10) is ∙ (decimal_is_IsNumeral n small).1 in
    let same : bytes_eq text (decimal n) ≡ true = (bytes_eq-Decides text (decimal n)).1 is in
    let fits : nat_lt n (2 ^ 64) ≡ true = lt-ltb n (2 ^ 64) small in
    rw (value, same, fits) refl

some-is : (a b : ℕ) → Some a ≡ Some b → a ≡ b
some-is a b e = cc

-- and nothing else does
pub width-is : (text : List ℕ) (n : ℕ) → width text ≡ Some n → text ≡ decimal n
width-is text n = by (bytes_eq text (decimal (digits_value 10 text))) (nat_lt (digits_value 10 text) (2 ^ 64)) refl
  where
    by : (b d : Bool) → bytes_eq text (decimal (digits_value 10 text)) ≡ b → (if b && d then Some (digits_value 10 text) else None) ≡ Some n → text ≡ decimal n
    by true true same is =
        (bytes_eq-Decides text (decimal (digits_value 10 text))).0 same ∙ ap decimal (some-is (digits_value 10 text) n is)
    by true false same is = absurd (cc)
    by false d same is = absurd (cc)

pub no_width : (text : List ℕ) → ((n : ℕ) → n < 2 ^ 64 → text ≡ decimal n → ⊥) → width text ≡ None
no_width text none = by (bytes_eq text (decimal (digits_value 10 text))) (nat_lt (digits_value 10 text) (2 ^ 64)) refl refl
  where
    by : (b d : Bool) → bytes_eq text (decimal (digits_value 10 text)) ≡ b → nat_lt (digits_value 10 text) (2 ^ 64) ≡ d
        → (if b && d then Some (digits_value 10 text) else None) ≡ None
    by true true same small =
        absurd (none (digits_value 10 text) (ltb-true (digits_value 10 text) (2 ^ 64) small) ((bytes_eq-Decides text (decimal (digits_value 10 text))).0 same))
    by true false same small = refl
    by false d same small = refl

-- ---- both numbers

pub widths-named : (m n : ℕ) → m < 2 ^ 64 → n < 2 ^ 64 → widths (width_args m n) ≡ Some (m, n)
widths-named m n small few = ap₂ (λ (p q : Option ℕ). both p q) (width-named (decimal m) m small refl) (width-named (decimal n) n few refl)

both-is : (p q : Option ℕ) (m n : ℕ) → are_widths m n (both p q) ≡ true → (p ≡ Some m) × (q ≡ Some n)
both-is None None m n h = absurd (cc)
both-is None (Some b) m n h = absurd (cc)
both-is (Some a) None m n h = absurd (cc)
both-is (Some a) (Some b) m n h = (
  ap (λ (x : ℕ). Some x) (eqb-true a m (and-first (a == m) (b == n) h)),
  ap (λ (x : ℕ). Some x) (eqb-true b n (and-second (a == m) (b == n) h)),
)

args-are : (m n : ℕ) (args : List (List ℕ)) → are_widths m n (widths args) ≡ true → args ≡ width_args m n
args-are m n [] h = absurd (cc)
args-are m n (first ∷ []) h = absurd (cc)
args-are m n (first ∷ second ∷ []) h =
    let parts = both-is (width first) (width second) m n h in
    ap₂ (λ (a b : List ℕ). a ∷ b ∷ []) (width-is first m parts.0) (width-is second n parts.1)
args-are m n (first ∷ second ∷ third ∷ more) h = absurd (cc)

both-true : (a b : Bool) → a ≡ true → b ≡ true → (a && b) ≡ true
both-true true true h k = refl
both-true true false h k = k
both-true false b h k = h

pub takes_just_widths : TakesJustWidths
takes_just_widths side left right output args short few = (
  λ h. (
    args-are (length left) (length right) args (and-first (are_widths (length left) (length right) (widths args)) (same_types (left ++ right) output) h),
    and-second (are_widths (length left) (length right) (widths args)) (same_types (left ++ right) output) h,
  ),
  λ p.
      let counted : are_widths (length left) (length right) (widths args) ≡ true =
      ap (λ (l : List (List ℕ)). are_widths (length left) (length right) (widths l)) p.0
      ∙ ap (are_widths (length left) (length right)) (widths-named (length left) (length right) short few)
      ∙ both-true (length left == length left) (length right == length right) (eq-eqb (length left) (length left) refl) (eq-eqb (length right) (length right) refl) in
      both-true (are_widths (length left) (length right) (widths args)) (same_types (left ++ right) output) counted p.1,
)

pub gives_outer_pairs : GivesOuterPairs
gives_outer_pairs side m n A B small few = ap (λ (o : Option (ℕ × ℕ)). outer_given side o A B) (widths-named m n small few)
