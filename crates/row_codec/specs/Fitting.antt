-- What is read fits its column.
use Rattle.std.proofs.Common.{◌≡◌, ◌==◌, ◌+◌, ◌^◌, ◌<◌, ◌&&◌, ℕ, Bool, true, false, pos, neg_ℤ, suc, zero, List, [], ◌∷◌, Option, Some, None, IfSome, option_map, FitsSigned, arith, nat_lt, refl, if◌then◌else◌}
use Rattle.std.specs.Int.{w32, w64}
use Rattle.std.specs.Str.Parse.{digits_value}
use Rattle.std.proofs.lemmas.Bool.Decides.{nat_tests}
use Rattle.scope_value.specs.declared.value.Value.{Value}
use Rattle.scope_value.specs.declared.value.Value.TheVariants as value
use Rattle.scope_value.specs.declared.schema.ColType.{ColType}
use Rattle.scope_value.specs.declared.schema.ColType.TheVariants as kind
use Rattle.scope_value.specs.declared.schema.Column.{Column}
use Rattle.scope_value.specs.Fits.{Fits, RowFits}
use Rattle.row_codec.specs.Fields.{field_value, plain_value, reads_null, truth}
use Rattle.row_codec.specs.Numbers.{is_numeral, number_below, signed_number}
use Rattle.row_codec.specs.Records.{Record}
use Rattle.row_codec.specs.Rows.{text_extracts, with_value}
use Rattle.std.proofs.lemmas.Nat.{pow_pos}
use mir.Syntax.{Width}
use mir.Val.{hbits}

by_test : {X : Type 0} (b : Bool) (P : X → Type 0) (o p : Option X) → IfSome o P → IfSome p P → IfSome (if b then o else p) P
by_test true P o p h k = h
by_test false P o p h k = k

mapped : {X Y : Type 0} (f : X → Y) (P : X → Type 0) (Q : Y → Type 0) (o : Option X) → IfSome o P → ((x : X) → P x → Q (f x)) → IfSome (option_map f o) Q
mapped f P Q None h k = tt
mapped f P Q (Some x) h k = k x h

below : (bound : ℕ) (ds : List ℕ) → IfSome (number_below bound ds) (λ n. n < bound)
below bound ds = pick (is_numeral ds && nat_lt (digits_value 10 ds) bound) (λ e. grind (arith, nat_tests, e))
  where
    pick : (b : Bool) → (b ≡ true → digits_value 10 ds < bound) → IfSome (if b then Some (digits_value 10 ds) else None) (λ n. n < bound)
    pick true e = e refl
    pick false e = tt

positive : (w : Width) (n : ℕ) → n < 2 ^ hbits w → FitsSigned w (pos n)
positive w n h = record { sfits = h }

negative : (w : Width) (n : ℕ) → n < 2 ^ hbits w + 1 → FitsSigned w (neg_ℤ (pos n))
negative w zero h = positive w 0 (pow_pos (hbits w))
negative w (suc n) h = record { sfits = omega arith }

-- a number that is read lies in the range
signed_fits : (w : Width) (ds : List ℕ) → IfSome (signed_number (2 ^ hbits w) ds) (λ z. FitsSigned w z)
signed_fits w [] = tt
signed_fits w (b ∷ rest) =
    by_test (b == 45) _ _ _ (mapped (λ n. neg_ℤ (pos n)) _ _ (number_below (2 ^ hbits w + 1) rest) (below _ rest) (negative w))
    (by_test (b == 43) _ _ _ (mapped pos _ _ (number_below (2 ^ hbits w) rest) (below _ rest) (positive w))
    (mapped pos _ _ (number_below (2 ^ hbits w) (b ∷ rest)) (below _ (b ∷ rest)) (positive w)))

any : {X : Type 0} (o : Option X) → IfSome o (λ x. Unit {0})
any None = tt
any (Some x) = tt

null_fits : (k : ColType) → Fits k value.Null
null_fits kind.Int = tt
null_fits kind.Long = tt
null_fits kind.Text = tt
null_fits kind.Bool = tt

plain_fits : (k : ColType) (field : List ℕ) → IfSome (plain_value k field) (λ v. Fits k v)
plain_fits kind.Int field = mapped value.Int _ (λ v. Fits kind.Int v) (signed_number (2 ^ 31) field) (signed_fits w32 field) (λ z h. h)
plain_fits kind.Long field = mapped value.Int _ (λ v. Fits kind.Long v) (signed_number (2 ^ 63) field) (signed_fits w64 field) (λ z h. h)
plain_fits kind.Text field = tt
plain_fits kind.Bool field = mapped value.Bool _ (λ v. Fits kind.Bool v) (truth field) (any (truth field)) (λ b h. tt)

-- what a field reads as fits the column
pub field_fits : (k : ColType) (field : List ℕ) → IfSome (field_value k field) (λ v. Fits k v)
unfolding field_value
field_fits k field = by_test (reads_null k field) (λ v. Fits k v) (Some value.Null) (plain_value k field) (null_fits k) (plain_fits k field)

both_fit : (c : Column) (cs : List Column) (o : Option Value) (p : Option (List Value))
    → IfSome o (λ v. Fits c.kind v) → IfSome p (λ vs. RowFits cs vs) → IfSome (with_value o p) (λ vs. RowFits (c ∷ cs) vs)
both_fit c cs None None h k = tt
both_fit c cs None (Some vs) h k = tt
both_fit c cs (Some v) None h k = tt
both_fit c cs (Some v) (Some vs) h k = (h, k)

-- what a record reads as fits the columns
pub row_fits : (cs : List Column) (fields : Record) → IfSome (text_extracts cs fields) (λ vs. RowFits cs vs)
row_fits [] [] = tt
row_fits [] (f ∷ fs) = tt
row_fits (c ∷ cs) [] = tt
row_fits (c ∷ cs) (f ∷ fs) = both_fit c cs (field_value c.kind f) (text_extracts cs fs) (field_fits c.kind f) (row_fits cs fs)
