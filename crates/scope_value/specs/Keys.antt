-- The order of rows by keys.
use Rattle.std.specs.Prelude.{◌≡◌, ℕ, Bool, true, false, List, [], ◌∷◌, slice_get, unwrap_or, refl}
use Rattle.std.specs.declared.cmp.Ordering.{Ordering}
use Rattle.std.specs.declared.cmp.Ordering.TheVariants.{Equal}
use Rattle.std.specs.Ordering.{on, then_cmp, flip_args}
use Rattle.std.specs.Cmp.{IsTotalOrder}
use Rattle.std.proofs.lemmas.Cmp.{on_total, then_total, back_total}
use Rattle.scope_value.specs.declared.value.Value.{Value}
use Rattle.scope_value.specs.declared.value.Value.TheVariants.{Null}
use Rattle.scope_value.specs.declared.keys.KeyItem.{KeyItem}
use Rattle.scope_value.specs.Order.{value_cmp, value_cmp_total, row_cmp, row_cmp_total, row_cmp-Equal, tied}

-- the value at a place, null past the row's end
abbrev pub column : ℕ → List Value → Value
column at row = unwrap_or (slice_get row at) Null

-- an order, or its reverse
abbrev pub directed : {K : Type 0} → Bool → (K → K → Ordering) → K → K → Ordering
directed false cmp = cmp
directed true cmp = flip_args cmp

-- by the value at the item's place
abbrev pub item_cmp : KeyItem → List Value → List Value → Ordering
item_cmp item = directed item.down (on (column item.place) value_cmp)

-- by the items in order
abbrev pub items_cmp : List KeyItem → List Value → List Value → Ordering
items_cmp [] = λ _ _. Equal
items_cmp (item ∷ items) = then_cmp (item_cmp item) (items_cmp items)

-- by all values, or not at all
abbrev pub rest_cmp : Bool → List Value → List Value → Ordering
rest_cmp false = λ _ _. Equal
rest_cmp true = row_cmp

-- by the items in order, and then, where the rest counts, by all values
abbrev pub keys_cmp : List KeyItem → Bool → List Value → List Value → Ordering
keys_cmp items rest = then_cmp (items_cmp items) (rest_cmp rest)

none_total : {K : Type 0} → IsTotalOrder (λ (x y : K). Equal)
none_total = record { antisymm = λ x y. refl; trans = λ x y z p q. p; congr = λ x y z p. refl }

directed_total : {K : Type 0} {R : K → K → Ordering} (down : Bool) → IsTotalOrder R → IsTotalOrder (directed down R)
directed_total false total = total
directed_total true total = back_total total

-- the order by items is one
pub items_cmp_total : (items : List KeyItem) → IsTotalOrder (items_cmp items)
items_cmp_total [] = none_total
items_cmp_total (item ∷ items) = then_total (directed_total item.down (on_total (column item.place) value_cmp_total)) (items_cmp_total items)

rest_total : (rest : Bool) → IsTotalOrder (rest_cmp rest)
rest_total false = none_total
rest_total true = row_cmp_total

-- the order by keys is one
pub keys_cmp_total : (items : List KeyItem) (rest : Bool) → IsTotalOrder (keys_cmp items rest)
keys_cmp_total items rest = then_total (items_cmp_total items) (rest_total rest)

-- where the rest counts, rows that compare equal are one row
pub keys_cmp-Equal : (items : List KeyItem) (a b : List Value) → keys_cmp items true a b ≡ Equal → a ≡ b
keys_cmp-Equal items a b h = row_cmp-Equal a b (tied (items_cmp items a b) (row_cmp a b) h).1
