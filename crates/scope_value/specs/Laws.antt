-- The laws of orders and bags, as facts.
use Rattle.std.specs.Prelude.{◌≡◌, ◌↔◌, Bool, true, List, IsPermutation}
use Rattle.std.specs.declared.cmp.Ordering.TheVariants.{Equal}
use Rattle.std.specs.Cmp.{IsTotalOrder}
use Rattle.scope_value.specs.declared.value.Value.{Value}
use Rattle.scope_value.specs.declared.keys.KeyItem.{KeyItem}
use Rattle.scope_value.specs.Order.{value_cmp}
use Rattle.scope_value.specs.Keys.{keys_cmp}
use Rattle.scope_value.specs.Bags.{IsSameBag}
use Rattle.scope_value.specs.Sorted.{sorted, IsInOrder}

-- the order of values is one
abbrev pub IsValueOrderTotal : Type 0
IsValueOrderTotal = IsTotalOrder value_cmp

-- values that compare equal are one value
abbrev pub IsValueOrderExact : Type 0
IsValueOrderExact = (a b : Value) → value_cmp a b ≡ Equal → a ≡ b

-- the order by keys is one, whatever the keys
abbrev pub IsKeyOrderTotal : Type 0
IsKeyOrderTotal = (items : List KeyItem) (rest : Bool) → IsTotalOrder (keys_cmp items rest)

-- where the rest counts, rows that compare equal are one row
abbrev pub IsKeyOrderExact : Type 0
IsKeyOrderExact = (items : List KeyItem) (a b : List Value) → keys_cmp items true a b ≡ Equal → a ≡ b

-- one bag is a permutation, and the other way round
abbrev pub IsOneBag : Type 0
IsOneBag = (rows others : List (List Value)) → IsSameBag rows others ↔ IsPermutation rows others

-- the sorted list is of the bag, and in the order
abbrev pub IsSortedBag : Type 0
IsSortedBag = (items : List KeyItem) (rest : Bool) (rows : List (List Value)) → IsPermutation rows (sorted (keys_cmp items rest) rows) × IsInOrder (keys_cmp items rest) (sorted (keys_cmp items rest) rows)

-- with the rest, each list of the bag that is in the order is the sorted one
abbrev pub IsSortedUnique : Type 0
IsSortedUnique = (items : List KeyItem) (rows others : List (List Value)) → IsPermutation rows others → IsInOrder (keys_cmp items true) others → others ≡ sorted (keys_cmp items true) rows
