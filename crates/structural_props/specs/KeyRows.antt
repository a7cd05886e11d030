-- Rows of the values in the columns of a key stand in the order of the rows that they are of.
use Rattle.std.proofs.Common.{◌≡◌, ℕ, suc, ◌+◌, Bool, true, false, List, [], ◌∷◌, refl, ap, ap₂, arith}
use Rattle.std.specs.Ordering.{ordering_then, on}
use Rattle.scope_value.specs.declared.value.Value.{Value}
use Rattle.scope_value.specs.Order.{value_cmp}
use Rattle.scope_value.specs.Keys.{column, directed, items_cmp}
use Rattle.col_sets.specs.declared.dir.Dir.{Dir}
use Rattle.col_sets.specs.Sets.{rank}
use Rattle.structural_props.specs.Rows.{value_at, key_of, items, range_columns, is_down, key_items}

-- rows k and l that hold the values of keys of x and y, from a place on
keys_from : (cols : List ℕ) (keys : List (ℕ × Dir)) (at : ℕ) (x y k l : List Value)
    → ((i j : ℕ) → j ≡ at + i → column j k ≡ column i (key_of cols (range_columns keys) x)) → ((i j : ℕ) → j ≡ at + i → column j l ≡ column i (key_of cols (range_columns keys) y))
    → items_cmp (key_items at keys) k l ≡ items_cmp (items cols keys) x y
keys_from cols [] at x y k l h g = refl
keys_from cols (e ∷ keys) at x y k l h g =
    ap₂ ordering_then
    (first (is_down e.1) (h 0 at (omega arith)) (g 0 at (omega arith)))
    (keys_from cols keys (at + 1) x y k l (λ i j s. h (suc i) j (omega arith)) (λ i j s. g (suc i) j (omega arith)))
  where
    first : (b : Bool) → column at k ≡ value_at cols x e.0 → column at l ≡ value_at cols y e.0 → directed b (on (column at) value_cmp) k l ≡ directed b (on (column (rank cols e.0)) value_cmp) x y
    first true p q = ap₂ value_cmp q p
    first false p q = ap₂ value_cmp p q

-- keys compare as the rows do by the columns
pub key_items_same : (cols : List ℕ) (keys : List (ℕ × Dir)) (x y : List Value)
    → items_cmp (key_items 0 keys) (key_of cols (range_columns keys) x) (key_of cols (range_columns keys) y) ≡ items_cmp (items cols keys) x y
key_items_same cols keys x y =
    keys_from cols keys 0 x y (key_of cols (range_columns keys) x) (key_of cols (range_columns keys) y)
    (λ i j s. let e : j ≡ i = omega arith in ap (λ p. column p (key_of cols (range_columns keys) x)) e)
    (λ i j s. let e : j ≡ i = omega arith in ap (λ p. column p (key_of cols (range_columns keys) y)) e)
