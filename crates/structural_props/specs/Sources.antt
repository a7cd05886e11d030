-- Rows that have the values of others, column by column.
use Rattle.std.specs.Prelude.{◌≡◌, ℕ, true, List, Option, Some}
use Rattle.scope_value.specs.declared.value.Value.{Value}
use Rattle.col_sets.specs.Sets.{has}
use Rattle.structural_props.specs.Rows.{value_at}
use Rattle.structural_props.specs.Actions.{In}
use Rattle.structural_props.specs.Parts.{part}
use Rattle.structural_props.specs.Handed.{keep}

-- the row y over `made` has in d what x over `cols` has in c, where c and d are so related
abbrev pub HasSame : (ℕ → ℕ → Type 0) → List ℕ → List ℕ → List Value → List Value → Type 0
HasSame R cols made x y = (c d : ℕ) → R c d → value_at made y d ≡ value_at cols x c

-- each row of a new part has the values of a row of the part at its place
pub record Source (R : ℕ → ℕ → Type 0) (cols made : List ℕ) (rows : List (List Value)) (y : List Value) : Type 0 where
  pub x : List Value
  pub there : In x rows
  pub same : HasSame R cols made x y

-- and so in each part
abbrev pub AreFrom : (ℕ → ℕ → Type 0) → List ℕ → List ℕ → List (List (List Value)) → List (List (List Value)) → Type 0
AreFrom R cols made parts news = (i : ℕ) (y : List Value) → In y (part news i) → Source R cols made (part parts i) y

-- columns that keep their names
abbrev pub KeepsName : List ℕ → ℕ → ℕ → Type 0
KeepsName s c d = (c ≡ d) × (has s c ≡ true)

-- the new name of a column
abbrev pub IsNameOf : (ℕ → Option ℕ) → ℕ → ℕ → Type 0
IsNameOf name c d = name c ≡ Some d
