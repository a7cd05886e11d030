-- When facts hold of rows.
use Rattle.std.specs.Prelude.{◌≡◌, ℕ, ◌<◌, true, List, length, Contains, IsPermutation}
use Rattle.scope_value.specs.declared.value.Value.{Value}
use Rattle.scope_value.specs.Keys.{column}
use Rattle.col_sets.specs.Sets.{has, rank, count}
use Rattle.fd_closure.specs.Known.{by_of, equal_of}
use Rattle.fd_closure.specs.Closure.{closure_of}
use Rattle.fd_closure.specs.declared.facts.Facts.{Facts}

-- the value of the column c in a row, which has the values of its columns by ascending column
abbrev pub at : List ℕ → List Value → ℕ → Value
at columns row c = column (rank columns c) row

-- two rows have one value in each column of s
abbrev pub Agree : List ℕ → List ℕ → List Value → List Value → Type 0
Agree columns s x y = (c : ℕ) → has s c ≡ true → at columns x c ≡ at columns y c

-- all rows have one value in c
abbrev pub OneValue : List ℕ → List (List Value) → ℕ → Type 0
OneValue columns rows c = (x y : List Value) → Contains rows x → Contains rows y → at columns x c ≡ at columns y c

-- rows that agree on s agree on c
abbrev pub Depends : List ℕ → List (List Value) → List ℕ → ℕ → Type 0
Depends columns rows s c = (x y : List Value) → Contains rows x → Contains rows y → Agree columns s x y → at columns x c ≡ at columns y c

-- each row has one value in c and d
abbrev pub AreEqual : List ℕ → List (List Value) → ℕ → ℕ → Type 0
AreEqual columns rows c d = (x : List Value) → Contains rows x → at columns x c ≡ at columns x d

-- each row has one value for each column
abbrev pub AreOver : List ℕ → List (List Value) → Type 0
AreOver columns rows = (x : List Value) → Contains rows x → length x ≡ count columns

-- the facts hold of the rows: these are over the columns, the constants have one value, the dependencies hold, and equal
-- columns are equal
pub record FactsHold (f : Facts) (rows : List (List Value)) : Type 0 where
  pub over : AreOver f.columns rows
  pub constants : (c : ℕ) → c < 128 → has f.constants c ≡ true → OneValue f.columns rows c
  pub determined : (c : ℕ) → c < 128 → has f.determined c ≡ true → Depends f.columns rows (by_of f c) c
  pub equal : (c d : ℕ) → equal_of f c d ≡ true → AreEqual f.columns rows c d

-- rows that agree on a set agree on its closure
abbrev pub HoldLaw : Type 0
HoldLaw = (f : Facts) (rows : List (List Value)) → FactsHold f rows
    → (s : List ℕ) (x y : List Value) → Contains rows x → Contains rows y → Agree f.columns s x y → Agree f.columns (closure_of f s) x y

-- facts hold of a bag: the order of the rows doesn't matter
abbrev pub BagLaw : Type 0
BagLaw = (f : Facts) (xs ys : List (List Value)) → IsPermutation xs ys → FactsHold f xs → FactsHold f ys
