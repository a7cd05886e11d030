-- What a call of an extractor does to the list that it adds to, and what an extractor's rows and columns keep.
use Rattle.std.specs.Prelude.{◌≡◌, ◌≢◌, ◌<◌, ℕ, Bool, true, false, List, map, length, ◌++◌, take, Option, Some, None, AllPairs}
use Rattle.scope_value.specs.declared.schema.Column.{Column}
use Rattle.scope_value.specs.declared.value.Value.{Value}
use Rattle.scope_value.specs.Fits.{RowFits}
use Rattle.user_ops.specs.Told.{ToldExtractor}

-- true and the whole list is added, or, where there is none, false and nothing is added
abbrev pub AppendsWhole : {A : Type 0} → Option (List A) → Bool → List A → List A → Type 0
AppendsWhole (Some whole) answer old new = (answer ≡ true) × (new ≡ old ++ whole)
AppendsWhole None answer old new = (answer ≡ false) × (new ≡ old)

-- some first elements of the list, where there is one, are added
abbrev pub AppendsPart : {A : Type 0} → Option (List A) → List A → List A → Type 0
AppendsPart (Some whole) old new = (n : ℕ) × (new ≡ old ++ take n whole)
AppendsPart None old new = new ≡ old

-- the row, where there is one, fits the output
abbrev pub RowOfOutput : List Column → Option (List Value) → Type 0
RowOfOutput output (Some row) = RowFits output row
RowOfOutput output None = Unit {0}

-- where the output is taken with these args, the row that is read from the fields, if one is, fits it
pub record ReadsFitting (told : ToldExtractor) (args : List (List ℕ)) (output : List Column) (fields : List (List ℕ)) : Type 0 where
  pub fit : told.takes output args ≡ true → RowOfOutput output (told.extracts args output fields)

-- fixed columns, where there are any, are at least one, and all of different names
abbrev pub AreFixedColumns : Option (List Column) → Type 0
AreFixedColumns (Some columns) = (0 < length columns) × AllPairs (λ a b. a ≢ b) (map (λ c. c.name) columns)
AreFixedColumns None = Unit {0}
