-- What a call of an operator does to the list that it adds to, and what the rows that it gives keep.
use Rattle.std.specs.Prelude.{◌≡◌, ℕ, true, List, ◌++◌, take, All}
use Rattle.scope_value.specs.declared.schema.Column.{Column}
use Rattle.scope_value.specs.declared.value.Value.{Value}
use Rattle.scope_value.specs.Fits.{RowFits}
use Rattle.user_ops.specs.Told.{ToldProcessor, ToldReducer, ToldCombiner}

-- the new list is the old one and some first ones of these
abbrev pub AddsSome : {A : Type 0} → List A → List A → List A → Type 0
AddsSome old new given = (n : ℕ) × (new ≡ old ++ take n given)

-- each row fits the schema
abbrev pub AllFit : List Column → List (List Value) → Type 0
AllFit schema rows = All (RowFits schema) rows

-- for all schemas that are taken with these args: where the row fits its schema, the rows given fit theirs
pub record GivesFitting (told : ToldProcessor) (args : List (List ℕ)) (row : List Value) : Type 0 where
  pub fit :
      (input output : List Column)
      → told.takes input output args ≡ true
      → RowFits input row
      → AllFit output (told.processes args row)

-- the same of a list of rows
pub record GroupGivesFitting (told : ToldReducer) (args : List (List ℕ)) (rows : List (List Value)) : Type 0 where
  pub fit :
      (input output : List Column)
      → told.takes input output args ≡ true
      → AllFit input rows
      → AllFit output (told.reduces args rows)

-- the same of two lists of rows
pub record PairGivesFitting (told : ToldCombiner) (args : List (List ℕ)) (left right : List (List Value)) : Type 0 where
  pub fit :
      (left_schema right_schema output : List Column)
      → told.takes left_schema right_schema output args ≡ true
      → AllFit left_schema left
      → AllFit right_schema right
      → AllFit output (told.combines args left right)
