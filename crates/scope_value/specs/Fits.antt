-- Which values a column takes, and which rows a schema.
use Rattle.std.specs.Prelude.{List, [], ◌∷◌, FitsSigned}
use Rattle.std.specs.Int.{w32, w64}
use Rattle.scope_value.specs.declared.value.Value.{Value}
use Rattle.scope_value.specs.declared.value.Value.TheVariants as value
use Rattle.scope_value.specs.declared.schema.ColType.{ColType}
use Rattle.scope_value.specs.declared.schema.ColType.TheVariants as kind
use Rattle.scope_value.specs.declared.schema.Column.{Column}

-- the value is null, or of the type and in its range
abbrev pub Fits : ColType → Value → Type 0
Fits k value.Null = Unit {0}
Fits kind.Int (value.Int n) = FitsSigned w32 n
Fits kind.Long (value.Int n) = FitsSigned w64 n
Fits kind.Text (value.Bytes c) = Unit {0}
Fits kind.Bool (value.Bool b) = Unit {0}
-- a value of another type, and a partial sum
Fits k v = ⊥

-- the row has one fitting value for each column
abbrev pub RowFits : List Column → List Value → Type 0
RowFits [] [] = Unit {0}
RowFits (c ∷ cs) (v ∷ vs) = Fits c.kind v × RowFits cs vs
RowFits [] (v ∷ vs) = ⊥
RowFits (c ∷ cs) [] = ⊥
