-- Columns of the same types.
use Rattle.std.specs.Prelude.{Bool, true, false, ◌&&◌, List, [], ◌∷◌}
use Rattle.scope_value.specs.declared.schema.ColType.{ColType}
use Rattle.scope_value.specs.declared.schema.ColType.TheVariants as kind
use Rattle.scope_value.specs.declared.schema.Column.{Column}

-- the types are one
abbrev pub same_type : ColType → ColType → Bool
same_type kind.Int kind.Int = true
same_type kind.Long kind.Long = true
same_type kind.Text kind.Text = true
same_type kind.Bool kind.Bool = true
same_type _ _ = false

-- the columns have the same types, place by place; their names play no part
abbrev pub same_types : List Column → List Column → Bool
same_types [] [] = true
same_types (a ∷ more) (b ∷ others) = same_type a.kind b.kind && same_types more others
same_types _ _ = false
