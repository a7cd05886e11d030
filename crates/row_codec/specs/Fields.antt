-- What a field reads as in a column, and what a value is written as.
use Rattle.std.specs.Prelude.{◌==◌, ◌||◌, ◌^◌, ℕ, Bool, true, false, List, length, Option, Some, None, if◌then◌else◌, option_map, codes}
use Rattle.std.specs.Str.{bytes_eq, str_eq_ignore_ascii_case}
use Rattle.std.specs.Fmt.{signed_decimal}
use Rattle.scope_value.specs.declared.value.Value.{Value}
use Rattle.scope_value.specs.declared.value.Value.TheVariants as value
use Rattle.scope_value.specs.declared.schema.ColType.{ColType}
use Rattle.scope_value.specs.declared.schema.ColType.TheVariants as kind
use Rattle.row_codec.specs.Numbers.{signed_number}

-- the two bytes `\N`
abbrev pub null_text : List ℕ
null_text = codes "\\N"

-- the field is `\N`, or it is empty and the column is none of strings
abbrev pub reads_null : ColType → List ℕ → Bool
reads_null kind.Int field = length field == 0 || bytes_eq field null_text
reads_null kind.Long field = length field == 0 || bytes_eq field null_text
reads_null kind.Text field = bytes_eq field null_text
reads_null kind.Bool field = length field == 0 || bytes_eq field null_text

-- `true` or `false` in any ASCII case
abbrev pub truth : List ℕ → Option Bool
truth field =
    if str_eq_ignore_ascii_case field (codes "true") then Some true
    else if str_eq_ignore_ascii_case field (codes "false") then Some false
    else None

-- what a field that is not null reads as: numbers in the type's range, truth values, any bytes
abbrev pub plain_value : ColType → List ℕ → Option Value
plain_value kind.Int field = option_map value.Int (signed_number (2 ^ 31) field)
plain_value kind.Long field = option_map value.Int (signed_number (2 ^ 63) field)
plain_value kind.Text field = Some (value.Bytes field)
plain_value kind.Bool field = option_map value.Bool (truth field)

-- what a field reads as in a column of this type, or None where the type refuses it
unfoldable pub field_value : ColType → List ℕ → Option Value
field_value k field = if reads_null k field then Some value.Null else plain_value k field

-- what a value is written as, before any quotes
abbrev pub field_text : Value → List ℕ
field_text value.Null = null_text
field_text (value.Bool true) = codes "true"
field_text (value.Bool false) = codes "false"
field_text (value.Int n) = signed_decimal n
field_text (value.Bytes c) = c
field_text (value.Wide n) = signed_decimal n
