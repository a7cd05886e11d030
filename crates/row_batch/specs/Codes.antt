-- Values as bytes.
use Rattle.std.specs.Prelude.{◌≡◌, ℕ, ℤ, pos, true, false, List, [], ◌∷◌, ◌++◌, length, map, nat_eq, if◌then◌else◌}
use Rattle.std.specs.Int.{Width, w64, w128, byte_len, cast_signed, cast_unsigned, from_le_bytes, to_le_bytes}
use Rattle.scope_value.specs.declared.value.Value.{Value}
use Rattle.scope_value.specs.declared.value.Value.TheVariants as value
use Rattle.row_batch.specs.Pieces.{pieces}

-- the bytes of a value: none for null, else a mark and, behind it, the number's or the string's bytes
abbrev pub bytes_of : Value → List ℕ
bytes_of value.Null = []
bytes_of (value.Bool false) = 1 ∷ []
bytes_of (value.Bool true) = 2 ∷ []
bytes_of (value.Int n) = 3 ∷ to_le_bytes w64 (cast_unsigned w64 n)
bytes_of (value.Bytes c) = 4 ∷ c
bytes_of (value.Wide n) = 5 ∷ to_le_bytes w128 (cast_unsigned w128 n)

-- the number that as many bytes are, 0 for another count of them
abbrev pub number_of : Width → List ℕ → ℤ
number_of w bytes = if nat_eq (length bytes) (byte_len w) then cast_signed w (from_le_bytes w bytes) else pos 0

-- the value with these bytes
abbrev pub value_of : List ℕ → Value
value_of [] = value.Null
value_of (mark ∷ bytes) =
    if nat_eq mark 1 then value.Bool false else
    if nat_eq mark 2 then value.Bool true else
    if nat_eq mark 3 then value.Int (number_of w64 bytes) else
    if nat_eq mark 4 then value.Bytes bytes else
    value.Wide (number_of w128 bytes)

-- the values whose bytes end at these places
abbrev pub unpacked : List ℕ → List ℕ → List Value
unpacked bytes ends = map value_of (pieces bytes 0 ends)
