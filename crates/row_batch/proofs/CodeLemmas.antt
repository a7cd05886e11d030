-- Values as bytes, and read back.
use Rattle.std.proofs.Common.{◌≡◌, ℕ, ℤ, ◌+◌, ◌*◌, ◌-◌, ◌/◌, ◌%◌, ◌^◌, ◌<◌, ◌≤◌, List, [], ◌∷◌, ◌++◌, length, length-append, map, get_or, refl, ap, sym, ◌∙◌, arith, SFits}
use Rattle.std.specs.Int.{w64, w128, cast_signed, cast_unsigned, from_le_bytes, to_le_bytes}
use Rattle.std.proofs.lemmas.Int.{to_z-of_z}
use Rattle.std.proofs.lemmas.Nat.{from_le_bytes-to_le_bytes_8}
use Rattle.std.proofs.Math.Nat.{div-div-eq-div-mul}
use Rattle.std.proofs.Math.Facts.{Fits-of_z, Fits-lt-pow}
use Rattle.std.specs.List.{slice_range}
use Rattle.std.proofs.lemmas.List.{get_or-map, get_or_past, length-map, map-append}
use Rattle.scope_value.specs.declared.value.Value.{Value}
use Rattle.scope_value.specs.declared.value.Value.TheVariants as value
use Rattle.row_batch.specs.Pieces.{pieces, AreEnds}
use Rattle.row_batch.specs.Codes.{bytes_of, value_of, unpacked}
use Rattle.row_batch.proofs.PieceLemmas.{pieces_more, ends_more, ends_at, piece_at, pieces_many}

pub unpacked_many : (bytes ends : List ℕ) → length (unpacked bytes ends) ≡ length ends
unpacked_many bytes ends = length-map (pieces bytes 0 ends) value_of ∙ pieces_many bytes 0 ends

-- one value more
pub unpacked_more : (bytes more ends : List ℕ) → AreEnds 0 ends (length bytes) → unpacked (bytes ++ more) (ends ++ length (bytes ++ more) ∷ []) ≡ unpacked bytes ends ++ value_of more ∷ []
unpacked_more bytes more ends h = ap (map value_of) (pieces_more bytes more 0 ends h) ∙ map-append value_of (pieces bytes 0 ends) (more ∷ [])

-- the same, where the bytes and the ends are known by equations
pub pushed_ends : (bytes out more ends all : List ℕ) (end : ℕ) → AreEnds 0 ends (length bytes) → out ≡ bytes ++ more → end ≡ length out → all ≡ ends ++ end ∷ [] → AreEnds 0 all (length out)
pushed_ends bytes out more ends all end h is_out is_end is_all =
    rw (is_all, is_end) (ends_more 0 ends (length bytes) (length out) h (let e : length out ≡ length bytes + length more = ap length is_out ∙ length-append bytes more in omega (arith, e)))

pub pushed_value : (bytes out more ends all : List ℕ) (end : ℕ) → AreEnds 0 ends (length bytes) → out ≡ bytes ++ more → end ≡ length out → all ≡ ends ++ end ∷ [] → unpacked out all ≡ unpacked bytes ends ++ value_of more ∷ []
pushed_value bytes out more ends all end h is_out is_end is_all =
    rw (is_all, is_end, is_out) (unpacked_more bytes more ends h)

-- a value by its bytes
pub unpacked_at : (bytes ends : List ℕ) (at : ℕ) → at < length ends → get_or (unpacked bytes ends) at value.Null ≡ value_of (slice_range bytes (get_or (0 ∷ ends) at 0) (get_or ends at 0))
unpacked_at bytes ends at h =
    let there : at < length (pieces bytes 0 ends) = omega (arith, h, pieces_many bytes 0 ends) in
    get_or-map value_of (pieces bytes 0 ends) at [] value.Null there ∙ ap value_of (piece_at bytes 0 ends at h)

-- none past the end
pub unpacked_past : (bytes ends : List ℕ) (at : ℕ) → length ends ≤ at → get_or (unpacked bytes ends) at value.Null ≡ value.Null
unpacked_past bytes ends at h =
    let past : length (unpacked bytes ends) ≤ at = omega (arith, h, unpacked_many bytes ends) in
    get_or_past (unpacked bytes ends) at value.Null past

-- a number by its sixteen digits to the base 256
joined_16 : (b0 b1 b2 b3 b4 b5 b6 b7 b8 b9 b10 b11 b12 b13 b14 b15 n q1 q2 q3 q4 q5 q6 q7 q8 q9 q10 q11 q12 q13 q14 q15 : ℕ)
    → n ≡ b0 + q1 * 256
    → q1 ≡ b1 + q2 * 256
    → q2 ≡ b2 + q3 * 256
    → q3 ≡ b3 + q4 * 256
    → q4 ≡ b4 + q5 * 256
    → q5 ≡ b5 + q6 * 256
    → q6 ≡ b6 + q7 * 256
    → q7 ≡ b7 + q8 * 256
    → q8 ≡ b8 + q9 * 256
    → q9 ≡ b9 + q10 * 256
    → q10 ≡ b10 + q11 * 256
    → q11 ≡ b11 + q12 * 256
    → q12 ≡ b12 + q13 * 256
    → q13 ≡ b13 + q14 * 256
    → q14 ≡ b14 + q15 * 256
    → q15 ≡ b15
    → b0 + b1 * 256 + b2 * 65536 + b3 * 16777216 + b4 * 4294967296 + b5 * 1099511627776 + b6 * 281474976710656 + b7 * 72057594037927936 + b8 * 18446744073709551616 + b9 * 4722366482869645213696 + b10 * 1208925819614629174706176 + b11 * 309485009821345068724781056 + b12 * 79228162514264337593543950336 + b13 * 20282409603651670423947251286016 + b14 * 5192296858534827628530496329220096 + b15 * 1329227995784915872903807060280344576 ≡ n
joined_16 b0 b1 b2 b3 b4 b5 b6 b7 b8 b9 b10 b11 b12 b13 b14 b15 n q1 q2 q3 q4 q5 q6 q7 q8 q9 q10 q11 q12 q13 q14 q15 at_0 at_1 at_2 at_3 at_4 at_5 at_6 at_7 at_8 at_9 at_10 at_11 at_12 at_13 at_14 at_15 = omega arith

byte_and_rest : (n p : ℕ) → n / p ≡ n / p % 256 + n / (p * 256) * 256
byte_and_rest n p = omega (arith, div-div-eq-div-mul n p 256)

bytes_back : (n : ℕ) → n < 2 ^ 128 → from_le_bytes w128 (to_le_bytes w128 n) ≡ n
bytes_back n fits =
    let low : n ≡ n % 256 + n / 256 * 256 = omega arith in
    let high : n / 1329227995784915872903807060280344576 ≡ n / 1329227995784915872903807060280344576 % 256 = omega arith in
    joined_16 _ _ _ _ _ _ _ _ _ _ _ _ _ _ _ _ n _ _ _ _ _ _ _ _ _ _ _ _ _ _ _ low (byte_and_rest n 256) (byte_and_rest n 65536) (byte_and_rest n 16777216) (byte_and_rest n 4294967296) (byte_and_rest n 1099511627776) (byte_and_rest n 281474976710656) (byte_and_rest n 72057594037927936) (byte_and_rest n 18446744073709551616) (byte_and_rest n 4722366482869645213696) (byte_and_rest n 1208925819614629174706176) (byte_and_rest n 309485009821345068724781056) (byte_and_rest n 79228162514264337593543950336) (byte_and_rest n 20282409603651670423947251286016) (byte_and_rest n 5192296858534827628530496329220096) high

-- a number is read back from its eight bytes
pub int_back : (n : ℤ) → SFits w64 n → value_of (bytes_of (value.Int n)) ≡ value.Int n
int_back n fits = ap value.Int (ap (cast_signed w64) (from_le_bytes-to_le_bytes_8 (cast_unsigned w64 n) (Fits-lt-pow (Fits-of_z fits))) ∙ to_z-of_z w64 n fits)

-- and from its sixteen
pub wide_back : (n : ℤ) → SFits w128 n → value_of (bytes_of (value.Wide n)) ≡ value.Wide n
wide_back n fits = ap value.Wide (ap (cast_signed w128) (bytes_back (cast_unsigned w128 n) (Fits-lt-pow (Fits-of_z fits))) ∙ to_z-of_z w128 n fits)

-- where a piece lies, with the bytes and the ends known by equations
pub piece_within : (bytes bs ends es : List ℕ) (at start : ℕ) → AreEnds 0 ends (length bytes) → bs ≡ bytes → es ≡ ends → at < length es → start ≡ get_or (0 ∷ es) at 0 → (start ≤ get_or es at 0) × (get_or es at 0 ≤ length bs)
piece_within bytes bs ends es at start h is_bs is_es there is_start =
    rw (is_start, is_bs, is_es) (ends_at 0 ends (length bytes) at h (rw is_es at there))

-- and what it stands for
pub piece_value : (bytes bs ends es piece : List ℕ) (values : List Value) (at start : ℕ) → unpacked bytes ends ≡ values → bs ≡ bytes → es ≡ ends → at < length es → start ≡ get_or (0 ∷ es) at 0 → piece ≡ slice_range bs start (get_or es at 0) → value_of piece ≡ get_or values at value.Null
piece_value bytes bs ends es piece values at start is_values is_bs is_es there is_start is_piece =
    rw (is_piece, is_start, is_bs, is_es, ← is_values) (sym (unpacked_at bytes ends at (rw is_es at there)))

pub null_past : (bytes ends es : List ℕ) (values : List Value) (at : ℕ) → unpacked bytes ends ≡ values → es ≡ ends → length es ≤ at → value.Null ≡ get_or values at value.Null
null_past bytes ends es values at is_values is_es past = rw (← is_values) (sym (unpacked_past bytes ends at (rw is_es at past)))
