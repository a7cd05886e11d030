-- A string's bytes, one after another.
use Rattle.std.proofs.Common.{◌≡◌, ◌≢◌, ◌+◌, ◌<◌, ◌==◌, ◌||◌, ℕ, zero, suc, List, [], ◌∷◌, length, get_or, drop, true, false, None, Some, refl, arith}
use Rattle.std.proofs.lemmas.Bool.{ne_eqb}
use Rattle.std.proofs.lemmas.List.{drop_more}
use Rattle.scope_lexer.specs.Begins.{string_end}
use Rattle.scope_lexer.specs.Bytes.{is_escape}

pub front_plain : (at b : ℕ) (z : List ℕ) → b ≢ 34 → b ≢ 92 → b ≢ 13 → b ≢ 10 → string_end (at + 1) z ≡ string_end at (b ∷ z)
front_plain at b [] quote slash cr lf = rw (ne_eqb b 34 quote) refl
front_plain at b (c ∷ z) quote slash cr lf = rw (ne_eqb b 34 quote, ne_eqb b 92 slash, ne_eqb b 13 cr, ne_eqb b 10 lf) refl

-- a byte that stands for itself
pub string_plain : (z : List ℕ) (at : ℕ) → at < length z → get_or z at 0 ≢ 34 → get_or z at 0 ≢ 92 → get_or z at 0 ≢ 13 → get_or z at 0 ≢ 10
    → string_end (at + 1) (drop (at + 1) z) ≡ string_end at (drop at z)
string_plain z at lt quote slash cr lf = rw (drop_more z at 0 lt) (front_plain at (get_or z at 0) (drop (at + 1) z) quote slash cr lf)

pub front_escape : (at b c : ℕ) (z : List ℕ) → b ≡ 92 → is_escape c ≡ true → string_end (at + 2) z ≡ string_end at (b ∷ c ∷ z)
front_escape at b c z slash good = rw (slash, good) refl

-- an escape
pub string_escape : (z : List ℕ) (at : ℕ) → at + 1 < length z → get_or z at 0 ≡ 92 → is_escape (get_or z (at + 1) 0) ≡ true
    → string_end (at + 2) (drop (at + 2) z) ≡ string_end at (drop at z)
string_escape z at lt slash good =
    let first : at < length z = omega arith in
    let two : at + 1 + 1 ≡ at + 2 = omega arith in
    rw (drop_more z at 0 first, drop_more z (at + 1) 0 lt, two) (front_escape at (get_or z at 0) (get_or z (at + 1) 0) (drop (at + 2) z) slash good)

-- what may stand behind a backslash is a byte of the text
pub escape_there : (z : List ℕ) (at : ℕ) → is_escape (get_or z at 0) ≡ true → at < length z
escape_there [] at good = cc
escape_there (b ∷ z) zero good = omega arith
escape_there (b ∷ z) (suc at) good = omega (arith, escape_there z at good)

pub front_quote : (at b : ℕ) (z : List ℕ) → b ≡ 34 → string_end at (b ∷ z) ≡ Some (at + 1)
front_quote at b [] e = rw e refl
front_quote at b (c ∷ z) e = rw e refl

pub front_break : (at b : ℕ) (z : List ℕ) → b ≢ 34 → b ≢ 92 → (b == 13 || b == 10) ≡ true → string_end at (b ∷ z) ≡ None
front_break at b [] quote slash e = rw (ne_eqb b 34 quote) refl
front_break at b (c ∷ z) quote slash e = rw (ne_eqb b 34 quote, ne_eqb b 92 slash, e) refl

pub front_bad : (at b : ℕ) (z : List ℕ) → b ≡ 92 → is_escape (get_or z 0 0) ≡ false → string_end at (b ∷ z) ≡ None
front_bad at b [] slash e = rw slash refl
front_bad at b (c ∷ z) slash e = rw (slash, e) refl
