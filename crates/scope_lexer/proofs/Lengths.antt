-- A piece has a byte at least, and ends inside the text.
use Rattle.std.proofs.Common.{◌≡◌, ◌≢◌, ◌∙◌, ◌⊎◌, ◌+◌, ◌≤◌, ◌==◌, ◌&&◌, ◌||◌, ℕ, List, [], ◌∷◌, length, get_or, take, drop, Bool, not, true, false, cond, None, Some, codes, refl, sym, arith, inl, inr, nat_eq, is_some}
use Rattle.std.specs.Char.{is_ascii_digit}
use Rattle.std.specs.List.{list_any, prefix_len, starts_with}
use Rattle.std.proofs.lemmas.Bool.{and_parts, and_right, cases_Bool, cases_eq, eq-eqb, eqb-false, or_parts, false≢true, not-true, or_left}
use Rattle.std.proofs.lemmas.List.{length-drop}
use Rattle.std.proofs.lemmas.List.Sums.{prefix_len-le-length}
use Rattle.scope_lexer.specs.Begins.{begins, comment_end, number_len, small_value, string_end, symbol_len}
use Rattle.scope_lexer.specs.Bytes.{is_escape, is_letter, is_space, is_word_byte, long_symbols, short_symbols}
use Rattle.scope_lexer.specs.declared.piece.Piece.{Piece}
use Rattle.scope_lexer.proofs.Fronts.{as_block, as_digits, as_line, as_mark, as_quote, as_space, as_word, begun, choice, pair_at, piece_parts}
use Rattle.scope_lexer.proofs.Strings.{front_bad, front_break, front_escape, front_plain, front_quote}

-- a text that reads other than 0 has a byte
pub there : (p : ℕ → Bool) (text : List ℕ) → p 0 ≡ false → p (get_or text 0 0) ≡ true → 1 ≤ length text
there p [] fails passes = absurd (false≢true (sym fails ∙ passes))
there p (b ∷ z) fails passes = omega arith

-- a front that passes has a byte
pub some_pass : (p : ℕ → Bool) (text : List ℕ) → 1 ≤ length text → p (get_or text 0 0) ≡ true → 1 ≤ prefix_len p text
some_pass p [] some passes = absurd (omega arith)
some_pass p (b ∷ z) some passes = rw passes (omega arith)

-- the place behind a comment is behind two bytes, and inside the text
pub comment_end_within : (at : ℕ) (z : List ℕ) (e : ℕ) → comment_end at z ≡ Some e → (at + 2 ≤ e) × (e ≤ at + length z)
comment_end_within at [] e h = absurd (let no : None ≡ Some e = h in cc)
comment_end_within at (b ∷ z) e h =
    elim (choice (starts_with nat_eq (b ∷ z) (codes "*/")) _ _ _ h) [
      | inl c ↦
          let same : at + 2 ≡ e = let s = c.1 in cc in
          (omega arith, omega (arith, (pair_at 42 47 (b ∷ z) c.0).2))
      | inr c ↦
          let i = comment_end_within (at + 1) z e c.1 in
          (omega arith, omega arith)
    ]

-- how a string goes on: by its quote, an escape, or a byte that stands for itself
abbrev pub Steps : ℕ → ℕ → ℕ → List ℕ → ℕ → Type 0
Steps at b c z e =
    ((b ≡ 34) × (at + 1 ≡ e))
    ⊎ (((b ≡ 92) × (is_escape c ≡ true) × (string_end (at + 2) z ≡ Some e))
    ⊎ ((b ≢ 34) × (b ≢ 92) × (b ≢ 13) × (b ≢ 10) × (string_end (at + 1) (c ∷ z) ≡ Some e)))

pub none≢some : (e : ℕ) → None ≡ Some e → ⊥
none≢some e h = cc

pub some_same : (d e : ℕ) → Some d ≡ Some e → d ≡ e
some_same d e h = cc

pub steps : (at b c : ℕ) (z : List ℕ) (e : ℕ) → string_end at (b ∷ c ∷ z) ≡ Some e → Steps at b c z e
steps at b c z e h =
    elim (cases_eq b 34) [
      | inl q ↦ inl (q, some_same _ _ (sym (front_quote at b (c ∷ z) q) ∙ h))
      | inr nq ↦
          elim (cases_eq b 92) [
            | inl s ↦ elim (cases_Bool (is_escape c)) [
              | inl g ↦ inr (inl (s, g, front_escape at b c z s g ∙ h))
              | inr bad ↦ absurd (none≢some e (sym (front_bad at b (c ∷ z) s bad) ∙ h))
            ]
            | inr ns ↦ elim (cases_Bool (b == 13 || b == 10)) [
              | inl br ↦ absurd (none≢some e (sym (front_break at b (c ∷ z) nq ns br) ∙ h))
              | inr ok ↦
                  let o = or_parts _ _ ok in
                  inr (inr (nq, ns, eqb-false b 13 o.0, eqb-false b 10 o.1, front_plain at b (c ∷ z) nq ns (eqb-false b 13 o.0) (eqb-false b 10 o.1) ∙ h))
            ]
          ]
    ]

-- the place behind a string is behind a byte, and inside the text
pub string_end_within : (at : ℕ) (z : List ℕ) (e : ℕ) → string_end at z ≡ Some e → (at + 1 ≤ e) × (e ≤ at + length z)
string_end_within at [] e h = absurd (none≢some e h)
string_end_within at (b ∷ []) e h =
    elim (choice (b == 34) _ _ _ h) [ inl c ↦ let same = some_same _ _ c.1 in (omega arith, omega arith) | inr c ↦ absurd (none≢some e c.1) ]
string_end_within at (b ∷ c ∷ z) e h =
    elim (steps at b c z e h) [
      | inl q ↦ (omega arith, omega arith)
      | inr s ↦ elim s [
        | inl k ↦ let i = string_end_within (at + 2) z e k.2 in (omega arith, omega arith)
        | inr k ↦ let i = string_end_within (at + 1) (c ∷ z) e k.4 in (omega arith, omega arith)
      ]
    ]

-- one byte is no symbol of two
pub no_long : (b : ℕ) → list_any (starts_with nat_eq (b ∷ [])) long_symbols ≡ false
no_long b =
    rw (and_right (61 == b) false refl, and_right (33 == b) false refl, and_right (60 == b) false refl, and_right (62 == b) false refl, and_right (38 == b) false refl, and_right (124 == b) false refl) refl

pub short_is : (s : Bool) (n : ℕ) → cond s (Some 1) None ≡ Some n → 1 ≡ n
short_is true n h = some_same 1 n h
short_is false n h = absurd (none≢some n h)

long_is : (l s : Bool) (n : ℕ) → cond l (Some 2) (cond s (Some 1) None) ≡ Some n → (1 ≤ n) × (n ≤ 2)
long_is true s n h = let same = some_same 2 n h in (omega arith, omega arith)
long_is false s n h = let same = short_is s n h in (omega arith, omega arith)

-- a symbol ends inside the text
pub symbol_within : (text : List ℕ) (n : ℕ) → symbol_len text ≡ Some n → (1 ≤ n) × (n ≤ length text)
symbol_within [] n h = absurd (none≢some n h)
symbol_within (b ∷ []) n h =
    let same = short_is (list_any (λ c. b == c) short_symbols) n (rw (no_long b) at h) in (omega arith, omega arith)
symbol_within (b ∷ c ∷ z) n h =
    let i = long_is (list_any (starts_with nat_eq (b ∷ c ∷ z)) long_symbols) (list_any (λ d. b == d) short_symbols) n h in (i.0, omega arith)

-- a number is the run of its digits
pub number_is : (text : List ℕ) (n : ℕ) → number_len text ≡ Some n
    → (prefix_len is_ascii_digit text ≡ n) × (is_letter (get_or text n 0) ≡ false) × (is_some (small_value (take n text)) ≡ true)
number_is text n h =
    elim (choice (not (is_letter (get_or text (prefix_len is_ascii_digit text) 0)) && is_some (small_value (take (prefix_len is_ascii_digit text) text))) _ _ _ h) [
      | inl c ↦
          let same = some_same _ _ c.1 in
          let parts = and_parts _ _ (rw same at c.0) in
          (same, not-true _ parts.0, parts.1)
      | inr c ↦ absurd (none≢some n c.1)
    ]

-- a piece has a byte at least, and ends inside the text
pub piece_within : (text : List ℕ) (p : Piece) → begins text ≡ Some p → (1 ≤ p.len) × (p.len ≤ length text)
piece_within text p e =
    elim (begun text p e) [
      | as_space is h ↦
          let l = some_same _ _ (piece_parts _ _ p h).1 in
          let some = some_pass is_space text (there is_space text refl is) is in
          (omega arith, omega (arith, prefix_len-le-length is_space text))
      | as_line is h ↦
          let l = some_same _ _ (piece_parts _ _ p h).1 in
          let two = pair_at 47 47 text is in
          let passes : not (get_or text 0 0 == 10) ≡ true = rw two.0 refl in
          let some = some_pass (λ b. not (b == 10)) text (omega (arith, two.2)) passes in
          (omega arith, omega (arith, prefix_len-le-length (λ b. not (b == 10)) text))
      | as_block is h ↦
          let two = pair_at 47 42 text is in
          let i = comment_end_within 2 (drop 2 text) p.len (piece_parts _ _ p h).1 in
          (omega arith, omega (arith, length-drop 2 text, two.2))
      | as_word is h ↦
          let l = some_same _ _ (piece_parts _ _ p h).1 in
          let some = some_pass is_word_byte text (there is_letter text refl is) (or_left _ _ is) in
          (omega arith, omega (arith, prefix_len-le-length is_word_byte text))
      | as_digits is h ↦
          let l = (number_is text p.len (piece_parts _ _ p h).1).0 in
          let some = some_pass is_ascii_digit text (there is_ascii_digit text refl is) is in
          (omega arith, omega (arith, prefix_len-le-length is_ascii_digit text))
      | as_quote is h ↦
          let some = there (λ b. b == 34) text refl (eq-eqb _ _ is) in
          let i = string_end_within 1 (drop 1 text) p.len (piece_parts _ _ p h).1 in
          (omega arith, omega (arith, length-drop 1 text))
      | as_mark s l b w d q h ↦ symbol_within text p.len (piece_parts _ _ p h).1
    ]
