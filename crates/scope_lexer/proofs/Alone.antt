-- A token's bytes alone are the same token.
use Rattle.std.proofs.Common.{◌≡◌, ◌≢◌, ◌∙◌, ◌+◌, ◌-◌, ◌<◌, ◌≤◌, ◌==◌, ℕ, zero, suc, List, [], ◌∷◌, length, get_or, take, drop, Bool, true, false, cond, None, Some, refl, sym, ap, arith, inl, inr, nat_eq, is_some}
use Rattle.std.specs.Char.{is_ascii_digit}
use Rattle.std.specs.List.{list_all, list_any, prefix_len, starts_with}
use Rattle.std.proofs.lemmas.Bool.{and_parts, false_from_ne_true}
use Rattle.std.proofs.lemmas.Bool.Decides.{nat_tests}
use Rattle.std.proofs.lemmas.List.{get_or-take, get_or_past, drop-take, length-take, take-take, take_all}
use Rattle.std.proofs.lemmas.List.Folds.{length-prefix_len}
use Rattle.scope_lexer.specs.Begins.{begins, comment_end, line_comment, number_len, small_value, string_end, symbol_len, word_kind}
use Rattle.scope_lexer.specs.Bytes.{is_keyword, is_letter, is_space, is_word_byte, long_symbols, short_symbols}
use Rattle.scope_lexer.specs.declared.kind.TokenKind.{TokenKind}
use Rattle.scope_lexer.specs.Tokens.{IsOne}
use Rattle.scope_lexer.specs.declared.kind.TokenKind.TheVariants.{Keyword, Name, Number, Symbol, Text}
use Rattle.scope_lexer.specs.declared.piece.Piece.{Piece}
use Rattle.scope_lexer.proofs.Digits.{digit_range, front_passes}
use Rattle.scope_lexer.proofs.Fronts.{as_block, as_digits, as_line, as_mark, as_quote, as_space, as_word, begins_number, begins_string, begins_symbol, begins_word, begun, choice, no_pair, no_pair-take, piece_parts}
use Rattle.scope_lexer.proofs.Lengths.{no_long, none≢some, number_is, piece_within, some_same, steps, string_end_within, symbol_within}
use Rattle.scope_lexer.proofs.Strings.{front_escape, front_plain, front_quote}

-- ---- what bytes are not

letter_high : (b : ℕ) → is_letter b ≡ true → 65 ≤ b
letter_high b is = grind (arith, nat_tests)

space_low : (b : ℕ) → is_space b ≡ true → b ≤ 32
space_low b is = grind (arith, nat_tests)

no_space : (b : ℕ) → 32 < b → is_space b ≡ false
no_space b high = false_from_ne_true _ (λ is. let low = space_low b is in omega arith)

no_letter : (b : ℕ) → b < 65 → is_letter b ≡ false
no_letter b low = false_from_ne_true _ (λ is. let high = letter_high b is in omega arith)

-- ---- runs

prefix_all : (p : ℕ → Bool) (xs : List ℕ) → list_all p xs ≡ true → prefix_len p xs ≡ length xs
prefix_all p [] all = refl
prefix_all p (x ∷ xs) all =
    let h = and_parts (p x) (list_all p xs) all in
    let i = prefix_all p xs h.1 in
    rw h.0 (omega arith)

-- a run alone is the same run
run_alone : (p : ℕ → Bool) (xs : List ℕ) → prefix_len p (take (prefix_len p xs) xs) ≡ prefix_len p xs
run_alone p xs = prefix_all p (take (prefix_len p xs) xs) (front_passes p xs) ∙ length-prefix_len p xs

number_alone : (text : List ℕ) (n : ℕ) → number_len text ≡ Some n → number_len (take n text) ≡ Some n
number_alone text n h =
    let is = number_is text n h in
    let run : prefix_len is_ascii_digit (take n text) ≡ n = rw is.0 at (run_alone is_ascii_digit text) in
    let past : get_or (take n text) n 0 ≡ 0 = get_or_past (take n text) n 0 (omega (arith, length-take n text)) in
    let same : take n (take n text) ≡ take n text = take-take n n text (omega arith) in
    rw (run, past, same, is.2) refl

-- ---- strings and symbols

string_alone : (at : ℕ) (z : List ℕ) (n : ℕ) → string_end at z ≡ Some (at + n) → string_end at (take n z) ≡ Some (at + n)
string_alone at [] n h = absurd (none≢some _ h)
string_alone at (b ∷ []) n h =
    let i = string_end_within at (b ∷ []) (at + n) h in
    let long : length (b ∷ []) ≤ n = omega arith in
    rw (take_all n (b ∷ []) long) h
string_alone at (b ∷ c ∷ z) zero h = let i = string_end_within at (b ∷ c ∷ z) (at + zero) h in absurd (omega arith)
string_alone at (b ∷ c ∷ z) (suc zero) h =
    elim (steps at b c z (at + suc zero) h) [
      | inl q ↦ front_quote at b [] q.0 ∙ ap (λ (n : ℕ). Some n) q.1
      | inr s ↦ elim s [
        | inl k ↦ let i = string_end_within (at + 2) z (at + suc zero) k.2 in absurd (omega arith)
        | inr k ↦ let i = string_end_within (at + 1) (c ∷ z) (at + suc zero) k.4 in absurd (omega arith)
      ]
    ]
string_alone at (b ∷ c ∷ z) (suc (suc n)) h =
    elim (steps at b c z (at + suc (suc n)) h) [
      | inl q ↦ absurd (omega arith)
      | inr s ↦ elim s [
        | inl k ↦
            let e : at + suc (suc n) ≡ at + 2 + n = omega arith in
            let i : string_end (at + 2) (take n z) ≡ Some (at + 2 + n) = string_alone (at + 2) z n (rw e at k.2) in
            sym (front_escape at b c (take n z) k.0 k.1) ∙ i ∙ ap (λ (m : ℕ). Some m) (sym e)
        | inr k ↦
            let e : at + suc (suc n) ≡ at + 1 + suc n = omega arith in
            let i : string_end (at + 1) (take (suc n) (c ∷ z)) ≡ Some (at + 1 + suc n) = string_alone (at + 1) (c ∷ z) (suc n) (rw e at k.4) in
            sym (front_plain at b (take (suc n) (c ∷ z)) k.0 k.1 k.2 k.3) ∙ i ∙ ap (λ (m : ℕ). Some m) (sym e)
      ]
    ]

long_alone : (b c : ℕ) (z : List ℕ) (n : ℕ) → list_any (starts_with nat_eq (b ∷ c ∷ z)) long_symbols ≡ true → 2 ≡ n → symbol_len (take n (b ∷ c ∷ z)) ≡ Some n
long_alone b c z n long e =
    let y : list_any (starts_with nat_eq (b ∷ c ∷ [])) long_symbols ≡ true = long in
    rw (← e) (rw y refl)

short_alone : (b : ℕ) (z : List ℕ) (n : ℕ) → list_any (λ d. b == d) short_symbols ≡ true → 1 ≡ n → symbol_len (take n (b ∷ z)) ≡ Some n
short_alone b z n short e = rw (← e) (rw (no_long b, short) refl)

symbol_alone : (text : List ℕ) (n : ℕ) → symbol_len text ≡ Some n → symbol_len (take n text) ≡ Some n
symbol_alone [] n h = absurd (none≢some n h)
symbol_alone (b ∷ []) n h =
    let i = symbol_within (b ∷ []) n h in
    let long : length (b ∷ []) ≤ n = omega arith in
    rw (take_all n (b ∷ []) long) h
symbol_alone (b ∷ c ∷ z) n h =
    elim (choice (list_any (starts_with nat_eq (b ∷ c ∷ z)) long_symbols) _ _ _ h) [
      | inl y ↦ long_alone b c z n y.0 (some_same _ _ y.1)
      | inr y ↦ elim (choice (list_any (λ d. b == d) short_symbols) _ _ _ y.1) [
        | inl x ↦ short_alone b (c ∷ z) n x.0 (some_same _ _ x.1)
        | inr x ↦ absurd (none≢some n x.1)
      ]
    ]

string_take : (z : List ℕ) (n m : ℕ) → n ≡ 1 + m → string_end 1 (drop 1 z) ≡ Some n → string_end 1 (drop 1 (take n z)) ≡ Some n
string_take z n m e h = rw (e, drop-take 1 m z) (string_alone 1 (drop 1 z) m (rw e at h))

-- ---- all kinds

none≢kind : (k : TokenKind) → None ≡ Some k → ⊥
none≢kind k h = cc

kind_same : (j k : TokenKind) → Some j ≡ Some k → j ≡ k
kind_same j k h = cc

word≢number : (keyword : Bool) → cond keyword Keyword Name ≡ Number → ⊥
word≢number true h = cc
word≢number false h = cc

word≢text : (keyword : Bool) → cond keyword Keyword Name ≡ Text → ⊥
word≢text true h = cc
word≢text false h = cc

text≢number : Text ≡ Number → ⊥
text≢number h = cc

number≢text : Number ≡ Text → ⊥
number≢text h = cc

symbol≢number : Symbol ≡ Number → ⊥
symbol≢number h = cc

symbol≢text : Symbol ≡ Text → ⊥
symbol≢text h = cc

abbrev word_at : List ℕ → List ℕ
word_at text = take (prefix_len is_word_byte text) text

-- a token's bytes alone are the same token
pub alone : (text : List ℕ) (p : Piece) (k : TokenKind) → begins text ≡ Some p → p.kind ≡ Some k → begins (take p.len text) ≡ Some p
alone text p k e kind =
    let len = piece_within text p e in
    let some : 0 < p.len = omega arith in
    let first : get_or (take p.len text) 0 0 ≡ get_or text 0 0 = get_or-take p.len text 0 0 some in
    elim (begun text p e) [
      | as_space is h ↦ absurd (none≢kind k ((piece_parts None (Some (prefix_len is_space text)) p h).0 ∙ kind))
      | as_line is h ↦ absurd (none≢kind k ((piece_parts None (Some (line_comment text)) p h).0 ∙ kind))
      | as_block is h ↦ absurd (none≢kind k ((piece_parts None (comment_end 2 (drop 2 text)) p h).0 ∙ kind))
      | as_word is h ↦
          let n = some_same _ _ (piece_parts _ _ p h).1 in
          let high = letter_high (get_or text 0 0) is in
          let other : get_or (take p.len text) 0 0 ≢ 47 = λ x. omega arith in
          let run : prefix_len is_word_byte (take p.len text) ≡ p.len = rw n at (run_alone is_word_byte text) in
          let same : take p.len (take p.len text) ≡ take p.len text = take-take p.len p.len text (omega arith) in
          begins_word (take p.len text) (rw first (no_space (get_or text 0 0) (omega arith))) (no_pair 47 47 (take p.len text) other) (no_pair 47 42 (take p.len text) other) (rw first is)
          ∙ rw (run, same) (rw n at h)
      | as_digits is h ↦
          let l = (piece_parts (Some Number) (number_len text) p h).1 in
          let range = digit_range (get_or text 0 0) is in
          let other : get_or (take p.len text) 0 0 ≢ 47 = λ x. omega arith in
          begins_number (take p.len text) (rw first (no_space (get_or text 0 0) (omega arith))) (no_pair 47 47 (take p.len text) other) (no_pair 47 42 (take p.len text) other)
          (rw first (no_letter (get_or text 0 0) (omega arith))) (rw first is)
          ∙ rw (number_alone text p.len l) (rw l at h)
      | as_quote is h ↦
          let l = (piece_parts (Some Text) (string_end 1 (drop 1 text)) p h).1 in
          let other : get_or (take p.len text) 0 0 ≢ 47 = λ x. omega arith in
          let m : p.len ≡ 1 + (p.len - 1) = omega arith in
          begins_string (take p.len text) (rw (first, is) refl) (no_pair 47 47 (take p.len text) other) (no_pair 47 42 (take p.len text) other) (rw (first, is) refl) (rw (first, is) refl)
          (rw (first, is) refl)
          ∙ rw (string_take text p.len (p.len - 1) m l) (rw l at h)
      | as_mark s l b w d q h ↦
          let n = (piece_parts _ _ p h).1 in
          begins_symbol (take p.len text) (rw first s) (no_pair-take 47 47 p.len text l) (no_pair-take 47 42 p.len text b) (rw first w) (rw first d) (rw first q)
          ∙ rw (symbol_alone text p.len n) (rw n at h)
    ]

-- a number is digits, of a value that isn't too large
pub number_one : (text : List ℕ) → IsOne Number text → (list_all is_ascii_digit text ≡ true) × (is_some (small_value text) ≡ true)
number_one text e =
    let p : Piece = record { kind = Some Number; len = length text } in
    let whole : take (length text) text ≡ text = take_all (length text) text (omega arith) in
    elim (begun text p e) [
      | as_space is h ↦ absurd (none≢kind Number (piece_parts None (Some (prefix_len is_space text)) p h).0)
      | as_line is h ↦ absurd (none≢kind Number (piece_parts None (Some (line_comment text)) p h).0)
      | as_block is h ↦ absurd (none≢kind Number (piece_parts None (comment_end 2 (drop 2 text)) p h).0)
      | as_word is h ↦
          let parts = piece_parts (Some (word_kind (word_at text))) (Some (prefix_len is_word_byte text)) p h in
          absurd (word≢number (is_keyword (word_at text)) (kind_same (word_kind (word_at text)) Number parts.0))
      | as_digits is h ↦
          let n = number_is text (length text) (piece_parts (Some Number) (number_len text) p h).1 in
          let digits = front_passes is_ascii_digit text in
          (rw (n.0, whole) at digits, rw whole at n.2)
      | as_quote is h ↦ absurd (text≢number (kind_same Text Number (piece_parts (Some Text) (string_end 1 (drop 1 text)) p h).0))
      | as_mark s l b w d q h ↦ absurd (symbol≢number (kind_same Symbol Number (piece_parts (Some Symbol) (symbol_len text) p h).0))
    ]

-- a string has two quotes
pub string_one : (text : List ℕ) → IsOne Text text → 2 ≤ length text
string_one text e =
    let p : Piece = record { kind = Some Text; len = length text } in
    elim (begun text p e) [
      | as_space is h ↦ absurd (none≢kind Text (piece_parts None (Some (prefix_len is_space text)) p h).0)
      | as_line is h ↦ absurd (none≢kind Text (piece_parts None (Some (line_comment text)) p h).0)
      | as_block is h ↦ absurd (none≢kind Text (piece_parts None (comment_end 2 (drop 2 text)) p h).0)
      | as_word is h ↦
          let parts = piece_parts (Some (word_kind (word_at text))) (Some (prefix_len is_word_byte text)) p h in
          absurd (word≢text (is_keyword (word_at text)) (kind_same (word_kind (word_at text)) Text parts.0))
      | as_digits is h ↦ absurd (number≢text (kind_same Number Text (piece_parts (Some Number) (number_len text) p h).0))
      | as_quote is h ↦
          let l = (piece_parts (Some Text) (string_end 1 (drop 1 text)) p h).1 in
          let i = string_end_within 1 (drop 1 text) (length text) l in
          omega arith
      | as_mark s l b w d q h ↦ absurd (symbol≢text (kind_same Symbol Text (piece_parts (Some Symbol) (symbol_len text) p h).0))
    ]
