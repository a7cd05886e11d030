-- What `begins` says, taken apart and put together.
use Rattle.std.proofs.Common.{◌≡◌, ◌≢◌, ◌∙◌, ◌⊎◌, ◌<◌, ◌≤◌, ◌==◌, ℕ, List, [], ◌∷◌, length, get_or, take, drop, Bool, true, false, cond, Option, None, Some, codes, refl, sym, ap, arith, inl, inr, nat_eq}
use Rattle.std.specs.Char.{is_ascii_digit}
use Rattle.std.specs.List.{prefix_len, starts_with}
use Rattle.std.proofs.lemmas.Bool.{and_parts, eqb-true, false_from_ne_true, eq-eqb, false≢true}
use Rattle.std.proofs.lemmas.List.{get_or-take, length-take}
use Rattle.scope_lexer.specs.Begins.{begins, comment_end, line_comment, number_len, piece, string_end, symbol_len, word_kind}
use Rattle.scope_lexer.specs.Bytes.{is_letter, is_space, is_word_byte}
use Rattle.scope_lexer.specs.declared.kind.TokenKind.{TokenKind}
use Rattle.scope_lexer.specs.declared.kind.TokenKind.TheVariants.{Number, Symbol, Text}
use Rattle.scope_lexer.specs.declared.piece.Piece.{Piece}

-- ---- two bytes at the front

pub pair_at : (a x : ℕ) (text : List ℕ) → starts_with nat_eq text (a ∷ x ∷ []) ≡ true → (get_or text 0 0 ≡ a) × (get_or text 1 0 ≡ x) × (2 ≤ length text)
pair_at a x [] e = cc
pair_at a x (b ∷ []) e = absurd (false≢true (and_parts (a == b) false e).1)
pair_at a x (b ∷ c ∷ z) e =
    let h = and_parts _ _ e in
    (sym (eqb-true _ _ h.0), sym (eqb-true _ _ (and_parts _ _ h.1).0), omega arith)

pub pair_from : (a x : ℕ) (text : List ℕ) → get_or text 0 0 ≡ a → get_or text 1 0 ≡ x → 2 ≤ length text → starts_with nat_eq text (a ∷ x ∷ []) ≡ true
pair_from a x [] first second two = absurd (omega arith)
pair_from a x (b ∷ []) first second two = absurd (omega arith)
pair_from a x (b ∷ c ∷ z) first second two = rw (eq-eqb a b (sym first), eq-eqb x c (sym second)) refl

-- another first byte
pub no_pair : (a x : ℕ) (text : List ℕ) → get_or text 0 0 ≢ a → starts_with nat_eq text (a ∷ x ∷ []) ≡ false
no_pair a x text other = false_from_ne_true _ (λ e. other (pair_at a x text e).0)

-- a front has no pair that the text hasn't
pub no_pair-take : (a x n : ℕ) (text : List ℕ) → starts_with nat_eq text (a ∷ x ∷ []) ≡ false → starts_with nat_eq (take n text) (a ∷ x ∷ []) ≡ false
no_pair-take a x n text none =
    false_from_ne_true _ (λ e.
    let h = pair_at a x (take n text) e in
    let long : 2 ≤ n = omega (arith, h.2, length-take n text) in
    let two : 2 ≤ length text = omega (arith, h.2, length-take n text) in
    let lt0 : 0 < n = omega arith in
    let lt1 : 1 < n = omega arith in
    let yes = pair_from a x text (sym (get_or-take n text 0 0 lt0) ∙ h.0) (sym (get_or-take n text 1 0 lt1) ∙ h.1) two in
    false≢true (sym none ∙ yes))

-- ---- the cases

pub choice : {X : Type 0} (b : Bool) (x y r : X) → cond b x y ≡ r → ((b ≡ true) × (x ≡ r)) ⊎ ((b ≡ false) × (y ≡ r))
choice true x y r e = inl (refl, e)
choice false x y r e = inr (refl, e)

pub data Begun (text : List ℕ) (p : Piece) : Type 0 where
  as_space : is_space (get_or text 0 0) ≡ true → piece None (Some (prefix_len is_space text)) ≡ Some p → Begun text p
  as_line : starts_with nat_eq text (codes "//") ≡ true → piece None (Some (line_comment text)) ≡ Some p → Begun text p
  as_block : starts_with nat_eq text (codes "/*") ≡ true → piece None (comment_end 2 (drop 2 text)) ≡ Some p → Begun text p
  as_word : is_letter (get_or text 0 0) ≡ true → piece (Some (word_kind (take (prefix_len is_word_byte text) text))) (Some (prefix_len is_word_byte text)) ≡ Some p → Begun text p
  as_digits : is_ascii_digit (get_or text 0 0) ≡ true → piece (Some Number) (number_len text) ≡ Some p → Begun text p
  as_quote : get_or text 0 0 ≡ 34 → piece (Some Text) (string_end 1 (drop 1 text)) ≡ Some p → Begun text p
  as_mark : is_space (get_or text 0 0) ≡ false → starts_with nat_eq text (codes "//") ≡ false → starts_with nat_eq text (codes "/*") ≡ false
      → is_letter (get_or text 0 0) ≡ false → is_ascii_digit (get_or text 0 0) ≡ false → (get_or text 0 0 == 34) ≡ false
      → piece (Some Symbol) (symbol_len text) ≡ Some p → Begun text p

pub begun : (text : List ℕ) (p : Piece) → begins text ≡ Some p → Begun text p
unfolding begins
begun text p e =
    elim (choice (is_space (get_or text 0 0)) _ _ _ e) [
      | inl h ↦ as_space h.0 h.1
      | inr s ↦
          elim (choice (starts_with nat_eq text (codes "//")) _ _ _ s.1) [
            | inl h ↦ as_line h.0 h.1
            | inr l ↦
                elim (choice (starts_with nat_eq text (codes "/*")) _ _ _ l.1) [
                  | inl h ↦ as_block h.0 h.1
                  | inr b ↦
                      elim (choice (is_letter (get_or text 0 0)) _ _ _ b.1) [
                        | inl h ↦ as_word h.0 h.1
                        | inr w ↦
                            elim (choice (is_ascii_digit (get_or text 0 0)) _ _ _ w.1) [
                              | inl h ↦ as_digits h.0 h.1
                              | inr d ↦
                                  elim (choice (get_or text 0 0 == 34) _ _ _ d.1) [ inl h ↦ as_quote (eqb-true _ _ h.0) h.1 | inr q ↦ as_mark s.0 l.0 b.0 w.0 d.0 q.0 q.1 ]
                            ]
                      ]
                ]
          ]
    ]

-- a piece's kind and length
pub piece_parts : (kind : Option TokenKind) (len : Option ℕ) (p : Piece) → piece kind len ≡ Some p → (kind ≡ p.kind) × (len ≡ Some p.len)
piece_parts kind None p e = cc
piece_parts kind (Some n) p e =
    let q : Piece = record { kind = kind; len = n } in
    let same : q ≡ p = cc in
    (ap (λ (r : Piece). r.kind) same, ap (λ (r : Piece). Some r.len) same)

module _ (text : List ℕ) (space : is_space (get_or text 0 0) ≡ false) (line : starts_with nat_eq text (codes "//") ≡ false) (block : starts_with nat_eq text (codes "/*") ≡ false) where
  pub begins_word : is_letter (get_or text 0 0) ≡ true → begins text ≡ piece (Some (word_kind (take (prefix_len is_word_byte text) text))) (Some (prefix_len is_word_byte text))
  unfolding begins
  begins_word h = rw (space, line, block, h) refl

  pub begins_number : is_letter (get_or text 0 0) ≡ false → is_ascii_digit (get_or text 0 0) ≡ true → begins text ≡ piece (Some Number) (number_len text)
  unfolding begins
  begins_number h digit = rw (space, line, block, h, digit) refl

  pub begins_string : is_letter (get_or text 0 0) ≡ false → is_ascii_digit (get_or text 0 0) ≡ false → (get_or text 0 0 == 34) ≡ true → begins text ≡ piece (Some Text) (string_end 1 (drop 1 text))
  unfolding begins
  begins_string h digit quote = rw (space, line, block, h, digit, quote) refl

  pub begins_symbol : is_letter (get_or text 0 0) ≡ false → is_ascii_digit (get_or text 0 0) ≡ false → (get_or text 0 0 == 34) ≡ false → begins text ≡ piece (Some Symbol) (symbol_len text)
  unfolding begins
  begins_symbol h digit quote = rw (space, line, block, h, digit, quote) refl
