-- Each text has one reading, and its tokens stand in it.
use Rattle.std.proofs.Common.{◌≡◌, ◌∙◌, ◌+◌, ◌-◌, ◌≤◌, ◌&&◌, Bool, true, false, cond, nat_eq, ℕ, zero, suc, List, [], ◌∷◌, length, take, drop, Option, None, Some, refl, sym, ap, subst, arith, inl, inr}
use Rattle.std.specs.List.{All, AllByRecursion, starts_with}
use Rattle.std.proofs.lemmas.Bool.{and_parts, cases_lt, false≢true}
use Rattle.std.proofs.lemmas.List.{drop-drop, drop_all, length-drop, length-take-le}
use Rattle.std.proofs.lemmas.List.Elements.{All-from_recursion}
use Rattle.scope_lexer.specs.Begins.{begins}
use Rattle.scope_lexer.specs.Laws.{HasNoTwoReadings, HasReading}
use Rattle.scope_lexer.specs.Tokens.{AreInOrder, IsCut, IsFault, IsLexed, IsStuckAt, IsTokenOf, mark_len, max_script, tokens_from, with_token}
use Rattle.scope_lexer.specs.declared.kind.TokenKind.{TokenKind}
use Rattle.scope_lexer.specs.declared.piece.Piece.{Piece}
use Rattle.scope_lexer.specs.declared.token.Token.{Token}
use Rattle.scope_lexer.proofs.Alone.{alone}
use Rattle.scope_lexer.proofs.Lengths.{piece_within}

-- ---- no two readings

begins_nothing : begins [] ≡ None
unfolding begins
begins_nothing = refl

none≢piece : (p : Piece) → None ≡ Some p → ⊥
none≢piece p h = cc

piece_same : (p q : Piece) → Some p ≡ Some q → p ≡ q
piece_same p q h = cc

-- pieces up to a place where none begins are the only ones
cut_once : (text : List ℕ) (ps qs : List Piece) (r s : List ℕ) → IsCut text ps r → IsCut text qs s → begins r ≡ None → begins s ≡ None → (ps ≡ qs) × (r ≡ s)
cut_once text [] [] r s h k x y = (refl, sym h ∙ k)
cut_once text [] (q ∷ qs) r s h k x y = absurd (none≢piece q (sym x ∙ sym (ap begins h) ∙ k.0))
cut_once text (p ∷ ps) [] r s h k x y = absurd (none≢piece p (sym y ∙ sym (ap begins k) ∙ h.0))
cut_once text (p ∷ ps) (q ∷ qs) r s h k x y =
    let same : q ≡ p = piece_same q p (sym k.0 ∙ h.0) in
    let P : Piece → Type 0 = λ z. IsCut (drop z.len text) qs s in
    let i = cut_once (drop p.len text) ps qs r s h.1 (subst P same k.1) x y in
    let ps' = i.0 in
    (cc, i.1)

tokens_once : (text : List ℕ) (a b : List Token) → IsLexed text a → IsLexed text b → a ≡ b
tokens_once text a b h k =
    let same = cut_once (drop (mark_len text) text) h.pieces.0 k.pieces.0 [] [] h.pieces.1 k.pieces.1 begins_nothing begins_nothing in
    h.pieces.2 ∙ ap (tokens_from (mark_len text)) same.0 ∙ sym k.pieces.2

stuck_once : (text : List ℕ) (m n : ℕ) → IsStuckAt text m → IsStuckAt text n → m ≡ n
stuck_once text m n h k =
    let same = cut_once (drop (mark_len text) text) h.pieces.0 k.pieces.0 (drop m text) (drop n text) h.pieces.1 k.pieces.1 h.none k.none in
    omega (arith, ap length same.1, length-drop m text, length-drop n text, h.inside, k.inside)

fault_once : (text : List ℕ) (m n : ℕ) → IsFault text m → IsFault text n → m ≡ n
fault_once text m n (inl h) (inl k) = h.1 ∙ sym k.1
fault_once text m n (inl h) (inr k) = absurd (omega arith)
fault_once text m n (inr h) (inl k) = absurd (omega arith)
fault_once text m n (inr h) (inr k) = stuck_once text m n h.1 k.1

not_both : (text : List ℕ) (a : List Token) (m : ℕ) → IsLexed text a → IsFault text m → ⊥
not_both text a m h (inl k) = omega (arith, h.fits, k.0)
not_both text a m h (inr k) =
    let stuck = k.1 in
    let same = cut_once (drop (mark_len text) text) h.pieces.0 stuck.pieces.0 [] (drop m text) h.pieces.1 stuck.pieces.1 begins_nothing stuck.none in
    omega (arith, ap length same.1, length-drop m text, stuck.inside)

pub no_two_readings : (text : List ℕ) → HasNoTwoReadings text
no_two_readings text = record { tokens = tokens_once text; faults = fault_once text; apart = not_both text }

-- ---- a reading

-- the pieces of a text, up to a place where none begins
abbrev IsCutFar : List ℕ → Type 0
IsCutFar text = (ps : List Piece) × (at : ℕ) × (IsCut text ps (drop at text)) × (begins (drop at text) ≡ None)

cut_further : (n : ℕ) (text : List ℕ) (o : Option Piece) → begins text ≡ o → length text ≤ n → IsCutFar text
cut_further n text None e le = ([], 0, refl, e)
cut_further zero text (Some p) e le = let i = piece_within text p e in absurd (omega arith)
cut_further (suc n) text (Some p) e le =
    let i = piece_within text p e in
    let shorter : length (drop p.len text) ≤ n = omega (arith, length-drop p.len text) in
    let rest = cut_further n (drop p.len text) (begins (drop p.len text)) refl shorter in
    (p ∷ rest.0, p.len + rest.1, (e, rw drop-drop at rest.2), rw drop-drop at rest.3)

pub some_reading : (text : List ℕ) → HasReading text
some_reading text =
    elim (cases_lt max_script (length text)) [
      | inl long ↦ inr (max_script, inl (long, refl))
      | inr fits ↦
          let far = cut_further (length (drop (mark_len text) text)) (drop (mark_len text) text) (begins (drop (mark_len text) text)) refl (omega arith) in
          let cut = rw drop-drop at far.2 in
          let none = rw drop-drop at far.3 in
          elim (cases_lt (mark_len text + far.1) (length text)) [
            | inl lt ↦ inr (mark_len text + far.1, inr (fits, record { inside = lt; none = none; pieces = (far.0, cut) }))
            | inr le ↦
                inl (tokens_from (mark_len text) far.0, record { fits = fits; pieces = (far.0, rw (drop_all (mark_len text + far.1) text le) at cut, refl) })
          ]
    ]

-- ---- the tokens

lower : (low at high : ℕ) (ts : List Token) → low ≤ at → AreInOrder at high ts → AreInOrder low high ts
lower low at high [] le h = omega arith
lower low at high (t ∷ ts) le h = (omega (arith, h.0), h.1, h.2)

with_order : (kind : Option TokenKind) (at len high : ℕ) (ts : List Token) → 1 ≤ len → AreInOrder (at + len) high ts → AreInOrder at high (with_token kind at (at + len) ts)
with_order None at len high ts some h = lower at (at + len) high ts (omega arith) h
with_order (Some k) at len high ts some h = (omega arith, omega arith, h)

order_from : (text : List ℕ) (at : ℕ) (ps : List Piece) (rest : List ℕ) → at ≤ length text → IsCut (drop at text) ps rest → AreInOrder at (length text) (tokens_from at ps)
order_from text at [] rest le h = le
order_from text at (p ∷ ps) rest le h =
    let i = piece_within (drop at text) p h.0 in
    let inside : at + p.len ≤ length text = omega (arith, i.1, length-drop at text) in
    with_order p.kind at p.len (length text) (tokens_from (at + p.len) ps) i.0 (order_from text (at + p.len) ps rest inside (rw drop-drop at h.1))

with_each : (P : Token → Type 0) (kind : Option TokenKind) (start end : ℕ) (ts : List Token)
    → ((k : TokenKind) → kind ≡ Some k → P (record { kind = k; from = start; to = end })) → AllByRecursion P ts → AllByRecursion P (with_token kind start end ts)
with_each P None start end ts one h = h
with_each P (Some k) start end ts one h = (one k refl, h)

stands : (text : List ℕ) (at : ℕ) (p : Piece) → at ≤ length text → begins (drop at text) ≡ Some p → (k : TokenKind) → p.kind ≡ Some k
    → IsTokenOf text (record { kind = k; from = at; to = at + p.len })
stands text at p le e k kind =
    let i = piece_within (drop at text) p e in
    let n : at + p.len - at ≡ p.len = omega arith in
    let len : length (take p.len (drop at text)) ≡ p.len = length-take-le p.len (drop at text) i.1 in
    record {
      some = omega (arith, i.0);
      inside = omega (arith, i.1, length-drop at text);
      one = rw (n, len, ← kind) (alone (drop at text) p k e kind);
    }

each_from : (text : List ℕ) (at : ℕ) (ps : List Piece) (rest : List ℕ) → at ≤ length text → IsCut (drop at text) ps rest → AllByRecursion (IsTokenOf text) (tokens_from at ps)
each_from text at [] rest le h = tt
each_from text at (p ∷ ps) rest le h =
    let i = piece_within (drop at text) p h.0 in
    let inside : at + p.len ≤ length text = omega (arith, i.1, length-drop at text) in
    with_each (IsTokenOf text) p.kind at (at + p.len) (tokens_from (at + p.len) ps) (stands text at p le h.0) (each_from text (at + p.len) ps rest inside (rw drop-drop at h.1))

mark_cases : (text : List ℕ) (b : Bool) → starts_with nat_eq text (239 ∷ 187 ∷ 191 ∷ []) ≡ b → cond b 3 0 ≤ length text
mark_cases text false e = omega arith
mark_cases [] true e = absurd (false≢true e)
mark_cases (a ∷ []) true e = absurd (false≢true (and_parts (nat_eq 239 a) false e).1)
mark_cases (a ∷ b ∷ []) true e =
    let parts = and_parts (nat_eq 239 a) (nat_eq 187 b && false) e in absurd (false≢true (and_parts (nat_eq 187 b) false parts.1).1)
mark_cases (a ∷ b ∷ c ∷ z) true e = omega arith

mark_within : (text : List ℕ) → mark_len text ≤ length text
mark_within text = mark_cases text (starts_with nat_eq text (239 ∷ 187 ∷ 191 ∷ [])) refl

pub order_of : (text : List ℕ) (tokens : List Token) → IsLexed text tokens → AreInOrder 0 (length text) tokens
order_of text tokens h =
    rw h.pieces.2 (lower 0 (mark_len text) (length text) (tokens_from (mark_len text) h.pieces.0) (omega arith) (order_from text (mark_len text) h.pieces.0 [] (mark_within text) h.pieces.1))

pub each_of : (text : List ℕ) (tokens : List Token) → IsLexed text tokens → All (IsTokenOf text) tokens
each_of text tokens h =
    rw h.pieces.2 (All-from_recursion (IsTokenOf text) (tokens_from (mark_len text) h.pieces.0) (each_from text (mark_len text) h.pieces.0 [] (mark_within text) h.pieces.1))
