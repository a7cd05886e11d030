-- One part of a text between spaces, and the words that it gives.
use Rattle.std.proofs.Common.{◌≡◌, ℕ, ◌+◌, ◌<◌, true, false, List, [], ◌∷◌, length, get_or, drop, cond, ◌==◌, filter, nat_lt, ap, sym, ◌∙◌, arith}
use Rattle.std.proofs.lemmas.Bool.{le-ltb, lt-ltb, eqb-true, eqb-false}
use Rattle.std.proofs.lemmas.List.{drop_more, drop_all}
use Rattle.scope_value.specs.declared.value.Value.TheVariants.{Bytes}
use Rattle.scope_shipped.specs.SplitWords.{word_rows}

-- the parts that have a byte
abbrev pub kept : List (List ℕ) → List (List ℕ)
kept parts = filter (λ part. nat_lt 0 (length part)) parts

module _ (parts : List (List ℕ)) (n : ℕ) (part : List ℕ) (within : n < length parts) (is : part ≡ get_or parts n part) where
  at-part : kept (drop n parts) ≡ cond (nat_lt 0 (length part)) (part ∷ kept (drop (n + 1) parts)) (kept (drop (n + 1) parts))
  at-part =
      ap kept (drop_more parts n part within)
      ∙ ap (λ (p : List ℕ). cond (nat_lt 0 (length p)) (p ∷ kept (drop (n + 1) parts)) (kept (drop (n + 1) parts))) (sym is)

  pub part-with_bytes : (m : ℕ) → m ≡ n + 1 → (length part == 0) ≡ false
      → word_rows (kept (drop n parts)) ≡ (Bytes part ∷ []) ∷ word_rows (kept (drop m parts))
  part-with_bytes m next some =
      let ne : length part ≡ 0 → ⊥ = eqb-false (length part) 0 some in
      let long : nat_lt 0 (length part) ≡ true = lt-ltb 0 (length part) (omega arith) in
      ap word_rows (at-part ∙ ap (λ b. cond b (part ∷ kept (drop (n + 1) parts)) (kept (drop (n + 1) parts))) long)
      ∙ ap (λ k. (Bytes part ∷ []) ∷ word_rows (kept (drop k parts))) (sym next)

  pub part-without : (m : ℕ) → m ≡ n + 1 → (length part == 0) ≡ true
      → word_rows (kept (drop n parts)) ≡ word_rows (kept (drop m parts))
  part-without m next none =
      let e : length part ≡ 0 = eqb-true (length part) 0 none in
      let short : nat_lt 0 (length part) ≡ false = le-ltb 0 (length part) (omega arith) in
      ap word_rows (at-part ∙ ap (λ b. cond b (part ∷ kept (drop (n + 1) parts)) (kept (drop (n + 1) parts))) short)
      ∙ ap (λ k. word_rows (kept (drop k parts))) (sym next)

pub parts-end : (parts : List (List ℕ)) (n : ℕ) → n ≡ length parts → word_rows (kept (drop n parts)) ≡ []
parts-end parts n is = rw (drop_all n parts (omega arith))
