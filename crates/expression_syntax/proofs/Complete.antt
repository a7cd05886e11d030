-- What is spelled is read, level by level, whatever follows that can't go on with it.
use Rattle.std.proofs.Common.{◌≡◌, ◌+◌, ◌-◌, ◌*◌, ◌≤◌, ◌<◌, ◌^◌, ℕ, zero, suc, true, false, List, [], ◌∷◌, ◌++◌, length, Option, Some, None, refl, sym, ap, ◌∙◌, arith, subst, append_assoc, append-nil, length-append}
use Rattle.script_trees.specs.declared.agg.AggKind.{AggKind}
use Rattle.script_trees.specs.declared.agg.AggKind.TheVariants.{Count}
use Rattle.script_trees.specs.declared.op.PairOp.{PairOp}
use Rattle.script_trees.specs.declared.raw.RawExpr.{RawExpr}
use Rattle.script_trees.specs.declared.raw.RawExpr.TheVariants as raw
use Rattle.script_trees.specs.declared.raw.RawRef.{RawRef}
use Rattle.script_trees.specs.declared.raw_agg.RawAgg.{RawAgg}
use Rattle.expression_syntax.specs.declared.symbol.Symbol.TheVariants as mark
use Rattle.expression_syntax.specs.declared.level.Level.{Level}
use Rattle.expression_syntax.specs.declared.level.Level.TheVariants as level
use Rattle.expression_syntax.specs.declared.level.Place.{Place}
use Rattle.expression_syntax.specs.declared.level.Place.TheVariants as place
use Rattle.expression_syntax.specs.Lexemes.{Lexeme, symbol, name, is_symbol}
use Rattle.expression_syntax.specs.Expressions as g
use Rattle.expression_syntax.specs.Expressions.{Spells, SpellsRef, aggregate, groups, joins, literal, negates, tighter}
use Rattle.expression_syntax.specs.Reading.{Cursor, Parser, and_then, begins}
use Rattle.expression_syntax.specs.ReadExpressions as r
use Rattle.expression_syntax.specs.ReadExpressions.{rank, read, take_operator}
use Rattle.expression_syntax.proofs.Follow.{bound}
use Rattle.expression_syntax.proofs.Forward.{at, column_aliased, column_bare, eat_no, eat_yes, expect_yes, joins_binds, literal_signs, literal_star, no_open, operator_no, operator_yes, push_yes, take_known}
use Rattle.expression_syntax.proofs.Small.{sized}
use Rattle.expression_syntax.proofs.Steps.{joint, up_to}

-- an expression is read at each place where it stands, if the depth is enough
abbrev pub Completes : Level → Place → ℕ → List Lexeme → RawExpr → List RawAgg → Type 0
Completes l p n ts e gs =
    (rest : List Lexeme) (before : List RawAgg) (d : ℕ) → bound rest < rank l → length before ≡ n → n + length gs ≤ 2 ^ 32
    → 7 * length ts + 7 ≤ d + rank l → read d l p (at (ts ++ rest) before) ≡ up_to e (at rest (before ++ gs))

-- Operands and the operators of a level between them, read from the left: so many turns of the loop come to the whole,
-- and an operator of the level may follow.
record Chains (l : Level) (p : Place) (n : ℕ) (ts : List Lexeme) (e : RawExpr) (gs : List RawAgg) : Type 0 where
  turns : ℕ
  few : turns ≤ length ts
  goes : (rest : List Lexeme) (before : List RawAgg) (d t : ℕ) → bound rest ≤ rank l → length before ≡ n → n + length gs ≤ 2 ^ 32
      → 7 * length ts + 7 ≤ suc d + rank l
      → and_then (read d (tighter l) p (at (ts ++ rest) before)) (r.more (read d) l p (turns + t)) ≡ r.more (read d) l p t e (at rest (before ++ gs))

record Reads (l : Level) (p : Place) (n : ℕ) (ts : List Lexeme) (e : RawExpr) (gs : List RawAgg) : Type 0 where
  whole : Completes l p n ts e gs
  chained : groups l ≡ true → Chains l p n ts e gs

-- ---- what no expression begins with

abbrev NoStar : List Lexeme → Type 0
NoStar ts = (rest : List Lexeme) → begins (is_symbol mark.Star) (ts ++ rest) ≡ false

star_pair : (ts us : List Lexeme) (o : Lexeme) → NoStar ts → NoStar (ts ++ o ∷ us)
star_pair ts us o h rest = rw (append_assoc ts (o ∷ us) rest) (h (o ∷ (us ++ rest)))

star_ref : {ts : List Lexeme} {x : RawRef} → SpellsRef ts x → NoStar ts
star_ref g.bare rest = refl
star_ref g.aliased rest = refl

star_not : (o : Lexeme) → negates o ≡ true → is_symbol mark.Star o ≡ false
star_not (symbol mark.Star) h = absurd (cc)
star_not t h = refl

no_star : {l : Level} {p : Place} {n : ℕ} {ts : List Lexeme} {e : RawExpr} {gs : List RawAgg} → Spells l p n ts e gs → NoStar ts
no_star (g.alone d) rest = no_star d rest
no_star (g.joined {ts = ts} {us = us} o gr j a b) rest = star_pair ts us o (no_star a) rest
no_star (g.compared {ts = ts} {us = us} o j a b) rest = star_pair ts us o (no_star a) rest
no_star (g.negative d) rest = refl
no_star (g.negated o h d) rest = star_not o h
no_star (g.constant t {e = e} h) rest = literal_star t e h
no_star (g.column x) rest = star_ref x rest
no_star (g.bracketed d) rest = refl
no_star (g.counted c h) rest = refl
no_star (g.aggregated c h d) rest = refl

-- no primary begins with a minus or a negation
record NoSign (ts : List Lexeme) : Type 0 where
  no_minus : (rest : List Lexeme) → begins (is_symbol mark.Minus) (ts ++ rest) ≡ false
  no_not : (rest : List Lexeme) → begins negates (ts ++ rest) ≡ false

sign_ref : {ts : List Lexeme} {x : RawRef} → SpellsRef ts x → NoSign ts
sign_ref g.bare = record { no_minus = λ rest. refl; no_not = λ rest. refl }
sign_ref g.aliased = record { no_minus = λ rest. refl; no_not = λ rest. refl }

no_sign : {p : Place} {n : ℕ} {ts : List Lexeme} {e : RawExpr} {gs : List RawAgg} → Spells level.Primary p n ts e gs → NoSign ts
no_sign (g.alone d) = no_sign d
no_sign (g.joined o gr j a b) = absurd (cc)
no_sign (g.constant t {e = e} h) = let s = literal_signs t e h in record { no_minus = λ rest. s.0; no_not = λ rest. s.1 }
no_sign (g.column x) = sign_ref x
no_sign (g.bracketed d) = record { no_minus = λ rest. refl; no_not = λ rest. refl }
no_sign (g.counted c h) = record { no_minus = λ rest. refl; no_not = λ rest. refl }
no_sign (g.aggregated c h d) = record { no_minus = λ rest. refl; no_not = λ rest. refl }

found_is : (o : Option RawExpr) (c : Cursor) (e : RawExpr) → o ≡ Some e → r.found o c ≡ up_to e c
found_is None c e h = absurd (cc)
found_is (Some x) c e h = let v : x ≡ e = cc in ap (λ y. up_to y c) v

-- ---- each production, over any reading of those inside

module _ (inner : Level → Place → Parser RawExpr) where
  more_stops : (l : Level) (p : Place) (k : ℕ) (e : RawExpr) (c : Cursor) → take_operator l c ≡ up_to None c → r.more inner l p k e c ≡ up_to e c
  unfolding r.more
  more_stops l p zero e c h = refl
  more_stops l p (suc k) e c h = rw h refl

  more_pair : (l : Level) (p : Place) (t : ℕ) (a b : RawExpr) (x : PairOp) (c0 c1 d : Cursor) → take_operator l c0 ≡ up_to (Some x) c1 → inner (tighter l) p c1 ≡ up_to b d
      → r.more inner l p (suc t) a c0 ≡ r.more inner l p t (raw.Pair x a b) d
  unfolding r.more
  more_pair l p t a b x c0 c1 d h i = rw (h, i) refl

  chain_is : (l : Level) (p : Place) (c : Cursor) → groups l ≡ true → r.step inner l p c ≡ r.chain inner l p c
  chain_is level.Or p c h = refl
  chain_is level.And p c h = refl
  chain_is level.Sum p c h = refl
  chain_is level.Product p c h = refl
  chain_is level.Compare p c h = absurd (cc)
  chain_is level.Unary p c h = absurd (cc)
  chain_is level.Primary p c h = absurd (cc)

  comparison_alone : (p : Place) (c d : Cursor) (e : RawExpr) → inner level.Sum p c ≡ up_to e d → take_operator level.Compare d ≡ up_to None d → r.comparison inner p c ≡ up_to e d
  unfolding r.comparison
  comparison_alone p c d e h o = rw (h, o) refl

  comparison_pair : (p : Place) (c0 c1 c2 d : Cursor) (a b : RawExpr) (x : PairOp) → inner level.Sum p c0 ≡ up_to a c1 → take_operator level.Compare c1 ≡ up_to (Some x) c2
      → inner level.Sum p c2 ≡ up_to b d → r.comparison inner p c0 ≡ up_to (raw.Pair x a b) d
  unfolding r.comparison
  comparison_pair p c0 c1 c2 d a b x h o i = rw (h, o, i) refl

  unary_alone : (p : Place) (ts : List Lexeme) (gs : List RawAgg) (e : RawExpr) (d : Cursor) → begins (is_symbol mark.Minus) ts ≡ false → begins negates ts ≡ false
      → inner level.Primary p (at ts gs) ≡ up_to e d → r.unary inner p (at ts gs) ≡ up_to e d
  unfolding r.unary
  unary_alone p ts gs e d m n h = rw (eat_no (is_symbol mark.Minus) ts gs m, eat_no negates ts gs n, h) refl

  unary_negative : (p : Place) (ts : List Lexeme) (gs : List RawAgg) (e : RawExpr) (d : Cursor)
      → inner level.Unary p (at ts gs) ≡ up_to e d → r.unary inner p (at (symbol mark.Minus ∷ ts) gs) ≡ up_to (raw.Neg e) d
  unfolding r.unary
  unary_negative p ts gs e d h = rw (eat_yes (is_symbol mark.Minus) (symbol mark.Minus) ts gs refl, h) refl

  minus_not : (o : Lexeme) → negates o ≡ true → is_symbol mark.Minus o ≡ false
  minus_not (symbol mark.Minus) h = absurd (cc)
  minus_not t h = refl

  unary_negated : (p : Place) (o : Lexeme) (ts : List Lexeme) (gs : List RawAgg) (e : RawExpr) (d : Cursor) → negates o ≡ true
      → inner level.Unary p (at ts gs) ≡ up_to e d → r.unary inner p (at (o ∷ ts) gs) ≡ up_to (raw.Not e) d
  unfolding r.unary
  unary_negated p o ts gs e d n h = rw (eat_no (is_symbol mark.Minus) (o ∷ ts) gs (minus_not o n), eat_yes negates o ts gs n, h) refl

  bracketed_is : (l : Level) (p : Place) (c : Cursor) (rest : List Lexeme) (gs : List RawAgg) (e : RawExpr) → inner l p c ≡ up_to e (at (symbol mark.Close ∷ rest) gs)
      → r.bracketed inner l p c ≡ up_to e (at rest gs)
  unfolding r.bracketed
  bracketed_is l p c rest gs e h = rw (h, expect_yes (is_symbol mark.Close) (symbol mark.Close) rest gs refl) refl

  literal_is : (p : Place) (t : Lexeme) (c : Cursor) (e : RawExpr) → literal t ≡ Some e → r.begun inner p t c ≡ up_to e c
  literal_is p (symbol s) c e h = absurd (cc)
  literal_is p (name w) c e h = absurd (cc)
  literal_is p t c e h = found_is (literal t) c e h

  primary_begun : (p : Place) (t : Lexeme) (ts : List Lexeme) (gs : List RawAgg) (e : RawExpr) (d : Cursor) → r.begun inner p t (at ts gs) ≡ up_to e d → r.primary inner p (at (t ∷ ts) gs) ≡ up_to e d
  unfolding r.primary
  primary_begun p t ts gs e d h = rw (take_known t ts gs) h

  named_column : (p : Place) (w : List ℕ) (ts : List Lexeme) (gs : List RawAgg) (x : RawRef) (d : Cursor) → begins (is_symbol mark.Open) ts ≡ false → r.column w (at ts gs) ≡ up_to x d
      → r.named inner p w (at ts gs) ≡ up_to (raw.Ref x) d
  unfolding r.named
  named_column p w ts gs x d o h = rw (eat_no (is_symbol mark.Open) ts gs o, h) refl

  column_read : {ts : List Lexeme} {x : RawRef} → SpellsRef ts x → (p : Place) (rest : List Lexeme) (gs : List RawAgg) → bound rest < 8 → r.primary inner p (at (ts ++ rest) gs) ≡ up_to (raw.Ref x) (at rest gs)
  column_read (g.bare {c = c}) p rest gs h = primary_begun p (name c) rest gs _ _ (named_column p c rest gs _ _ (no_open rest h) (column_bare c rest gs h))
  column_read (g.aliased {a = a} {c = c}) p rest gs h =
      primary_begun p (name a) (symbol mark.Dot ∷ name c ∷ rest) gs _ _ (named_column p a (symbol mark.Dot ∷ name c ∷ rest) gs _ _ refl (column_aliased a c rest gs))

  named_call : (p : Place) (w : List ℕ) (ts : List Lexeme) (gs : List RawAgg) (e : RawExpr) (d : Cursor) → r.call inner p (aggregate w) (at ts gs) ≡ up_to e d
      → r.named inner p w (at (symbol mark.Open ∷ ts) gs) ≡ up_to e d
  unfolding r.named
  named_call p w ts gs e d h = rw (eat_yes (is_symbol mark.Open) (symbol mark.Open) ts gs refl) h

  argument_is : (k : AggKind) (c : Cursor) (ts : List Lexeme) (gs : List RawAgg) (e : RawExpr) → r.bracketed inner level.Or place.Plain c ≡ up_to e (at ts gs) → length gs < 2 ^ 32
      → r.argument inner k c ≡ up_to (raw.Agg (length gs)) (at ts (gs ++ (record { kind = k; arg = Some e }) ∷ []))
  unfolding r.argument
  argument_is k c ts gs e h few = rw h (push_yes (record { kind = k; arg = Some e }) ts gs few)

  rows_star : (ts : List Lexeme) (gs : List RawAgg) → length gs < 2 ^ 32
      → r.rows inner (at (symbol mark.Star ∷ symbol mark.Close ∷ ts) gs) ≡ up_to (raw.Agg (length gs)) (at ts (gs ++ (record { kind = Count; arg = None }) ∷ []))
  unfolding r.rows
  rows_star ts gs few =
      rw (eat_yes (is_symbol mark.Star) (symbol mark.Star) (symbol mark.Close ∷ ts) gs refl, expect_yes (is_symbol mark.Close) (symbol mark.Close) ts gs refl)
      (push_yes (record { kind = Count; arg = None }) ts gs few)

  rows_argument : (ts : List Lexeme) (gs : List RawAgg) (e : RawExpr) (d : Cursor) → begins (is_symbol mark.Star) ts ≡ false → r.argument inner Count (at ts gs) ≡ up_to e d
      → r.rows inner (at ts gs) ≡ up_to e d
  unfolding r.rows
  rows_argument ts gs e d n h = rw (eat_no (is_symbol mark.Star) ts gs n) h

  call_argument : (k : AggKind) (ts : List Lexeme) (gs : List RawAgg) (e : RawExpr) (d : Cursor) → begins (is_symbol mark.Star) ts ≡ false → r.argument inner k (at ts gs) ≡ up_to e d
      → r.call inner place.Item (Some k) (at ts gs) ≡ up_to e d
  call_argument Count ts gs e d n h = rows_argument ts gs e d n h
  call_argument k ts gs e d n h = h

-- ---- each rule of the grammar

-- a lemma on the depth: no expression is empty, so there is some
deep : {l : Level} {p : Place} {n : ℕ} {ts : List Lexeme} {e : RawExpr} {gs : List RawAgg} → Spells l p n ts e gs → 1 ≤ length ts
deep d = let s = sized d in omega (arith, s.some)

rank_high : (l : Level) → rank l ≤ 7
rank_high level.Or = omega arith
rank_high level.And = omega arith
rank_high level.Compare = omega arith
rank_high level.Sum = omega arith
rank_high level.Product = omega arith
rank_high level.Unary = omega arith
rank_high level.Primary = omega arith

rank_up : (l : Level) → groups l ≡ true → rank (tighter l) ≡ rank l + 1
rank_up level.Or h = refl
rank_up level.And h = refl
rank_up level.Sum h = refl
rank_up level.Product h = refl
rank_up level.Compare h = absurd (cc)
rank_up level.Unary h = absurd (cc)
rank_up level.Primary h = absurd (cc)

module _ (l : Level) (p : Place) (n : ℕ) (ts : List Lexeme) (e : RawExpr) (gs : List RawAgg) (some : 1 ≤ length ts) where
  -- an operand alone
  alone_chains : groups l ≡ true → Completes (tighter l) p n ts e gs → Chains l p n ts e gs
  alone_chains gr h = record {
    turns = 0;
    few = omega arith;
    goes = λ rest before d t b len fits deep.
        let up = rank_up l gr in
        let z : 0 + t ≡ t = omega arith in
        rw (h rest before d (omega arith) len fits (omega arith), z) refl;
  }

  -- the whole of a chain
  chain_whole : groups l ≡ true → Chains l p n ts e gs → Completes l p n ts e gs
  unfolding read r.chain
  chain_whole gr h rest before zero b len fits deep = let high = rank_high l in absurd (omega arith)
  chain_whole gr h rest before (suc d) b len fits deep =
      let all = length (ts ++ rest) in
      let t = all - h.turns in
      let e : all ≡ h.turns + t = omega (arith, h.few, length-append ts rest) in
      let run = h.goes rest before d t (omega arith) len fits deep in
      let turned = ap (λ k. and_then (read d (tighter l) p (at (ts ++ rest) before)) (r.more (read d) l p k)) e in
      chain_is (read d) l p (at (ts ++ rest) before) gr ∙ turned ∙ run ∙ more_stops (read d) l p t _ _ (operator_no l rest (before ++ gs) b)

compare_alone : (p : Place) (n : ℕ) (ts : List Lexeme) (e : RawExpr) (gs : List RawAgg) → 1 ≤ length ts → Completes level.Sum p n ts e gs → Completes level.Compare p n ts e gs
unfolding read
compare_alone p n ts e gs some h rest before zero b len fits deep = absurd (omega arith)
compare_alone p n ts e gs some h rest before (suc d) b len fits deep =
    comparison_alone (read d) p _ _ e (h rest before d (omega arith) len fits (omega arith)) (operator_no level.Compare rest (before ++ gs) b)

unary_plain : (p : Place) (n : ℕ) (ts : List Lexeme) (e : RawExpr) (gs : List RawAgg) → 1 ≤ length ts → NoSign ts → Completes level.Primary p n ts e gs → Completes level.Unary p n ts e gs
unfolding read
unary_plain p n ts e gs some s h rest before zero b len fits deep = absurd (omega arith)
unary_plain p n ts e gs some s h rest before (suc d) b len fits deep =
    unary_alone (read d) p (ts ++ rest) before e _ (s.no_minus rest) (s.no_not rest) (h rest before d (omega arith) len fits (omega arith))

no_chain : {A : Type 0} (l : Level) → groups l ≡ false → groups l ≡ true → A
no_chain l a b = absurd (cc)

alone_reads : (l : Level) (p : Place) (n : ℕ) (ts : List Lexeme) (e : RawExpr) (gs : List RawAgg) → Spells (tighter l) p n ts e gs → Reads (tighter l) p n ts e gs → Reads l p n ts e gs
alone_reads level.Or p n ts e gs d h = let k = alone_chains level.Or p n ts e gs (deep d) refl h.whole in record { whole = chain_whole level.Or p n ts e gs (deep d) refl k; chained = λ _. k }
alone_reads level.And p n ts e gs d h = let k = alone_chains level.And p n ts e gs (deep d) refl h.whole in record { whole = chain_whole level.And p n ts e gs (deep d) refl k; chained = λ _. k }
alone_reads level.Compare p n ts e gs d h = record { whole = compare_alone p n ts e gs (deep d) h.whole; chained = no_chain level.Compare refl }
alone_reads level.Sum p n ts e gs d h = let k = alone_chains level.Sum p n ts e gs (deep d) refl h.whole in record { whole = chain_whole level.Sum p n ts e gs (deep d) refl k; chained = λ _. k }
alone_reads level.Product p n ts e gs d h = let k = alone_chains level.Product p n ts e gs (deep d) refl h.whole in record { whole = chain_whole level.Product p n ts e gs (deep d) refl k; chained = λ _. k }
alone_reads level.Unary p n ts e gs d h = record { whole = unary_plain p n ts e gs (deep d) (no_sign d) h.whole; chained = no_chain level.Unary refl }
alone_reads level.Primary p n ts e gs d h = h

-- ---- two operands

module _ (p : Place) (n : ℕ) (ts us : List Lexeme) (a b : RawExpr) (gs hs : List RawAgg) (o : Lexeme) (x : PairOp) (some : 1 ≤ length ts) where
  both_long : length (ts ++ o ∷ us) ≡ length ts + length us + 1
  both_long = omega (arith, length-append ts (o ∷ us))

  joined_chains : (l : Level) → groups l ≡ true → joins o ≡ joint l x → Chains l p n ts a gs → Completes (tighter l) p (n + length gs) us b hs
      → Chains l p n (ts ++ o ∷ us) (raw.Pair x a b) (gs ++ hs)
  joined_chains l gr j h i = record {
    turns = h.turns + 1;
    few = omega (arith, both_long, h.few);
    goes = λ rest before d t bd len fits deep.
        let long = both_long in
        let up = rank_up l gr in
        let high = rank_high l in
        let tie = joins_binds o l x j in
        let many = length-append gs hs in
        let more = length-append before gs in
        let step : h.turns + 1 + t ≡ h.turns + suc t = omega arith in
        let first = h.goes (o ∷ (us ++ rest)) before d (suc t) (omega arith) len (omega arith) (omega arith) in
        let second = i rest (before ++ gs) d (omega arith) (omega arith) (omega arith) (omega arith) in
        let turn = more_pair (read d) l p t a b x (at (o ∷ (us ++ rest)) (before ++ gs)) (at (us ++ rest) (before ++ gs)) (at rest ((before ++ gs) ++ hs)) (operator_yes l x o (us ++ rest) (before ++ gs) j) second in
        ap (λ k. and_then (read d (tighter l) p (at ((ts ++ o ∷ us) ++ rest) before)) (r.more (read d) l p k)) step
        ∙ ap (λ z. and_then (read d (tighter l) p (at z before)) (r.more (read d) l p (h.turns + suc t))) (append_assoc ts (o ∷ us) rest)
        ∙ first ∙ turn ∙ ap (λ z. r.more (read d) l p t (raw.Pair x a b) (at rest z)) (append_assoc before gs hs);
  }

  compared_whole : joins o ≡ joint level.Compare x → Completes level.Sum p n ts a gs → Completes level.Sum p (n + length gs) us b hs
      → Completes level.Compare p n (ts ++ o ∷ us) (raw.Pair x a b) (gs ++ hs)
  unfolding read
  compared_whole j h i rest before zero bd len fits deep = let long = both_long in absurd (omega arith)
  compared_whole j h i rest before (suc d) bd len fits deep =
      let long = both_long in
      let tie = joins_binds o level.Compare x j in
      let many = length-append gs hs in
      let more = length-append before gs in
      let first = ap (λ z. read d level.Sum p (at z before)) (append_assoc ts (o ∷ us) rest) ∙ h (o ∷ (us ++ rest)) before d (omega arith) len (omega arith) (omega arith) in
      let second = i rest (before ++ gs) d (omega arith) (omega arith) (omega arith) (omega arith) in
      comparison_pair (read d) p (at ((ts ++ o ∷ us) ++ rest) before) (at (o ∷ (us ++ rest)) (before ++ gs)) (at (us ++ rest) (before ++ gs)) (at rest ((before ++ gs) ++ hs)) a b x
      first (operator_yes level.Compare x o (us ++ rest) (before ++ gs) j) second
      ∙ ap (λ z. up_to (raw.Pair x a b) (at rest z)) (append_assoc before gs hs)

-- ---- signs

negative_whole : (p : Place) (n : ℕ) (ts : List Lexeme) (e : RawExpr) (gs : List RawAgg) → Completes level.Unary p n ts e gs → Completes level.Unary p n (symbol mark.Minus ∷ ts) (raw.Neg e) gs
unfolding read
negative_whole p n ts e gs h rest before zero b len fits deep = absurd (omega arith)
negative_whole p n ts e gs h rest before (suc d) b len fits deep = unary_negative (read d) p (ts ++ rest) before e _ (h rest before d b len fits (omega arith))

negated_whole : (p : Place) (n : ℕ) (o : Lexeme) (ts : List Lexeme) (e : RawExpr) (gs : List RawAgg) → negates o ≡ true → Completes level.Unary p n ts e gs → Completes level.Unary p n (o ∷ ts) (raw.Not e) gs
unfolding read
negated_whole p n o ts e gs q h rest before zero b len fits deep = absurd (omega arith)
negated_whole p n o ts e gs q h rest before (suc d) b len fits deep = unary_negated (read d) p o (ts ++ rest) before e _ q (h rest before d b len fits (omega arith))

-- ---- primaries

nothing_more : (e : RawExpr) (rest : List Lexeme) (before : List RawAgg) → up_to e (at rest before) ≡ up_to e (at rest (before ++ []))
nothing_more e rest before = ap (λ z. up_to e (at rest z)) (sym (append-nil before))

constant_whole : (p : Place) (n : ℕ) (t : Lexeme) (e : RawExpr) → literal t ≡ Some e → Completes level.Primary p n (t ∷ []) e []
unfolding read
constant_whole p n t e q rest before zero b len fits deep = absurd (omega arith)
constant_whole p n t e q rest before (suc d) b len fits deep =
    primary_begun (read d) p t rest before e _ (literal_is (read d) p t (at rest before) e q) ∙ nothing_more e rest before

column_whole : (p : Place) (n : ℕ) (ts : List Lexeme) (x : RawRef) → 1 ≤ length ts → SpellsRef ts x → Completes level.Primary p n ts (raw.Ref x) []
unfolding read
column_whole p n ts x some q rest before zero b len fits deep = absurd (omega arith)
column_whole p n ts x some q rest before (suc d) b len fits deep = column_read (read d) q p rest before (omega arith) ∙ nothing_more (raw.Ref x) rest before

closing : (ts rest : List Lexeme) → (ts ++ symbol mark.Close ∷ []) ++ rest ≡ ts ++ symbol mark.Close ∷ rest
closing ts rest = append_assoc ts (symbol mark.Close ∷ []) rest

closed_long : (ts : List Lexeme) → length (ts ++ symbol mark.Close ∷ []) ≡ length ts + 1
closed_long ts = omega (arith, length-append ts (symbol mark.Close ∷ []))

bracketed_whole : (p : Place) (n : ℕ) (ts : List Lexeme) (e : RawExpr) (gs : List RawAgg) → Completes level.Or p n ts e gs
    → Completes level.Primary p n (symbol mark.Open ∷ (ts ++ symbol mark.Close ∷ [])) e gs
unfolding read
bracketed_whole p n ts e gs h rest before zero b len fits deep = let long = closed_long ts in absurd (omega arith)
bracketed_whole p n ts e gs h rest before (suc d) b len fits deep =
    let long = closed_long ts in
    let inside = ap (λ z. read d level.Or p (at z before)) (closing ts rest) ∙ h (symbol mark.Close ∷ rest) before d (omega arith) len fits (omega arith) in
    primary_begun (read d) p (symbol mark.Open) ((ts ++ symbol mark.Close ∷ []) ++ rest) before e _ (bracketed_is (read d) level.Or p _ rest (before ++ gs) e inside)

counted_whole : (n : ℕ) (c : List ℕ) → aggregate c ≡ Some Count
    → Completes level.Primary place.Item n (name c ∷ symbol mark.Open ∷ symbol mark.Star ∷ symbol mark.Close ∷ []) (raw.Agg n) (record { kind = Count; arg = None } ∷ [])
unfolding read
counted_whole n c q rest before zero b len fits deep = absurd (omega arith)
counted_whole n c q rest before (suc d) b len fits deep =
    let ts = symbol mark.Star ∷ symbol mark.Close ∷ rest in
    let agg : RawAgg = record { kind = Count; arg = None } in
    let call = subst (λ z. r.call (read d) place.Item z (at ts before) ≡ up_to (raw.Agg (length before)) (at rest (before ++ agg ∷ []))) (sym q) (rows_star (read d) rest before (omega arith)) in
    primary_begun (read d) place.Item (name c) (symbol mark.Open ∷ ts) before _ _ (named_call (read d) place.Item c ts before _ _ call)
    ∙ ap (λ z. up_to (raw.Agg z) (at rest (before ++ agg ∷ []))) len

aggregated_whole : (n : ℕ) (ts : List Lexeme) (e : RawExpr) (c : List ℕ) (k : AggKind) → aggregate c ≡ Some k → NoStar ts → Completes level.Or place.Plain n ts e []
    → Completes level.Primary place.Item n (name c ∷ symbol mark.Open ∷ (ts ++ symbol mark.Close ∷ [])) (raw.Agg n) (record { kind = k; arg = Some e } ∷ [])
unfolding read
aggregated_whole n ts e c k q star h rest before zero b len fits deep = let long = closed_long ts in absurd (omega arith)
aggregated_whole n ts e c k q star h rest before (suc d) b len fits deep =
    let long = closed_long ts in
    let words = (ts ++ symbol mark.Close ∷ []) ++ rest in
    let agg : RawAgg = record { kind = k; arg = Some e } in
    let inside = ap (λ z. read d level.Or place.Plain (at z before)) (closing ts rest) ∙ h (symbol mark.Close ∷ rest) before d (omega arith) len (omega arith) (omega arith)
    ∙ ap (λ z. up_to e (at (symbol mark.Close ∷ rest) z)) (append-nil before) in
    let argument = argument_is (read d) k (at words before) rest before e (bracketed_is (read d) level.Or place.Plain (at words before) rest before e inside) (omega arith) in
    let no = ap (begins (is_symbol mark.Star)) (closing ts rest) ∙ star (symbol mark.Close ∷ rest) in
    let call = subst (λ z. r.call (read d) place.Item z (at words before) ≡ up_to (raw.Agg (length before)) (at rest (before ++ agg ∷ []))) (sym q)
    (call_argument (read d) k words before _ _ no argument) in
    primary_begun (read d) place.Item (name c) (symbol mark.Open ∷ words) before _ _ (named_call (read d) place.Item c words before _ _ call)
    ∙ ap (λ z. up_to (raw.Agg z) (at rest (before ++ agg ∷ []))) len

-- ---- all of them

only_whole : (l : Level) (p : Place) (n : ℕ) (ts : List Lexeme) (e : RawExpr) (gs : List RawAgg) → groups l ≡ false → Completes l p n ts e gs → Reads l p n ts e gs
only_whole l p n ts e gs apart h = record { whole = h; chained = no_chain l apart }

reads : {l : Level} {p : Place} {n : ℕ} {ts : List Lexeme} {e : RawExpr} {gs : List RawAgg} → Spells l p n ts e gs → Reads l p n ts e gs
reads {l} {p} {n} {ts} {e} {gs} (g.alone d) = alone_reads l p n ts e gs d (reads d)
reads {l} {p} {n} (g.joined {ts = ts} {us = us} {a = a} {b = b} {gs = gs} {hs = hs} o {x = x} gr j d f) =
    let k = joined_chains p n ts us a b gs hs o x (deep d) l gr j ((reads d).chained gr) (reads f).whole in
    record { whole = chain_whole l p n (ts ++ o ∷ us) (raw.Pair x a b) (gs ++ hs) (omega (arith, length-append ts (o ∷ us))) gr k; chained = λ _. k }
reads {l} {p} {n} (g.compared {ts = ts} {us = us} {a = a} {b = b} {gs = gs} {hs = hs} o {x = x} j d f) =
    only_whole level.Compare p n (ts ++ o ∷ us) (raw.Pair x a b) (gs ++ hs) refl (compared_whole p n ts us a b gs hs o x (deep d) j (reads d).whole (reads f).whole)
reads {l} {p} {n} {ts} {e} {gs} (g.negative {ts = us} {e = a} d) = only_whole level.Unary p n (symbol mark.Minus ∷ us) (raw.Neg a) gs refl (negative_whole p n us a gs (reads d).whole)
reads {l} {p} {n} {ts} {e} {gs} (g.negated {ts = us} {e = a} o q d) = only_whole level.Unary p n (o ∷ us) (raw.Not a) gs refl (negated_whole p n o us a gs q (reads d).whole)
reads {l} {p} {n} {ts} {e} (g.constant t q) = only_whole level.Primary p n (t ∷ []) e [] refl (constant_whole p n t e q)
reads {l} {p} {n} {ts} (g.column {r = x} q) = only_whole level.Primary p n ts (raw.Ref x) [] refl (column_whole p n ts x (deep {p = p} {n = n} (g.column q)) q)
reads {l} {p} {n} {ts} {e} {gs} (g.bracketed {ts = us} d) = only_whole level.Primary p n (symbol mark.Open ∷ (us ++ symbol mark.Close ∷ [])) e gs refl (bracketed_whole p n us e gs (reads d).whole)
reads {l} {p} {n} (g.counted c q) = only_whole level.Primary place.Item n _ (raw.Agg n) _ refl (counted_whole n c q)
reads {l} {p} {n} (g.aggregated {ts = us} {e = a} c {k = k} q d) =
    only_whole level.Primary place.Item n _ (raw.Agg n) _ refl (aggregated_whole n us a c k q (no_star d) (reads d).whole)

pub read_complete : {l : Level} {p : Place} {n : ℕ} {ts : List Lexeme} {e : RawExpr} {gs : List RawAgg} → Spells l p n ts e gs → Completes l p n ts e gs
read_complete d = (reads d).whole
