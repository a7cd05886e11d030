-- The steps of reading at lexemes that are known.
use Rattle.std.proofs.Common.{◌≡◌, ◌≤◌, ◌<◌, ◌^◌, ◌==◌, ℕ, Bool, true, false, List, [], ◌∷◌, ◌++◌, length, Option, Some, None, refl, ap, ◌∙◌, arith, if◌then◌else◌, nat_lt}
use Rattle.std.proofs.lemmas.Bool.{eqb-true}
use Rattle.script_trees.specs.declared.op.PairOp.{PairOp}
use Rattle.script_trees.specs.declared.raw.RawExpr.{RawExpr}
use Rattle.script_trees.specs.declared.raw.RawExpr.TheVariants as raw
use Rattle.script_trees.specs.declared.raw.RawRef.{RawRef}
use Rattle.script_trees.specs.declared.raw_agg.RawAgg.{RawAgg}
use Rattle.expression_syntax.specs.declared.keyword.Keyword.TheVariants as word
use Rattle.expression_syntax.specs.declared.symbol.Symbol.TheVariants as mark
use Rattle.expression_syntax.specs.declared.level.Level.{Level}
use Rattle.expression_syntax.specs.Lexemes.{Lexeme, keyword, symbol, name, is_symbol}
use Rattle.expression_syntax.specs.Expressions.{joins, literal, negates}
use Rattle.expression_syntax.specs.Reading.{Cursor, begins, eat, expect, take_name, take_one}
use Rattle.expression_syntax.specs.ReadExpressions as r
use Rattle.expression_syntax.specs.ReadExpressions.{if_of, operator, rank, take_operator}
use Rattle.expression_syntax.proofs.Follow.{binds, bound, rank_of}
use Rattle.expression_syntax.proofs.Steps.{joint, up_to}

-- the place before these lexemes, with these aggregates so far
abbrev pub at : List Lexeme → List RawAgg → Cursor
at ts gs = record { rest = ts; aggs = gs }

pub take_known : (t : Lexeme) (ts : List Lexeme) (gs : List RawAgg) → take_one (at (t ∷ ts) gs) ≡ up_to t (at ts gs)
unfolding take_one
take_known t ts gs = refl

pub name_known : (w : List ℕ) (ts : List Lexeme) (gs : List RawAgg) → take_name (at (name w ∷ ts) gs) ≡ up_to w (at ts gs)
unfolding take_name take_one
name_known w ts gs = refl

pub eat_yes : (p : Lexeme → Bool) (t : Lexeme) (ts : List Lexeme) (gs : List RawAgg) → p t ≡ true → eat p (at (t ∷ ts) gs) ≡ up_to true (at ts gs)
unfolding eat
eat_yes p t ts gs h = rw h refl

pub eat_no : (p : Lexeme → Bool) (ts : List Lexeme) (gs : List RawAgg) → begins p ts ≡ false → eat p (at ts gs) ≡ up_to false (at ts gs)
unfolding eat
eat_no p ts gs h = rw h refl

pub expect_yes : (p : Lexeme → Bool) (t : Lexeme) (ts : List Lexeme) (gs : List RawAgg) → p t ≡ true → expect p (at (t ∷ ts) gs) ≡ up_to tt (at ts gs)
unfolding expect
expect_yes p t ts gs h = rw h refl

-- ---- what may follow

ranked : (t : Lexeme) → rank_of (joins t) ≤ binds t
ranked (symbol mark.Dot) = omega arith
ranked (symbol mark.Open) = omega arith
ranked t = omega arith

pub joins_binds : (t : Lexeme) (l : Level) (x : PairOp) → joins t ≡ joint l x → binds t ≡ rank l
joins_binds (symbol mark.Dot) l x h = absurd (cc)
joins_binds (symbol mark.Open) l x h = absurd (cc)
joins_binds t l x h = ap rank_of h

pub no_dot : (ts : List Lexeme) → bound ts < 8 → begins (is_symbol mark.Dot) ts ≡ false
no_dot [] h = refl
no_dot (symbol mark.Dot ∷ ts) h = absurd (omega arith)
no_dot (t ∷ ts) h = refl

pub no_open : (ts : List Lexeme) → bound ts < 8 → begins (is_symbol mark.Open) ts ≡ false
no_open [] h = refl
no_open (symbol mark.Open ∷ ts) h = absurd (omega arith)
no_open (t ∷ ts) h = refl

if_other : (l m : Level) (x : PairOp) (b : Bool) → rank m == rank l ≡ b → rank m < rank l → (if b then Some x else None) ≡ None
if_other l m x true b h = let e = eqb-true _ _ b in absurd (omega arith)
if_other l m x false b h = refl

if_none : (l : Level) (j : Option (Level × PairOp)) → rank_of j < rank l → if_of l j ≡ None
if_none l None h = refl
if_none l (Some j) h = if_other l j.0 j.1 (rank j.0 == rank l) refl h

no_operator : (l : Level) (ts : List Lexeme) → bound ts < rank l → operator l ts ≡ None
no_operator l [] h = refl
no_operator l (t ∷ ts) h = if_none l (joins t) (let e = ranked t in omega arith)

pub operator_no : (l : Level) (ts : List Lexeme) (gs : List RawAgg) → bound ts < rank l → take_operator l (at ts gs) ≡ up_to None (at ts gs)
unfolding take_operator
operator_no l ts gs h = rw (no_operator l ts h) refl

self_same : (l : Level) (x : PairOp) (b : Bool) → rank l == rank l ≡ b → (if b then Some x else None) ≡ Some x
self_same l x true b = refl
self_same l x false b = absurd (grind arith)

if_self : (l : Level) (x : PairOp) → if_of l (joint l x) ≡ Some x
if_self l x = self_same l x (rank l == rank l) refl

pub operator_yes : (l : Level) (x : PairOp) (o : Lexeme) (ts : List Lexeme) (gs : List RawAgg) → joins o ≡ joint l x → take_operator l (at (o ∷ ts) gs) ≡ up_to (Some x) (at ts gs)
unfolding take_operator
operator_yes l x o ts gs h = let e : operator l (o ∷ ts) ≡ Some x = ap (if_of l) h ∙ if_self l x in rw e refl

-- ---- columns, aggregates, literals

pub push_yes : (a : RawAgg) (ts : List Lexeme) (gs : List RawAgg) → length gs < 2 ^ 32 → r.push a (at ts gs) ≡ up_to (raw.Agg (length gs)) (at ts (gs ++ a ∷ []))
unfolding r.push
push_yes a ts gs h = let e : nat_lt (length gs) (2 ^ 32) ≡ true = grind arith in rw e refl

pub column_bare : (w : List ℕ) (rest : List Lexeme) (gs : List RawAgg) → bound rest < 8
    → r.column w (at rest gs) ≡ up_to (let x : RawRef = record { alias = None; name = w } in x) (at rest gs)
unfolding r.column
column_bare w rest gs h = rw (eat_no (is_symbol mark.Dot) rest gs (no_dot rest h)) refl

pub column_aliased : (a w : List ℕ) (rest : List Lexeme) (gs : List RawAgg)
    → r.column a (at (symbol mark.Dot ∷ name w ∷ rest) gs) ≡ up_to (let x : RawRef = record { alias = Some a; name = w } in x) (at rest gs)
unfolding r.column
column_aliased a w rest gs = rw (eat_yes (is_symbol mark.Dot) (symbol mark.Dot) (name w ∷ rest) gs refl, name_known w rest gs) refl

-- a literal begins neither with a minus nor with a negation
pub literal_signs : (t : Lexeme) (e : RawExpr) → literal t ≡ Some e → (is_symbol mark.Minus t ≡ false) × (negates t ≡ false)
literal_signs (symbol s) e h = absurd (cc)
literal_signs (keyword word.Not) e h = absurd (cc)
literal_signs t e h = (refl, refl)

pub literal_star : (t : Lexeme) (e : RawExpr) → literal t ≡ Some e → is_symbol mark.Star t ≡ false
literal_star (symbol s) e h = absurd (cc)
literal_star t e h = refl
