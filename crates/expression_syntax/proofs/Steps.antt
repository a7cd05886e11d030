-- The steps of reading, taken apart.
use Rattle.std.proofs.Common.{◌≡◌, ◌==◌, ℕ, Bool, true, false, List, [], ◌∷◌, Option, Some, None, refl, sym, ap, ◌∙◌, if◌then◌else◌, subst, rules}
use Rattle.std.proofs.lemmas.Bool.{eqb-true}
use denote.Enum.Bare.{same_true}
use Rattle.script_trees.specs.declared.op.PairOp.{PairOp}
use Rattle.script_trees.specs.declared.raw_agg.RawAgg.{RawAgg}
use Rattle.expression_syntax.specs.declared.keyword.Keyword.{Keyword}
use Rattle.expression_syntax.specs.declared.symbol.Symbol.{Symbol}
use Rattle.expression_syntax.specs.contracts.symbol.Symbol as of_symbol
use Rattle.expression_syntax.specs.contracts.keyword.Keyword as of_keyword
use Rattle.expression_syntax.specs.declared.level.Level.{Level}
use Rattle.expression_syntax.specs.declared.level.Level.TheVariants as level
use Rattle.expression_syntax.specs.Lexemes.{Lexeme, keyword, symbol, name, number, text, is_symbol, is_keyword}
use Rattle.expression_syntax.specs.Expressions.{joins}
use Rattle.expression_syntax.specs.Reading.{Cursor, Parser, and_then, begins, eat, expect, past, take_from, take_one}
use Rattle.expression_syntax.specs.ReadExpressions.{after_operator, if_of, operator, rank, take_operator}

-- ---- one step and then another

pub record Twice {A B : Type 0} (r : Option (A × Cursor)) (f : A → Parser B) (y : B) (d : Cursor) : Type 0 where
  pub value : A
  pub between : Cursor
  pub first : r ≡ Some (value, between)
  pub second : f value between ≡ Some (y, d)

pub twice : {A B : Type 0} (r : Option (A × Cursor)) (f : A → Parser B) (y : B) (d : Cursor) → and_then r f ≡ Some (y, d) → Twice r f y d
twice None f y d h = absurd (cc)
twice (Some p) f y d h = record { value = p.0; between = p.1; first = refl; second = h }

-- something was found, up to a place
abbrev pub up_to : {A : Type 0} → A → Cursor → Option (A × Cursor)
up_to a c = Some (a, c)

some_inside : {X : Type 0} {x y : X} → Some x ≡ Some y → x ≡ y
some_inside h = cc

-- the same was found, up to the same place
pub record Same {A : Type 0} (a b : A) (c d : Cursor) : Type 0 where
  pub value : a ≡ b
  pub place : c ≡ d

pub some_same : {A : Type 0} {a b : A} {c d : Cursor} → up_to a c ≡ up_to b d → Same a b c d
some_same {A} h = let e = some_inside h in record { value = ap (λ (q : A × Cursor). q.0) e; place = ap (λ (q : A × Cursor). q.1) e }

-- ---- the first lexeme

-- a lexeme was taken
pub record Takes (t : Lexeme) (old new : Cursor) : Type 0 where
  pub rest_is : old.rest ≡ t ∷ new.rest
  pub aggs_are : new.aggs ≡ old.aggs

take_from_takes : (ts : List Lexeme) (gs : List RawAgg) (t : Lexeme) (d : Cursor) → take_from ts gs ≡ Some (t, d) → Takes t (record { rest = ts; aggs = gs }) d
take_from_takes [] gs t d h = absurd (cc)
take_from_takes (u ∷ ts) gs t d h = let e = some_same h in let v = e.value in let r = ap (λ (q : Cursor). q.rest) e.place in record { rest_is = cc; aggs_are = sym (ap (λ (q : Cursor). q.aggs) e.place) }

pub take_takes : (c : Cursor) (t : Lexeme) (d : Cursor) → take_one c ≡ Some (t, d) → Takes t c d
unfolding take_one
take_takes c t d h = take_from_takes c.rest c.aggs t d h

-- the first passes a test
pub record Begins (p : Lexeme → Bool) (old new : Cursor) : Type 0 where
  pub first : Lexeme
  pub takes : Takes first old new
  pub passes : p first ≡ true

begun_by : (p : Lexeme → Bool) (ts : List Lexeme) (gs : List RawAgg) → begins p ts ≡ true → Begins p (record { rest = ts; aggs = gs }) (past (record { rest = ts; aggs = gs }))
begun_by p [] gs h = absurd (cc)
begun_by p (t ∷ ts) gs h = record { first = t; takes = record { rest_is = refl; aggs_are = refl }; passes = h }

eat_by : (p : Lexeme → Bool) (c : Cursor) (b : Bool) → begins p c.rest ≡ b → (d : Cursor) → (if b then up_to true (past c) else up_to false c) ≡ up_to true d → Begins p c d
eat_by p c true h d e = subst (λ x. Begins p c x) (some_same e).place (begun_by p c.rest c.aggs h)
eat_by p c false h d e = absurd (let v = (some_same e).value in cc)

pub eat_true : (p : Lexeme → Bool) (c d : Cursor) → eat p c ≡ Some (true, d) → Begins p c d
unfolding eat
eat_true p c d h = eat_by p c (begins p c.rest) refl d h

not_eaten : (p : Lexeme → Bool) (c : Cursor) (b : Bool) → (d : Cursor) → (if b then up_to true (past c) else up_to false c) ≡ up_to false d → c ≡ d
not_eaten p c true d e = absurd (let v = (some_same e).value in cc)
not_eaten p c false d e = (some_same e).place

pub eat_false : (p : Lexeme → Bool) (c d : Cursor) → eat p c ≡ Some (false, d) → c ≡ d
unfolding eat
eat_false p c d h = not_eaten p c (begins p c.rest) d h

not_begun : (p : Lexeme → Bool) (c : Cursor) (b : Bool) → begins p c.rest ≡ b → (d : Cursor) → (if b then up_to true (past c) else up_to false c) ≡ up_to false d → begins p c.rest ≡ false
not_begun p c true h d e = absurd (let v = (some_same e).value in cc)
not_begun p c false h d e = h

-- the first didn't pass the test
pub eat_not : (p : Lexeme → Bool) (c d : Cursor) → eat p c ≡ Some (false, d) → begins p c.rest ≡ false
unfolding eat
eat_not p c d h = not_begun p c (begins p c.rest) refl d h

expected : (p : Lexeme → Bool) (c : Cursor) (b : Bool) → begins p c.rest ≡ b → (d : Cursor) (u : Unit {0}) → (if b then up_to tt (past c) else None) ≡ up_to u d → Begins p c d
expected p c true h d u e = subst (λ x. Begins p c x) (some_same e).place (begun_by p c.rest c.aggs h)
expected p c false h d u e = absurd (cc)

pub expect_begins : (p : Lexeme → Bool) (c d : Cursor) (u : Unit {0}) → expect p c ≡ Some (u, d) → Begins p c d
unfolding expect
expect_begins p c d u h = expected p c (begins p c.rest) refl d u h

-- ---- which lexeme a test tells

pub symbol_true : (s : Symbol) (t : Lexeme) → is_symbol s t ≡ true → t ≡ symbol s
symbol_true s (symbol t) h = ap symbol (same_true of_symbol.the_type (search rules) t s h)
symbol_true s (keyword k) h = absurd (cc)
symbol_true s (name b) h = absurd (cc)
symbol_true s (number b n) h = absurd (cc)
symbol_true s (text b) h = absurd (cc)

pub keyword_true : (w : Keyword) (t : Lexeme) → is_keyword w t ≡ true → t ≡ keyword w
keyword_true w (keyword k) h = ap keyword (same_true of_keyword.the_type (search rules) k w h)
keyword_true w (symbol s) h = absurd (cc)
keyword_true w (name b) h = absurd (cc)
keyword_true w (number b n) h = absurd (cc)
keyword_true w (text b) h = absurd (cc)

-- ---- operators

level_at : ℕ → Level
level_at n =
    if n == 1 then level.Or else (if n == 2 then level.And else (if n == 3 then level.Compare
    else (if n == 4 then level.Sum else (if n == 5 then level.Product else (if n == 6 then level.Unary else level.Primary)))))

level_back : (l : Level) → level_at (rank l) ≡ l
unfolding level_at
level_back level.Or = refl
level_back level.And = refl
level_back level.Compare = refl
level_back level.Sum = refl
level_back level.Product = refl
level_back level.Unary = refl
level_back level.Primary = refl

pub rank_same : (l m : Level) → rank l ≡ rank m → l ≡ m
rank_same l m h = sym (level_back l) ∙ ap level_at h ∙ level_back m

-- an operator and its level
abbrev pub joint : Level → PairOp → Option (Level × PairOp)
joint l x = Some (l, x)

if_same : (l m : Level) (y x : PairOp) (b : Bool) → rank m == rank l ≡ b → (if b then Some y else None) ≡ Some x → joint m y ≡ joint l x
if_same l m y x true b h = let e : m ≡ l = rank_same m l (eqb-true _ _ b) in let f : y ≡ x = cc in cc
if_same l m y x false b h = absurd (cc)

pub if_of_some : (l : Level) (j : Option (Level × PairOp)) (x : PairOp) → if_of l j ≡ Some x → j ≡ joint l x
if_of_some l None x h = absurd (cc)
if_of_some l (Some j) x h = if_same l j.0 j.1 x (rank j.0 == rank l) refl h

-- an operator of the level was taken
pub record Operates (l : Level) (x : PairOp) (old new : Cursor) : Type 0 where
  pub sign : Lexeme
  pub takes : Takes sign old new
  pub joins_by : joins sign ≡ Some (l, x)

operates : (l : Level) (ts : List Lexeme) (gs : List RawAgg) (x : PairOp) → operator l ts ≡ Some x → Operates l x (record { rest = ts; aggs = gs }) (past (record { rest = ts; aggs = gs }))
operates l [] gs x h = absurd (cc)
operates l (t ∷ ts) gs x h = record { sign = t; takes = record { rest_is = refl; aggs_are = refl }; joins_by = if_of_some l (joins t) x h }

taken_by : (l : Level) (c : Cursor) (o : Option PairOp) → operator l c.rest ≡ o → (x : PairOp) (d : Cursor) → after_operator o c ≡ Some (Some x, d) → Operates l x c d
taken_by l c None h x d e = absurd (let v = (some_same e).value in cc)
taken_by l c (Some y) h x d e =
    let q = some_same e in subst (λ r. Operates l x c r) q.place (operates l c.rest c.aggs x (h ∙ q.value))

pub operator_taken : (l : Level) (x : PairOp) (c d : Cursor) → take_operator l c ≡ Some (Some x, d) → Operates l x c d
unfolding take_operator
operator_taken l x c d h = taken_by l c (operator l c.rest) refl x d h

not_taken : (c : Cursor) (o : Option PairOp) (d : Cursor) → after_operator o c ≡ Some (None, d) → c ≡ d
not_taken c None d e = (some_same e).place
not_taken c (Some y) d e = absurd (let v = (some_same e).value in cc)

pub operator_left : (l : Level) (c d : Cursor) → take_operator l c ≡ Some (None, d) → c ≡ d
unfolding take_operator
operator_left l c d h = not_taken c (operator l c.rest) d h
