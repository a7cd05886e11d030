-- Reading answers by the grammar of expressions: what is read is spelled, and what is spelled is read.
use Rattle.std.proofs.Common.{◌≡◌, ◌+◌, ◌-◌, ◌≤◌, ◌<◌, ◌^◌, ℕ, zero, suc, Bool, true, false, List, [], ◌∷◌, ◌++◌, length, take, drop, None, min, refl, sym, ap, ◌∙◌, arith, subst, append_assoc, append-nil, length-append, if◌then◌else◌, nat_le}
use Rattle.std.proofs.lemmas.List.{take-append-drop, length-take}
use Rattle.std.proofs.Math.Seq.{drop-append_seam, take-append-add}
use Rattle.script_trees.specs.declared.raw.RawExpr.{RawExpr}
use Rattle.script_trees.specs.declared.raw.RawRef.{RawRef}
use Rattle.script_trees.specs.declared.raw_agg.RawAgg.{RawAgg}
use Rattle.expression_syntax.specs.declared.level.Level.TheVariants as level
use Rattle.expression_syntax.specs.declared.level.Place.{Place}
use Rattle.expression_syntax.specs.declared.level.Place.TheVariants as place
use Rattle.expression_syntax.specs.Lexemes.{Lexeme}
use Rattle.expression_syntax.specs.Expressions as g
use Rattle.expression_syntax.specs.Expressions.{Spells, SpellsExpr, SpellsRef, max_expression}
use Rattle.expression_syntax.specs.Reading.{Cursor, ◌>>=◌, take_name}
use Rattle.expression_syntax.specs.ReadExpressions.{column, max_depth, narrowed, read, whole, widen}
use Rattle.expression_syntax.proofs.Follow.{bound}
use Rattle.expression_syntax.proofs.Forward.{at, column_aliased, column_bare, name_known}
use Rattle.expression_syntax.proofs.Small.{none_plain, renumbered, sized}
use Rattle.expression_syntax.proofs.Sound.{TookRef, column_sound, take_name_takes}
use Rattle.expression_syntax.proofs.SoundLevels.{read_sound}
use Rattle.expression_syntax.proofs.Complete.{read_complete}
use Rattle.expression_syntax.proofs.Steps.{some_same, twice, up_to}

-- ---- columns

pub ref_sound : (c d : Cursor) (r : RawRef) → (take_name >>= column) c ≡ up_to r d → TookRef r c d
ref_sound c d r h =
    let w = twice (take_name c) _ r d h in column_sound w.value c w.between d r (take_name_takes c w.value w.between w.first) w.second

-- what follows isn't a dot
pub ref_complete : {ts : List Lexeme} {r : RawRef} → SpellsRef ts r → (rest : List Lexeme) (gs : List RawAgg) → bound rest < 8
    → (take_name >>= column) (at (ts ++ rest) gs) ≡ up_to r (at rest gs)
ref_complete (g.bare {c = c}) rest gs b = rw (name_known c rest gs) (column_bare c rest gs b)
ref_complete (g.aliased {a = a} {c = c}) rest gs b = rw (name_known a _ gs) (column_aliased a c rest gs)

-- ---- expressions, where they are short enough

-- an expression was read from one place to another
pub record TookExpr (p : Place) (e : RawExpr) (old new : Cursor) : Type 0 where
  pub words : List Lexeme
  pub found : List RawAgg
  pub rest_is : old.rest ≡ words ++ new.rest
  pub aggs_are : new.aggs ≡ old.aggs ++ found
  pub spelled : SpellsExpr p (length old.aggs) words e found

-- outside of items an expression has no aggregates
pub plain_none : {n : ℕ} {ts : List Lexeme} {e : RawExpr} {gs : List RawAgg} → SpellsExpr place.Plain n ts e gs → gs ≡ []
plain_none h = none_plain h.spelled

-- an expression has no more aggregates than lexemes
pub aggregates_few : {p : Place} {n : ℕ} {ts : List Lexeme} {e : RawExpr} {gs : List RawAgg} → SpellsExpr p n ts e gs → length gs ≤ length ts
aggregates_few h = let s = sized h.spelled in s.few

-- an expression isn't empty
pub expr_some : {p : Place} {n : ℕ} {ts : List Lexeme} {e : RawExpr} {gs : List RawAgg} → SpellsExpr p n ts e gs → 0 < length ts
expr_some h = let s = sized h.spelled in s.some

-- the reading went on behind what was read
record Widened (all : List Lexeme) (old new : Cursor) : Type 0 where
  short : min (length all) 201 - length old.rest ≤ 200
  rest_is : new.rest ≡ drop (min (length all) 201 - length old.rest) all
  aggs_are : new.aggs ≡ old.aggs

widened_by : (all : List Lexeme) (c d : Cursor) (u : Unit {0}) (n : ℕ) (b : Bool) → n ≡ min (length all) 201 - length c.rest → nat_le n 200 ≡ b
    → (if b then up_to tt (record c { rest = drop n all }) else None) ≡ up_to u d → Widened all c d
widened_by all c d u n true m q h =
    let s = some_same h in
    let le : n ≤ 200 = grind arith in
    record { short = omega arith; rest_is = sym (ap (λ (k : Cursor). k.rest) s.place) ∙ ap (λ k. drop k all) m; aggs_are = sym (ap (λ (k : Cursor). k.aggs) s.place) }
widened_by all c d u n false m q h = absurd (cc)

widened : (all : List Lexeme) (c d : Cursor) (u : Unit {0}) → widen all c ≡ up_to u d → Widened all c d
unfolding widen
widened all c d u h = widened_by all c d u (min (length all) 201 - length c.rest) (nat_le (min (length all) 201 - length c.rest) 200) refl refl h

-- what was read of the front is read of all
front_read : (all words left : List Lexeme) → take 201 all ≡ words ++ left → all ≡ words ++ drop (min (length all) 201 - length left) all
front_read all words left h =
    let behind = drop 201 all in
    let e = sym (take-append-drop 201 all) ∙ ap (λ z. z ++ behind) h ∙ append_assoc words left behind in
    let count : min (length all) 201 - length left ≡ length words = omega (arith, ap length h, length-take 201 all, length-append words left) in
    let d = ap (λ k. drop k all) count ∙ ap (drop (length words)) e ∙ drop-append_seam words (left ++ behind) in
    e ∙ ap (λ z. words ++ z) (sym d)

pub expr_sound : (p : Place) (c d : Cursor) (e : RawExpr) → whole p c ≡ up_to e d → TookExpr p e c d
unfolding whole narrowed
expr_sound p c d e h =
    let w = twice (read max_depth level.Or p (narrowed c)) _ e d h in
    let t = read_sound max_depth level.Or p (narrowed c) w.between w.value w.first in
    let v = twice (widen c.rest w.between) _ e d w.second in
    let x = widened c.rest w.between v.between v.value v.first in
    let s = some_same v.second in
    let front = ap length t.rest_is in
    record {
      words = t.words;
      found = t.found;
      rest_is = front_read c.rest t.words w.between.rest t.rest_is ∙ ap (λ z. t.words ++ z) (sym x.rest_is ∙ ap (λ (k : Cursor). k.rest) s.place);
      aggs_are = sym (ap (λ (k : Cursor). k.aggs) s.place) ∙ x.aggs_are ∙ t.aggs_are;
      spelled = record {
        short = omega (arith, front, x.short, length-take 201 c.rest, length-append t.words w.between.rest);
        spelled = subst (λ z. Spells level.Or p (length c.aggs) t.words z t.found) s.value t.spelled;
      };
    }

widen_is : (all left rest : List Lexeme) (gs : List RawAgg) (n : ℕ) → min (length all) 201 - length left ≡ n → n ≤ 200 → drop n all ≡ rest
    → widen all (at left gs) ≡ up_to tt (at rest gs)
unfolding widen
widen_is all left rest gs n e le d = let t : nat_le n 200 ≡ true = grind arith in rw (e, t, d) refl

bound_take : (k : ℕ) (ts : List Lexeme) → 1 ≤ k → bound (take k ts) ≡ bound ts
bound_take zero ts h = absurd (omega arith)
bound_take (suc k) [] h = refl
bound_take (suc k) (t ∷ ts) h = refl

-- one more lexeme is seen than an expression may have, so what follows is seen
whole_is : (p : Place) (ts rest : List Lexeme) (before after : List RawAgg) (e : RawExpr) → length ts ≤ 200
    → read max_depth level.Or p (at (ts ++ take (201 - length ts) rest) before) ≡ up_to e (at (take (201 - length ts) rest) after)
    → whole p (at (ts ++ rest) before) ≡ up_to e (at rest after)
unfolding whole narrowed
whole_is p ts rest before after e short h =
    let k : 201 ≡ length ts + (201 - length ts) = omega arith in
    let seen = ap (λ n. take n (ts ++ rest)) k ∙ take-append-add ts rest (201 - length ts) in
    let run = ap (λ z. read max_depth level.Or p (at z before)) seen ∙ h in
    let count : min (length (ts ++ rest)) 201 - length (take (201 - length ts) rest) ≡ length ts = omega (arith, length-append ts rest, length-take (201 - length ts) rest) in
    rw (run, widen_is (ts ++ rest) (take (201 - length ts) rest) rest after (length ts) count short (drop-append_seam ts rest)) refl

-- an item's expression, behind aggregates of as many as its own are numbered from
pub expr_complete : {n : ℕ} {ts : List Lexeme} {e : RawExpr} {gs : List RawAgg} → SpellsExpr place.Item n ts e gs
    → (rest : List Lexeme) (before : List RawAgg) → bound rest ≡ 0 → length before ≡ n → n + length gs ≤ 2 ^ 32
    → whole place.Item (at (ts ++ rest) before) ≡ up_to e (at rest (before ++ gs))
expr_complete {n} {ts} {e} {gs} h rest before b l few =
    let short = h.short in
    let seen = bound_take (201 - length ts) rest (omega arith) in
    whole_is place.Item ts rest before (before ++ gs) e short (read_complete h.spelled (take (201 - length ts) rest) before max_depth (omega arith) l few (omega arith))

-- any other, behind whatever aggregates
pub plain_complete : {n : ℕ} {ts : List Lexeme} {e : RawExpr} → SpellsExpr place.Plain n ts e []
    → (rest : List Lexeme) (before : List RawAgg) → bound rest ≡ 0 → length before ≤ 2 ^ 32 → whole place.Plain (at (ts ++ rest) before) ≡ up_to e (at rest before)
plain_complete {n} {ts} {e} h rest before b few =
    let short = h.short in
    let seen = bound_take (201 - length ts) rest (omega arith) in
    let run = read_complete (renumbered h.spelled (length before)) (take (201 - length ts) rest) before max_depth (omega arith) refl (omega arith) (omega arith) in
    whole_is place.Plain ts rest before before e short (run ∙ ap (λ z. up_to e (at (take (201 - length ts) rest) z)) (append-nil before))
