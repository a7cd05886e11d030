-- What is read of an expression is spelled, level by level.
use Rattle.std.proofs.Common.{◌≡◌, ◌+◌, ◌^◌, ℕ, zero, suc, Bool, true, false, List, [], ◌∷◌, ◌++◌, length, Option, Some, None, refl, sym, ap, ◌∙◌, subst, append_assoc, append-nil, length-append, if◌then◌else◌, nat_lt}
use Rattle.script_trees.specs.declared.agg.AggKind.{AggKind}
use Rattle.script_trees.specs.declared.agg.AggKind.TheVariants.{Count}
use Rattle.script_trees.specs.declared.op.PairOp.{PairOp}
use Rattle.script_trees.specs.declared.raw.RawExpr.{RawExpr}
use Rattle.script_trees.specs.declared.raw.RawExpr.TheVariants as raw
use Rattle.script_trees.specs.declared.raw.RawRef.{RawRef}
use Rattle.script_trees.specs.declared.raw_agg.RawAgg.{RawAgg}
use Rattle.expression_syntax.specs.declared.symbol.Symbol.TheVariants as mark
use Rattle.expression_syntax.specs.declared.level.Level.{Level}
use Rattle.expression_syntax.specs.declared.level.Level.TheVariants as level
use Rattle.expression_syntax.specs.declared.level.Place.{Place}
use Rattle.expression_syntax.specs.declared.level.Place.TheVariants as place
use Rattle.expression_syntax.specs.Lexemes.{Lexeme, symbol, name, is_symbol}
use Rattle.expression_syntax.specs.Expressions as g
use Rattle.expression_syntax.specs.Expressions.{Spells, SpellsRef, aggregate, groups, joins, literal, negates, tighter}
use Rattle.expression_syntax.specs.Reading.{Cursor, Parser, eat, expect, take_one}
use Rattle.expression_syntax.specs.ReadExpressions as r
use Rattle.expression_syntax.specs.ReadExpressions.{read, take_operator}
use Rattle.expression_syntax.proofs.Small.{none_plain}
use Rattle.expression_syntax.proofs.Sound.{TookRef, column_sound}
use Rattle.expression_syntax.proofs.Steps.{Begins, Operates, Same, Takes, eat_false, eat_true, expect_begins, operator_left, operator_taken, some_same, symbol_true, take_takes, twice, up_to}

-- an expression of a level was read from one place to another
pub record Took (l : Level) (p : Place) (e : RawExpr) (old new : Cursor) : Type 0 where
  pub words : List Lexeme
  pub found : List RawAgg
  pub rest_is : old.rest ≡ words ++ new.rest
  pub aggs_are : new.aggs ≡ old.aggs ++ found
  pub spelled : Spells l p (length old.aggs) words e found

-- reading of any level takes what is spelled
abbrev pub IsSound : (Level → Place → Parser RawExpr) → Type 0
IsSound inner = (l : Level) (p : Place) (c d : Cursor) (e : RawExpr) → inner l p c ≡ up_to e d → Took l p e c d

moved : {l : Level} {p : Place} {a e : RawExpr} {c0 c d : Cursor} → Took l p a c0 c → Same a e c d → Took l p e c0 d
moved {l} {p} {a} {e} {c0} {c} {d} t s = subst (λ k. Took l p e c0 k) s.place (subst (λ x. Took l p x c0 c) s.value t)

from_same : {l : Level} {p : Place} {e : RawExpr} {c0 c d : Cursor} → c0 ≡ c → Took l p e c d → Took l p e c0 d
from_same {l} {p} {e} {c0} {c} {d} s t = subst (λ k. Took l p e k d) (sym s) t

looser : (l : Level) {p : Place} {e : RawExpr} {c d : Cursor} → Took (tighter l) p e c d → Took l p e c d
looser l t = record { words = t.words; found = t.found; rest_is = t.rest_is; aggs_are = t.aggs_are; spelled = g.alone t.spelled }

-- ---- two operands

pair_rest : {A : Type 0} (ts us : List A) (o : A) (a b c d : List A) → a ≡ ts ++ b → b ≡ o ∷ c → c ≡ us ++ d → a ≡ (ts ++ o ∷ us) ++ d
pair_rest ts us o a b c d h i j = h ∙ ap (λ z. ts ++ z) (i ∙ ap (λ z. o ∷ z) j) ∙ sym (append_assoc ts (o ∷ us) d)

pair_aggs : {A : Type 0} (gs hs a b c d : List A) → b ≡ a ++ gs → c ≡ b → d ≡ c ++ hs → d ≡ a ++ (gs ++ hs)
pair_aggs gs hs a b c d h i j = j ∙ ap (λ z. z ++ hs) (i ∙ h) ∙ append_assoc a gs hs

pair_count : {A : Type 0} (gs a b c : List A) → b ≡ a ++ gs → c ≡ b → length c ≡ length a + length gs
pair_count gs a b c h i = ap length (i ∙ h) ∙ length-append a gs

joined_took : (l : Level) (p : Place) (a b : RawExpr) (x : PairOp) (c0 c1 c2 c3 : Cursor) → groups l ≡ true
    → Took l p a c0 c1 → Operates l x c1 c2 → Took (tighter l) p b c2 c3 → Took l p (raw.Pair x a b) c0 c3
joined_took l p a b x c0 c1 c2 c3 gr t o u = record {
  words = t.words ++ o.sign ∷ u.words;
  found = t.found ++ u.found;
  rest_is = pair_rest t.words u.words o.sign c0.rest c1.rest c2.rest c3.rest t.rest_is o.takes.rest_is u.rest_is;
  aggs_are = pair_aggs t.found u.found c0.aggs c1.aggs c2.aggs c3.aggs t.aggs_are o.takes.aggs_are u.aggs_are;
  spelled = g.joined o.sign gr o.joins_by t.spelled (subst (λ n. Spells (tighter l) p n u.words b u.found) (pair_count t.found c0.aggs c1.aggs c2.aggs t.aggs_are o.takes.aggs_are) u.spelled);
}

compared_took : (p : Place) (a b : RawExpr) (x : PairOp) (c0 c1 c2 c3 : Cursor)
    → Took level.Sum p a c0 c1 → Operates level.Compare x c1 c2 → Took level.Sum p b c2 c3 → Took level.Compare p (raw.Pair x a b) c0 c3
compared_took p a b x c0 c1 c2 c3 t o u = record {
  words = t.words ++ o.sign ∷ u.words;
  found = t.found ++ u.found;
  rest_is = pair_rest t.words u.words o.sign c0.rest c1.rest c2.rest c3.rest t.rest_is o.takes.rest_is u.rest_is;
  aggs_are = pair_aggs t.found u.found c0.aggs c1.aggs c2.aggs c3.aggs t.aggs_are o.takes.aggs_are u.aggs_are;
  spelled = g.compared o.sign o.joins_by t.spelled (subst (λ n. Spells level.Sum p n u.words b u.found) (pair_count t.found c0.aggs c1.aggs c2.aggs t.aggs_are o.takes.aggs_are) u.spelled);
}

-- ---- an aggregate that is added

pub record Pushed (a : RawAgg) (e : RawExpr) (old new : Cursor) : Type 0 where
  pub numbered : raw.Agg (length old.aggs) ≡ e
  pub rest_is : old.rest ≡ new.rest
  pub aggs_are : new.aggs ≡ old.aggs ++ a ∷ []

pushed_by : (b : Bool) (a : RawAgg) (c d : Cursor) (e : RawExpr)
    → (if b then up_to (raw.Agg (length c.aggs)) (record c { aggs = c.aggs ++ a ∷ [] }) else None) ≡ up_to e d → Pushed a e c d
pushed_by true a c d e h =
    let s = some_same h in
    record { numbered = s.value; rest_is = ap (λ (k : Cursor). k.rest) s.place; aggs_are = sym (ap (λ (k : Cursor). k.aggs) s.place) }
pushed_by false a c d e h = absurd (cc)

push_sound : (a : RawAgg) (c d : Cursor) (e : RawExpr) → r.push a c ≡ up_to e d → Pushed a e c d
unfolding r.push
push_sound a c d e h = pushed_by (nat_lt (length c.aggs) (2 ^ 32)) a c d e h

-- ---- what stands between brackets

record Closed (l : Level) (p : Place) (e : RawExpr) (old new : Cursor) : Type 0 where
  words : List Lexeme
  found : List RawAgg
  rest_is : old.rest ≡ words ++ symbol mark.Close ∷ new.rest
  aggs_are : new.aggs ≡ old.aggs ++ found
  spelled : Spells l p (length old.aggs) words e found

in_brackets : {A : Type 0} (o x : A) (ts a b d : List A) → a ≡ o ∷ b → b ≡ ts ++ x ∷ d → a ≡ (o ∷ (ts ++ x ∷ [])) ++ d
in_brackets o x ts a b d h i = h ∙ ap (λ z. o ∷ z) (i ∙ sym (append_assoc ts (x ∷ []) d))

-- a column is an expression
column_took : (p : Place) (x : RawRef) (c d : Cursor) → TookRef x c d → Took level.Primary p (raw.Ref x) c d
column_took p x c d t = record { words = t.words; found = []; rest_is = t.rest_is; aggs_are = t.aggs_are ∙ sym (append-nil c.aggs); spelled = g.column t.spelled }

constant_took : (p : Place) (t : Lexeme) (e : RawExpr) (c d : Cursor) → Takes t c d → literal t ≡ Some e → Took level.Primary p e c d
constant_took p t e c d k h = record { words = t ∷ []; found = []; rest_is = k.rest_is; aggs_are = k.aggs_are ∙ sym (append-nil c.aggs); spelled = g.constant t h }

found_by : (p : Place) (t : Lexeme) (o : Option RawExpr) → literal t ≡ o → (e : RawExpr) (c0 c d : Cursor) → Takes t c0 c → r.found o c ≡ up_to e d → Took level.Primary p e c0 d
found_by p t None q e c0 c d k h = absurd (cc)
found_by p t (Some x) q e c0 c d k h = moved (constant_took p t x c0 c k q) (some_same h)

prefixed : (p : Place) (o : Lexeme) (a e : RawExpr) (c0 c1 c2 : Cursor) → Takes o c0 c1 → Took level.Unary p a c1 c2
    → ((n : ℕ) (ts : List Lexeme) (gs : List RawAgg) → Spells level.Unary p n ts a gs → Spells level.Unary p n (o ∷ ts) e gs) → Took level.Unary p e c0 c2
prefixed p o a e c0 c1 c2 k t f = record {
  words = o ∷ t.words;
  found = t.found;
  rest_is = k.rest_is ∙ ap (λ z. o ∷ z) t.rest_is;
  aggs_are = t.aggs_are ∙ ap (λ z. z ++ t.found) k.aggs_are;
  spelled = f (length c0.aggs) t.words t.found (subst (λ z. Spells level.Unary p (length z) t.words a t.found) k.aggs_are t.spelled);
}

-- an aggregate of an argument
aggregated_took : (w : List ℕ) (k : AggKind) (a e : RawExpr) (c0 c1 c2 c3 d : Cursor) → aggregate w ≡ Some k → Takes (name w) c0 c1 → Takes (symbol mark.Open) c1 c2
    → Closed level.Or place.Plain a c2 c3 → Pushed (record { kind = k; arg = Some a }) e c3 d → Took level.Primary place.Item e c0 d
aggregated_took w k a e c0 c1 c2 c3 d h t o b q =
    let none = none_plain b.spelled in
    let whole : c3.aggs ≡ c0.aggs = b.aggs_are ∙ ap (λ z. c2.aggs ++ z) none ∙ append-nil c2.aggs ∙ o.aggs_are ∙ t.aggs_are in
    let base : c2.aggs ≡ c0.aggs = o.aggs_are ∙ t.aggs_are in
    let at0 = subst (λ z. Spells level.Or place.Plain (length z) b.words a b.found) base b.spelled in
    let sp = subst (λ z. Spells level.Or place.Plain (length c0.aggs) b.words a z) none at0 in
    let words = name w ∷ symbol mark.Open ∷ (b.words ++ symbol mark.Close ∷ []) in
    let agg : List RawAgg = record { kind = k; arg = Some a } ∷ [] in
    let numbered : raw.Agg (length c0.aggs) ≡ e = ap (λ z. raw.Agg (length z)) (sym whole) ∙ q.numbered in
    record {
      words = words;
      found = agg;
      rest_is = t.rest_is ∙ ap (λ z. name w ∷ z) (in_brackets (symbol mark.Open) (symbol mark.Close) b.words c1.rest c2.rest d.rest o.rest_is (b.rest_is ∙ ap (λ z. b.words ++ symbol mark.Close ∷ z) q.rest_is));
      aggs_are = q.aggs_are ∙ ap (λ z. z ++ agg) whole;
      spelled = subst (λ z. Spells level.Primary place.Item (length c0.aggs) words z agg) numbered (g.aggregated w h sp);
    }

-- COUNT(*)
counted_took : (w : List ℕ) (e : RawExpr) (c0 c1 c2 c3 c4 d : Cursor) → aggregate w ≡ Some Count → Takes (name w) c0 c1 → Takes (symbol mark.Open) c1 c2
    → Takes (symbol mark.Star) c2 c3 → Takes (symbol mark.Close) c3 c4 → Pushed (record { kind = Count; arg = None }) e c4 d → Took level.Primary place.Item e c0 d
counted_took w e c0 c1 c2 c3 c4 d h t o s x q =
    let whole : c4.aggs ≡ c0.aggs = x.aggs_are ∙ s.aggs_are ∙ o.aggs_are ∙ t.aggs_are in
    let words = name w ∷ symbol mark.Open ∷ symbol mark.Star ∷ symbol mark.Close ∷ [] in
    let agg : List RawAgg = record { kind = Count; arg = None } ∷ [] in
    let numbered : raw.Agg (length c0.aggs) ≡ e = ap (λ z. raw.Agg (length z)) (sym whole) ∙ q.numbered in
    record {
      words = words;
      found = agg;
      rest_is = t.rest_is ∙ ap (λ z. name w ∷ z) (o.rest_is ∙ ap (λ z. symbol mark.Open ∷ z) (s.rest_is ∙ ap (λ z. symbol mark.Star ∷ z) (x.rest_is ∙ ap (λ z. symbol mark.Close ∷ z) q.rest_is)));
      aggs_are = q.aggs_are ∙ ap (λ z. z ++ agg) whole;
      spelled = subst (λ z. Spells level.Primary place.Item (length c0.aggs) words z agg) numbered (g.counted w h);
    }

-- a test told which symbol was taken
is_taken : (s : _) (c d : Cursor) → Begins (is_symbol s) c d → Takes (symbol s) c d
is_taken s c d b = subst (λ z. Takes z c d) (symbol_true s b.first b.passes) b.takes

-- ---- each production, over a sound reading of those inside

module _ (inner : Level → Place → Parser RawExpr) (s : IsSound inner) where
  go_on_sound : (l : Level) (p : Place) (a e : RawExpr) (c0 c d : Cursor)
      → ((x : PairOp) (b : RawExpr) (c1 c2 : Cursor) → Operates l x c c1 → Took (tighter l) p b c1 c2 → Took l p (raw.Pair x a b) c0 c2)
      → (next : RawExpr → Parser RawExpr) → ((b : RawExpr) (k : Cursor) → Took l p b c0 k → next b k ≡ up_to e d → Took l p e c0 d)
      → Took l p a c0 c → (o : Option PairOp) (c1 : Cursor) → take_operator l c ≡ up_to o c1 → r.go_on inner l p a next o c1 ≡ up_to e d → Took l p e c0 d
  go_on_sound l p a e c0 c d pairs next nexts t None c1 q h = moved (moved t (record { value = refl; place = operator_left l c c1 q })) (some_same h)
  go_on_sound l p a e c0 c d pairs next nexts t (Some x) c1 q h =
      let w = twice (inner (tighter l) p c1) _ e d h in
      nexts (raw.Pair x a w.value) w.between (pairs x w.value c1 w.between (operator_taken l x c c1 q) (s (tighter l) p c1 w.between w.value w.first)) w.second

  more_sound : (l : Level) (p : Place) → groups l ≡ true → (k : ℕ) (a e : RawExpr) (c0 c d : Cursor) → Took l p a c0 c → r.more inner l p k a c ≡ up_to e d → Took l p e c0 d
  unfolding r.more
  more_sound l p gr zero a e c0 c d t h = moved t (some_same h)
  more_sound l p gr (suc k) a e c0 c d t h =
      let w = twice (take_operator l c) _ e d h in
      go_on_sound l p a e c0 c d (λ x b c1 c2 o u. joined_took l p a b x c0 c c1 c2 gr t o u) (r.more inner l p k) (λ b c2 u i. more_sound l p gr k b e c0 c2 d u i) t w.value w.between w.first w.second

  chain_sound : (l : Level) (p : Place) → groups l ≡ true → (c d : Cursor) (e : RawExpr) → r.chain inner l p c ≡ up_to e d → Took l p e c d
  unfolding r.chain
  chain_sound l p gr c d e h =
      let w = twice (inner (tighter l) p c) _ e d h in
      more_sound l p gr (length c.rest) w.value e c w.between d (looser l (s (tighter l) p c w.between w.value w.first)) w.second

  comparison_sound : (p : Place) (c d : Cursor) (e : RawExpr) → r.comparison inner p c ≡ up_to e d → Took level.Compare p e c d
  unfolding r.comparison
  comparison_sound p c d e h =
      let w = twice (inner level.Sum p c) _ e d h in
      let t = s level.Sum p c w.between w.value w.first in
      let v = twice (take_operator level.Compare w.between) _ e d w.second in
      go_on_sound level.Compare p w.value e c w.between d (λ x b c1 c2 o u. compared_took p w.value b x c w.between c1 c2 t o u) _ (λ b k u i. moved u (some_same i)) (looser level.Compare t) v.value v.between v.first v.second

  negated_sound : (p : Place) (b : Bool) (c c1 d : Cursor) (e : RawExpr) → eat negates c ≡ up_to b c1 → r.negated inner p b c1 ≡ up_to e d → Took level.Unary p e c d
  negated_sound p true c c1 d e q h =
      let k = eat_true negates c c1 q in
      let w = twice (inner level.Unary p c1) _ e d h in
      moved (prefixed p k.first w.value (raw.Not w.value) c c1 w.between k.takes (s level.Unary p c1 w.between w.value w.first) (λ n ts gs i. g.negated k.first k.passes i)) (some_same w.second)
  negated_sound p false c c1 d e q h = from_same (eat_false negates c c1 q) (looser level.Unary (s level.Primary p c1 d e h))

  signed_sound : (p : Place) (b : Bool) (c c1 d : Cursor) (e : RawExpr) → eat (is_symbol mark.Minus) c ≡ up_to b c1 → r.signed inner p b c1 ≡ up_to e d → Took level.Unary p e c d
  signed_sound p true c c1 d e q h =
      let k = is_taken mark.Minus c c1 (eat_true (is_symbol mark.Minus) c c1 q) in
      let w = twice (inner level.Unary p c1) _ e d h in
      moved (prefixed p (symbol mark.Minus) w.value (raw.Neg w.value) c c1 w.between k (s level.Unary p c1 w.between w.value w.first) (λ n ts gs i. g.negative i)) (some_same w.second)
  signed_sound p false c c1 d e q h =
      let w = twice (eat negates c1) _ e d h in
      from_same (eat_false (is_symbol mark.Minus) c c1 q) (negated_sound p w.value c1 w.between d e w.first w.second)

  unary_sound : (p : Place) (c d : Cursor) (e : RawExpr) → r.unary inner p c ≡ up_to e d → Took level.Unary p e c d
  unfolding r.unary
  unary_sound p c d e h = let w = twice (eat (is_symbol mark.Minus) c) _ e d h in signed_sound p w.value c w.between d e w.first w.second

  closed_sound : (l : Level) (p : Place) (c d : Cursor) (e : RawExpr) → r.bracketed inner l p c ≡ up_to e d → Closed l p e c d
  unfolding r.bracketed
  closed_sound l p c d e h =
      let w = twice (inner l p c) _ e d h in
      let t = s l p c w.between w.value w.first in
      let v = twice (expect (is_symbol mark.Close) w.between) _ e d w.second in
      let k = is_taken mark.Close w.between v.between (expect_begins (is_symbol mark.Close) w.between v.between v.value v.first) in
      let same = some_same v.second in
      let a : d.aggs ≡ w.between.aggs = sym (ap (λ (z : Cursor). z.aggs) same.place) ∙ k.aggs_are in
      record {
        words = t.words;
        found = t.found;
        rest_is = t.rest_is ∙ ap (λ z. t.words ++ z) (k.rest_is ∙ ap (λ (z : Cursor). symbol mark.Close ∷ z.rest) same.place);
        aggs_are = a ∙ t.aggs_are;
        spelled = subst (λ z. Spells l p (length c.aggs) t.words z t.found) same.value t.spelled;
      }

  bracketed_sound : (p : Place) (c0 c d : Cursor) (e : RawExpr) → Takes (symbol mark.Open) c0 c → r.bracketed inner level.Or p c ≡ up_to e d → Took level.Primary p e c0 d
  bracketed_sound p c0 c d e o h =
      let b = closed_sound level.Or p c d e h in
      record {
        words = symbol mark.Open ∷ (b.words ++ symbol mark.Close ∷ []);
        found = b.found;
        rest_is = in_brackets (symbol mark.Open) (symbol mark.Close) b.words c0.rest c.rest d.rest o.rest_is b.rest_is;
        aggs_are = b.aggs_are ∙ ap (λ z. z ++ b.found) o.aggs_are;
        spelled = g.bracketed (subst (λ z. Spells level.Or p (length z) b.words e b.found) o.aggs_are b.spelled);
      }

  argument_sound : (w : List ℕ) (k : AggKind) (c0 c1 c2 d : Cursor) (e : RawExpr) → aggregate w ≡ Some k → Takes (name w) c0 c1 → Takes (symbol mark.Open) c1 c2
      → r.argument inner k c2 ≡ up_to e d → Took level.Primary place.Item e c0 d
  unfolding r.argument
  argument_sound w k c0 c1 c2 d e a t o h =
      let v = twice (r.bracketed inner level.Or place.Plain c2) _ e d h in
      aggregated_took w k v.value e c0 c1 c2 v.between d a t o (closed_sound level.Or place.Plain c2 v.between v.value v.first) (push_sound _ v.between d e v.second)

  rows_by : (b : Bool) (w : List ℕ) (c0 c1 c2 c3 d : Cursor) (e : RawExpr) → aggregate w ≡ Some Count → Takes (name w) c0 c1 → Takes (symbol mark.Open) c1 c2
      → eat (is_symbol mark.Star) c2 ≡ up_to b c3 → r.rows_end inner b c3 ≡ up_to e d → Took level.Primary place.Item e c0 d
  rows_by true w c0 c1 c2 c3 d e a t o q h =
      let star = is_taken mark.Star c2 c3 (eat_true (is_symbol mark.Star) c2 c3 q) in
      let v = twice (expect (is_symbol mark.Close) c3) _ e d h in
      let close = is_taken mark.Close c3 v.between (expect_begins (is_symbol mark.Close) c3 v.between v.value v.first) in
      counted_took w e c0 c1 c2 c3 v.between d a t o star close (push_sound _ v.between d e v.second)
  rows_by false w c0 c1 c2 c3 d e a t o q h =
      let same = eat_false (is_symbol mark.Star) c2 c3 q in
      argument_sound w Count c0 c1 c3 d e a t (subst (λ z. Takes (symbol mark.Open) c1 z) same o) h

  rows_sound : (w : List ℕ) (c0 c1 c2 d : Cursor) (e : RawExpr) → aggregate w ≡ Some Count → Takes (name w) c0 c1 → Takes (symbol mark.Open) c1 c2
      → r.rows inner c2 ≡ up_to e d → Took level.Primary place.Item e c0 d
  unfolding r.rows
  rows_sound w c0 c1 c2 d e a t o h = let v = twice (eat (is_symbol mark.Star) c2) _ e d h in rows_by v.value w c0 c1 c2 v.between d e a t o v.first v.second

  call_sound : (p : Place) (k : Option AggKind) (w : List ℕ) (c0 c1 c2 d : Cursor) (e : RawExpr) → aggregate w ≡ k → Takes (name w) c0 c1 → Takes (symbol mark.Open) c1 c2
      → r.call inner p k c2 ≡ up_to e d → Took level.Primary p e c0 d
  call_sound place.Plain k w c0 c1 c2 d e a t o h = absurd (cc)
  call_sound place.Item None w c0 c1 c2 d e a t o h = absurd (cc)
  call_sound place.Item (Some Count) w c0 c1 c2 d e a t o h = rows_sound w c0 c1 c2 d e a t o h
  call_sound place.Item (Some k) w c0 c1 c2 d e a t o h = argument_sound w k c0 c1 c2 d e a t o h

  named_by : (b : Bool) (p : Place) (w : List ℕ) (c0 c c1 d : Cursor) (e : RawExpr) → Takes (name w) c0 c → eat (is_symbol mark.Open) c ≡ up_to b c1
      → r.named_end inner p w b c1 ≡ up_to e d → Took level.Primary p e c0 d
  named_by true p w c0 c c1 d e t q h = call_sound p (aggregate w) w c0 c c1 d e refl t (is_taken mark.Open c c1 (eat_true (is_symbol mark.Open) c c1 q)) h
  named_by false p w c0 c c1 d e t q h =
      let same = eat_false (is_symbol mark.Open) c c1 q in
      let v = twice (r.column w c1) _ e d h in
      moved (column_took p v.value c0 v.between (column_sound w c0 c1 v.between v.value (subst (λ z. Takes (name w) c0 z) same t) v.first)) (some_same v.second)

  named_sound : (p : Place) (w : List ℕ) (c0 c d : Cursor) (e : RawExpr) → Takes (name w) c0 c → r.named inner p w c ≡ up_to e d → Took level.Primary p e c0 d
  unfolding r.named
  named_sound p w c0 c d e t h = let v = twice (eat (is_symbol mark.Open) c) _ e d h in named_by v.value p w c0 c v.between d e t v.first v.second

  begun_sound : (p : Place) (t : Lexeme) (c0 c d : Cursor) (e : RawExpr) → Takes t c0 c → r.begun inner p t c ≡ up_to e d → Took level.Primary p e c0 d
  begun_sound p (symbol mark.Open) c0 c d e k h = bracketed_sound p c0 c d e k h
  begun_sound p (name w) c0 c d e k h = named_sound p w c0 c d e k h
  begun_sound p t c0 c d e k h = found_by p t (literal t) refl e c0 c d k h

  primary_sound : (p : Place) (c d : Cursor) (e : RawExpr) → r.primary inner p c ≡ up_to e d → Took level.Primary p e c d
  unfolding r.primary
  primary_sound p c d e h = let v = twice (take_one c) _ e d h in begun_sound p v.value c v.between d e (take_takes c v.value v.between v.first) v.second

  step_sound : IsSound (r.step inner)
  step_sound level.Or p c d e h = chain_sound level.Or p refl c d e h
  step_sound level.And p c d e h = chain_sound level.And p refl c d e h
  step_sound level.Compare p c d e h = comparison_sound p c d e h
  step_sound level.Sum p c d e h = chain_sound level.Sum p refl c d e h
  step_sound level.Product p c d e h = chain_sound level.Product p refl c d e h
  step_sound level.Unary p c d e h = unary_sound p c d e h
  step_sound level.Primary p c d e h = primary_sound p c d e h

pub read_sound : (n : ℕ) → IsSound (read n)
unfolding read
read_sound zero l p c d e h = absurd (cc)
read_sound (suc n) l p c d e h = step_sound (read n) (read_sound n) l p c d e h
