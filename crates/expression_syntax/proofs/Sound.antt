-- What is read is spelled.
use Rattle.std.proofs.Common.{◌≡◌, ℕ, Bool, true, false, List, [], ◌∷◌, ◌++◌, sym, ap, ◌∙◌, subst}
use Rattle.script_trees.specs.declared.raw.RawRef.{RawRef}
use Rattle.expression_syntax.specs.declared.symbol.Symbol.TheVariants as mark
use Rattle.expression_syntax.specs.Lexemes.{Lexeme, keyword, symbol, name, number, text, is_symbol}
use Rattle.expression_syntax.specs.Expressions as g
use Rattle.expression_syntax.specs.Expressions.{Spells, SpellsRef, aggregate, groups, joins, literal, negates, tighter}
use Rattle.expression_syntax.specs.Reading.{Cursor, eat, name_from, take_name, take_one}
use Rattle.expression_syntax.specs.ReadExpressions as r
use Rattle.expression_syntax.specs.ReadExpressions.{read}
use Rattle.expression_syntax.proofs.Steps.{Takes, eat_false, eat_true, some_same, symbol_true, take_takes, twice, up_to}

-- ---- columns

-- a column was read from one place to another
pub record TookRef (r : RawRef) (old new : Cursor) : Type 0 where
  pub words : List Lexeme
  pub rest_is : old.rest ≡ words ++ new.rest
  pub aggs_are : new.aggs ≡ old.aggs
  pub spelled : SpellsRef words r

name_takes : (t : Lexeme) (w : List ℕ) (c d : Cursor) → name_from t c ≡ up_to w d → (t ≡ name w) × (c ≡ d)
name_takes (name v) w c d h = let s = some_same h in (ap name s.value, s.place)
name_takes (keyword k) w c d h = absurd (cc)
name_takes (symbol s) w c d h = absurd (cc)
name_takes (number b n) w c d h = absurd (cc)
name_takes (text b) w c d h = absurd (cc)

pub take_name_takes : (c : Cursor) (w : List ℕ) (d : Cursor) → take_name c ≡ up_to w d → Takes (name w) c d
unfolding take_name
take_name_takes c w d h =
    let t = twice (take_one c) name_from w d h in
    let n = name_takes t.value w t.between d t.second in
    let k = take_takes c t.value t.between t.first in
    let f = subst (λ x. Takes t.value c x) n.1 k in
    subst (λ x. Takes x c d) n.0 f

column_by : (b : Bool) (w : List ℕ) (c0 c c1 d : Cursor) (x : RawRef) → Takes (name w) c0 c → eat (is_symbol mark.Dot) c ≡ up_to b c1
    → r.column_end w b c1 ≡ up_to x d
    → TookRef x c0 d
column_by true w c0 c c1 d x first e h =
    let dot = eat_true (is_symbol mark.Dot) c c1 e in
    let is_dot = symbol_true mark.Dot dot.first dot.passes in
    let t = twice (take_name c1) _ x d h in
    let second = take_name_takes c1 t.value t.between t.first in
    let s = some_same t.second in
    let ra = ap (λ (q : Cursor). q.rest) s.place in
    let ga = ap (λ (q : Cursor). q.aggs) s.place in
    let words = name w ∷ symbol mark.Dot ∷ name t.value ∷ [] in
    record {
      words = words;
      rest_is = first.rest_is ∙ ap (λ z. name w ∷ z) (dot.takes.rest_is ∙ cc (is_dot, second.rest_is, ra));
      aggs_are = cc (first.aggs_are, dot.takes.aggs_are, second.aggs_are, ga);
      spelled = subst (λ z. SpellsRef words z) s.value g.aliased;
    }
column_by false w c0 c c1 d x first e h =
    let same = eat_false (is_symbol mark.Dot) c c1 e in
    let s = some_same h in
    let q = same ∙ s.place in
    record {
      words = name w ∷ [];
      rest_is = first.rest_is ∙ ap (λ (z : Cursor). name w ∷ z.rest) q;
      aggs_are = sym (ap (λ (z : Cursor). z.aggs) q) ∙ first.aggs_are;
      spelled = subst (λ z. SpellsRef (name w ∷ []) z) s.value g.bare;
    }

pub column_sound : (w : List ℕ) (c0 c d : Cursor) (x : RawRef) → Takes (name w) c0 c → r.column w c ≡ up_to x d → TookRef x c0 d
unfolding r.column
column_sound w c0 c d x first h =
    let t = twice (eat (is_symbol mark.Dot) c) _ x d h in column_by t.value w c0 c t.between d x first t.first t.second
