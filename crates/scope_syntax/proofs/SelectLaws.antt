-- SELECT is read exactly, at the front of a statement.
use Rattle.std.proofs.Common.{◌≡◌, ◌≤◌, ◌^◌, ℕ, Bool, true, false, List, [], ◌∷◌, ◌++◌, length, Option, refl, sym, ap, ◌∙◌, subst, append_assoc, append-nil}
use Rattle.script_trees.specs.declared.raw.RawExpr.{RawExpr}
use Rattle.script_trees.specs.declared.raw.RawRef.{RawRef}
use Rattle.script_trees.specs.declared.item.Items.{Items}
use Rattle.script_trees.specs.declared.item.Items.TheVariants.{All, Listed}
use Rattle.script_trees.specs.declared.key.RawKey.{RawKey}
use Rattle.expression_syntax.specs.declared.keyword.Keyword.{Keyword}
use Rattle.expression_syntax.specs.declared.keyword.Keyword.TheVariants as word
use Rattle.script_trees.specs.declared.raw_agg.RawAgg.{RawAgg}
use Rattle.script_trees.specs.declared.select.Joined.{Joined}
use Rattle.script_trees.specs.declared.select.Select as selects
use Rattle.expression_syntax.specs.declared.symbol.Symbol.TheVariants as mark
use Rattle.expression_syntax.specs.Lexemes.{Lexeme, keyword, symbol, is_keyword, is_weak}
use Rattle.expression_syntax.specs.Parts.{SpellsAfter, SpellsAfterTwo, SpellsItems, SpellsKeys, SpellsOptional, SpellsRefs}
use Rattle.scope_syntax.specs.Statements.{SpellsCount, SpellsDistinct, SpellsFrom, SpellsPlain, SpellsSelect}
use Rattle.expression_syntax.specs.Reading.{Cursor, begins}
use Rattle.expression_syntax.specs.ReadParts.{eat_word}
use Rattle.expression_syntax.specs.ReadItems.{items, take_aggs}
use Rattle.scope_syntax.specs.ReadSelect.{clauses, filter, from, group, having, order, select, top}
use Rattle.expression_syntax.proofs.Closed.{Closed, goes_on, option_first, option_first_two}
use Rattle.expression_syntax.proofs.Exact.{Found, Found-same, word_read}
use Rattle.expression_syntax.proofs.First.{listed_starts, starts, starts_apart}
use Rattle.expression_syntax.proofs.Forward.{at, eat_no, eat_yes}
use Rattle.scope_syntax.proofs.FromLaws.{FromEnds, condition_complete, condition_sound, from_exact, from_first, group_exact, order_exact, top_exact}
use Rattle.expression_syntax.proofs.ItemLaws.{items_complete, items_sound}
use Rattle.expression_syntax.proofs.Steps.{eat_false, eat_true, some_same, twice, up_to}

-- ---- the clauses behind the items

-- the parts of a SELECT behind its items
record Parts (js : List Joined) (f : Option RawExpr) (g : Option (List RawRef)) (h : Option RawExpr) (o : Option (List RawKey)) (ts : List Lexeme) : Type 0 where
  from_part : List Lexeme
  where_part : List Lexeme
  group_part : List Lexeme
  having_part : List Lexeme
  order_part : List Lexeme
  whole : ts ≡ from_part ++ (where_part ++ (group_part ++ (having_part ++ order_part)))
  sources : SpellsFrom from_part js
  rows : SpellsOptional (SpellsAfter word.Where SpellsPlain) where_part f
  group : SpellsOptional (SpellsAfterTwo word.Group word.By SpellsRefs) group_part g
  having : SpellsOptional (SpellsAfter word.Having SpellsPlain) having_part h
  order : SpellsOptional (SpellsAfterTwo word.Order word.By SpellsKeys) order_part o

-- a SELECT whose beginning is known
record Tail (d : Bool) (t : Option ℕ) (xs : Items) (gs : List RawAgg) (ts : List Lexeme) (s : selects.Select) : Type 0 where
  same_distinct : s.distinct ≡ d
  same_top : s.top ≡ t
  same_items : s.items ≡ xs
  same_aggs : s.aggs ≡ gs
  parts : Parts s.sources s.filter s.group s.having s.order ts

chained : (a b c d e : List Lexeme) (r0 r1 r2 r3 r4 r5 : List Lexeme) → r0 ≡ a ++ r1 → r1 ≡ b ++ r2 → r2 ≡ c ++ r3 → r3 ≡ d ++ r4 → r4 ≡ e ++ r5
    → r0 ≡ (a ++ (b ++ (c ++ (d ++ e)))) ++ r5
chained a b c d e r0 r1 r2 r3 r4 r5 h i j k l = rw (h, i, j, k, l) (sym (simp append_assoc))

clauses_sound : (d : Bool) (t : Option ℕ) (xs : Items) (gs : List RawAgg) (c e : Cursor) (s : selects.Select) → clauses d t xs gs c ≡ up_to s e → Found (Tail d t xs gs) s c e
unfolding clauses
clauses_sound d t xs gs c e s h =
    let a = twice (from c) _ s e h in
    let fa = from_exact.sound c a.between a.value a.first in
    let b = twice (filter a.between) _ s e a.second in
    let fb = condition_sound word.Where a.between b.between b.value b.first in
    let g = twice (group b.between) _ s e b.second in
    let fg = group_exact.sound b.between g.between g.value g.first in
    let v = twice (having g.between) _ s e g.second in
    let fv = condition_sound word.Having g.between v.between v.value v.first in
    let o = twice (order v.between) _ s e v.second in
    let fo = order_exact.sound v.between o.between o.value o.first in
    let y : selects.Select = record { distinct = d; top = t; items = xs; aggs = gs; sources = a.value; filter = b.value; group = g.value; having = v.value; order = o.value } in
    let found : Found (Tail d t xs gs) y c o.between = record {
      words = fa.words ++ (fb.words ++ (fg.words ++ (fv.words ++ fo.words)));
      rest_is = chained fa.words fb.words fg.words fv.words fo.words c.rest a.between.rest b.between.rest g.between.rest v.between.rest o.between.rest
          fa.rest_is fb.rest_is fg.rest_is fv.rest_is fo.rest_is;
      aggs_are = fo.aggs_are ∙ fv.aggs_are ∙ fg.aggs_are ∙ fb.aggs_are ∙ fa.aggs_are;
      spelled = record {
        same_distinct = refl;
        same_top = refl;
        same_items = refl;
        same_aggs = refl;
        parts = record {
          from_part = fa.words;
          where_part = fb.words;
          group_part = fg.words;
          having_part = fv.words;
          order_part = fo.words;
          whole = refl;
          sources = fa.spelled;
          rows = fb.spelled;
          group = fg.spelled;
          having = fv.spelled;
          order = fo.spelled;
        };
      };
    } in
    Found-same found (some_same o.second)

module _ (s : selects.Select) (ts : List Lexeme) (t : Parts s.sources s.filter s.group s.having s.order ts) where
  -- what stands from each of the parts on
  abbrev from_order : List Lexeme
  from_order = t.order_part ++ []

  abbrev from_having : List Lexeme
  from_having = t.having_part ++ from_order

  abbrev from_group : List Lexeme
  from_group = t.group_part ++ from_having

  abbrev from_where : List Lexeme
  from_where = t.where_part ++ from_group

  abbrev from_from : List Lexeme
  from_from = t.from_part ++ from_where

  order_first : (q : Lexeme → Bool) → q (keyword word.Order) ≡ false → begins q from_order ≡ false
  order_first q o = option_first_two q SpellsKeys word.Order word.By t.order_part s.order o t.order [] refl

  having_first : (q : Lexeme → Bool) → q (keyword word.Order) ≡ false → q (keyword word.Having) ≡ false → begins q from_having ≡ false
  having_first q o h = option_first q SpellsPlain word.Having t.having_part s.having h t.having from_order (order_first q o)

  group_first : (q : Lexeme → Bool) → q (keyword word.Order) ≡ false → q (keyword word.Having) ≡ false → q (keyword word.Group) ≡ false → begins q from_group ≡ false
  group_first q o h g = option_first_two q SpellsRefs word.Group word.By t.group_part s.group g t.group from_having (having_first q o h)

  where_first : (q : Lexeme → Bool) → q (keyword word.Order) ≡ false → q (keyword word.Having) ≡ false → q (keyword word.Group) ≡ false → q (keyword word.Where) ≡ false
      → begins q from_where ≡ false
  where_first q o h g w = option_first q SpellsPlain word.Where t.where_part s.filter w t.rows from_group (group_first q o h g)

  -- the items are closed by what stands behind them
  items_closed : Closed from_from
  items_closed = from_first goes_on refl t.from_part s.sources t.sources from_where (where_first goes_on refl refl refl refl)

  all_of_it : ts ≡ from_from
  all_of_it = t.whole ∙ ap (λ z. t.from_part ++ (t.where_part ++ (t.group_part ++ (t.having_part ++ z)))) (sym (append-nil t.order_part))

  sources_end : FromEnds from_where
  sources_end = record {
    closed = where_first goes_on refl refl refl refl;
    no_from = where_first (is_keyword word.From) refl refl refl refl;
    no_inner = where_first (is_keyword word.Inner) refl refl refl refl;
    no_join = where_first (is_keyword word.Join) refl refl refl refl;
    no_weak = λ w. where_first (is_weak w) refl refl refl refl;
  }

  clauses_complete : clauses s.distinct s.top s.items s.aggs (at from_from []) ≡ up_to s (at [] [])
  unfolding clauses
  clauses_complete =
      rw (
        from_exact.complete t.from_part s.sources t.sources from_where [] sources_end,
        condition_complete word.Where t.where_part s.filter t.rows from_group (group_first goes_on refl refl refl) (group_first (is_keyword word.Where) refl refl refl),
        group_exact.complete t.group_part s.group t.group from_having [] (having_first goes_on refl refl, having_first (is_keyword word.Group) refl refl),
        condition_complete word.Having t.having_part s.having t.having from_order (order_first goes_on refl) (order_first (is_keyword word.Having) refl),
        order_exact.complete t.order_part s.order t.order [] [] (refl, refl),
      ) refl

-- ---- the whole command

-- DISTINCT or nothing was read
record FoundDistinct (b : Bool) (ts : List Lexeme) (d : Cursor) : Type 0 where
  words : List Lexeme
  spelled : SpellsDistinct words b
  rest_is : ts ≡ words ++ d.rest
  aggs_are : d.aggs ≡ []

distinct_sound : (b : Bool) (ts : List Lexeme) (d : Cursor) → eat_word word.Distinct (at ts []) ≡ up_to b d → FoundDistinct b ts d
distinct_sound true ts d h =
    let k = word_read word.Distinct (eat_true (is_keyword word.Distinct) (at ts []) d h) in
    record { words = keyword word.Distinct ∷ []; spelled = refl; rest_is = k.rest_is; aggs_are = k.aggs_are }
distinct_sound false ts d h =
    let e = eat_false (is_keyword word.Distinct) (at ts []) d h in
    record { words = []; spelled = refl; rest_is = ap (λ (z : Cursor). z.rest) e; aggs_are = sym (ap (λ (z : Cursor). z.aggs) e) }

-- the aggregates were taken
record TookAggs (gs : List RawAgg) (c d : Cursor) : Type 0 where
  are : gs ≡ c.aggs
  rest_is : d.rest ≡ c.rest
  none : d.aggs ≡ []

took_aggs : (gs : List RawAgg) (c d : Cursor) → take_aggs c ≡ up_to gs d → TookAggs gs c d
unfolding take_aggs
took_aggs gs c d h =
    let s = some_same h in
    record { are = sym s.value; rest_is = sym (ap (λ (z : Cursor). z.rest) s.place); none = sym (ap (λ (z : Cursor). z.aggs) s.place) }

-- a SELECT behind its word, at the front of a statement
pub record FoundSelect (s : selects.Select) (ts : List Lexeme) (d : Cursor) : Type 0 where
  pub words : List Lexeme
  pub rest_is : ts ≡ words ++ d.rest
  pub aggs_are : d.aggs ≡ []
  pub spelled : SpellsSelect (keyword word.Select ∷ words) s

chained_front : (a b c e : List Lexeme) (r0 r1 r2 r3 r4 r5 : List Lexeme) → r0 ≡ a ++ r1 → r1 ≡ b ++ r2 → r2 ≡ c ++ r3 → r4 ≡ r3 → r4 ≡ e ++ r5
    → r0 ≡ (a ++ (b ++ (c ++ e))) ++ r5
chained_front a b c e r0 r1 r2 r3 r4 r5 h i j q l = rw (h, i, j, sym q ∙ l) (sym (simp append_assoc))

select_parts : (d t i us : List Lexeme) (s : selects.Select) (b : Bool) (n : Option ℕ) (xs : Items) (gs : List RawAgg) → SpellsDistinct d b
    → SpellsOptional (SpellsAfter word.Top SpellsCount) t n → SpellsItems i xs gs → Tail b n xs gs us s → SpellsSelect (keyword word.Select ∷ (d ++ (t ++ (i ++ us)))) s
select_parts d t i us s b n xs gs hd ht hi k =
    let p = k.parts in
    record {
      distinct_part = d;
      top_part = t;
      items_part = i;
      from_part = p.from_part;
      where_part = p.where_part;
      group_part = p.group_part;
      having_part = p.having_part;
      order_part = p.order_part;
      whole = ap (λ z. keyword word.Select ∷ (d ++ (t ++ (i ++ z)))) p.whole;
      distinct = subst (λ z. SpellsDistinct d z) (sym k.same_distinct) hd;
      top = subst (λ z. SpellsOptional (SpellsAfter word.Top SpellsCount) t z) (sym k.same_top) ht;
      items = subst (λ z. SpellsItems i z s.aggs) (sym k.same_items) (subst (λ z. SpellsItems i xs z) (sym k.same_aggs) hi);
      sources = p.sources;
      rows = p.rows;
      group = p.group;
      having = p.having;
      order = p.order;
    }

at_no : (c : Cursor) → c.aggs ≡ [] → c ≡ at c.rest []
at_no c h = ap (λ z. at c.rest z) h

pub select_sound : (ts : List Lexeme) (e : Cursor) (s : selects.Select) → select (at ts []) ≡ up_to s e → FoundSelect s ts e
unfolding select
select_sound ts e s h =
    let d = twice (eat_word word.Distinct (at ts [])) _ s e h in
    let fd = distinct_sound d.value ts d.between d.first in
    let t = twice (top d.between) _ s e d.second in
    let ft = top_exact.sound d.between t.between t.value t.first in
    let i = twice (items t.between) _ s e t.second in
    let none = ft.aggs_are ∙ fd.aggs_are in
    let fi = items_sound t.between.rest i.between i.value (ap items (sym (at_no t.between none)) ∙ i.first) in
    let g = twice (take_aggs i.between) _ s e i.second in
    let fg = took_aggs g.value i.between g.between g.first in
    let k = clauses_sound d.value t.value i.value g.value g.between e s g.second in
    record {
      words = fd.words ++ (ft.words ++ (fi.words ++ k.words));
      rest_is = chained_front fd.words ft.words fi.words k.words ts d.between.rest t.between.rest i.between.rest g.between.rest e.rest
          fd.rest_is ft.rest_is fi.rest_is fg.rest_is k.rest_is;
      aggs_are = k.aggs_are ∙ fg.none;
      spelled = select_parts fd.words ft.words fi.words k.words s d.value t.value i.value g.value fd.spelled ft.spelled
          (subst (λ z. SpellsItems fi.words i.value z) (sym fg.are) fi.spelled) k.spelled;
    }

distinct_yes : (b : Bool) (ts rest : List Lexeme) → SpellsDistinct ts b → begins (is_keyword word.Distinct) rest ≡ false → eat_word word.Distinct (at (ts ++ rest) []) ≡ up_to b (at rest [])
distinct_yes true ts rest h e = rw (h, eat_yes (is_keyword word.Distinct) (keyword word.Distinct) rest [] refl) refl
distinct_yes false ts rest h e = rw (h, eat_no (is_keyword word.Distinct) rest [] e) refl

distinct_apart : (t : Lexeme) → starts t ≡ true → is_keyword word.Distinct t ≡ false
distinct_apart (keyword word.Distinct) h = absurd (cc)
distinct_apart t h = refl

top_apart : (t : Lexeme) → starts t ≡ true → is_keyword word.Top t ≡ false
top_apart (keyword word.Top) h = absurd (cc)
top_apart t h = refl

items_first : (q : Lexeme → Bool) → ((t : Lexeme) → starts t ≡ true → q t ≡ false) → q (symbol mark.Star) ≡ false → (ts : List Lexeme) (xs : Items) (gs : List RawAgg) → SpellsItems ts xs gs
    → (rest : List Lexeme) → begins q (ts ++ rest) ≡ false
items_first q f star ts All gs h rest = ap (λ z. begins q (z ++ rest)) h.0 ∙ star
items_first q f star ts (Listed xs) gs h rest = starts_apart q f (ts ++ rest) (listed_starts 0 ts xs gs h rest)

aggs_taken : (ts : List Lexeme) (gs : List RawAgg) → take_aggs (at ts gs) ≡ up_to gs (at ts [])
unfolding take_aggs
aggs_taken ts gs = refl

without_word : (w : Keyword) (ts us : List Lexeme) → keyword w ∷ ts ≡ keyword w ∷ us → ts ≡ us
without_word w ts us h = cc

pub select_complete : (ts : List Lexeme) (s : selects.Select) → SpellsSelect (keyword word.Select ∷ ts) s → length s.aggs ≤ 2 ^ 32 → select (at ts []) ≡ up_to s (at [] [])
unfolding select
select_complete ts s h few =
    let us = h.from_part ++ (h.where_part ++ (h.group_part ++ (h.having_part ++ h.order_part))) in
    let p : Parts s.sources s.filter s.group s.having s.order us = record {
      from_part = h.from_part;
      where_part = h.where_part;
      group_part = h.group_part;
      having_part = h.having_part;
      order_part = h.order_part;
      whole = refl;
      sources = h.sources;
      rows = h.rows;
      group = h.group;
      having = h.having;
      order = h.order;
    } in
    let rest = from_from s us p in
    let words : ts ≡ h.distinct_part ++ (h.top_part ++ (h.items_part ++ rest)) =
    without_word word.Select ts _ h.whole ∙ ap (λ z. h.distinct_part ++ (h.top_part ++ (h.items_part ++ z))) (all_of_it s us p) in
    let no_top = items_first (is_keyword word.Top) top_apart refl h.items_part s.items s.aggs h.items rest in
    let no_distinct = option_first (is_keyword word.Distinct) SpellsCount word.Top h.top_part s.top refl h.top (h.items_part ++ rest)
    (items_first (is_keyword word.Distinct) distinct_apart refl h.items_part s.items s.aggs h.items rest) in
    rw (
      words,
      distinct_yes s.distinct h.distinct_part (h.top_part ++ (h.items_part ++ rest)) h.distinct no_distinct,
      top_exact.complete h.top_part s.top h.top (h.items_part ++ rest) [] no_top,
      items_complete h.items_part s.items s.aggs h.items rest (items_closed s us p) few,
      aggs_taken rest s.aggs,
    ) (clauses_complete s us p)
