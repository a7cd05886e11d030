-- PROCESS, REDUCE, COMBINE and OUTPUT are read exactly, each behind its first word.
use Rattle.std.proofs.Common.{◌≡◌, ℕ, Bool, true, false, List, [], ◌∷◌, ◌++◌, Option, Some, None, refl, sym, ap, ◌∙◌, append_assoc}
use Rattle.scope_value.specs.declared.schema.Column.{Column}
use Rattle.script_trees.specs.declared.call.Call.{Call}
use Rattle.script_trees.specs.declared.command.Command.{Command}
use Rattle.script_trees.specs.declared.command.Command.TheVariants.{Extract, Select, Process, Reduce, Combine, Output}
use Rattle.script_trees.specs.declared.key.RawKey.{RawKey}
use Rattle.expression_syntax.specs.declared.keyword.Keyword.{Keyword}
use Rattle.expression_syntax.specs.declared.keyword.Keyword.TheVariants as word
use Rattle.script_trees.specs.declared.raw_agg.RawAgg.{RawAgg}
use Rattle.script_trees.specs.declared.source.Origin.{Origin}
use Rattle.script_trees.specs.declared.source.Origin.TheVariants.{Named, Stream}
use Rattle.script_trees.specs.declared.source.Source.{Source}
use Rattle.expression_syntax.specs.Lexemes.{Lexeme, keyword, symbol, name, number, text, is_keyword}
use Rattle.expression_syntax.specs.Parts.{SpellsAfter, SpellsKeys, SpellsName, SpellsOptional, SpellsOrigin, SpellsSource, is_and, is_comma}
use Rattle.expression_syntax.specs.declared.weak_keyword.WeakKeyword.TheVariants as weak
use Rattle.scope_syntax.specs.Statements.{SpellsCommand, SpellsDeclared, SpellsInput, SpellsPresort, SpellsProduct}
use Rattle.expression_syntax.specs.Reading.{Cursor, Parser, begins, expect, pure, take_name, take_one}
use Rattle.expression_syntax.specs.ReadParts.{begins_source, call, column, equality, is_name, key, list, optional, read_if, reference, source, take_text, text_from, told}
use Rattle.scope_syntax.specs.ReadStored.{stored}
use Rattle.scope_syntax.specs.ReadCommands.{combine, input, output, presort, process, produced, reduce}
use Rattle.expression_syntax.proofs.Closed.{Closed, option_first}
use Rattle.expression_syntax.proofs.Exact.{Found, Found-same, IsExact, OptionEnds, optional_exact, word_read}
use Rattle.expression_syntax.proofs.Forward.{at, expect_yes, take_known}
use Rattle.expression_syntax.proofs.PartLaws.{Any, call_exact, columns_exact, equalities_exact, keys_exact, name_exact, refs_exact, source_exact}
use Rattle.expression_syntax.proofs.Steps.{Takes, expect_begins, some_same, take_takes, twice, up_to}
use Rattle.expression_syntax.proofs.Weak.{weak_first, weak_no_keyword}
use Rattle.scope_syntax.proofs.StoredLaws.{StoredEnds, stored_exact}

-- ---- strings

-- string
abbrev pub SpellsText : List Lexeme → List ℕ → Type 0
SpellsText ts s = ts ≡ text s ∷ []

text_by : (t : Lexeme) (c c1 d : Cursor) (x : List ℕ) → Takes t c c1 → text_from t c1 ≡ up_to x d → Found SpellsText x c d
text_by (text s) c c1 d x k h =
    let f : Found SpellsText s c c1 = record { words = text s ∷ []; rest_is = k.rest_is; aggs_are = k.aggs_are; spelled = refl } in Found-same f (some_same h)
text_by (keyword w) c c1 d x k h = absurd (cc)
text_by (symbol s) c c1 d x k h = absurd (cc)
text_by (name b) c c1 d x k h = absurd (cc)
text_by (number b n) c c1 d x k h = absurd (cc)

text_sound : (c d : Cursor) (x : List ℕ) → take_text c ≡ up_to x d → Found SpellsText x c d
unfolding take_text
text_sound c d x h = let t = twice (take_one c) text_from x d h in text_by t.value c t.between d x (take_takes c t.value t.between t.first) t.second

text_complete : (ts : List Lexeme) (x : List ℕ) → SpellsText ts x → (rest : List Lexeme) (gs : List RawAgg) → Any rest → take_text (at (ts ++ rest) gs) ≡ up_to x (at rest gs)
unfolding take_text
text_complete ts x h rest gs e = rw (h, take_known (text x) rest gs) refl

pub text_exact : IsExact SpellsText take_text Any
text_exact = record { sound = text_sound; complete = text_complete }

-- ---- what the next lexeme tells

module _ {A : Type 0} (first : Lexeme → Bool) (P : List Lexeme → A → Type 0) (p : Parser A) (Ends : List Lexeme → Type 0) (item : IsExact P p Ends)
    (starts : (ts : List Lexeme) (x : A) → P ts x → (rest : List Lexeme) → begins first (ts ++ rest) ≡ true) where
  told_by : (b : Bool) (c d : Cursor) (o : Option A) → read_if p b c ≡ up_to o d → Found (SpellsOptional P) o c d
  told_by true c d o h =
      let t = twice (p c) (λ x. pure (Some x)) o d h in
      let f = item.sound c t.between t.value t.first in
      let found : Found (SpellsOptional P) (Some t.value) c t.between = record { words = f.words; rest_is = f.rest_is; aggs_are = f.aggs_are; spelled = f.spelled } in
      Found-same found (some_same t.second)
  told_by false c d o h =
      let found : Found (SpellsOptional P) None c c = record { words = []; rest_is = refl; aggs_are = refl; spelled = refl } in
      Found-same found (some_same h)

  told_sound : (c d : Cursor) (o : Option A) → told first p c ≡ up_to o d → Found (SpellsOptional P) o c d
  unfolding told
  told_sound c d o h = told_by (begins first c.rest) c d o h

  -- what follows doesn't begin as the part does
  abbrev pub ToldEnds : List Lexeme → Type 0
  ToldEnds rest = Ends rest × (begins first rest ≡ false)

  told_complete : (ts : List Lexeme) (o : Option A) → SpellsOptional P ts o → (rest : List Lexeme) (gs : List RawAgg) → ToldEnds rest
      → told first p (at (ts ++ rest) gs) ≡ up_to o (at rest gs)
  unfolding told
  told_complete ts None h rest gs e = rw (h, e.1) refl
  told_complete ts (Some x) h rest gs e = rw (starts ts x h rest, item.complete ts x h rest gs e.0) refl

  pub told_exact : IsExact (SpellsOptional P) (told first p) ToldEnds
  told_exact = record { sound = told_sound; complete = told_complete }

origin_starts : (ts : List Lexeme) (x : Origin) → SpellsOrigin ts x → (rest : List Lexeme) → begins begins_source (ts ++ rest) ≡ true
origin_starts ts (Named c) h rest = rw h refl
origin_starts ts (Stream s c) h rest = rw h.1 refl

source_starts : (ts : List Lexeme) (x : Source) → SpellsSource ts x → (rest : List Lexeme) → begins begins_source (ts ++ rest) ≡ true
source_starts ts x (a, b, q, i, j) rest = ap (λ z. begins begins_source (z ++ rest)) q ∙ ap (begins begins_source) (append_assoc a b rest) ∙ origin_starts a x.origin i (b ++ rest)

name_starts : (ts : List Lexeme) (x : List ℕ) → SpellsName ts x → (rest : List Lexeme) → begins is_name (ts ++ rest) ≡ true
name_starts ts x h rest = rw h refl

from_exact : IsExact (SpellsOptional SpellsSource) (told begins_source source) (ToldEnds begins_source SpellsSource source Closed source_exact source_starts)
from_exact = told_exact begins_source SpellsSource source Closed source_exact source_starts

named_exact : IsExact (SpellsOptional SpellsName) (told is_name take_name) (ToldEnds is_name SpellsName take_name Any name_exact name_starts)
named_exact = told_exact is_name SpellsName take_name Any name_exact name_starts

presort_exact : IsExact SpellsPresort presort (OptionEnds word.Presort SpellsKeys (list is_comma key) Closed keys_exact)
presort_exact = optional_exact word.Presort SpellsKeys (list is_comma key) Closed keys_exact

-- ---- USING op PRODUCE cols

abbrev SpellsMade : List Lexeme → Call × List Column → Type 0
SpellsMade ts m = SpellsProduct ts m.0 m.1

produced_sound : (c d : Cursor) (m : Call × List Column) → produced c ≡ up_to m d → Found SpellsMade m c d
unfolding produced
produced_sound c d m h =
    let t = twice (expect (is_keyword word.Using) c) _ m d h in
    let k = word_read word.Using (expect_begins (is_keyword word.Using) c t.between t.value t.first) in
    let u = twice (call t.between) _ m d t.second in
    let f = call_exact.sound t.between u.between u.value u.first in
    let v = twice (expect (is_keyword word.Produce) u.between) _ m d u.second in
    let j = word_read word.Produce (expect_begins (is_keyword word.Produce) u.between v.between v.value v.first) in
    let w = twice (list is_comma column v.between) _ m d v.second in
    let g = columns_exact.sound v.between w.between w.value w.first in
    let found : Found SpellsMade (u.value, w.value) c w.between = record {
      words = keyword word.Using ∷ (f.words ++ keyword word.Produce ∷ g.words);
      rest_is = k.rest_is ∙ ap (λ z. keyword word.Using ∷ z)
          (f.rest_is ∙ ap (λ z. f.words ++ z) (j.rest_is ∙ ap (λ z. keyword word.Produce ∷ z) g.rest_is) ∙ sym (append_assoc f.words (keyword word.Produce ∷ g.words) w.between.rest));
      aggs_are = g.aggs_are ∙ j.aggs_are ∙ f.aggs_are ∙ k.aggs_are;
      spelled = (f.words, g.words, refl, f.spelled, g.spelled);
    } in
    Found-same found (some_same w.second)

produced_complete : (ts : List Lexeme) (m : Call × List Column) → SpellsMade ts m → (rest : List Lexeme) (gs : List RawAgg) → Closed rest → produced (at (ts ++ rest) gs) ≡ up_to m (at rest gs)
unfolding produced
produced_complete ts m (a, b, q, i, j) rest gs e =
    let words : ts ++ rest ≡ keyword word.Using ∷ (a ++ (keyword word.Produce ∷ (b ++ rest))) = ap (λ z. z ++ rest) q ∙ ap (λ z. keyword word.Using ∷ z) (append_assoc a (keyword word.Produce ∷ b) rest) in
    rw (
      words,
      expect_yes (is_keyword word.Using) (keyword word.Using) (a ++ (keyword word.Produce ∷ (b ++ rest))) gs refl,
      call_exact.complete a m.0 i (keyword word.Produce ∷ (b ++ rest)) gs refl,
      expect_yes (is_keyword word.Produce) (keyword word.Produce) (b ++ rest) gs refl,
      columns_exact.complete b m.1 j rest gs e,
    ) refl

-- what a product begins with
product_first : (q : Lexeme → Bool) → q (keyword word.Using) ≡ false → (ts : List Lexeme) (m : Call × List Column) → SpellsMade ts m → (rest : List Lexeme) → begins q (ts ++ rest) ≡ false
product_first q f ts m h rest = rw h.2 f

-- ---- PROCESS

-- a command is spelled behind its first word
abbrev pub Behind : Keyword → List Lexeme → Command → Type 0
Behind w ts x = SpellsCommand (keyword w ∷ ts) x

tail_same : {t u : Lexeme} {ts us : List Lexeme} → ◌≡◌ {A = List Lexeme} (t ∷ ts) (u ∷ us) → ts ≡ us
tail_same h = cc

process_sound : (c d : Cursor) (x : Command) → process c ≡ up_to x d → Found (Behind word.Process) x c d
unfolding process
process_sound c d x h =
    let t = twice (told begins_source source c) _ x d h in
    let f = from_exact.sound c t.between t.value t.first in
    let u = twice (produced t.between) _ x d t.second in
    let g = produced_sound t.between u.between u.value u.first in
    let found : Found (Behind word.Process) (Process t.value u.value.0 u.value.1) c u.between = record {
      words = f.words ++ g.words;
      rest_is = f.rest_is ∙ ap (λ z. f.words ++ z) g.rest_is ∙ sym (append_assoc f.words g.words u.between.rest);
      aggs_are = g.aggs_are ∙ f.aggs_are;
      spelled = (f.words, g.words, refl, f.spelled, g.spelled);
    } in
    Found-same found (some_same u.second)

process_complete : (ts : List Lexeme) (x : Command) → Behind word.Process ts x → (rest : List Lexeme) (gs : List RawAgg) → Closed rest → process (at (ts ++ rest) gs) ≡ up_to x (at rest gs)
unfolding process
process_complete ts (Process from op cols) (a, b, q, i, j) rest gs e =
    let made : Call × List Column = (op, cols) in
    let words : ts ++ rest ≡ a ++ (b ++ rest) = ap (λ z. z ++ rest) (tail_same q) ∙ append_assoc a b rest in
    let first = from_exact.complete a from i (b ++ rest) gs (product_first _ refl b made j rest, product_first begins_source refl b made j rest) in
    rw (words, first, produced_complete b made j rest gs e) refl
process_complete ts (Extract cols stream op st) h rest gs e = let q = h.3 in absurd (cc)
process_complete ts (Select s) h rest gs e = let q = h.whole in absurd (cc)
process_complete ts (Reduce from keys on op cols) h rest gs e = let q = h.4 in absurd (cc)
process_complete ts (Combine l lk s sk on op cols) h rest gs e = let q = h.4 in absurd (cc)
process_complete ts (Output from stream by st) h rest gs e = let q = h.3 in absurd (cc)

pub process_exact : IsExact (Behind word.Process) process Closed
process_exact = record { sound = process_sound; complete = process_complete }

-- ---- REDUCE

reduce_rest : (a b c d r0 r1 r2 r3 r4 r5 : List Lexeme) → r0 ≡ a ++ r1 → r1 ≡ b ++ r2 → r2 ≡ keyword word.On ∷ r3 → r3 ≡ c ++ r4 → r4 ≡ d ++ r5
    → r0 ≡ (a ++ (b ++ keyword word.On ∷ (c ++ d))) ++ r5
reduce_rest a b c d r0 r1 r2 r3 r4 r5 h i j k l =
    let all : (a ++ (b ++ keyword word.On ∷ (c ++ d))) ++ r5 ≡ a ++ (b ++ keyword word.On ∷ (c ++ (d ++ r5))) = simp append_assoc in
    h ∙ ap (λ z. a ++ z) (i ∙ ap (λ z. b ++ z) (j ∙ ap (λ z. keyword word.On ∷ z) (k ∙ ap (λ z. c ++ z) l))) ∙ sym all

reduce_sound : (c d : Cursor) (x : Command) → reduce c ≡ up_to x d → Found (Behind word.Reduce) x c d
unfolding reduce
reduce_sound c d x h =
    let t = twice (told begins_source source c) _ x d h in
    let f = from_exact.sound c t.between t.value t.first in
    let u = twice (presort t.between) _ x d t.second in
    let g = presort_exact.sound t.between u.between u.value u.first in
    let v = twice (expect (is_keyword word.On) u.between) _ x d u.second in
    let k = word_read word.On (expect_begins (is_keyword word.On) u.between v.between v.value v.first) in
    let w = twice (list is_comma reference v.between) _ x d v.second in
    let i = refs_exact.sound v.between w.between w.value w.first in
    let y = twice (produced w.between) _ x d w.second in
    let j = produced_sound w.between y.between y.value y.first in
    let found : Found (Behind word.Reduce) (Reduce t.value u.value w.value y.value.0 y.value.1) c y.between = record {
      words = f.words ++ (g.words ++ keyword word.On ∷ (i.words ++ j.words));
      rest_is = reduce_rest f.words g.words i.words j.words c.rest t.between.rest u.between.rest v.between.rest w.between.rest y.between.rest
          f.rest_is g.rest_is k.rest_is i.rest_is j.rest_is;
      aggs_are = j.aggs_are ∙ i.aggs_are ∙ k.aggs_are ∙ g.aggs_are ∙ f.aggs_are;
      spelled = (f.words, g.words, i.words, j.words, refl, f.spelled, g.spelled, i.spelled, j.spelled);
    } in
    Found-same found (some_same y.second)

-- behind a source stands PRESORT or what follows
presort_first : (q : Lexeme → Bool) → q (keyword word.Presort) ≡ false → (ts : List Lexeme) (o : Option (List RawKey)) → SpellsPresort ts o
    → (rest : List Lexeme) → begins q rest ≡ false → begins q (ts ++ rest) ≡ false
presort_first q f ts o h rest e = option_first q SpellsKeys word.Presort ts o f h rest e

reduce_complete : (ts : List Lexeme) (x : Command) → Behind word.Reduce ts x → (rest : List Lexeme) (gs : List RawAgg) → Closed rest → reduce (at (ts ++ rest) gs) ≡ up_to x (at rest gs)
unfolding reduce
reduce_complete ts (Reduce from keys on op cols) h rest gs e =
    let a = h.0 in
    let b = h.1 in
    let c = h.2 in
    let d = h.3 in
    let made : Call × List Column = (op, cols) in
    let spelled_made : SpellsMade d made = h.8 in
    let all : (a ++ (b ++ keyword word.On ∷ (c ++ d))) ++ rest ≡ a ++ (b ++ keyword word.On ∷ (c ++ (d ++ rest))) = simp append_assoc in
    let words : ts ++ rest ≡ a ++ (b ++ keyword word.On ∷ (c ++ (d ++ rest))) = ap (λ z. z ++ rest) (tail_same h.4) ∙ all in
    let on_on = keyword word.On ∷ (c ++ (d ++ rest)) in
    let first = from_exact.complete a from h.5 (b ++ on_on) gs (presort_first _ refl b keys h.6 on_on refl, presort_first begins_source refl b keys h.6 on_on refl) in
    let second = presort_exact.complete b keys h.6 on_on gs (refl, refl) in
    let third = refs_exact.complete c on h.7 (d ++ rest) gs (product_first _ refl d made spelled_made rest) in
    rw (words, first, second, expect_yes (is_keyword word.On) (keyword word.On) (c ++ (d ++ rest)) gs refl, third, produced_complete d made spelled_made rest gs e) refl
reduce_complete ts (Extract cols stream op st) h rest gs e = let q = h.3 in absurd (cc)
reduce_complete ts (Select s) h rest gs e = let q = h.whole in absurd (cc)
reduce_complete ts (Process from op cols) h rest gs e = let q = h.2 in absurd (cc)
reduce_complete ts (Combine l lk s sk on op cols) h rest gs e = let q = h.4 in absurd (cc)
reduce_complete ts (Output from stream by st) h rest gs e = let q = h.3 in absurd (cc)

pub reduce_exact : IsExact (Behind word.Reduce) reduce Closed
reduce_exact = record { sound = reduce_sound; complete = reduce_complete }

-- ---- COMBINE

abbrev SpellsPresorted : List Lexeme → Source × Option (List RawKey) → Type 0
SpellsPresorted ts i = SpellsInput ts i.0 i.1

input_sound : (c d : Cursor) (x : Source × Option (List RawKey)) → input c ≡ up_to x d → Found SpellsPresorted x c d
unfolding input
input_sound c d x h =
    let t = twice (source c) _ x d h in
    let f = source_exact.sound c t.between t.value t.first in
    let u = twice (presort t.between) _ x d t.second in
    let g = presort_exact.sound t.between u.between u.value u.first in
    let found : Found SpellsPresorted (t.value, u.value) c u.between = record {
      words = f.words ++ g.words;
      rest_is = f.rest_is ∙ ap (λ z. f.words ++ z) g.rest_is ∙ sym (append_assoc f.words g.words u.between.rest);
      aggs_are = g.aggs_are ∙ f.aggs_are;
      spelled = (f.words, g.words, refl, f.spelled, g.spelled);
    } in
    Found-same found (some_same u.second)

-- what follows an input goes on no part of it, and isn't PRESORT
abbrev InputEnds : List Lexeme → Type 0
InputEnds rest = Closed rest × (begins (is_keyword word.Presort) rest ≡ false)

input_complete : (ts : List Lexeme) (x : Source × Option (List RawKey)) → SpellsPresorted ts x → (rest : List Lexeme) (gs : List RawAgg) → InputEnds rest → input (at (ts ++ rest) gs) ≡ up_to x (at rest gs)
unfolding input
input_complete ts x (a, b, q, i, j) rest gs e =
    let words : ts ++ rest ≡ a ++ (b ++ rest) = ap (λ z. z ++ rest) q ∙ append_assoc a b rest in
    rw (words, source_exact.complete a x.0 i (b ++ rest) gs (presort_first _ refl b x.1 j rest e.0), presort_exact.complete b x.1 j rest gs e) refl

combine_rest : (a b c d r0 r1 r2 r3 r4 r5 r6 : List Lexeme) → r0 ≡ a ++ r1 → r1 ≡ keyword word.With ∷ r2 → r2 ≡ b ++ r3 → r3 ≡ keyword word.On ∷ r4 → r4 ≡ c ++ r5 → r5 ≡ d ++ r6
    → r0 ≡ (a ++ keyword word.With ∷ (b ++ keyword word.On ∷ (c ++ d))) ++ r6
combine_rest a b c d r0 r1 r2 r3 r4 r5 r6 h i j k l m =
    let all : (a ++ keyword word.With ∷ (b ++ keyword word.On ∷ (c ++ d))) ++ r6 ≡ a ++ keyword word.With ∷ (b ++ keyword word.On ∷ (c ++ (d ++ r6))) = simp append_assoc in
    h ∙ ap (λ z. a ++ z) (i ∙ ap (λ z. keyword word.With ∷ z) (j ∙ ap (λ z. b ++ z) (k ∙ ap (λ z. keyword word.On ∷ z) (l ∙ ap (λ z. c ++ z) m)))) ∙ sym all

combine_sound : (c d : Cursor) (x : Command) → combine c ≡ up_to x d → Found (Behind word.Combine) x c d
unfolding combine
combine_sound c d x h =
    let t = twice (input c) _ x d h in
    let f = input_sound c t.between t.value t.first in
    let s = twice (expect (is_keyword word.With) t.between) _ x d t.second in
    let k = word_read word.With (expect_begins (is_keyword word.With) t.between s.between s.value s.first) in
    let u = twice (input s.between) _ x d s.second in
    let g = input_sound s.between u.between u.value u.first in
    let v = twice (expect (is_keyword word.On) u.between) _ x d u.second in
    let l = word_read word.On (expect_begins (is_keyword word.On) u.between v.between v.value v.first) in
    let w = twice (list is_and equality v.between) _ x d v.second in
    let i = equalities_exact.sound v.between w.between w.value w.first in
    let y = twice (produced w.between) _ x d w.second in
    let j = produced_sound w.between y.between y.value y.first in
    let found : Found (Behind word.Combine) (Combine t.value.0 t.value.1 u.value.0 u.value.1 w.value y.value.0 y.value.1) c y.between = record {
      words = f.words ++ keyword word.With ∷ (g.words ++ keyword word.On ∷ (i.words ++ j.words));
      rest_is = combine_rest f.words g.words i.words j.words c.rest t.between.rest s.between.rest u.between.rest v.between.rest w.between.rest y.between.rest
          f.rest_is k.rest_is g.rest_is l.rest_is i.rest_is j.rest_is;
      aggs_are = j.aggs_are ∙ i.aggs_are ∙ l.aggs_are ∙ g.aggs_are ∙ k.aggs_are ∙ f.aggs_are;
      spelled = (f.words, g.words, i.words, j.words, refl, f.spelled, g.spelled, i.spelled, j.spelled);
    } in
    Found-same found (some_same y.second)

combine_complete : (ts : List Lexeme) (x : Command) → Behind word.Combine ts x → (rest : List Lexeme) (gs : List RawAgg) → Closed rest → combine (at (ts ++ rest) gs) ≡ up_to x (at rest gs)
unfolding combine
combine_complete ts (Combine l lk s sk on op cols) h rest gs e =
    let a = h.0 in
    let b = h.1 in
    let c = h.2 in
    let d = h.3 in
    let made : Call × List Column = (op, cols) in
    let spelled_made : SpellsMade d made = h.8 in
    let left : Source × Option (List RawKey) = (l, lk) in
    let right : Source × Option (List RawKey) = (s, sk) in
    let spelled_left : SpellsPresorted a left = h.5 in
    let spelled_right : SpellsPresorted b right = h.6 in
    let on_on = keyword word.On ∷ (c ++ (d ++ rest)) in
    let with_on = keyword word.With ∷ (b ++ on_on) in
    let all : (a ++ keyword word.With ∷ (b ++ keyword word.On ∷ (c ++ d))) ++ rest ≡ a ++ with_on = simp append_assoc in
    let words : ts ++ rest ≡ a ++ with_on = ap (λ z. z ++ rest) (tail_same h.4) ∙ all in
    let first = input_complete a left spelled_left with_on gs (refl, refl) in
    let second = input_complete b right spelled_right on_on gs (refl, refl) in
    let third = equalities_exact.complete c on h.7 (d ++ rest) gs (product_first _ refl d made spelled_made rest) in
    rw (
      words,
      first,
      expect_yes (is_keyword word.With) (keyword word.With) (b ++ on_on) gs refl,
      second,
      expect_yes (is_keyword word.On) (keyword word.On) (c ++ (d ++ rest)) gs refl,
      third,
      produced_complete d made spelled_made rest gs e,
    ) refl
combine_complete ts (Extract cols stream op st) h rest gs e = let q = h.3 in absurd (cc)
combine_complete ts (Select s) h rest gs e = let q = h.whole in absurd (cc)
combine_complete ts (Process from op cols) h rest gs e = let q = h.2 in absurd (cc)
combine_complete ts (Reduce from keys on op cols) h rest gs e = let q = h.4 in absurd (cc)
combine_complete ts (Output from stream by st) h rest gs e = let q = h.3 in absurd (cc)

pub combine_exact : IsExact (Behind word.Combine) combine Closed
combine_exact = record { sound = combine_sound; complete = combine_complete }

-- ---- OUTPUT

-- what may follow an output
abbrev pub OutputEnds : List Lexeme → Type 0
OutputEnds rest = StoredEnds rest × (begins (is_keyword word.Using) rest ≡ false)

by_exact : IsExact (SpellsOptional (SpellsAfter word.Using SpellsName)) (optional word.Using take_name) (OptionEnds word.Using SpellsName take_name Any name_exact)
by_exact = optional_exact word.Using SpellsName take_name Any name_exact

output_rest : (a b c r0 r1 r2 r3 r4 r5 : List Lexeme) (s : List ℕ) → r0 ≡ a ++ r1 → r1 ≡ keyword word.To ∷ r2 → r2 ≡ text s ∷ r3 → r3 ≡ b ++ r4 → r4 ≡ c ++ r5
    → r0 ≡ (a ++ keyword word.To ∷ text s ∷ (b ++ c)) ++ r5
output_rest a b c r0 r1 r2 r3 r4 r5 s h i j k l =
    h ∙ ap (λ z. a ++ z) (i ∙ ap (λ z. keyword word.To ∷ z) (j ∙ ap (λ z. text s ∷ z) (k ∙ ap (λ z. b ++ z) l ∙ sym (append_assoc b c r5))))
    ∙ sym (append_assoc a (keyword word.To ∷ text s ∷ (b ++ c)) r5)

output_sound : (c d : Cursor) (x : Command) → output c ≡ up_to x d → Found (Behind word.Output) x c d
unfolding output
output_sound c d x h =
    let t = twice (told is_name take_name c) _ x d h in
    let f = named_exact.sound c t.between t.value t.first in
    let u = twice (expect (is_keyword word.To) t.between) _ x d t.second in
    let k = word_read word.To (expect_begins (is_keyword word.To) t.between u.between u.value u.first) in
    let v = twice (take_text u.between) _ x d u.second in
    let i = text_sound u.between v.between v.value v.first in
    let w = twice (optional word.Using take_name v.between) _ x d v.second in
    let g = by_exact.sound v.between w.between w.value w.first in
    let y = twice (stored w.between) _ x d w.second in
    let m = stored_exact.sound w.between y.between y.value y.first in
    let found : Found (Behind word.Output) (Output t.value v.value w.value y.value) c y.between = record {
      words = f.words ++ keyword word.To ∷ text v.value ∷ (g.words ++ m.words);
      rest_is = output_rest f.words g.words m.words c.rest t.between.rest u.between.rest v.between.rest w.between.rest y.between.rest v.value f.rest_is k.rest_is
          (i.rest_is ∙ ap (λ z. z ++ v.between.rest) i.spelled) g.rest_is m.rest_is;
      aggs_are = m.aggs_are ∙ g.aggs_are ∙ i.aggs_are ∙ k.aggs_are ∙ f.aggs_are;
      spelled = (f.words, g.words, m.words, refl, f.spelled, g.spelled, m.spelled);
    } in
    Found-same found (some_same y.second)

output_complete : (ts : List Lexeme) (x : Command) → Behind word.Output ts x → (rest : List Lexeme) (gs : List RawAgg) → OutputEnds rest → output (at (ts ++ rest) gs) ≡ up_to x (at rest gs)
unfolding output
output_complete ts (Output from stream by st) (a, b, c, q, i, j, k) rest gs e =
    let words : ts ++ rest ≡ a ++ (keyword word.To ∷ text stream ∷ (b ++ (c ++ rest))) =
    ap (λ z. z ++ rest) (tail_same q) ∙ append_assoc a (keyword word.To ∷ text stream ∷ (b ++ c)) rest
    ∙ ap (λ z. a ++ (keyword word.To ∷ text stream ∷ z)) (append_assoc b c rest) in
    let first = named_exact.complete a from i (keyword word.To ∷ text stream ∷ (b ++ (c ++ rest))) gs (tt, refl) in
    let no_using = weak_first (is_keyword word.Using) SpellsDeclared weak.Stored c st (weak_no_keyword weak.Stored word.Using) k rest e.1 in
    rw (
      words,
      first,
      expect_yes (is_keyword word.To) (keyword word.To) (text stream ∷ (b ++ (c ++ rest))) gs refl,
      text_complete (text stream ∷ []) stream refl (b ++ (c ++ rest)) gs tt,
      by_exact.complete b by j (c ++ rest) gs (tt, no_using),
      stored_exact.complete c st k rest gs e.0,
    ) refl
output_complete ts (Extract cols stream op st) h rest gs e = let q = h.3 in absurd (cc)
output_complete ts (Select s) h rest gs e = let q = h.whole in absurd (cc)
output_complete ts (Process from op cols) h rest gs e = let q = h.2 in absurd (cc)
output_complete ts (Reduce from keys on op cols) h rest gs e = let q = h.4 in absurd (cc)
output_complete ts (Combine l lk s sk on op cols) h rest gs e = let q = h.4 in absurd (cc)

pub output_exact : IsExact (Behind word.Output) output OutputEnds
output_exact = record { sound = output_sound; complete = output_complete }
