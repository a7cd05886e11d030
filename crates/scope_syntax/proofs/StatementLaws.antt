-- Statements are read exactly.
use Rattle.std.proofs.Common.{◌≡◌, ◌+◌, ◌≤◌, ◌^◌, ℕ, Bool, true, false, List, [], ◌∷◌, ◌++◌, length, Option, Some, None, refl, sym, ap, ◌∙◌, arith, subst, append_assoc, append-nil, length-append, if◌then◌else◌}
use Rattle.script_trees.specs.declared.command.Command.{Command}
use Rattle.script_trees.specs.declared.command.Command.TheVariants.{Extract, Select, Process, Reduce, Combine, Output}
use Rattle.script_trees.specs.declared.item.Item.{Item}
use Rattle.script_trees.specs.declared.item.Items.{Items}
use Rattle.script_trees.specs.declared.item.Items.TheVariants.{All, Listed}
use Rattle.expression_syntax.specs.declared.keyword.Keyword.{Keyword}
use Rattle.expression_syntax.specs.declared.keyword.Keyword.TheVariants as word
use Rattle.script_trees.specs.declared.raw_agg.RawAgg.{RawAgg}
use Rattle.script_trees.specs.declared.script.Statement.{Statement}
use Rattle.script_trees.specs.declared.select.Select as selects
use Rattle.expression_syntax.specs.declared.symbol.Symbol.TheVariants as mark
use Rattle.expression_syntax.specs.Lexemes.{Lexeme, keyword, symbol, name, number, text, is_keyword, is_symbol}
use Rattle.expression_syntax.specs.Parts as parts
use Rattle.scope_syntax.specs.Statements as g
use Rattle.expression_syntax.specs.Parts.{SpellsItem, SpellsItems, SpellsListed, is_comma}
use Rattle.expression_syntax.specs.declared.weak_keyword.WeakKeyword.TheVariants as weak
use Rattle.scope_syntax.specs.Statements.{SpellsCommand, SpellsDeclared, SpellsSelect, SpellsStatement, can_be_named}
use Rattle.expression_syntax.specs.Reading.{Cursor, Parser, ◌>>=◌, expect, pure, refuse, take_one}
use Rattle.expression_syntax.specs.ReadParts.{call, column, list, take_text}
use Rattle.scope_syntax.specs.ReadSelect.{select}
use Rattle.scope_syntax.specs.ReadStored.{stored}
use Rattle.scope_syntax.specs.ReadStatements.{command, command_from, extract, if_nothing_left, named_statement, read_statement, selection, statement, statement_from, whole_of, with_name, without_name}
use Rattle.expression_syntax.proofs.Closed.{goes_on}
use Rattle.scope_syntax.proofs.CommandLaws.{Behind, combine_exact, output_exact, process_exact, reduce_exact, text_exact}
use Rattle.expression_syntax.proofs.Exact.{Found, Found-same, IsExact, mark_read, word_read}
use Rattle.expression_syntax.proofs.ExpressionLaws.{aggregates_few}
use Rattle.expression_syntax.proofs.Forward.{at, expect_yes, take_known}
use Rattle.expression_syntax.proofs.PartLaws.{call_exact, columns_exact}
use Rattle.scope_syntax.proofs.SelectLaws.{select_complete, select_sound}
use Rattle.scope_syntax.proofs.StoredLaws.{StoredEnds, nothing_stored, stored_exact}
use Rattle.expression_syntax.proofs.Steps.{Same, expect_begins, some_same, take_takes, twice, up_to}
use Rattle.expression_syntax.proofs.Weak.{weak_closed, weak_first}

-- ---- EXTRACT

extract_rest : (a b c r0 r1 r2 r3 r4 r5 r6 : List Lexeme) (s : List ℕ) → r0 ≡ a ++ r1 → r1 ≡ keyword word.From ∷ r2 → r2 ≡ text s ∷ r3 → r3 ≡ keyword word.Using ∷ r4 → r4 ≡ b ++ r5 → r5 ≡ c ++ r6
    → r0 ≡ (a ++ keyword word.From ∷ text s ∷ keyword word.Using ∷ (b ++ c)) ++ r6
extract_rest a b c r0 r1 r2 r3 r4 r5 r6 s h i j k l m =
    let op = l ∙ ap (λ z. b ++ z) m ∙ sym (append_assoc b c r6) in
    h ∙ ap (λ z. a ++ z) (i ∙ ap (λ z. keyword word.From ∷ z) (j ∙ ap (λ z. text s ∷ z) (k ∙ ap (λ z. keyword word.Using ∷ z) op)))
    ∙ sym (append_assoc a (keyword word.From ∷ text s ∷ keyword word.Using ∷ (b ++ c)) r6)

extract_sound : (c d : Cursor) (x : Command) → extract c ≡ up_to x d → Found (Behind word.Extract) x c d
unfolding extract
extract_sound c d x h =
    let t = twice (list is_comma column c) _ x d h in
    let f = columns_exact.sound c t.between t.value t.first in
    let u = twice (expect (is_keyword word.From) t.between) _ x d t.second in
    let k = word_read word.From (expect_begins (is_keyword word.From) t.between u.between u.value u.first) in
    let v = twice (take_text u.between) _ x d u.second in
    let i = text_exact.sound u.between v.between v.value v.first in
    let w = twice (expect (is_keyword word.Using) v.between) _ x d v.second in
    let l = word_read word.Using (expect_begins (is_keyword word.Using) v.between w.between w.value w.first) in
    let y = twice (call w.between) _ x d w.second in
    let m = call_exact.sound w.between y.between y.value y.first in
    let s = twice (stored y.between) _ x d y.second in
    let n = stored_exact.sound y.between s.between s.value s.first in
    let found : Found (Behind word.Extract) (Extract t.value v.value y.value s.value) c s.between = record {
      words = f.words ++ keyword word.From ∷ text v.value ∷ keyword word.Using ∷ (m.words ++ n.words);
      rest_is = extract_rest f.words m.words n.words c.rest t.between.rest u.between.rest v.between.rest w.between.rest y.between.rest s.between.rest v.value f.rest_is k.rest_is
          (i.rest_is ∙ ap (λ z. z ++ v.between.rest) i.spelled) l.rest_is m.rest_is n.rest_is;
      aggs_are = n.aggs_are ∙ m.aggs_are ∙ l.aggs_are ∙ i.aggs_are ∙ k.aggs_are ∙ f.aggs_are;
      spelled = (f.words, m.words, n.words, refl, f.spelled, m.spelled, n.spelled);
    } in
    Found-same found (some_same s.second)

behind_word : (w : Keyword) (ts us : List Lexeme) → keyword w ∷ ts ≡ keyword w ∷ us → ts ≡ us
behind_word w ts us h = cc

extract_complete : (ts : List Lexeme) (x : Command) → Behind word.Extract ts x → (rest : List Lexeme) (gs : List RawAgg) → StoredEnds rest → extract (at (ts ++ rest) gs) ≡ up_to x (at rest gs)
unfolding extract
extract_complete ts (Extract cols stream op st) (a, b, c, q, i, j, k) rest gs e =
    let words : ts ++ rest ≡ a ++ (keyword word.From ∷ text stream ∷ keyword word.Using ∷ (b ++ (c ++ rest))) =
    ap (λ z. z ++ rest) (behind_word word.Extract ts _ q) ∙ append_assoc a (keyword word.From ∷ text stream ∷ keyword word.Using ∷ (b ++ c)) rest
    ∙ ap (λ z. a ++ (keyword word.From ∷ text stream ∷ keyword word.Using ∷ z)) (append_assoc b c rest) in
    let closed = weak_first goes_on SpellsDeclared weak.Stored c st (weak_closed weak.Stored) k rest e.closed in
    rw (
      words,
      columns_exact.complete a cols i (keyword word.From ∷ text stream ∷ keyword word.Using ∷ (b ++ (c ++ rest))) gs refl,
      expect_yes (is_keyword word.From) (keyword word.From) (text stream ∷ keyword word.Using ∷ (b ++ (c ++ rest))) gs refl,
      text_exact.complete (text stream ∷ []) stream refl (keyword word.Using ∷ (b ++ (c ++ rest))) gs tt,
      expect_yes (is_keyword word.Using) (keyword word.Using) (b ++ (c ++ rest)) gs refl,
      call_exact.complete b op j (c ++ rest) gs closed,
      stored_exact.complete c st k rest gs e,
    ) refl
extract_complete ts (Output from stream by st) h rest gs e = let q = h.3 in absurd (cc)
extract_complete ts (Select s) h rest gs e = let q = h.whole in absurd (cc)
extract_complete ts (Process from op cols) h rest gs e = let q = h.2 in absurd (cc)
extract_complete ts (Reduce from keys on op cols) h rest gs e = let q = h.4 in absurd (cc)
extract_complete ts (Combine l lk s sk on op cols) h rest gs e = let q = h.4 in absurd (cc)

extract_exact : IsExact (Behind word.Extract) extract StoredEnds
extract_exact = record { sound = extract_sound; complete = extract_complete }

-- ---- commands

-- a command was read whose first lexeme is known
record FoundCommand (t : Lexeme) (x : Command) (ts : List Lexeme) (d : Cursor) : Type 0 where
  words : List Lexeme
  rest_is : ts ≡ words ++ d.rest
  spelled : SpellsCommand (t ∷ words) x

as_command : (w : Keyword) (x : Command) (ts : List Lexeme) (d : Cursor) → Found (Behind w) x (at ts []) d → FoundCommand (keyword w) x ts d
as_command w x ts d f = record { words = f.words; rest_is = f.rest_is; spelled = f.spelled }

selection_sound : (ts : List Lexeme) (d : Cursor) (x : Command) → selection (at ts []) ≡ up_to x d → FoundCommand (keyword word.Select) x ts d
unfolding selection
selection_sound ts d x h =
    let t = twice (select (at ts [])) (λ s. pure (Select s)) x d h in
    let f = select_sound ts t.between t.value t.first in
    let s = some_same t.second in
    let found : FoundCommand (keyword word.Select) (Select t.value) ts t.between = record { words = f.words; rest_is = f.rest_is; spelled = f.spelled } in
    subst (λ z. FoundCommand (keyword word.Select) x ts z) s.place (subst (λ z. FoundCommand (keyword word.Select) z ts t.between) s.value found)

command_from_sound : (t : Lexeme) (ts : List Lexeme) (d : Cursor) (x : Command) → command_from t (at ts []) ≡ up_to x d → FoundCommand t x ts d
command_from_sound (keyword word.Extract) ts d x h = as_command word.Extract x ts d (extract_exact.sound (at ts []) d x h)
command_from_sound (keyword word.Select) ts d x h = selection_sound ts d x h
command_from_sound (keyword word.Process) ts d x h = as_command word.Process x ts d (process_exact.sound (at ts []) d x h)
command_from_sound (keyword word.Reduce) ts d x h = as_command word.Reduce x ts d (reduce_exact.sound (at ts []) d x h)
command_from_sound (keyword word.Combine) ts d x h = as_command word.Combine x ts d (combine_exact.sound (at ts []) d x h)
command_from_sound (keyword word.Output) ts d x h = as_command word.Output x ts d (output_exact.sound (at ts []) d x h)
command_from_sound t ts d x h = absurd (cc)

-- the word that a command begins with
abbrev word_of : Command → Keyword
word_of (Extract cols stream op st) = word.Extract
word_of (Select s) = word.Select
word_of (Process from op cols) = word.Process
word_of (Reduce from keys on op cols) = word.Reduce
word_of (Combine l lk s sk on op cols) = word.Combine
word_of (Output from stream by st) = word.Output

begins_with_word : (ts : List Lexeme) (x : Command) → SpellsCommand ts x → (us : List Lexeme) × (ts ≡ keyword (word_of x) ∷ us)
begins_with_word ts (Extract cols stream op st) h = (_, h.3)
begins_with_word ts (Select s) h = (_, h.whole)
begins_with_word ts (Process from op cols) h = (_, h.2)
begins_with_word ts (Reduce from keys on op cols) h = (_, h.4)
begins_with_word ts (Combine l lk s sk on op cols) h = (_, h.4)
begins_with_word ts (Output from stream by st) h = (_, h.3)

-- the aggregates of a command's items
abbrev few_aggregates : Command → Type 0
few_aggregates (Select s) = length s.aggs ≤ 2 ^ 32
few_aggregates _ = Unit {0}

to_end : (E : List Lexeme → Type 0) (P : List Lexeme → Command → Type 0) (p : Parser Command) (x : IsExact P p E) (ts : List Lexeme) (c : Command) → P ts c → E [] → p (at ts []) ≡ up_to c (at [] [])
to_end E P p x ts c h e = ap (λ z. p (at z [])) (sym (append-nil ts)) ∙ x.complete ts c h [] [] e

selection_complete : (ts : List Lexeme) (s : selects.Select) → SpellsSelect (keyword word.Select ∷ ts) s → length s.aggs ≤ 2 ^ 32 → selection (at ts []) ≡ up_to (Select s) (at [] [])
unfolding selection
selection_complete ts s h few = rw (select_complete ts s h few) refl

command_from_complete : (ts : List Lexeme) (x : Command) → SpellsCommand (keyword (word_of x) ∷ ts) x → few_aggregates x → command_from (keyword (word_of x)) (at ts []) ≡ up_to x (at [] [])
command_from_complete ts (Extract cols stream op st) h few = to_end _ _ _ extract_exact ts (Extract cols stream op st) h nothing_stored
command_from_complete ts (Select s) h few = selection_complete ts s h few
command_from_complete ts (Process from op cols) h few = to_end _ _ _ process_exact ts (Process from op cols) h refl
command_from_complete ts (Reduce from keys on op cols) h few = to_end _ _ _ reduce_exact ts (Reduce from keys on op cols) h refl
command_from_complete ts (Combine l lk s sk on op cols) h few = to_end _ _ _ combine_exact ts (Combine l lk s sk on op cols) h refl
command_from_complete ts (Output from stream by st) h few = to_end _ _ _ output_exact ts (Output from stream by st) h (nothing_stored, refl)

-- ---- the number of aggregates

item_few : {n : ℕ} {ts : List Lexeme} {x : Item} {gs : List RawAgg} → SpellsItem n ts x gs → length gs ≤ length ts
item_few (parts.bare r) = omega arith
item_few (parts.named {ts = ts} {c = c} h) = let k = aggregates_few h in omega (arith, k, length-append ts (keyword word.As ∷ name c ∷ []))

listed_few : (n : ℕ) (ts : List Lexeme) (xs : List Item) (gs : List RawAgg) → SpellsListed n ts xs gs → length gs ≤ length ts
listed_few n ts [] gs h = absurd h
listed_few n ts (x ∷ []) gs h = item_few h
listed_few n ts (x ∷ y ∷ more) gs (a, b, fs, hs, e, q, i, l) =
    let first = item_few i in
    let later = listed_few (n + length fs) b (y ∷ more) hs l in
    omega (arith, first, later, ap length e, ap length q, length-append a (symbol mark.Comma ∷ b), length-append fs hs)

items_few : (ts : List Lexeme) (xs : Items) (gs : List RawAgg) → SpellsItems ts xs gs → length gs ≤ length ts
items_few ts All gs h = omega (arith, ap length h.1)
items_few ts (Listed xs) gs h = listed_few 0 ts xs gs h

select_few : (ts : List Lexeme) (s : selects.Select) → SpellsSelect ts s → length s.aggs ≤ length ts
select_few ts s h =
    let few = items_few h.items_part s.items s.aggs h.items in
    let behind = h.from_part ++ (h.where_part ++ (h.group_part ++ (h.having_part ++ h.order_part))) in
    omega (arith, few, ap length h.whole, length-append h.distinct_part (h.top_part ++ (h.items_part ++ behind)), length-append h.top_part (h.items_part ++ behind), length-append h.items_part behind)

command_few : (ts : List Lexeme) (x : Command) → SpellsCommand ts x → length ts ≤ 2 ^ 32 → few_aggregates x
command_few ts (Select s) h few = let k = select_few ts s h in omega (arith, k)
command_few ts (Extract cols stream op st) h few = tt
command_few ts (Process from op cols) h few = tt
command_few ts (Reduce from keys on op cols) h few = tt
command_few ts (Combine l lk s sk on op cols) h few = tt
command_few ts (Output from stream by st) h few = tt

-- ---- statements

-- a statement was read whose first lexeme is known
record FoundStatement (t : Lexeme) (x : Statement) (ts : List Lexeme) (d : Cursor) : Type 0 where
  words : List Lexeme
  rest_is : ts ≡ words ++ d.rest
  spelled : SpellsStatement (t ∷ words) x

FoundStatement-same : {t : Lexeme} {a x : Statement} {ts : List Lexeme} {c d : Cursor} → FoundStatement t a ts c → Same a x c d → FoundStatement t x ts d
FoundStatement-same {t} {a} {x} {ts} {c} {d} f s = subst (λ z. FoundStatement t x ts z) s.place (subst (λ z. FoundStatement t z ts c) s.value f)

from_command : (t : Lexeme) (ts : List Lexeme) (d : Cursor) (x : Statement) → (command_from t >>= (λ c. pure (without_name c))) (at ts []) ≡ up_to x d → FoundStatement t x ts d
from_command t ts d x h =
    let c = twice (command_from t (at ts [])) (λ c. pure (without_name c)) x d h in
    let f = command_from_sound t ts c.between c.value c.first in
    let found : FoundStatement t (without_name c.value) ts c.between = record { words = f.words; rest_is = f.rest_is; spelled = g.unnamed f.spelled } in
    FoundStatement-same found (some_same c.second)

named_by : (b : Bool) (n : List ℕ) (c : Command) → can_be_named c ≡ b → (x : Statement) (old d : Cursor) → (if b then pure (record { name = Some n; command = c }) else refuse) old ≡ up_to x d
    → (can_be_named c ≡ true) × Same (let y : Statement = record { name = Some n; command = c } in y) x old d
named_by true n c q x old d h = (q, some_same h)
named_by false n c q x old d h = absurd (cc)

at_none : (c : Cursor) → c.aggs ≡ [] → c ≡ at c.rest []
at_none c h = ap (λ z. at c.rest z) h

named_sound : (n : List ℕ) (ts : List Lexeme) (d : Cursor) (x : Statement) → named_statement n (at ts []) ≡ up_to x d → FoundStatement (name n) x ts d
unfolding named_statement command
named_sound n ts d x h =
    let t = twice (expect (is_symbol mark.Is) (at ts [])) _ x d h in
    let k = mark_read mark.Is (expect_begins (is_symbol mark.Is) (at ts []) t.between t.value t.first) in
    let v = twice (command t.between) (with_name n) x d t.second in
    let first = twice (take_one t.between) command_from v.value v.between v.first in
    let l = take_takes t.between first.value first.between first.first in
    let place = at_none first.between (l.aggs_are ∙ k.aggs_are) in
    let f = command_from_sound first.value first.between.rest v.between v.value (ap (command_from first.value) (sym place) ∙ first.second) in
    let s = named_by (can_be_named v.value) n v.value refl x v.between d v.second in
    let found : FoundStatement (name n) (record { name = Some n; command = v.value }) ts v.between = record {
      words = symbol mark.Is ∷ first.value ∷ f.words;
      rest_is = k.rest_is ∙ ap (λ z. symbol mark.Is ∷ z) (l.rest_is ∙ ap (λ z. first.value ∷ z) f.rest_is);
      spelled = g.named s.0 f.spelled;
    } in
    FoundStatement-same found s.1

statement_from_sound : (t : Lexeme) (ts : List Lexeme) (d : Cursor) (x : Statement) → statement_from t (at ts []) ≡ up_to x d → FoundStatement t x ts d
statement_from_sound (name n) ts d x h = named_sound n ts d x h
statement_from_sound (keyword k) ts d x h = from_command (keyword k) ts d x h
statement_from_sound (symbol s) ts d x h = from_command (symbol s) ts d x h
statement_from_sound (number b n) ts d x h = from_command (number b n) ts d x h
statement_from_sound (text b) ts d x h = from_command (text b) ts d x h

statement_sound : (ts : List Lexeme) (d : Cursor) (x : Statement) → statement (at ts []) ≡ up_to x d → d.rest ≡ [] → SpellsStatement ts x
unfolding statement
statement_sound ts d x h e =
    let t = twice (take_one (at ts [])) statement_from x d h in
    let k = take_takes (at ts []) t.value t.between t.first in
    let f = statement_from_sound t.value t.between.rest d x (ap (statement_from t.value) (sym (at_none t.between k.aggs_are)) ∙ t.second) in
    let words : ts ≡ t.value ∷ f.words = k.rest_is ∙ ap (λ z. t.value ∷ z) (f.rest_is ∙ ap (λ z. f.words ++ z) e ∙ append-nil f.words) in
    subst (λ z. SpellsStatement z x) (sym words) f.spelled

command_complete : (ts : List Lexeme) (x : Command) → SpellsCommand ts x → length ts ≤ 2 ^ 32 → command (at ts []) ≡ up_to x (at [] [])
unfolding command
command_complete ts x h few =
    let w = begins_with_word ts x h in
    let run = command_from_complete w.0 x (subst (λ z. SpellsCommand z x) w.1 h) (command_few ts x h few) in
    rw (w.1, take_known (keyword (word_of x)) w.0 []) run

statement_complete : (ts : List Lexeme) (x : Statement) → SpellsStatement ts x → length ts ≤ 2 ^ 32 → statement (at ts []) ≡ up_to x (at [] [])
unfolding statement named_statement
statement_complete ts x (g.unnamed {c = c} h) few =
    let w = begins_with_word ts c h in
    let run = command_from_complete w.0 c (subst (λ z. SpellsCommand z c) w.1 h) (command_few ts c h few) in
    rw (w.1, take_known (keyword (word_of c)) w.0 [], run) refl
statement_complete ts x (g.named {ts = us} {c = c} {n = n} can h) few =
    rw (take_known (name n) (symbol mark.Is ∷ us) [], expect_yes (is_symbol mark.Is) (symbol mark.Is) us [] refl, command_complete us c h (omega arith), can) refl

nothing_left : (s x : Statement) (rest : List Lexeme) → if_nothing_left s rest ≡ Some x → (s ≡ x) × (rest ≡ [])
nothing_left s x [] h = (cc, refl)
nothing_left s x (t ∷ ts) h = absurd (cc)

whole_sound : (ts : List Lexeme) (x : Statement) (o : Option (Statement × Cursor)) → statement (at ts []) ≡ o → whole_of o ≡ Some x → SpellsStatement ts x
whole_sound ts x None e h = absurd (cc)
whole_sound ts x (Some p) e h = let n = nothing_left p.0 x p.1.rest h in subst (λ z. SpellsStatement ts z) n.0 (statement_sound ts p.1 p.0 e n.1)

pub read_sound : (ts : List Lexeme) (x : Statement) → read_statement ts ≡ Some x → SpellsStatement ts x
unfolding read_statement
read_sound ts x h = whole_sound ts x (statement (at ts [])) refl h

pub read_complete : (ts : List Lexeme) (x : Statement) → SpellsStatement ts x → length ts ≤ 2 ^ 32 → read_statement ts ≡ Some x
unfolding read_statement
read_complete ts x h few = rw (statement_complete ts x h few) refl
