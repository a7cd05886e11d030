-- The parts of commands are read exactly.
use Rattle.std.proofs.Common.{◌≡◌, ◌<◌, ℕ, ℤ, Bool, true, false, List, [], ◌∷◌, ◌++◌, Option, Some, None, refl, sym, ap, ◌∙◌, arith, subst, append_assoc, if◌then◌else◌}
use Rattle.scope_value.specs.declared.schema.ColType.{ColType}
use Rattle.scope_value.specs.declared.schema.ColType.TheVariants as kind
use Rattle.scope_value.specs.declared.schema.Column.{Column}
use Rattle.script_trees.specs.declared.raw.RawRef.{RawRef}
use Rattle.script_trees.specs.declared.call.Call.{Call}
use Rattle.script_trees.specs.declared.key.RawKey.{RawKey}
use Rattle.expression_syntax.specs.declared.keyword.Keyword.{Keyword}
use Rattle.expression_syntax.specs.declared.keyword.Keyword.TheVariants as word
use Rattle.script_trees.specs.declared.raw_agg.RawAgg.{RawAgg}
use Rattle.script_trees.specs.declared.source.Origin.{Origin}
use Rattle.script_trees.specs.declared.source.Origin.TheVariants.{Named, Stream}
use Rattle.script_trees.specs.declared.source.Source.{Source}
use Rattle.expression_syntax.specs.declared.symbol.Symbol.TheVariants as mark
use Rattle.expression_syntax.specs.Lexemes.{Lexeme, keyword, symbol, name, number, text, is_keyword, is_symbol}
use Rattle.expression_syntax.specs.Expressions.{SpellsRef}
use Rattle.expression_syntax.specs.Parts as g
use Rattle.expression_syntax.specs.Parts.{SpellsAfter, SpellsArg, SpellsArgs, SpellsCall, SpellsColumn, SpellsColumns, SpellsEqualities, SpellsEquality, SpellsKey, SpellsKeys, SpellsList, SpellsName, SpellsOptional, SpellsOrigin, SpellsRefs, SpellsSource, is_and, is_comma, type_word}
use Rattle.expression_syntax.specs.Reading.{Cursor, Parser, ◌>>=◌, ◌>>◌, begins, eat, expect, pure, take_name, take_one}
use Rattle.expression_syntax.specs.ReadParts.{alias, arg, args, arg_from, call, call_of, column, column_of, digits_from, down, equality, key, list, negative, origin, origin_from, reference, source, stream, typed, typed_column, typed_from}
use Rattle.expression_syntax.proofs.Closed.{Closed, NotFirst, and_bound, closed_and, closed_as, closed_asc, closed_bound, closed_comma, closed_desc, closed_symbol, comma_is, list_first, option_first}
use Rattle.expression_syntax.proofs.Exact.{Found, Found-same, IsExact, ListEnds, OptionEnds, list_exact, mark_read, optional_exact, word_read}
use Rattle.expression_syntax.proofs.ExpressionLaws.{ref_complete, ref_sound}
use Rattle.expression_syntax.proofs.Follow.{bound}
use Rattle.expression_syntax.proofs.Forward.{at, eat_no, eat_yes, expect_yes, name_known, take_known}
use Rattle.expression_syntax.proofs.Sound.{TookRef, take_name_takes}
use Rattle.expression_syntax.proofs.Steps.{Same, Takes, eat_false, eat_true, expect_begins, some_same, symbol_true, take_takes, twice, up_to}

-- whatever follows
abbrev pub Any : List Lexeme → Type 0
Any rest = Unit {0}

pub exact_before : {A : Type 0} {P : List Lexeme → A → Type 0} {p : Parser A} {E : List Lexeme → Type 0} → IsExact P p E → (F : List Lexeme → Type 0)
    → ((rest : List Lexeme) → F rest → E rest) → IsExact P p F
exact_before x F f = record { sound = x.sound; complete = λ ts y h rest gs e. x.complete ts y h rest gs (f rest e) }

-- one lexeme was taken, and the reading ends there
one_found : {A : Type 0} (P : List Lexeme → A → Type 0) (t : Lexeme) (c c1 d : Cursor) (a x : A) → Takes t c c1 → up_to a c1 ≡ up_to x d → P (t ∷ []) a → Found P x c d
one_found P t c c1 d a x k h s =
    let f : Found P a c c1 = record { words = t ∷ []; rest_is = k.rest_is; aggs_are = k.aggs_are; spelled = s } in
    Found-same f (some_same h)

-- ---- names

pub name_exact : IsExact SpellsName take_name Any
name_exact = record {
  sound = λ c d x h. let k = take_name_takes c x d h in record { words = name x ∷ []; rest_is = k.rest_is; aggs_are = k.aggs_are; spelled = refl };
  complete = λ ts x h rest gs e. rw h (name_known x rest gs);
}

-- ---- arguments

-- a number was taken
record Digits (f : List ℕ → List ℕ) (t : Lexeme) (x : List ℕ) (c d : Cursor) : Type 0 where
  digits : List ℕ
  value : ℤ
  is : t ≡ number digits value
  same : Same (f digits) x c d

digits_by : (f : List ℕ → List ℕ) (t : Lexeme) (x : List ℕ) (c d : Cursor) → digits_from f t c ≡ up_to x d → Digits f t x c d
digits_by f (number v n) x c d h = record { digits = v; value = n; is = refl; same = some_same h }
digits_by f (keyword k) x c d h = absurd (cc)
digits_by f (symbol s) x c d h = absurd (cc)
digits_by f (name b) x c d h = absurd (cc)
digits_by f (text b) x c d h = absurd (cc)

negative_sound : (c d : Cursor) (x : List ℕ) → negative c ≡ up_to x d → (digits : List ℕ) × (n : ℤ) × Takes (number digits n) c d × (45 ∷ digits ≡ x)
unfolding negative
negative_sound c d x h =
    let t = twice (take_one c) (digits_from (λ digits. 45 ∷ digits)) x d h in
    let k = take_takes c t.value t.between t.first in
    let n = digits_by (λ digits. 45 ∷ digits) t.value x t.between d t.second in
    (n.digits, n.value, subst (λ z. Takes (number n.digits n.value) c z) n.same.place (subst (λ z. Takes z c t.between) n.is k), n.same.value)

arg_by : (t : Lexeme) (c c1 d : Cursor) (x : List ℕ) → Takes t c c1 → arg_from t c1 ≡ up_to x d → Found SpellsArg x c d
arg_by (text s) c c1 d x k h = one_found SpellsArg (text s) c c1 d s x k h g.bytes
arg_by (number v n) c c1 d x k h = one_found SpellsArg (number v n) c c1 d v x k h g.digits
arg_by (symbol mark.Minus) c c1 d x k (h) =
    let n = negative_sound c1 d x h in
    let words = symbol mark.Minus ∷ number n.0 n.1 ∷ [] in
    record {
      words = words;
      rest_is = k.rest_is ∙ ap (λ z. symbol mark.Minus ∷ z) n.2.rest_is;
      aggs_are = n.2.aggs_are ∙ k.aggs_are;
      spelled = subst (λ z. SpellsArg words z) n.3 g.minus;
    }
arg_by t c c1 d x k h = absurd (cc)

arg_sound : (c d : Cursor) (x : List ℕ) → arg c ≡ up_to x d → Found SpellsArg x c d
unfolding arg
arg_sound c d x h =
    let t = twice (take_one c) arg_from x d h in arg_by t.value c t.between d x (take_takes c t.value t.between t.first) t.second

arg_complete : {ts : List Lexeme} {x : List ℕ} → SpellsArg ts x → (rest : List Lexeme) (gs : List RawAgg) → arg (at (ts ++ rest) gs) ≡ up_to x (at rest gs)
unfolding arg negative take_one
arg_complete g.bytes rest gs = refl
arg_complete g.digits rest gs = refl
arg_complete g.minus rest gs = refl

arg_exact : IsExact SpellsArg arg Any
arg_exact = record { sound = arg_sound; complete = λ ts x h rest gs e. arg_complete h rest gs }

arg_first : {ts : List Lexeme} {x : List ℕ} → SpellsArg ts x → NotFirst (is_symbol mark.Close) ts
arg_first g.bytes rest = refl
arg_first g.digits rest = refl
arg_first g.minus rest = refl

arg_list : IsExact (SpellsList is_comma SpellsArg) (list is_comma arg) (ListEnds is_comma SpellsArg arg Any arg_exact (λ o ts h. tt))
arg_list = list_exact is_comma SpellsArg arg Any arg_exact (λ o ts h. tt)

-- arguments and the closing bracket
abbrev SpellsClosed : List Lexeme → List (List ℕ) → Type 0
SpellsClosed ts xs = (a : List Lexeme) × (ts ≡ a ++ symbol mark.Close ∷ []) × SpellsArgs a xs

args_of : (ts : List Lexeme) (xs : List (List ℕ)) → SpellsList is_comma SpellsArg ts xs → SpellsArgs ts xs
args_of ts [] h = absurd h
args_of ts (x ∷ more) h = h

args_by : (b : Bool) (c c1 d : Cursor) (xs : List (List ℕ)) → eat (is_symbol mark.Close) c ≡ up_to b c1
    → (if b then pure [] else (list is_comma arg >>= (λ ys. expect (is_symbol mark.Close) >> pure ys))) c1 ≡ up_to xs d → Found SpellsClosed xs c d
args_by true c c1 d xs e h =
    one_found SpellsClosed (symbol mark.Close) c c1 d [] xs (mark_read mark.Close (eat_true (is_symbol mark.Close) c c1 e)) h ([], refl, refl)
args_by false c c1 d xs e h =
    let q = eat_false (is_symbol mark.Close) c c1 e in
    let t = twice (list is_comma arg c1) (λ ys. expect (is_symbol mark.Close) >> pure ys) xs d h in
    let f = arg_list.sound c1 t.between t.value t.first in
    let v = twice (expect (is_symbol mark.Close) t.between) (λ _. pure t.value) xs d t.second in
    let k = mark_read mark.Close (expect_begins (is_symbol mark.Close) t.between v.between v.value v.first) in
    let found : Found SpellsClosed t.value c1 v.between = record {
      words = f.words ++ symbol mark.Close ∷ [];
      rest_is = f.rest_is ∙ ap (λ z. f.words ++ z) k.rest_is ∙ sym (append_assoc f.words (symbol mark.Close ∷ []) v.between.rest);
      aggs_are = k.aggs_are ∙ f.aggs_are;
      spelled = (f.words, refl, args_of f.words t.value f.spelled);
    } in
    subst (λ z. Found SpellsClosed xs z d) (sym q) (Found-same found (some_same v.second))

args_sound : (c d : Cursor) (xs : List (List ℕ)) → args c ≡ up_to xs d → Found SpellsClosed xs c d
unfolding args
args_sound c d xs h = let t = twice (eat (is_symbol mark.Close) c) _ xs d h in args_by t.value c t.between d xs t.first t.second

args_complete : (ts : List Lexeme) (xs : List (List ℕ)) → SpellsArgs ts xs → (rest : List Lexeme) (gs : List RawAgg)
    → args (at (ts ++ symbol mark.Close ∷ rest) gs) ≡ up_to xs (at rest gs)
unfolding args
args_complete ts [] h rest gs = rw (h, eat_yes (is_symbol mark.Close) (symbol mark.Close) rest gs refl) refl
args_complete ts (x ∷ more) h rest gs =
    let first = list_first (is_symbol mark.Close) SpellsArg is_comma ts (x ∷ more) (λ a y s. arg_first s) h (symbol mark.Close ∷ rest) in
    rw (
      eat_no (is_symbol mark.Close) (ts ++ symbol mark.Close ∷ rest) gs first,
      arg_list.complete ts (x ∷ more) h (symbol mark.Close ∷ rest) gs (tt, refl),
      expect_yes (is_symbol mark.Close) (symbol mark.Close) rest gs refl,
    ) refl

-- ---- operators

call_by : (b : Bool) (o : List ℕ) (c0 c c1 d : Cursor) (x : Call) → Takes (name o) c0 c → eat (is_symbol mark.Open) c ≡ up_to b c1
    → (if b then (args >>= (λ xs. pure (record { op = o; args = xs }))) else pure (record { op = o; args = [] })) c1 ≡ up_to x d → Found SpellsCall x c0 d
call_by true o c0 c c1 d x n e h =
    let k = mark_read mark.Open (eat_true (is_symbol mark.Open) c c1 e) in
    let t = twice (args c1) (λ xs. let y : Call = record { op = o; args = xs } in pure y) x d h in
    let f = args_sound c1 t.between t.value t.first in
    let a = f.spelled.0 in
    let y : Call = record { op = o; args = t.value } in
    let found : Found SpellsCall y c0 t.between = record {
      words = name o ∷ symbol mark.Open ∷ (a ++ symbol mark.Close ∷ []);
      rest_is = n.rest_is ∙ ap (λ z. name o ∷ z) (k.rest_is ∙ ap (λ z. symbol mark.Open ∷ z) (f.rest_is ∙ ap (λ z. z ++ t.between.rest) f.spelled.1));
      aggs_are = f.aggs_are ∙ k.aggs_are ∙ n.aggs_are;
      spelled = g.called a f.spelled.2;
    } in
    Found-same found (some_same t.second)
call_by false o c0 c c1 d x n e h =
    let q = eat_false (is_symbol mark.Open) c c1 e in
    one_found SpellsCall (name o) c0 c1 d _ x (subst (λ z. Takes (name o) c0 z) q n) h g.alone

call_sound : (c d : Cursor) (x : Call) → call c ≡ up_to x d → Found SpellsCall x c d
unfolding call call_of
call_sound c d x h =
    let t = twice (take_name c) _ x d h in
    let v = twice (eat (is_symbol mark.Open) t.between) _ x d t.second in
    call_by v.value t.value c t.between v.between d x (take_name_takes c t.value t.between t.first) v.first v.second

call_complete : {ts : List Lexeme} {x : Call} → SpellsCall ts x → (rest : List Lexeme) (gs : List RawAgg) → begins (is_symbol mark.Open) rest ≡ false
    → call (at (ts ++ rest) gs) ≡ up_to x (at rest gs)
unfolding call call_of
call_complete (g.alone {c = o}) rest gs e = rw (name_known o rest gs, eat_no (is_symbol mark.Open) rest gs e) refl
call_complete (g.called {c = o} ts {args = xs} s) rest gs e =
    let all = (ts ++ symbol mark.Close ∷ []) ++ rest in
    let words : all ≡ ts ++ symbol mark.Close ∷ rest = append_assoc ts (symbol mark.Close ∷ []) rest in
    rw (name_known o (symbol mark.Open ∷ all) gs, eat_yes (is_symbol mark.Open) (symbol mark.Open) all gs refl, words, args_complete ts xs s rest gs) refl

pub call_exact : IsExact SpellsCall call Closed
call_exact = record { sound = call_sound; complete = λ ts x h rest gs e. call_complete h rest gs (closed_symbol mark.Open rest e) }

-- ---- columns

typed_by : (c : List ℕ) (o : Option ColType) (old d : Cursor) (x : Column) → typed c o old ≡ up_to x d → (k : ColType) × (o ≡ Some k) × Same (let y : Column = record { name = c; kind = k } in y) x old d
typed_by c None old d x h = absurd (cc)
typed_by c (Some k) old d x h = (k, refl, some_same h)

typed_from_by : (t : Lexeme) (n : List ℕ) (c d : Cursor) (x : Column) → typed_from n t c ≡ up_to x d
    → (w : List ℕ) × (k : ColType) × (t ≡ name w) × (type_word w ≡ Some k) × Same (let y : Column = record { name = n; kind = k } in y) x c d
typed_from_by (name w) n c d x h = let t = typed_by n (type_word w) c d x h in (w, t.0, refl, t.1, t.2)
typed_from_by t n c d x h = absurd (cc)

column_by : (b : Bool) (n : List ℕ) (c0 c c1 d : Cursor) (x : Column) → Takes (name n) c0 c → eat (is_symbol mark.Colon) c ≡ up_to b c1
    → (if b then typed_column n else pure (record { name = n; kind = kind.Text })) c1 ≡ up_to x d → Found SpellsColumn x c0 d
unfolding typed_column
column_by true n c0 c c1 d x m e h =
    let k = mark_read mark.Colon (eat_true (is_symbol mark.Colon) c c1 e) in
    let t = twice (take_one c1) (typed_from n) x d h in
    let y = typed_from_by t.value n t.between d x t.second in
    let l = subst (λ z. Takes z c1 t.between) y.2 (take_takes c1 t.value t.between t.first) in
    let found : Found SpellsColumn (record { name = n; kind = y.1 }) c0 t.between = record {
      words = name n ∷ symbol mark.Colon ∷ name y.0 ∷ [];
      rest_is = m.rest_is ∙ ap (λ z. name n ∷ z) (k.rest_is ∙ ap (λ z. symbol mark.Colon ∷ z) l.rest_is);
      aggs_are = l.aggs_are ∙ k.aggs_are ∙ m.aggs_are;
      spelled = g.typed y.0 y.3;
    } in
    Found-same found y.4
column_by false n c0 c c1 d x m e h =
    let q = eat_false (is_symbol mark.Colon) c c1 e in
    one_found SpellsColumn (name n) c0 c1 d _ x (subst (λ z. Takes (name n) c0 z) q m) h g.untyped

column_sound : (c d : Cursor) (x : Column) → column c ≡ up_to x d → Found SpellsColumn x c d
unfolding column column_of
column_sound c d x h =
    let t = twice (take_name c) _ x d h in
    let v = twice (eat (is_symbol mark.Colon) t.between) _ x d t.second in
    column_by v.value t.value c t.between v.between d x (take_name_takes c t.value t.between t.first) v.first v.second

column_complete : {ts : List Lexeme} {x : Column} → SpellsColumn ts x → (rest : List Lexeme) (gs : List RawAgg) → begins (is_symbol mark.Colon) rest ≡ false
    → column (at (ts ++ rest) gs) ≡ up_to x (at rest gs)
unfolding column column_of typed_column
column_complete (g.untyped {c = n}) rest gs e = rw (name_known n rest gs, eat_no (is_symbol mark.Colon) rest gs e) refl
column_complete (g.typed {c = n} w q) rest gs e =
    rw (name_known n (symbol mark.Colon ∷ name w ∷ rest) gs, eat_yes (is_symbol mark.Colon) (symbol mark.Colon) (name w ∷ rest) gs refl, take_known (name w) rest gs, q) refl

column_exact : IsExact SpellsColumn column (λ rest. begins (is_symbol mark.Colon) rest ≡ false)
column_exact = record { sound = column_sound; complete = λ ts x h rest gs e. column_complete h rest gs e }

comma_colon : (o : Lexeme) (ts : List Lexeme) → is_comma o ≡ true → begins (is_symbol mark.Colon) (o ∷ ts) ≡ false
comma_colon o ts h = rw (comma_is o h) refl

pub columns_exact : IsExact SpellsColumns (list is_comma column) Closed
columns_exact = exact_before (list_exact is_comma SpellsColumn column _ column_exact comma_colon) Closed (λ rest e. (closed_symbol mark.Colon rest e, closed_comma rest e))

-- ---- sources

stream_sound : (s : List ℕ) (c0 c d : Cursor) (x : Origin) → Takes (text s) c0 c → stream s c ≡ up_to x d → Found SpellsOrigin x c0 d
unfolding stream
stream_sound s c0 c d x m h =
    let t = twice (expect (is_keyword word.Using) c) _ x d h in
    let k = word_read word.Using (expect_begins (is_keyword word.Using) c t.between t.value t.first) in
    let v = twice (call t.between) (λ y. pure (Stream s y)) x d t.second in
    let f = call_sound t.between v.between v.value v.first in
    let found : Found SpellsOrigin (Stream s v.value) c0 v.between = record {
      words = text s ∷ keyword word.Using ∷ f.words;
      rest_is = m.rest_is ∙ ap (λ z. text s ∷ z) (k.rest_is ∙ ap (λ z. keyword word.Using ∷ z) f.rest_is);
      aggs_are = f.aggs_are ∙ k.aggs_are ∙ m.aggs_are;
      spelled = (f.words, refl, f.spelled);
    } in
    Found-same found (some_same v.second)

origin_by : (t : Lexeme) (c c1 d : Cursor) (x : Origin) → Takes t c c1 → origin_from t c1 ≡ up_to x d → Found SpellsOrigin x c d
origin_by (name n) c c1 d x k h = one_found SpellsOrigin (name n) c c1 d (Named n) x k h refl
origin_by (text s) c c1 d x k h = stream_sound s c c1 d x k h
origin_by t c c1 d x k h = absurd (cc)

origin_sound : (c d : Cursor) (x : Origin) → origin c ≡ up_to x d → Found SpellsOrigin x c d
unfolding origin
origin_sound c d x h = let t = twice (take_one c) origin_from x d h in origin_by t.value c t.between d x (take_takes c t.value t.between t.first) t.second

origin_complete : (ts : List Lexeme) (x : Origin) → SpellsOrigin ts x → (rest : List Lexeme) (gs : List RawAgg) → begins (is_symbol mark.Open) rest ≡ false
    → origin (at (ts ++ rest) gs) ≡ up_to x (at rest gs)
unfolding origin stream
origin_complete ts (Named n) h rest gs e = rw (h, take_known (name n) rest gs) refl
origin_complete ts (Stream s y) (a, q, i) rest gs e =
    rw (q, take_known (text s) (keyword word.Using ∷ (a ++ rest)) gs, expect_yes (is_keyword word.Using) (keyword word.Using) (a ++ rest) gs refl, call_complete i rest gs e) refl

alias_exact : IsExact (SpellsOptional (SpellsAfter word.As SpellsName)) alias (OptionEnds word.As SpellsName take_name Any name_exact)
alias_exact = optional_exact word.As SpellsName take_name Any name_exact

source_sound : (c d : Cursor) (x : Source) → source c ≡ up_to x d → Found SpellsSource x c d
unfolding source
source_sound c d x h =
    let t = twice (origin c) _ x d h in
    let f = origin_sound c t.between t.value t.first in
    let v = twice (alias t.between) _ x d t.second in
    let a = alias_exact.sound t.between v.between v.value v.first in
    let y : Source = record { origin = t.value; alias = v.value } in
    let found : Found SpellsSource y c v.between = record {
      words = f.words ++ a.words;
      rest_is = f.rest_is ∙ ap (λ z. f.words ++ z) a.rest_is ∙ sym (append_assoc f.words a.words v.between.rest);
      aggs_are = a.aggs_are ∙ f.aggs_are;
      spelled = (f.words, a.words, refl, f.spelled, a.spelled);
    } in
    Found-same found (some_same v.second)

source_complete : (ts : List Lexeme) (x : Source) → SpellsSource ts x → (rest : List Lexeme) (gs : List RawAgg) → Closed rest → source (at (ts ++ rest) gs) ≡ up_to x (at rest gs)
unfolding source
source_complete ts x (a, b, q, i, j) rest gs e =
    let words : ts ++ rest ≡ a ++ (b ++ rest) = ap (λ z. z ++ rest) q ∙ append_assoc a b rest in
    let open_no = option_first (is_symbol mark.Open) SpellsName word.As b x.alias refl j rest (closed_symbol mark.Open rest e) in
    rw (words, origin_complete a x.origin i (b ++ rest) gs open_no, alias_exact.complete b x.alias j rest gs (tt, closed_as rest e)) refl

pub source_exact : IsExact SpellsSource source Closed
source_exact = record { sound = source_sound; complete = source_complete }

-- ---- references, keys, equalities

-- a closing bracket ties to nothing before it
close_bound : (rest : List Lexeme) → begins (is_symbol mark.Close) rest ≡ true → bound rest < 8
close_bound [] h = absurd (cc)
close_bound (t ∷ ts) h = rw (symbol_true mark.Close t h) (omega arith)

close_comma : (rest : List Lexeme) → begins (is_symbol mark.Close) rest ≡ true → begins is_comma rest ≡ false
close_comma [] h = absurd (cc)
close_comma (t ∷ ts) h = rw (symbol_true mark.Close t h) refl

close_word : (w : Keyword) (rest : List Lexeme) → begins (is_symbol mark.Close) rest ≡ true → begins (is_keyword w) rest ≡ false
close_word w [] h = absurd (cc)
close_word w (t ∷ ts) h = rw (symbol_true mark.Close t h) refl

-- what follows isn't a dot
abbrev pub RefEnds : List Lexeme → Type 0
RefEnds rest = bound rest < 8

ref_found : {x : RawRef} {c d : Cursor} → TookRef x c d → Found SpellsRef x c d
ref_found t = record { words = t.words; rest_is = t.rest_is; aggs_are = t.aggs_are; spelled = t.spelled }

pub reference_exact : IsExact SpellsRef reference RefEnds
unfolding reference
reference_exact = record { sound = λ c d x h. ref_found (ref_sound c d x h); complete = λ ts x h rest gs e. ref_complete h rest gs e }

comma_bound : (o : Lexeme) (ts : List Lexeme) → is_comma o ≡ true → bound (o ∷ ts) < 8
comma_bound o ts h = rw (comma_is o h) (omega arith)

closed_ref : (rest : List Lexeme) → Closed rest → bound rest < 8
closed_ref rest h = let b = closed_bound rest h in omega arith

pub refs_exact : IsExact SpellsRefs (list is_comma reference) Closed
refs_exact = exact_before (list_exact is_comma SpellsRef reference RefEnds reference_exact comma_bound) Closed (λ rest e. (closed_ref rest e, closed_comma rest e))

-- the same before a closing bracket
pub refs_bracketed : IsExact SpellsRefs (list is_comma reference) (λ rest. begins (is_symbol mark.Close) rest ≡ true)
refs_bracketed = exact_before (list_exact is_comma SpellsRef reference RefEnds reference_exact comma_bound) (λ rest. begins (is_symbol mark.Close) rest ≡ true)
    (λ rest e. (close_bound rest e, close_comma rest e))

-- what follows isn't a dot, ASC or DESC
abbrev KeyEnds : List Lexeme → Type 0
KeyEnds rest = (bound rest < 8) × (begins (is_keyword word.Asc) rest ≡ false) × (begins (is_keyword word.Desc) rest ≡ false)

-- a column and a word behind it
worded : (w : Keyword) (y : RawKey) (x : RawRef) (c0 c1 c2 : Cursor) → Found SpellsRef x c0 c1 → Takes (keyword w) c1 c2
    → ((ts : List Lexeme) → SpellsRef ts x → SpellsKey (ts ++ keyword w ∷ []) y) → Found SpellsKey y c0 c2
worded w y x c0 c1 c2 f k s = record {
  words = f.words ++ keyword w ∷ [];
  rest_is = f.rest_is ∙ ap (λ z. f.words ++ z) k.rest_is ∙ sym (append_assoc f.words (keyword w ∷ []) c2.rest);
  aggs_are = k.aggs_are ∙ f.aggs_are;
  spelled = s f.words f.spelled;
}

down_by : (b : Bool) (a : RawRef) (c0 c c1 d : Cursor) (x : RawKey) → Found SpellsRef a c0 c → eat (is_keyword word.Desc) c ≡ up_to b c1
    → up_to (let y : RawKey = record { column = a; down = b } in y) c1 ≡ up_to x d → Found SpellsKey x c0 d
down_by true a c0 c c1 d x f e h =
    Found-same (worded word.Desc _ a c0 c c1 f (word_read word.Desc (eat_true (is_keyword word.Desc) c c1 e)) (λ ts s. g.down s)) (some_same h)
down_by false a c0 c c1 d x f e h =
    let y : RawKey = record { column = a; down = false } in
    let found : Found SpellsKey y c0 c = record { words = f.words; rest_is = f.rest_is; aggs_are = f.aggs_are; spelled = g.bare f.spelled } in
    Found-same (subst (λ z. Found SpellsKey y c0 z) (eat_false (is_keyword word.Desc) c c1 e) found) (some_same h)

key_by : (b : Bool) (a : RawRef) (c0 c c1 d : Cursor) (x : RawKey) → Found SpellsRef a c0 c → eat (is_keyword word.Asc) c ≡ up_to b c1
    → (if b then pure (record { column = a; down = false }) else down a) c1 ≡ up_to x d → Found SpellsKey x c0 d
unfolding down
key_by true a c0 c c1 d x f e h =
    Found-same (worded word.Asc _ a c0 c c1 f (word_read word.Asc (eat_true (is_keyword word.Asc) c c1 e)) (λ ts s. g.up s)) (some_same h)
key_by false a c0 c c1 d x f e h =
    let t = twice (eat (is_keyword word.Desc) c1) _ x d h in
    down_by t.value a c0 c1 t.between d x (subst (λ z. Found SpellsRef a c0 z) (eat_false (is_keyword word.Asc) c c1 e) f) t.first t.second

key_sound : (c d : Cursor) (x : RawKey) → key c ≡ up_to x d → Found SpellsKey x c d
unfolding key
key_sound c d x h =
    let t = twice (reference c) _ x d h in
    let v = twice (eat (is_keyword word.Asc) t.between) _ x d t.second in
    key_by v.value t.value c t.between v.between d x (reference_exact.sound c t.between t.value t.first) v.first v.second

key_complete : {ts : List Lexeme} {x : RawKey} → SpellsKey ts x → (rest : List Lexeme) (gs : List RawAgg) → KeyEnds rest → key (at (ts ++ rest) gs) ≡ up_to x (at rest gs)
unfolding key down
key_complete (g.bare {ts = ts} {r = a} s) rest gs e =
    rw (reference_exact.complete ts a s rest gs e.0, eat_no (is_keyword word.Asc) rest gs e.1, eat_no (is_keyword word.Desc) rest gs e.2) refl
key_complete (g.up {ts = ts} {r = a} s) rest gs e =
    rw (
      append_assoc ts (keyword word.Asc ∷ []) rest,
      reference_exact.complete ts a s (keyword word.Asc ∷ rest) gs (omega arith),
      eat_yes (is_keyword word.Asc) (keyword word.Asc) rest gs refl,
    ) refl
key_complete (g.down {ts = ts} {r = a} s) rest gs e =
    rw (
      append_assoc ts (keyword word.Desc ∷ []) rest,
      reference_exact.complete ts a s (keyword word.Desc ∷ rest) gs (omega arith),
      eat_no (is_keyword word.Asc) (keyword word.Desc ∷ rest) gs refl,
      eat_yes (is_keyword word.Desc) (keyword word.Desc) rest gs refl,
    ) refl

key_exact : IsExact SpellsKey key KeyEnds
key_exact = record { sound = key_sound; complete = λ ts x h rest gs e. key_complete h rest gs e }

comma_key : (o : Lexeme) (ts : List Lexeme) → is_comma o ≡ true → KeyEnds (o ∷ ts)
comma_key o ts h = (comma_bound o ts h, rw (comma_is o h) refl, rw (comma_is o h) refl)

pub keys_exact : IsExact SpellsKeys (list is_comma key) Closed
keys_exact = exact_before (list_exact is_comma SpellsKey key KeyEnds key_exact comma_key) Closed
    (λ rest e. ((closed_ref rest e, closed_asc rest e, closed_desc rest e), closed_comma rest e))

-- the same before a closing bracket
pub keys_bracketed : IsExact SpellsKeys (list is_comma key) (λ rest. begins (is_symbol mark.Close) rest ≡ true)
keys_bracketed = exact_before (list_exact is_comma SpellsKey key KeyEnds key_exact comma_key) (λ rest. begins (is_symbol mark.Close) rest ≡ true)
    (λ rest e. ((close_bound rest e, close_word word.Asc rest e, close_word word.Desc rest e), close_comma rest e))

equality_sound : (c d : Cursor) (x : RawRef × RawRef) → equality c ≡ up_to x d → Found SpellsEquality x c d
unfolding equality
equality_sound c d x h =
    let t = twice (reference c) _ x d h in
    let f = reference_exact.sound c t.between t.value t.first in
    let v = twice (expect (is_symbol mark.Equal) t.between) _ x d t.second in
    let k = mark_read mark.Equal (expect_begins (is_symbol mark.Equal) t.between v.between v.value v.first) in
    let w = twice (reference v.between) _ x d v.second in
    let i = reference_exact.sound v.between w.between w.value w.first in
    let found : Found SpellsEquality (t.value, w.value) c w.between = record {
      words = f.words ++ symbol mark.Equal ∷ i.words;
      rest_is = f.rest_is ∙ ap (λ z. f.words ++ z) (k.rest_is ∙ ap (λ z. symbol mark.Equal ∷ z) i.rest_is) ∙ sym (append_assoc f.words (symbol mark.Equal ∷ i.words) w.between.rest);
      aggs_are = i.aggs_are ∙ k.aggs_are ∙ f.aggs_are;
      spelled = (f.words, i.words, refl, f.spelled, i.spelled);
    } in
    Found-same found (some_same w.second)

equality_complete : (ts : List Lexeme) (x : RawRef × RawRef) → SpellsEquality ts x → (rest : List Lexeme) (gs : List RawAgg) → RefEnds rest → equality (at (ts ++ rest) gs) ≡ up_to x (at rest gs)
unfolding equality
equality_complete ts x (a, b, q, i, j) rest gs e =
    let words : ts ++ rest ≡ a ++ (symbol mark.Equal ∷ (b ++ rest)) = ap (λ z. z ++ rest) q ∙ append_assoc a (symbol mark.Equal ∷ b) rest in
    rw (
      words,
      reference_exact.complete a x.0 i (symbol mark.Equal ∷ (b ++ rest)) gs (omega arith),
      expect_yes (is_symbol mark.Equal) (symbol mark.Equal) (b ++ rest) gs refl,
      reference_exact.complete b x.1 j rest gs e,
    ) refl

equality_exact : IsExact SpellsEquality equality RefEnds
equality_exact = record { sound = equality_sound; complete = equality_complete }

pub equalities_exact : IsExact SpellsEqualities (list is_and equality) Closed
equalities_exact = exact_before (list_exact is_and SpellsEquality equality RefEnds equality_exact and_bound) Closed (λ rest e. (closed_ref rest e, closed_and rest e))
