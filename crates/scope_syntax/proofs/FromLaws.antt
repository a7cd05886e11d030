-- The clauses of SELECT behind its items are read exactly.
use Rattle.std.proofs.Common.{◌≡◌, ◌≤◌, ℕ, pos, negsuc, zero, suc, Bool, true, false, List, [], ◌∷◌, ◌++◌, length, Option, Some, None, inl, inr, refl, sym, ap, ◌∙◌, arith, subst, append_assoc, append-nil, length-append, if◌then◌else◌}
use Rattle.script_trees.specs.declared.raw.RawExpr.{RawExpr}
use Rattle.expression_syntax.specs.declared.keyword.Keyword.{Keyword}
use Rattle.expression_syntax.specs.declared.keyword.Keyword.TheVariants as word
use Rattle.expression_syntax.specs.declared.level.Level.TheVariants as level
use Rattle.expression_syntax.specs.declared.level.Place.TheVariants as place
use Rattle.script_trees.specs.declared.raw_agg.RawAgg.{RawAgg}
use Rattle.script_trees.specs.declared.select.Joined.{Joined}
use Rattle.script_trees.specs.declared.side.JoinSide.{JoinSide}
use Rattle.script_trees.specs.declared.side.JoinSide.TheVariants as side
use Rattle.script_trees.specs.declared.source.Source.{Source}
use Rattle.expression_syntax.specs.declared.weak_keyword.WeakKeyword.{WeakKeyword}
use Rattle.expression_syntax.specs.declared.weak_keyword.WeakKeyword.TheVariants as weak
use Rattle.expression_syntax.specs.Lexemes.{Lexeme, keyword, symbol, name, number, text, is_keyword, is_weak}
use Rattle.expression_syntax.specs.Expressions.{Spells}
use Rattle.expression_syntax.specs.Parts.{SpellsAfter, SpellsAfterTwo, SpellsKeys, SpellsOptional, SpellsRefs, is_and, is_comma}
use Rattle.scope_syntax.specs.Statements.{SpellsCount, SpellsFrom, SpellsInner, SpellsInners, SpellsJoined, SpellsOuter, SpellsOuterWord, SpellsPlain, SpellsTied, side_of}
use Rattle.expression_syntax.specs.Reading.{Cursor, Parser, ◌>>=◌, ◌>>◌, begins, expect, pure, take_one}
use Rattle.expression_syntax.specs.ReadExpressions.{whole}
use Rattle.expression_syntax.specs.ReadParts.{eat_weak, eat_word, equality, expect_word, key, list, optional, reference, source}
use Rattle.scope_syntax.specs.ReadSelect.{behind, count, count_from, first_source, from, group, inners, join_word, joined, joins, next_join, order, outer, sources, sources_by, take_side, top}
use Rattle.expression_syntax.proofs.Closed.{Closed, closed_bound, goes_on}
use Rattle.expression_syntax.proofs.Exact.{Found, Found-same, IsExact, keyword_self, optional_exact, optional_sound, word_read}
use Rattle.expression_syntax.proofs.ExpressionLaws.{expr_sound, plain_complete, plain_none}
use Rattle.expression_syntax.proofs.Forward.{at, eat_no, eat_yes, expect_yes, take_known}
use Rattle.expression_syntax.proofs.PartLaws.{Any, equalities_exact, exact_before, keys_exact, refs_exact, source_exact}
use Rattle.expression_syntax.proofs.Small.{renumbered}
use Rattle.expression_syntax.proofs.Steps.{Same, Takes, eat_false, eat_not, eat_true, expect_begins, some_same, take_takes, twice, up_to}

-- ---- TOP

counted : (t : Lexeme) (n : ℕ) (c d : Cursor) → count_from t c ≡ up_to n d → (digits : List ℕ) × (t ≡ number digits (pos n)) × (c ≡ d)
counted (number digits (pos m)) n c d h = let s = some_same h in (digits, ap (λ z. number digits (pos z)) s.value, s.place)
counted (number digits (negsuc m)) n c d h = absurd (cc)
counted (keyword k) n c d h = absurd (cc)
counted (symbol s) n c d h = absurd (cc)
counted (name b) n c d h = absurd (cc)
counted (text b) n c d h = absurd (cc)

count_sound : (c d : Cursor) (n : ℕ) → count c ≡ up_to n d → Found SpellsCount n c d
unfolding count
count_sound c d n h =
    let t = twice (take_one c) count_from n d h in
    let k = take_takes c t.value t.between t.first in
    let x = counted t.value n t.between d t.second in
    let l = subst (λ z. Takes z c d) x.1 (subst (λ z. Takes t.value c z) x.2 k) in
    record { words = number x.0 (pos n) ∷ []; rest_is = l.rest_is; aggs_are = l.aggs_are; spelled = (x.0, refl) }

count_exact : IsExact SpellsCount count Any
unfolding count
count_exact = record { sound = count_sound; complete = λ ts n h rest gs e. rw (h.1, take_known (number h.0 (pos n)) rest gs) refl }

-- what follows isn't TOP
pub top_exact : IsExact (SpellsOptional (SpellsAfter word.Top SpellsCount)) top (λ rest. begins (is_keyword word.Top) rest ≡ false)
top_exact = exact_before (optional_exact word.Top SpellsCount count Any count_exact) (λ rest. begins (is_keyword word.Top) rest ≡ false) (λ rest e. (tt, e))

-- ---- WHERE and HAVING

plain_sound : (c d : Cursor) (e : RawExpr) → whole place.Plain c ≡ up_to e d → Found SpellsPlain e c d
plain_sound c d e h =
    let t = expr_sound place.Plain c d e h in
    let none = plain_none t.spelled in
    record {
      words = t.words;
      rest_is = t.rest_is;
      aggs_are = t.aggs_are ∙ ap (λ z. c.aggs ++ z) none ∙ append-nil c.aggs;
      spelled = record { short = t.spelled.short; spelled = renumbered (subst (λ z. Spells level.Or place.Plain (length c.aggs) t.words e z) none t.spelled.spelled) 0 };
    }

-- an optional expression outside of items is read exactly, where no aggregates are kept
pub condition_sound : (w : Keyword) (c d : Cursor) (o : Option RawExpr) → optional w (whole place.Plain) c ≡ up_to o d → Found (SpellsOptional (SpellsAfter w SpellsPlain)) o c d
condition_sound w c d o h = optional_sound w SpellsPlain (whole place.Plain) plain_sound c d o h

pub condition_complete : (w : Keyword) (ts : List Lexeme) (o : Option RawExpr) → SpellsOptional (SpellsAfter w SpellsPlain) ts o
    → (rest : List Lexeme) → Closed rest → begins (is_keyword w) rest ≡ false → optional w (whole place.Plain) (at (ts ++ rest) []) ≡ up_to o (at rest [])
unfolding optional
condition_complete w ts None h rest q e = rw (h, eat_no (is_keyword w) rest [] e) refl
condition_complete w ts (Some x) h rest q e =
    rw (h.1, eat_yes (is_keyword w) (keyword w) (h.0 ++ rest) [] (keyword_self w), plain_complete h.2 rest [] (closed_bound rest q) (omega arith)) refl

-- ---- GROUP BY and ORDER BY

module _ {A : Type 0} (w : Keyword) (P : List Lexeme → A → Type 0) (p : Parser A) (Ends : List Lexeme → Type 0) (item : IsExact P p Ends) where
  behind_sound : (c d : Cursor) (x : A) → behind w p c ≡ up_to x d → Found (SpellsAfter w P) x c d
  unfolding behind
  behind_sound c d x h =
      let t = twice (expect (is_keyword w) c) (λ _. p) x d h in
      let k = word_read w (expect_begins (is_keyword w) c t.between t.value t.first) in
      let f = item.sound t.between d x t.second in
      record {
        words = keyword w ∷ f.words;
        rest_is = k.rest_is ∙ ap (λ z. keyword w ∷ z) f.rest_is;
        aggs_are = f.aggs_are ∙ k.aggs_are;
        spelled = (f.words, refl, f.spelled);
      }

  behind_complete : (ts : List Lexeme) (x : A) → SpellsAfter w P ts x → (rest : List Lexeme) (gs : List RawAgg) → Ends rest → behind w p (at (ts ++ rest) gs) ≡ up_to x (at rest gs)
  unfolding behind
  behind_complete ts x h rest gs e =
      rw (h.1, expect_yes (is_keyword w) (keyword w) (h.0 ++ rest) gs (keyword_self w), item.complete h.0 x h.2 rest gs e) refl

  behind_exact : IsExact (SpellsAfter w P) (behind w p) Ends
  behind_exact = record { sound = behind_sound; complete = behind_complete }

-- two words in a row are one and then the other
two_split : {A : Type 0} (v w : Keyword) (P : List Lexeme → A → Type 0) (ts : List Lexeme) (o : Option A) → SpellsOptional (SpellsAfterTwo v w P) ts o
    → SpellsOptional (SpellsAfter v (SpellsAfter w P)) ts o
two_split v w P ts None h = h
two_split v w P ts (Some x) h = (keyword w ∷ h.0, h.1, (h.0, refl, h.2))

two_joined : {A : Type 0} (v w : Keyword) (P : List Lexeme → A → Type 0) (ts : List Lexeme) (o : Option A) → SpellsOptional (SpellsAfter v (SpellsAfter w P)) ts o
    → SpellsOptional (SpellsAfterTwo v w P) ts o
two_joined v w P ts None h = h
two_joined v w P ts (Some x) (a, e, (b, q, s)) = (b, e ∙ ap (λ z. keyword v ∷ z) q, s)

-- where what follows isn't the first of the words
abbrev pub ClauseEnds : Keyword → List Lexeme → Type 0
ClauseEnds w rest = Closed rest × (begins (is_keyword w) rest ≡ false)

two_exact : {A : Type 0} (v w : Keyword) (P : List Lexeme → A → Type 0) (p : Parser A) → IsExact P p Closed
    → IsExact (SpellsOptional (SpellsAfterTwo v w P)) (optional v (behind w p)) (ClauseEnds v)
two_exact v w P p x =
    let y = optional_exact v (SpellsAfter w P) (behind w p) Closed (behind_exact w P p Closed x) in
    record {
      sound = λ c d o h. let f = y.sound c d o h in record { words = f.words; rest_is = f.rest_is; aggs_are = f.aggs_are; spelled = two_joined v w P f.words o f.spelled };
      complete = λ ts o h rest gs e. y.complete ts o (two_split v w P ts o h) rest gs e;
    }

pub group_exact : IsExact (SpellsOptional (SpellsAfterTwo word.Group word.By SpellsRefs)) group (ClauseEnds word.Group)
group_exact = two_exact word.Group word.By SpellsRefs (list is_comma reference) refs_exact

pub order_exact : IsExact (SpellsOptional (SpellsAfterTwo word.Order word.By SpellsKeys)) order (ClauseEnds word.Order)
order_exact = two_exact word.Order word.By SpellsKeys (list is_comma key) keys_exact

-- ---- JOIN

-- JOIN was read, with or without INNER before it
record Joins (c d : Cursor) : Type 0 where
  words : List Lexeme
  inner : SpellsInner words
  rest_is : c.rest ≡ words ++ keyword word.Join ∷ d.rest
  aggs_are : d.aggs ≡ c.aggs

-- it was, or nothing was read
JoinRead : Bool → Cursor → Cursor → Type 0
JoinRead true c d = Joins c d
JoinRead false c d = c ≡ d

join_alone : (b : Bool) (c d : Cursor) → eat_word word.Join c ≡ up_to b d → JoinRead b c d
unfolding JoinRead
join_alone true c d h =
    let k = word_read word.Join (eat_true (is_keyword word.Join) c d h) in record { words = []; inner = inl refl; rest_is = k.rest_is; aggs_are = k.aggs_are }
join_alone false c d h = eat_false (is_keyword word.Join) c d h

join_by : (i b : Bool) (c c1 d : Cursor) → eat_word word.Inner c ≡ up_to i c1
    → (if i then (expect_word word.Join >> pure true) else eat_word word.Join) c1 ≡ up_to b d → JoinRead b c d
unfolding JoinRead
join_by true b c c1 d q h =
    let i = word_read word.Inner (eat_true (is_keyword word.Inner) c c1 q) in
    let t = twice (expect_word word.Join c1) (λ _. pure true) b d h in
    let k = word_read word.Join (expect_begins (is_keyword word.Join) c1 t.between t.value t.first) in
    let s = some_same t.second in
    let found : Joins c t.between = record {
      words = keyword word.Inner ∷ [];
      inner = inr refl;
      rest_is = i.rest_is ∙ ap (λ z. keyword word.Inner ∷ z) k.rest_is;
      aggs_are = k.aggs_are ∙ i.aggs_are;
    } in
    subst (λ z. JoinRead z c d) s.value (subst (λ z. Joins c z) s.place found)
join_by false b c c1 d q h = subst (λ z. JoinRead b z d) (sym (eat_false (is_keyword word.Inner) c c1 q)) (join_alone b c1 d h)

join_sound : (b : Bool) (c d : Cursor) → join_word c ≡ up_to b d → JoinRead b c d
unfolding join_word
join_sound b c d h = let t = twice (eat_word word.Inner c) _ b d h in join_by t.value b c t.between d t.first t.second

join_yes : (a : List Lexeme) → SpellsInner a → (rest : List Lexeme) (gs : List RawAgg) → join_word (at (a ++ keyword word.Join ∷ rest) gs) ≡ up_to true (at rest gs)
unfolding join_word
join_yes a (inl h) rest gs =
    rw (h, eat_no (is_keyword word.Inner) (keyword word.Join ∷ rest) gs refl, eat_yes (is_keyword word.Join) (keyword word.Join) rest gs refl) refl
join_yes a (inr h) rest gs =
    rw (h, eat_yes (is_keyword word.Inner) (keyword word.Inner) (keyword word.Join ∷ rest) gs refl, expect_yes (is_keyword word.Join) (keyword word.Join) rest gs refl) refl

join_no : (rest : List Lexeme) (gs : List RawAgg) → begins (is_keyword word.Inner) rest ≡ false → begins (is_keyword word.Join) rest ≡ false → join_word (at rest gs) ≡ up_to false (at rest gs)
unfolding join_word
join_no rest gs i j = rw (eat_no (is_keyword word.Inner) rest gs i, eat_no (is_keyword word.Join) rest gs j) refl

-- source ON eqs, joined by a side
abbrev SpellsSided : JoinSide → List Lexeme → Joined → Type 0
SpellsSided e ts j = (j.side ≡ e) × SpellsTied ts j

joined_sound : (e : JoinSide) (c d : Cursor) (j : Joined) → joined e c ≡ up_to j d → Found (SpellsSided e) j c d
unfolding joined
joined_sound e c d j h =
    let t = twice (source c) _ j d h in
    let f = source_exact.sound c t.between t.value t.first in
    let v = twice (expect_word word.On t.between) _ j d t.second in
    let k = word_read word.On (expect_begins (is_keyword word.On) t.between v.between v.value v.first) in
    let w = twice (list is_and equality v.between) _ j d v.second in
    let i = equalities_exact.sound v.between w.between w.value w.first in
    let y : Joined = record { source = t.value; side = e; on = w.value } in
    let tied : SpellsTied (f.words ++ keyword word.On ∷ i.words) y = (f.words, i.words, refl, f.spelled, i.spelled) in
    let found : Found (SpellsSided e) y c w.between = record {
      words = f.words ++ keyword word.On ∷ i.words;
      rest_is = f.rest_is ∙ ap (λ z. f.words ++ z) (k.rest_is ∙ ap (λ z. keyword word.On ∷ z) i.rest_is) ∙ sym (append_assoc f.words (keyword word.On ∷ i.words) w.between.rest);
      aggs_are = i.aggs_are ∙ k.aggs_are ∙ f.aggs_are;
      spelled = (refl, tied);
    } in
    Found-same found (some_same w.second)

joined_complete : (ts : List Lexeme) (j : Joined) → SpellsTied ts j → (rest : List Lexeme) (gs : List RawAgg) → Closed rest → joined j.side (at (ts ++ rest) gs) ≡ up_to j (at rest gs)
unfolding joined
joined_complete ts j (b, c, g, s, q) rest gs e =
    let words : ts ++ rest ≡ b ++ (keyword word.On ∷ (c ++ rest)) = ap (λ z. z ++ rest) g ∙ append_assoc b (keyword word.On ∷ c) rest in
    rw (
      words,
      source_exact.complete b j.source s (keyword word.On ∷ (c ++ rest)) gs refl,
      expect_yes (is_keyword word.On) (keyword word.On) (c ++ rest) gs refl,
      equalities_exact.complete c j.on q rest gs e,
    ) refl

-- further joined sources were found
record FoundJoins (js ks : List Joined) (old new : Cursor) : Type 0 where
  more : List Joined
  words : List Lexeme
  ks_are : ks ≡ js ++ more
  rest_is : old.rest ≡ words ++ new.rest
  aggs_are : new.aggs ≡ old.aggs
  spelled : SpellsInners words more

none_more : (js ks : List Joined) (c0 c d : Cursor) → c0 ≡ c → up_to js c ≡ up_to ks d → FoundJoins js ks c0 d
none_more js ks c0 c d q h =
    let s = some_same h in
    let k = q ∙ s.place in
    record {
      more = [];
      words = [];
      ks_are = sym s.value ∙ sym (append-nil js);
      rest_is = ap (λ (z : Cursor). z.rest) k;
      aggs_are = sym (ap (λ (z : Cursor). z.aggs) k);
      spelled = refl;
    }

one_more : (js ks : List Joined) (j : Joined) (c0 c1 c2 d : Cursor) → Joins c0 c1 → Found (SpellsSided side.Inner) j c1 c2 → FoundJoins (js ++ j ∷ []) ks c2 d → FoundJoins js ks c0 d
one_more js ks j c0 c1 c2 d b f m =
    let words = b.words ++ keyword word.Join ∷ f.words in
    record {
      more = j ∷ m.more;
      words = words ++ m.words;
      ks_are = m.ks_are ∙ append_assoc js (j ∷ []) m.more;
      rest_is = b.rest_is ∙ ap (λ z. b.words ++ keyword word.Join ∷ z) f.rest_is
          ∙ sym (append_assoc b.words (keyword word.Join ∷ f.words) c2.rest) ∙ ap (λ z. words ++ z) m.rest_is ∙ sym (append_assoc words m.words d.rest);
      aggs_are = m.aggs_are ∙ f.aggs_are ∙ b.aggs_are;
      spelled = (words, m.words, refl, (b.words, f.words, refl, f.spelled.0, b.inner, f.spelled.1), m.spelled);
    }

joins_by : (next : List Joined → Parser (List Joined)) (b : Bool) (js ks : List Joined) (c c1 d : Cursor)
    → ((zs : List Joined) (e : Cursor) → next zs e ≡ up_to ks d → FoundJoins zs ks e d) → JoinRead b c c1 → next_join js next b c1 ≡ up_to ks d → FoundJoins js ks c d
unfolding JoinRead
joins_by next false js ks c c1 d i e h = none_more js ks c c1 d e h
joins_by next true js ks c c1 d i e h =
    let t = twice (joined side.Inner c1) (λ j. next (js ++ j ∷ [])) ks d h in
    one_more js ks t.value c c1 t.between d e (joined_sound side.Inner c1 t.between t.value t.first) (i (js ++ t.value ∷ []) t.between t.second)

joins_sound : (k : ℕ) (js ks : List Joined) (c d : Cursor) → joins k js c ≡ up_to ks d → FoundJoins js ks c d
unfolding joins
joins_sound zero js ks c d h = none_more js ks c c d refl h
joins_sound (suc k) js ks c d h =
    let t = twice (join_word c) (next_join js (joins k)) ks d h in
    joins_by (joins k) t.value js ks c t.between d (λ zs e. joins_sound k zs ks e d) (join_sound t.value c t.between t.first) t.second

joins_long : (more : List Joined) (ts : List Lexeme) → SpellsInners ts more → length more ≤ length ts
joins_long [] ts h = omega arith
joins_long (j ∷ more) ts (a, b, e, (p, r, i, d, n, x), m) =
    let k = joins_long more b m in
    omega (arith, k, ap length e, length-append a b, ap length i, length-append p (keyword word.Join ∷ r))

-- behind joined sources stands JOIN, INNER or what follows
joins_first : (q : Lexeme → Bool) → q (keyword word.Join) ≡ false → q (keyword word.Inner) ≡ false → (more : List Joined) (ts : List Lexeme) → SpellsInners ts more
    → (rest : List Lexeme) → begins q rest ≡ false → begins q (ts ++ rest) ≡ false
joins_first q j i [] ts h rest e = rw h e
joins_first q j i (x ∷ more) ts (a, b, g, (p, r, h, d, inl n, y), m) rest e =
    ap (λ k. begins q (k ++ rest)) g ∙ ap (begins q) (append_assoc a b rest) ∙ ap (λ k. begins q (k ++ (b ++ rest))) h
    ∙ ap (λ k. begins q ((k ++ keyword word.Join ∷ r) ++ (b ++ rest))) n ∙ j
joins_first q j i (x ∷ more) ts (a, b, g, (p, r, h, d, inr n, y), m) rest e =
    ap (λ k. begins q (k ++ rest)) g ∙ ap (begins q) (append_assoc a b rest) ∙ ap (λ k. begins q (k ++ (b ++ rest))) h
    ∙ ap (λ k. begins q ((k ++ keyword word.Join ∷ r) ++ (b ++ rest))) n ∙ i

-- what may follow the sources
pub record FromEnds (rest : List Lexeme) : Type 0 where
  pub closed : Closed rest
  pub no_from : begins (is_keyword word.From) rest ≡ false
  pub no_inner : begins (is_keyword word.Inner) rest ≡ false
  pub no_join : begins (is_keyword word.Join) rest ≡ false
  pub no_weak : (w : WeakKeyword) → begins (is_weak w) rest ≡ false

joins_stop : (k : ℕ) (js : List Joined) (rest : List Lexeme) (gs : List RawAgg) → FromEnds rest → joins k js (at rest gs) ≡ up_to js (at rest gs)
unfolding joins
joins_stop zero js rest gs e = refl
joins_stop (suc k) js rest gs e = rw (join_no rest gs e.no_inner e.no_join) refl

joins_complete : (more : List Joined) (k : ℕ) (js : List Joined) (ts : List Lexeme) → length more ≤ k → SpellsInners ts more
    → (rest : List Lexeme) (gs : List RawAgg) → FromEnds rest → joins k js (at (ts ++ rest) gs) ≡ up_to (js ++ more) (at rest gs)
unfolding joins
joins_complete [] k js ts few h rest gs e = rw h (joins_stop k js rest gs e ∙ ap (λ z. up_to z (at rest gs)) (sym (append-nil js)))
joins_complete (j ∷ more) zero js ts few h rest gs e = absurd (omega arith)
joins_complete (j ∷ more) (suc k) js ts few (a, b, g, (p, r, h, d, n, x), m) rest gs e =
    let words : ts ++ rest ≡ p ++ (keyword word.Join ∷ (r ++ (b ++ rest))) =
    ap (λ k. k ++ rest) g ∙ append_assoc a b rest ∙ ap (λ k. k ++ (b ++ rest)) h ∙ append_assoc p (keyword word.Join ∷ r) (b ++ rest) in
    let stops = joins_first goes_on refl refl more b m rest e.closed in
    let one = subst (λ z. joined z (at (r ++ (b ++ rest)) gs) ≡ up_to j (at (b ++ rest) gs)) d (joined_complete r j x (b ++ rest) gs stops) in
    rw (words, join_yes p n (r ++ (b ++ rest)) gs, one)
    (joins_complete more k (js ++ j ∷ []) b (omega arith) m rest gs e ∙ ap (λ z. up_to z (at rest gs)) (append_assoc js (j ∷ []) more))

-- ---- sides

-- the word of a side was taken, or nothing where none was next
abbrev TookSide : Option JoinSide → Cursor → Cursor → Type 0
TookSide None c d = c ≡ d
TookSide (Some s) c d = (t : Lexeme) × (side_of t ≡ Some s) × Takes t c d

took_side : (s : JoinSide) (t : Lexeme) (c c1 d : Cursor) (o : Option JoinSide) → side_of t ≡ Some s → Takes t c c1 → Same (Some s) o c1 d → TookSide o c d
took_side s t c c1 d o i k e = let took : TookSide (Some s) c c1 = (t, i, k) in subst (λ z. TookSide z c d) e.value (subst (λ z. TookSide (Some s) c z) e.place took)

-- what the first of the rest isn't, a lexeme that was taken isn't
first_no : (q : Lexeme → Bool) (c d : Cursor) (t : Lexeme) → Takes t c d → begins q c.rest ≡ false → q t ≡ false
first_no q c d t k h = sym (ap (begins q) k.rest_is) ∙ h

-- the first of the rest, where one of the sides' words isn't next
abbrev IsNot : WeakKeyword → Cursor → Type 0
IsNot w c = begins (is_weak w) c.rest ≡ false

full_by : (b : Bool) (c c1 d : Cursor) (o : Option JoinSide) → IsNot weak.Left c → IsNot weak.Right c → eat_weak weak.Full c ≡ up_to b c1
    → (if b then pure (Some side.Full) else pure None) c1 ≡ up_to o d → TookSide o c d
full_by true c c1 d o l r e h =
    let k = eat_true (is_weak weak.Full) c c1 e in
    let no_left = first_no (is_weak weak.Left) c c1 k.first k.takes l in
    let no_right = first_no (is_weak weak.Right) c c1 k.first k.takes r in
    took_side side.Full k.first c c1 d o (rw (no_left, no_right, k.passes) refl) k.takes (some_same h)
full_by false c c1 d o l r e h = let s = some_same h in subst (λ z. TookSide z c d) s.value (eat_false (is_weak weak.Full) c c1 e ∙ s.place)

right_by : (b : Bool) (c c1 d : Cursor) (o : Option JoinSide) → IsNot weak.Left c → eat_weak weak.Right c ≡ up_to b c1
    → (if b then pure (Some side.Right) else (eat_weak weak.Full >>= (λ f. if f then pure (Some side.Full) else pure None))) c1 ≡ up_to o d → TookSide o c d
right_by true c c1 d o l e h =
    let k = eat_true (is_weak weak.Right) c c1 e in
    let no_left = first_no (is_weak weak.Left) c c1 k.first k.takes l in
    took_side side.Right k.first c c1 d o (rw (no_left, k.passes) refl) k.takes (some_same h)
right_by false c c1 d o l e h =
    let q = eat_false (is_weak weak.Right) c c1 e in
    let no_right = eat_not (is_weak weak.Right) c c1 e in
    let t = twice (eat_weak weak.Full c1) _ o d h in
    subst (λ z. TookSide o z d) (sym q)
    (full_by t.value c1 t.between d o (subst (λ z. IsNot weak.Left z) q l) (subst (λ z. IsNot weak.Right z) q no_right) t.first t.second)

left_by : (b : Bool) (c c1 d : Cursor) (o : Option JoinSide) → eat_weak weak.Left c ≡ up_to b c1
    → (if b then pure (Some side.Left) else (eat_weak weak.Right >>= (λ r. if r then pure (Some side.Right)
    else (eat_weak weak.Full >>= (λ f. if f then pure (Some side.Full) else pure None))))) c1 ≡ up_to o d → TookSide o c d
left_by true c c1 d o e h =
    let k = eat_true (is_weak weak.Left) c c1 e in took_side side.Left k.first c c1 d o (rw k.passes refl) k.takes (some_same h)
left_by false c c1 d o e h =
    let q = eat_false (is_weak weak.Left) c c1 e in
    let no_left = eat_not (is_weak weak.Left) c c1 e in
    let t = twice (eat_weak weak.Right c1) _ o d h in
    subst (λ z. TookSide o z d) (sym q) (right_by t.value c1 t.between d o (subst (λ z. IsNot weak.Left z) q no_left) t.first t.second)

side_sound : (o : Option JoinSide) (c d : Cursor) → take_side c ≡ up_to o d → TookSide o c d
unfolding take_side
side_sound o c d h = let t = twice (eat_weak weak.Left c) _ o d h in left_by t.value c t.between d o t.first t.second

side_no : (rest : List Lexeme) (gs : List RawAgg) → ((w : WeakKeyword) → begins (is_weak w) rest ≡ false) → take_side (at rest gs) ≡ up_to None (at rest gs)
unfolding take_side
side_no rest gs f =
    rw (eat_no (is_weak weak.Left) rest gs (f weak.Left), eat_no (is_weak weak.Right) rest gs (f weak.Right), eat_no (is_weak weak.Full) rest gs (f weak.Full)) refl

side_by : (l r f : Bool) (t : Lexeme) (s : JoinSide) → is_weak weak.Left t ≡ l → is_weak weak.Right t ≡ r → is_weak weak.Full t ≡ f
    → (if l then Some side.Left else (if r then Some side.Right else (if f then Some side.Full else None))) ≡ Some s
    → (rest : List Lexeme) (gs : List RawAgg) → take_side (at (t ∷ rest) gs) ≡ up_to (Some s) (at rest gs)
unfolding take_side
side_by true r f t s l' r' f' h rest gs = rw (eat_yes (is_weak weak.Left) t rest gs l') (ap (λ z. up_to z (at rest gs)) h)
side_by false true f t s l' r' f' h rest gs =
    rw (eat_no (is_weak weak.Left) (t ∷ rest) gs l', eat_yes (is_weak weak.Right) t rest gs r') (ap (λ z. up_to z (at rest gs)) h)
side_by false false true t s l' r' f' h rest gs =
    rw (eat_no (is_weak weak.Left) (t ∷ rest) gs l', eat_no (is_weak weak.Right) (t ∷ rest) gs r', eat_yes (is_weak weak.Full) t rest gs f')
    (ap (λ z. up_to z (at rest gs)) h)
side_by false false false t s l' r' f' h rest gs = absurd (cc)

side_yes : (t : Lexeme) (s : JoinSide) → side_of t ≡ Some s → (rest : List Lexeme) (gs : List RawAgg) → take_side (at (t ∷ rest) gs) ≡ up_to (Some s) (at rest gs)
side_yes t s h rest gs = side_by (is_weak weak.Left t) (is_weak weak.Right t) (is_weak weak.Full t) t s refl refl refl h rest gs

side_closed : (t : Lexeme) (s : JoinSide) → side_of t ≡ Some s → goes_on t ≡ false
side_closed (name b) s h = refl
side_closed (keyword k) s h = absurd (cc)
side_closed (symbol m) s h = absurd (cc)
side_closed (number b n) s h = absurd (cc)
side_closed (text b) s h = absurd (cc)

-- ---- outer joins

-- OUTER or nothing was read
record FoundOuter (c d : Cursor) : Type 0 where
  words : List Lexeme
  spelled : SpellsOuterWord words
  rest_is : c.rest ≡ words ++ d.rest
  aggs_are : d.aggs ≡ c.aggs

outer_word : (b : Bool) (c d : Cursor) → eat_weak weak.Outer c ≡ up_to b d → FoundOuter c d
outer_word true c d h =
    let k = eat_true (is_weak weak.Outer) c d h in
    record { words = k.first ∷ []; spelled = inr (k.first, refl, k.passes); rest_is = k.takes.rest_is; aggs_are = k.takes.aggs_are }
outer_word false c d h =
    let q = eat_false (is_weak weak.Outer) c d h in
    record { words = []; spelled = inl refl; rest_is = ap (λ (z : Cursor). z.rest) q; aggs_are = sym (ap (λ (z : Cursor). z.aggs) q) }

outer_sound : (e : JoinSide) (t : Lexeme) (c0 c d : Cursor) (j : Joined) → side_of t ≡ Some e → Takes t c0 c → outer e c ≡ up_to j d → Found SpellsOuter j c0 d
unfolding outer
outer_sound e t c0 c d j i m h =
    let o = twice (eat_weak weak.Outer c) _ j d h in
    let w = outer_word o.value c o.between o.first in
    let v = twice (expect_word word.Join o.between) _ j d o.second in
    let k = word_read word.Join (expect_begins (is_keyword word.Join) o.between v.between v.value v.first) in
    let f = joined_sound e v.between d j v.second in
    record {
      words = t ∷ (w.words ++ keyword word.Join ∷ f.words);
      rest_is = m.rest_is ∙ ap (λ z. t ∷ z)
          (w.rest_is ∙ ap (λ z. w.words ++ z) (k.rest_is ∙ ap (λ z. keyword word.Join ∷ z) f.rest_is) ∙ sym (append_assoc w.words (keyword word.Join ∷ f.words) d.rest));
      aggs_are = f.aggs_are ∙ k.aggs_are ∙ w.aggs_are ∙ m.aggs_are;
      spelled = (t, w.words, f.words, refl, i ∙ ap Some (sym f.spelled.0), w.spelled, f.spelled.1);
    }

outer_complete : (a b : List Lexeme) (j : Joined) → SpellsOuterWord a → SpellsTied b j → (rest : List Lexeme) (gs : List RawAgg) → Closed rest
    → outer j.side (at (a ++ (keyword word.Join ∷ (b ++ rest))) gs) ≡ up_to j (at rest gs)
unfolding outer
outer_complete a b j (inl h) k rest gs e =
    rw (
      h,
      eat_no (is_weak weak.Outer) (keyword word.Join ∷ (b ++ rest)) gs refl,
      expect_yes (is_keyword word.Join) (keyword word.Join) (b ++ rest) gs refl,
      joined_complete b j k rest gs e,
    ) refl
outer_complete a b j (inr (t, h, s)) k rest gs e =
    rw (
      h,
      eat_yes (is_weak weak.Outer) t (keyword word.Join ∷ (b ++ rest)) gs s,
      expect_yes (is_keyword word.Join) (keyword word.Join) (b ++ rest) gs refl,
      joined_complete b j k rest gs e,
    ) refl

-- ---- the sources behind the first

-- they were found
record FoundSources (s : Source) (ks : List Joined) (c d : Cursor) : Type 0 where
  more : List Joined
  words : List Lexeme
  ks_are : ks ≡ first_source s ++ more
  rest_is : c.rest ≡ words ++ d.rest
  aggs_are : d.aggs ≡ c.aggs
  spelled : SpellsJoined words more

sources_found : (o : Option JoinSide) (s : Source) (ks : List Joined) (c c1 d : Cursor) → TookSide o c c1 → sources_by s o c1 ≡ up_to ks d → FoundSources s ks c d
unfolding inners
sources_found None s ks c c1 d e h =
    let m = joins_sound (length c1.rest) (first_source s) ks c1 d h in
    let found : FoundSources s ks c1 d = record { more = m.more; words = m.words; ks_are = m.ks_are; rest_is = m.rest_is; aggs_are = m.aggs_are; spelled = inl m.spelled } in
    subst (λ z. FoundSources s ks z d) (sym e) found
sources_found (Some e) s ks c c1 d (t, i, k) h =
    let u = twice (outer e c1) (λ j. pure (first_source s ++ j ∷ [])) ks d h in
    let f = outer_sound e t c c1 u.between u.value i k u.first in
    let same = some_same u.second in
    let found : FoundSources s ks c u.between = record {
      more = u.value ∷ [];
      words = f.words;
      ks_are = sym same.value;
      rest_is = f.rest_is;
      aggs_are = f.aggs_are;
      spelled = inr (u.value, refl, f.spelled);
    } in
    subst (λ z. FoundSources s ks c z) same.place found

sources_sound : (s : Source) (ks : List Joined) (c d : Cursor) → sources s c ≡ up_to ks d → FoundSources s ks c d
unfolding sources
sources_sound s ks c d h = let t = twice (take_side c) (sources_by s) ks d h in sources_found t.value s ks c t.between d (side_sound t.value c t.between t.first) t.second

sources_complete : (s : Source) (more : List Joined) (ts : List Lexeme) → SpellsJoined ts more → (rest : List Lexeme) (gs : List RawAgg) → FromEnds rest
    → sources s (at (ts ++ rest) gs) ≡ up_to (first_source s ++ more) (at rest gs)
unfolding sources inners
sources_complete s more ts (inl h) rest gs e =
    let few = joins_long more ts h in
    rw (side_no (ts ++ rest) gs (λ w. joins_first (is_weak w) refl refl more ts h rest (e.no_weak w)))
    (joins_complete more (length (ts ++ rest)) (first_source s) ts (omega (arith, few, length-append ts rest)) h rest gs e)
sources_complete s more ts (inr (j, q, (t, a, b, g, i, o, k))) rest gs e =
    let words : ts ++ rest ≡ t ∷ (a ++ (keyword word.Join ∷ (b ++ rest))) = ap (λ z. z ++ rest) g ∙ ap (λ z. t ∷ z) (append_assoc a (keyword word.Join ∷ b) rest) in
    rw (words, side_yes t j.side i (a ++ (keyword word.Join ∷ (b ++ rest))) gs, outer_complete a b j o k rest gs e.closed)
    (ap (λ z. up_to (first_source s ++ z) (at rest gs)) (sym q))

-- what stands behind the first source goes on no part of it
joined_closed : (more : List Joined) (ts : List Lexeme) → SpellsJoined ts more → (rest : List Lexeme) → Closed rest → Closed (ts ++ rest)
joined_closed more ts (inl h) rest e = joins_first goes_on refl refl more ts h rest e
joined_closed more ts (inr (j, q, (t, a, b, g, i, o, k))) rest e = ap (λ z. begins goes_on (z ++ rest)) g ∙ side_closed t j.side i

-- ---- FROM

from_by : (b : Bool) (c c1 d : Cursor) (js : List Joined) → eat_word word.From c ≡ up_to b c1
    → (if b then (source >>= sources) else pure []) c1 ≡ up_to js d → Found SpellsFrom js c d
from_by true c c1 d js q h =
    let k = word_read word.From (eat_true (is_keyword word.From) c c1 q) in
    let t = twice (source c1) sources js d h in
    let f = source_exact.sound c1 t.between t.value t.first in
    let m = sources_sound t.value js t.between d t.second in
    record {
      words = keyword word.From ∷ (f.words ++ m.words);
      rest_is = k.rest_is ∙ ap (λ z. keyword word.From ∷ z) (f.rest_is ∙ ap (λ z. f.words ++ z) m.rest_is ∙ sym (append_assoc f.words m.words d.rest));
      aggs_are = m.aggs_are ∙ f.aggs_are ∙ k.aggs_are;
      spelled = subst (λ z. SpellsFrom (keyword word.From ∷ (f.words ++ m.words)) z) (sym m.ks_are) (refl, refl, (f.words, m.words, refl, f.spelled, m.spelled));
    }
from_by false c c1 d js q h =
    let found : Found SpellsFrom [] c1 c1 = record { words = []; rest_is = refl; aggs_are = refl; spelled = refl } in
    subst (λ z. Found SpellsFrom js z d) (sym (eat_false (is_keyword word.From) c c1 q)) (Found-same found (some_same h))

from_sound : (c d : Cursor) (js : List Joined) → from c ≡ up_to js d → Found SpellsFrom js c d
unfolding from
from_sound c d js h = let t = twice (eat_word word.From c) _ js d h in from_by t.value c t.between d js t.first t.second

from_complete : (ts : List Lexeme) (js : List Joined) → SpellsFrom ts js → (rest : List Lexeme) (gs : List RawAgg) → FromEnds rest → from (at (ts ++ rest) gs) ≡ up_to js (at rest gs)
unfolding from
from_complete ts [] h rest gs e = rw (h, eat_no (is_keyword word.From) rest gs e.no_from) refl
from_complete ts (x ∷ more) (inner, none, (a, b, q, s, m)) rest gs e =
    let words : ts ++ rest ≡ keyword word.From ∷ (a ++ (b ++ rest)) = ap (λ z. z ++ rest) q ∙ ap (λ z. keyword word.From ∷ z) (append_assoc a b rest) in
    let stops = joined_closed more b m rest e.closed in
    let first : (let j : Joined = record { source = x.source; side = side.Inner; on = [] } in j) ≡ x =
    ap (λ z. let j : Joined = record { source = x.source; side = z; on = [] } in j) (sym inner)
    ∙ ap (λ z. let j : Joined = record { source = x.source; side = x.side; on = z } in j) (sym none) in
    rw (words, eat_yes (is_keyword word.From) (keyword word.From) (a ++ (b ++ rest)) gs refl, source_exact.complete a x.source s (b ++ rest) gs stops)
    (sources_complete x.source more b m rest gs e ∙ ap (λ z. up_to (z ∷ more) (at rest gs)) first)

pub from_exact : IsExact SpellsFrom from FromEnds
from_exact = record { sound = from_sound; complete = from_complete }

-- behind FROM's part stands its word or what follows
pub from_first : (q : Lexeme → Bool) → q (keyword word.From) ≡ false → (ts : List Lexeme) (js : List Joined) → SpellsFrom ts js
    → (rest : List Lexeme) → begins q rest ≡ false → begins q (ts ++ rest) ≡ false
from_first q f ts [] h rest e = rw h e
from_first q f ts (x ∷ more) (inner, none, (a, b, g, s, m)) rest e = ap (λ z. begins q (z ++ rest)) g ∙ f
