-- Exact reading: what is read is spelled, and what is spelled is read, where what follows allows. Lists and optional
-- parts of what is read exactly are read exactly.
use Rattle.std.proofs.Common.{◌≡◌, ◌≤◌, ℕ, zero, suc, Bool, true, false, List, [], ◌∷◌, ◌++◌, length, Option, Some, None, refl, sym, ap, ◌∙◌, arith, subst, append_assoc, append-nil, length-append, if◌then◌else◌}
use denote.Enum.Bare.{true_same}
use Rattle.script_trees.specs.declared.raw_agg.RawAgg.{RawAgg}
use Rattle.expression_syntax.specs.declared.keyword.Keyword.{Keyword}
use Rattle.expression_syntax.specs.declared.symbol.Symbol.{Symbol}
use Rattle.expression_syntax.specs.contracts.symbol.Symbol as of_symbol
use Rattle.expression_syntax.specs.contracts.keyword.Keyword as of_keyword
use Rattle.expression_syntax.specs.Lexemes.{Lexeme, keyword, symbol, is_keyword, is_symbol}
use Rattle.expression_syntax.specs.Parts.{SpellsAfter, SpellsList, SpellsOptional}
use Rattle.expression_syntax.specs.Reading.{Cursor, Parser, ◌>>=◌, and_then, begins, eat, pure}
use Rattle.expression_syntax.specs.ReadParts.{further, list, next_item, optional}
use Rattle.expression_syntax.proofs.Forward.{at, eat_no, eat_yes}
use Rattle.expression_syntax.proofs.Steps.{Begins, Same, Takes, eat_false, eat_true, keyword_true, some_same, symbol_true, twice, up_to}

-- something was found from one place to another, without aggregates
pub record Found {A : Type 0} (P : List Lexeme → A → Type 0) (x : A) (old new : Cursor) : Type 0 where
  pub words : List Lexeme
  pub rest_is : old.rest ≡ words ++ new.rest
  pub aggs_are : new.aggs ≡ old.aggs
  pub spelled : P words x

-- p reads exactly what P says, where what follows isn't what could go on it
pub record IsExact {A : Type 0} (P : List Lexeme → A → Type 0) (p : Parser A) (Ends : List Lexeme → Type 0) : Type 0 where
  pub sound : (c d : Cursor) (x : A) → p c ≡ up_to x d → Found P x c d
  pub complete : (ts : List Lexeme) (x : A) → P ts x → (rest : List Lexeme) (gs : List RawAgg) → Ends rest → p (at (ts ++ rest) gs) ≡ up_to x (at rest gs)

pub Found-same : {A : Type 0} {P : List Lexeme → A → Type 0} {a x : A} {c0 c d : Cursor} → Found P a c0 c → Same a x c d → Found P x c0 d
Found-same {P} {a} {x} {c0} {c} {d} t s = subst (λ k. Found P x c0 k) s.place (subst (λ y. Found P y c0 c) s.value t)

-- ---- words

pub keyword_self : (w : Keyword) → is_keyword w (keyword w) ≡ true
keyword_self w = true_same of_keyword.the_type w w refl

pub symbol_self : (s : Symbol) → is_symbol s (symbol s) ≡ true
symbol_self s = true_same of_symbol.the_type s s refl

-- a word was read
pub word_read : (w : Keyword) {c d : Cursor} → Begins (is_keyword w) c d → Takes (keyword w) c d
word_read w {c} {d} b = subst (λ t. Takes t c d) (keyword_true w b.first b.passes) b.takes

-- a symbol was read
pub mark_read : (s : Symbol) {c d : Cursor} → Begins (is_symbol s) c d → Takes (symbol s) c d
mark_read s {c} {d} b = subst (λ t. Takes t c d) (symbol_true s b.first b.passes) b.takes

-- ---- optional parts

module _ {A : Type 0} (w : Keyword) (P : List Lexeme → A → Type 0) (p : Parser A) (sound : (c d : Cursor) (x : A) → p c ≡ up_to x d → Found P x c d) where
  optional_by : (b : Bool) (c c1 d : Cursor) (o : Option A) → eat (is_keyword w) c ≡ up_to b c1
      → (if b then p >>= (λ x. pure (Some x)) else pure None) c1 ≡ up_to o d → Found (SpellsOptional (SpellsAfter w P)) o c d
  optional_by true c c1 d o e h =
      let k = word_read w (eat_true (is_keyword w) c c1 e) in
      let t = twice (p c1) (λ x. pure (Some x)) o d h in
      let f = sound c1 t.between t.value t.first in
      let found : Found (SpellsOptional (SpellsAfter w P)) (Some t.value) c t.between = record {
        words = keyword w ∷ f.words;
        rest_is = k.rest_is ∙ ap (λ z. keyword w ∷ z) f.rest_is;
        aggs_are = f.aggs_are ∙ k.aggs_are;
        spelled = (f.words, refl, f.spelled);
      } in
      Found-same found (some_same t.second)
  optional_by false c c1 d o e h =
      let found : Found (SpellsOptional (SpellsAfter w P)) None c1 c1 = record { words = []; rest_is = refl; aggs_are = refl; spelled = refl } in
      subst (λ k. Found (SpellsOptional (SpellsAfter w P)) o k d) (sym (eat_false (is_keyword w) c c1 e)) (Found-same found (some_same h))

  pub optional_sound : (c d : Cursor) (o : Option A) → optional w p c ≡ up_to o d → Found (SpellsOptional (SpellsAfter w P)) o c d
  unfolding optional
  optional_sound c d o h =
      let t = twice (eat (is_keyword w) c) _ o d h in optional_by t.value c t.between d o t.first t.second

module _ {A : Type 0} (w : Keyword) (P : List Lexeme → A → Type 0) (p : Parser A) (Ends : List Lexeme → Type 0) (item : IsExact P p Ends) where
  -- what follows an optional part isn't its word
  abbrev pub OptionEnds : List Lexeme → Type 0
  OptionEnds rest = Ends rest × (begins (is_keyword w) rest ≡ false)

  optional_complete : (ts : List Lexeme) (o : Option A) → SpellsOptional (SpellsAfter w P) ts o → (rest : List Lexeme) (gs : List RawAgg) → OptionEnds rest
      → optional w p (at (ts ++ rest) gs) ≡ up_to o (at rest gs)
  unfolding optional
  optional_complete ts None h rest gs e = rw (h, eat_no (is_keyword w) rest gs e.1) refl
  optional_complete ts (Some x) h rest gs e =
      rw (h.1, eat_yes (is_keyword w) (keyword w) (h.0 ++ rest) gs (keyword_self w), item.complete h.0 x h.2 rest gs e.0) refl

  pub optional_exact : IsExact (SpellsOptional (SpellsAfter w P)) (optional w p) OptionEnds
  optional_exact = record { sound = optional_sound w P p item.sound; complete = optional_complete }

-- ---- lists

-- {o x}
abbrev SpellsMore : {A : Type 0} → (Lexeme → Bool) → (List Lexeme → A → Type 0) → List Lexeme → List A → Type 0
SpellsMore separates P ts [] = ts ≡ []
SpellsMore separates P ts (x ∷ xs) =
    (o : Lexeme) × (a b : List Lexeme) × (ts ≡ o ∷ (a ++ b)) × (separates o ≡ true) × P a x × SpellsMore separates P b xs

list_joined : {A : Type 0} (separates : Lexeme → Bool) (P : List Lexeme → A → Type 0) (more : List A) (a b : List Lexeme) (x : A) → P a x → SpellsMore separates P b more
    → SpellsList separates P (a ++ b) (x ∷ more)
list_joined separates P [] a b x h m = subst (λ z. P z x) (sym (ap (λ z. a ++ z) m ∙ append-nil a)) h
list_joined separates P (y ∷ more) a b x h (o, a', b', e, s, i, m) = (a, a' ++ b', o, ap (λ z. a ++ z) e, s, h, list_joined separates P more a' b' y i m)

list_long : {A : Type 0} (separates : Lexeme → Bool) (P : List Lexeme → A → Type 0) (more : List A) (ts : List Lexeme) (x : A) → SpellsList separates P ts (x ∷ more)
    → length more ≤ length ts
list_long separates P [] ts x h = omega arith
list_long separates P (y ∷ more) ts x (a, b, o, e, s, h, l) =
    let i = list_long separates P more b y l in omega (arith, i, ap length e, length-append a (o ∷ b))

-- further items were found
record FoundMore {A : Type 0} (separates : Lexeme → Bool) (P : List Lexeme → A → Type 0) (xs ys : List A) (old new : Cursor) : Type 0 where
  items : List A
  words : List Lexeme
  ys_are : ys ≡ xs ++ items
  rest_is : old.rest ≡ words ++ new.rest
  aggs_are : new.aggs ≡ old.aggs
  spelled : SpellsMore separates P words items

module _ {A : Type 0} (separates : Lexeme → Bool) (P : List Lexeme → A → Type 0) (p : Parser A) (Ends : List Lexeme → Type 0) (item : IsExact P p Ends)
    (between : (o : Lexeme) (ts : List Lexeme) → separates o ≡ true → Ends (o ∷ ts)) where
  none_more : (xs ys : List A) (c0 c d : Cursor) → c0 ≡ c → up_to xs c ≡ up_to ys d → FoundMore separates P xs ys c0 d
  none_more xs ys c0 c d q h =
      let s = some_same h in
      let k = q ∙ s.place in
      record {
        items = [];
        words = [];
        ys_are = sym s.value ∙ sym (append-nil xs);
        rest_is = ap (λ (z : Cursor). z.rest) k;
        aggs_are = sym (ap (λ (z : Cursor). z.aggs) k);
        spelled = refl;
      }

  one_more : (xs ys : List A) (x : A) (c0 c1 c2 d : Cursor) → Begins separates c0 c1 → Found P x c1 c2 → FoundMore separates P (xs ++ x ∷ []) ys c2 d
      → FoundMore separates P xs ys c0 d
  one_more xs ys x c0 c1 c2 d b f m = record {
    items = x ∷ m.items;
    words = b.first ∷ (f.words ++ m.words);
    ys_are = m.ys_are ∙ append_assoc xs (x ∷ []) m.items;
    rest_is = b.takes.rest_is ∙ ap (λ z. b.first ∷ z) (f.rest_is ∙ ap (λ z. f.words ++ z) m.rest_is ∙ sym (append_assoc f.words m.words d.rest));
    aggs_are = m.aggs_are ∙ f.aggs_are ∙ b.takes.aggs_are;
    spelled = (b.first, f.words, m.words, refl, b.passes, f.spelled, m.spelled);
  }

  further_by : (next : List A → Parser (List A)) (b : Bool) (xs ys : List A) (c c1 d : Cursor)
      → ((zs : List A) (e : Cursor) → next zs e ≡ up_to ys d → FoundMore separates P zs ys e d)
      → eat separates c ≡ up_to b c1 → next_item separates p xs next b c1 ≡ up_to ys d → FoundMore separates P xs ys c d
  further_by next false xs ys c c1 d i e h = none_more xs ys c c1 d (eat_false separates c c1 e) h
  further_by next true xs ys c c1 d i e h =
      let t = twice (p c1) (λ x. next (xs ++ x ∷ [])) ys d h in
      one_more xs ys t.value c c1 t.between d (eat_true separates c c1 e) (item.sound c1 t.between t.value t.first) (i (xs ++ t.value ∷ []) t.between t.second)

  further_sound : (k : ℕ) (xs ys : List A) (c d : Cursor) → further separates p k xs c ≡ up_to ys d → FoundMore separates P xs ys c d
  unfolding further
  further_sound zero xs ys c d h = none_more xs ys c c d refl h
  further_sound (suc k) xs ys c d h =
      let t = twice (eat separates c) (next_item separates p xs (further separates p k)) ys d h in
      further_by (further separates p k) t.value xs ys c t.between d (λ zs e. further_sound k zs ys e d) t.first t.second

  list_sound : (c d : Cursor) (ys : List A) → list separates p c ≡ up_to ys d → Found (SpellsList separates P) ys c d
  unfolding list
  list_sound c d ys h =
      let t = twice (p c) (λ x. further separates p (length c.rest) (x ∷ [])) ys d h in
      let f = item.sound c t.between t.value t.first in
      let m = further_sound (length c.rest) (t.value ∷ []) ys t.between d t.second in
      record {
        words = f.words ++ m.words;
        rest_is = f.rest_is ∙ ap (λ z. f.words ++ z) m.rest_is ∙ sym (append_assoc f.words m.words d.rest);
        aggs_are = m.aggs_are ∙ f.aggs_are;
        spelled = subst (λ z. SpellsList separates P (f.words ++ m.words) z) (sym m.ys_are) (list_joined separates P m.items f.words m.words t.value f.spelled m.spelled);
      }

  -- what follows a list is no separator
  abbrev pub ListEnds : List Lexeme → Type 0
  ListEnds rest = Ends rest × (begins separates rest ≡ false)

  further_stops : (k : ℕ) (xs : List A) (rest : List Lexeme) (gs : List RawAgg) → begins separates rest ≡ false → further separates p k xs (at rest gs) ≡ up_to xs (at rest gs)
  unfolding further
  further_stops zero xs rest gs h = refl
  further_stops (suc k) xs rest gs h = rw (eat_no separates rest gs h) refl

  further_goes : (k : ℕ) (xs : List A) (o : Lexeme) (ts : List Lexeme) (gs : List RawAgg) → separates o ≡ true
      → further separates p (suc k) xs (at (o ∷ ts) gs) ≡ and_then (p (at ts gs)) (λ x. further separates p k (xs ++ x ∷ []))
  unfolding further
  further_goes k xs o ts gs h = rw (eat_yes separates o ts gs h) refl

  list_goes : (more : List A) (k : ℕ) (xs : List A) (ts : List Lexeme) (x : A) → length more ≤ k → SpellsList separates P ts (x ∷ more)
      → (rest : List Lexeme) (gs : List RawAgg) → ListEnds rest
      → and_then (p (at (ts ++ rest) gs)) (λ y. further separates p k (xs ++ y ∷ [])) ≡ up_to (xs ++ x ∷ more) (at rest gs)
  list_goes [] k xs ts x few h rest gs e = rw (item.complete ts x h rest gs e.0) (further_stops k (xs ++ x ∷ []) rest gs e.1)
  list_goes (y ∷ more) zero xs ts x few h rest gs e = absurd (omega arith)
  list_goes (y ∷ more) (suc k) xs ts x few (a, b, o, q, s, h, l) rest gs e =
      let words : ts ++ rest ≡ a ++ (o ∷ (b ++ rest)) = ap (λ z. z ++ rest) q ∙ append_assoc a (o ∷ b) rest in
      let first = item.complete a x h (o ∷ (b ++ rest)) gs (between o (b ++ rest) s) in
      let later = list_goes more k (xs ++ x ∷ []) b y (omega arith) l rest gs e in
      rw (words, first) (further_goes k (xs ++ x ∷ []) o (b ++ rest) gs s ∙ later ∙ ap (λ z. up_to z (at rest gs)) (append_assoc xs (x ∷ []) (y ∷ more)))

  list_complete : (ts : List Lexeme) (xs : List A) → SpellsList separates P ts xs → (rest : List Lexeme) (gs : List RawAgg) → ListEnds rest
      → list separates p (at (ts ++ rest) gs) ≡ up_to xs (at rest gs)
  unfolding list
  list_complete ts [] h rest gs e = absurd h
  list_complete ts (x ∷ more) h rest gs e =
      let few = list_long separates P more ts x h in
      list_goes more (length (ts ++ rest)) [] ts x (omega (arith, few, length-append ts rest)) h rest gs e

  pub list_exact : IsExact (SpellsList separates P) (list separates p) ListEnds
  list_exact = record { sound = list_sound; complete = list_complete }
