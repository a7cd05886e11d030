-- Words that are names elsewhere: what each is, and that optional parts behind one are read exactly.
use Rattle.std.proofs.Common.{◌≡◌, Bool, true, false, List, [], ◌∷◌, ◌++◌, Option, Some, None, refl, sym, ap, ◌∙◌, subst, if◌then◌else◌}
use Rattle.script_trees.specs.declared.raw_agg.RawAgg.{RawAgg}
use Rattle.expression_syntax.specs.declared.keyword.Keyword.{Keyword}
use Rattle.expression_syntax.specs.declared.weak_keyword.WeakKeyword.{WeakKeyword}
use Rattle.expression_syntax.specs.Lexemes.{Lexeme, keyword, symbol, name, number, text, is_keyword, is_weak}
use Rattle.expression_syntax.specs.Parts.{SpellsAfterWeak, SpellsOptional}
use Rattle.expression_syntax.specs.Reading.{Cursor, Parser, ◌>>=◌, begins, eat, pure}
use Rattle.expression_syntax.specs.ReadParts.{optional_weak}
use Rattle.expression_syntax.proofs.Closed.{goes_on}
use Rattle.expression_syntax.proofs.Exact.{Found, Found-same, IsExact}
use Rattle.expression_syntax.proofs.Forward.{at, eat_no, eat_yes}
use Rattle.expression_syntax.proofs.Steps.{eat_false, eat_true, some_same, twice, up_to}

-- it goes on no part before it
pub weak_closed : (w : WeakKeyword) (t : Lexeme) → is_weak w t ≡ true → goes_on t ≡ false
weak_closed w (name b) h = refl
weak_closed w (keyword k) h = absurd (cc)
weak_closed w (symbol s) h = absurd (cc)
weak_closed w (number b n) h = absurd (cc)
weak_closed w (text b) h = absurd (cc)

-- it is no keyword
pub weak_no_keyword : (w : WeakKeyword) (k : Keyword) (t : Lexeme) → is_weak w t ≡ true → is_keyword k t ≡ false
weak_no_keyword w k (name b) h = refl
weak_no_keyword w k (keyword j) h = absurd (cc)
weak_no_keyword w k (symbol s) h = absurd (cc)
weak_no_keyword w k (number b n) h = absurd (cc)
weak_no_keyword w k (text b) h = absurd (cc)

-- behind an optional part stands its word or what follows
pub weak_first : {A : Type 0} (q : Lexeme → Bool) (P : List Lexeme → A → Type 0) (w : WeakKeyword) (ts : List Lexeme) (o : Option A)
    → ((t : Lexeme) → is_weak w t ≡ true → q t ≡ false) → SpellsOptional (SpellsAfterWeak w P) ts o
    → (rest : List Lexeme) → begins q rest ≡ false → begins q (ts ++ rest) ≡ false
weak_first q P w ts None f h rest e = rw h e
weak_first q P w ts (Some x) f (t, a, g, s, i) rest e = ap (λ z. begins q (z ++ rest)) g ∙ f t s

module _ {A : Type 0} (w : WeakKeyword) (P : List Lexeme → A → Type 0) (p : Parser A) (Ends : List Lexeme → Type 0) (item : IsExact P p Ends) where
  weak_by : (b : Bool) (c c1 d : Cursor) (o : Option A) → eat (is_weak w) c ≡ up_to b c1
      → (if b then p >>= (λ x. pure (Some x)) else pure None) c1 ≡ up_to o d → Found (SpellsOptional (SpellsAfterWeak w P)) o c d
  weak_by true c c1 d o e h =
      let k = eat_true (is_weak w) c c1 e in
      let t = twice (p c1) (λ x. pure (Some x)) o d h in
      let f = item.sound c1 t.between t.value t.first in
      let found : Found (SpellsOptional (SpellsAfterWeak w P)) (Some t.value) c t.between = record {
        words = k.first ∷ f.words;
        rest_is = k.takes.rest_is ∙ ap (λ z. k.first ∷ z) f.rest_is;
        aggs_are = f.aggs_are ∙ k.takes.aggs_are;
        spelled = (k.first, f.words, refl, k.passes, f.spelled);
      } in
      Found-same found (some_same t.second)
  weak_by false c c1 d o e h =
      let found : Found (SpellsOptional (SpellsAfterWeak w P)) None c1 c1 = record { words = []; rest_is = refl; aggs_are = refl; spelled = refl } in
      subst (λ k. Found (SpellsOptional (SpellsAfterWeak w P)) o k d) (sym (eat_false (is_weak w) c c1 e)) (Found-same found (some_same h))

  weak_sound : (c d : Cursor) (o : Option A) → optional_weak w p c ≡ up_to o d → Found (SpellsOptional (SpellsAfterWeak w P)) o c d
  unfolding optional_weak
  weak_sound c d o h = let t = twice (eat (is_weak w) c) _ o d h in weak_by t.value c t.between d o t.first t.second

  -- what follows isn't its word
  abbrev pub WeakEnds : List Lexeme → Type 0
  WeakEnds rest = Ends rest × (begins (is_weak w) rest ≡ false)

  weak_complete : (ts : List Lexeme) (o : Option A) → SpellsOptional (SpellsAfterWeak w P) ts o → (rest : List Lexeme) (gs : List RawAgg) → WeakEnds rest
      → optional_weak w p (at (ts ++ rest) gs) ≡ up_to o (at rest gs)
  unfolding optional_weak
  weak_complete ts None h rest gs e = rw (h, eat_no (is_weak w) rest gs e.1) refl
  weak_complete ts (Some x) (t, a, g, s, i) rest gs e = rw (g, eat_yes (is_weak w) t (a ++ rest) gs s, item.complete a x i rest gs e.0) refl

  pub weak_exact : IsExact (SpellsOptional (SpellsAfterWeak w P)) (optional_weak w p) WeakEnds
  weak_exact = record { sound = weak_sound; complete = weak_complete }
