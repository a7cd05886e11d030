-- What is declared of a stored stream is read exactly.
use Rattle.std.proofs.Common.{◌≡◌, true, false, List, [], ◌∷◌, ◌++◌, refl, sym, ap, ◌∙◌, append_assoc}
use Rattle.script_trees.specs.declared.raw_agg.RawAgg.{RawAgg}
use Rattle.script_trees.specs.declared.stored.RawStored.{RawStored}
use Rattle.expression_syntax.specs.declared.symbol.Symbol.TheVariants as mark
use Rattle.expression_syntax.specs.declared.weak_keyword.WeakKeyword.TheVariants as weak
use Rattle.expression_syntax.specs.Lexemes.{Lexeme, symbol, is_symbol, is_weak}
use Rattle.expression_syntax.specs.Parts.{SpellsAfterWeak, SpellsKeys, SpellsOptional, SpellsRefs, is_comma}
use Rattle.expression_syntax.specs.Reading.{Cursor, Parser, begins, expect}
use Rattle.expression_syntax.specs.ReadParts.{key, list, reference}
use Rattle.expression_syntax.proofs.Closed.{Closed}
use Rattle.expression_syntax.proofs.Exact.{Found, Found-same, IsExact, mark_read}
use Rattle.expression_syntax.proofs.Forward.{at, expect_yes}
use Rattle.expression_syntax.proofs.PartLaws.{Any, exact_before, keys_bracketed, refs_bracketed}
use Rattle.expression_syntax.proofs.Steps.{expect_begins, some_same, twice, up_to}
use Rattle.expression_syntax.proofs.Weak.{weak_exact}
use Rattle.scope_syntax.specs.Statements.{SpellsBracketed, SpellsDeclared, SpellsStored}
use Rattle.scope_syntax.specs.ReadStored.{bracketed, declared, sorted, stored}

-- ---- brackets

-- what follows is a closing bracket
abbrev BeforeClose : List Lexeme → Type 0
BeforeClose rest = begins (is_symbol mark.Close) rest ≡ true

module _ {A : Type 0} (P : List Lexeme → A → Type 0) (p : Parser A) (item : IsExact P p BeforeClose) where
  bracketed_sound : (c d : Cursor) (x : A) → bracketed p c ≡ up_to x d → Found (SpellsBracketed P) x c d
  unfolding bracketed
  bracketed_sound c d x h =
      let t = twice (expect (is_symbol mark.Open) c) _ x d h in
      let k = mark_read mark.Open (expect_begins (is_symbol mark.Open) c t.between t.value t.first) in
      let u = twice (p t.between) _ x d t.second in
      let f = item.sound t.between u.between u.value u.first in
      let v = twice (expect (is_symbol mark.Close) u.between) _ x d u.second in
      let l = mark_read mark.Close (expect_begins (is_symbol mark.Close) u.between v.between v.value v.first) in
      let found : Found (SpellsBracketed P) u.value c v.between = record {
        words = symbol mark.Open ∷ (f.words ++ symbol mark.Close ∷ []);
        rest_is = k.rest_is ∙ ap (λ z. symbol mark.Open ∷ z)
            (f.rest_is ∙ ap (λ z. f.words ++ z) l.rest_is ∙ sym (append_assoc f.words (symbol mark.Close ∷ []) v.between.rest));
        aggs_are = l.aggs_are ∙ f.aggs_are ∙ k.aggs_are;
        spelled = (f.words, refl, f.spelled);
      } in
      Found-same found (some_same v.second)

  bracketed_complete : (ts : List Lexeme) (x : A) → SpellsBracketed P ts x → (rest : List Lexeme) (gs : List RawAgg) → Any rest → bracketed p (at (ts ++ rest) gs) ≡ up_to x (at rest gs)
  unfolding bracketed
  bracketed_complete ts x (a, q, i) rest gs e =
      let words : ts ++ rest ≡ symbol mark.Open ∷ (a ++ (symbol mark.Close ∷ rest)) =
      ap (λ z. z ++ rest) q ∙ ap (λ z. symbol mark.Open ∷ z) (append_assoc a (symbol mark.Close ∷ []) rest) in
      rw (
        words,
        expect_yes (is_symbol mark.Open) (symbol mark.Open) (a ++ (symbol mark.Close ∷ rest)) gs refl,
        item.complete a x i (symbol mark.Close ∷ rest) gs refl,
        expect_yes (is_symbol mark.Close) (symbol mark.Close) rest gs refl,
      ) refl

  bracketed_exact : IsExact (SpellsBracketed P) (bracketed p) Any
  bracketed_exact = record { sound = bracketed_sound; complete = bracketed_complete }

hash_exact : IsExact (SpellsBracketed SpellsRefs) (bracketed (list is_comma reference)) Any
hash_exact = bracketed_exact SpellsRefs (list is_comma reference) refs_bracketed

keys_exact : IsExact (SpellsBracketed SpellsKeys) (bracketed (list is_comma key)) Any
keys_exact = bracketed_exact SpellsKeys (list is_comma key) keys_bracketed

-- ---- HASH and SORTED

-- what follows isn't SORTED
abbrev NoSorted : List Lexeme → Type 0
NoSorted rest = begins (is_weak weak.Sorted) rest ≡ false

sorted_exact : IsExact (SpellsOptional (SpellsAfterWeak weak.Sorted (SpellsBracketed SpellsKeys))) sorted NoSorted
sorted_exact = exact_before (weak_exact weak.Sorted (SpellsBracketed SpellsKeys) (bracketed (list is_comma key)) Any keys_exact) NoSorted (λ rest e. (tt, e))

declared_sound : (c d : Cursor) (x : RawStored) → declared c ≡ up_to x d → Found SpellsDeclared x c d
unfolding declared
declared_sound c d x h =
    let t = twice (expect (is_weak weak.Hash) c) _ x d h in
    let k = expect_begins (is_weak weak.Hash) c t.between t.value t.first in
    let u = twice (bracketed (list is_comma reference) t.between) _ x d t.second in
    let f = hash_exact.sound t.between u.between u.value u.first in
    let v = twice (sorted u.between) _ x d u.second in
    let g = sorted_exact.sound u.between v.between v.value v.first in
    let y : RawStored = record { hash = u.value; sorted = v.value } in
    let found : Found SpellsDeclared y c v.between = record {
      words = (k.first ∷ f.words) ++ g.words;
      rest_is = k.takes.rest_is ∙ ap (λ z. k.first ∷ z) (f.rest_is ∙ ap (λ z. f.words ++ z) g.rest_is ∙ sym (append_assoc f.words g.words v.between.rest));
      aggs_are = g.aggs_are ∙ f.aggs_are ∙ k.takes.aggs_are;
      spelled = (k.first ∷ f.words, g.words, refl, (k.first, f.words, refl, k.passes, f.spelled), g.spelled);
    } in
    Found-same found (some_same v.second)

declared_complete : (ts : List Lexeme) (x : RawStored) → SpellsDeclared ts x → (rest : List Lexeme) (gs : List RawAgg) → NoSorted rest → declared (at (ts ++ rest) gs) ≡ up_to x (at rest gs)
unfolding declared
declared_complete ts x (a, b, q, (t, c, g, s, i), j) rest gs e =
    let words : ts ++ rest ≡ t ∷ (c ++ (b ++ rest)) = ap (λ z. z ++ rest) q ∙ append_assoc a b rest ∙ ap (λ z. z ++ (b ++ rest)) g in
    rw (
      words,
      expect_yes (is_weak weak.Hash) t (c ++ (b ++ rest)) gs s,
      hash_exact.complete c x.hash i (b ++ rest) gs tt,
      sorted_exact.complete b x.sorted j rest gs e,
    ) refl

declared_exact : IsExact SpellsDeclared declared NoSorted
declared_exact = record { sound = declared_sound; complete = declared_complete }

-- ---- STORED

-- what may follow a command that can declare how its stream is stored
pub record StoredEnds (rest : List Lexeme) : Type 0 where
  pub closed : Closed rest
  pub no_stored : begins (is_weak weak.Stored) rest ≡ false
  pub no_sorted : NoSorted rest

pub nothing_stored : StoredEnds []
nothing_stored = record { closed = refl; no_stored = refl; no_sorted = refl }

pub stored_exact : IsExact SpellsStored stored StoredEnds
stored_exact = exact_before (weak_exact weak.Stored SpellsDeclared declared NoSorted declared_exact) StoredEnds (λ rest e. (e.no_sorted, e.no_stored))
