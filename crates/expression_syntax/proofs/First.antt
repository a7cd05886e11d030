-- What expressions begin with.
use Rattle.std.proofs.Common.{◌≡◌, ℕ, Bool, true, false, List, [], ◌∷◌, ◌++◌, Some, refl, ap, ◌∙◌, append_assoc}
use Rattle.script_trees.specs.declared.raw.RawExpr.{RawExpr}
use Rattle.script_trees.specs.declared.raw.RawRef.{RawRef}
use Rattle.script_trees.specs.declared.item.Item.{Item}
use Rattle.expression_syntax.specs.declared.keyword.Keyword.TheVariants as word
use Rattle.expression_syntax.specs.declared.level.Level.{Level}
use Rattle.expression_syntax.specs.declared.level.Place.{Place}
use Rattle.script_trees.specs.declared.raw_agg.RawAgg.{RawAgg}
use Rattle.expression_syntax.specs.declared.symbol.Symbol.TheVariants as mark
use Rattle.expression_syntax.specs.Lexemes.{Lexeme, keyword, symbol, name, number, text}
use Rattle.expression_syntax.specs.Expressions as g
use Rattle.expression_syntax.specs.Expressions.{Spells, SpellsRef, literal, negates}
use Rattle.expression_syntax.specs.Reading.{begins}
use Rattle.expression_syntax.specs.Parts as s
use Rattle.expression_syntax.specs.Parts.{SpellsItem, SpellsListed}

-- the lexemes that an expression can begin with
abbrev pub starts : Lexeme → Bool
starts (symbol mark.Minus) = true
starts (symbol mark.Bang) = true
starts (symbol mark.Open) = true
starts (keyword word.Not) = true
starts (keyword word.True) = true
starts (keyword word.False) = true
starts (keyword word.Null) = true
starts (name b) = true
starts (number b n) = true
starts (text b) = true
starts _ = false

-- what comes first is one of them
abbrev pub Starts : List Lexeme → Type 0
Starts ts = (rest : List Lexeme) → begins starts (ts ++ rest) ≡ true

starts_pair : (ts us : List Lexeme) (o : Lexeme) → Starts ts → Starts (ts ++ o ∷ us)
starts_pair ts us o h rest = ap (begins starts) (append_assoc ts (o ∷ us) rest) ∙ h (o ∷ (us ++ rest))

starts_ref : {ts : List Lexeme} {r : RawRef} → SpellsRef ts r → Starts ts
starts_ref g.bare rest = refl
starts_ref g.aliased rest = refl

starts_not : (o : Lexeme) → negates o ≡ true → starts o ≡ true
starts_not (symbol mark.Bang) h = refl
starts_not (keyword word.Not) h = refl
starts_not t h = absurd (cc)

starts_literal : (t : Lexeme) (e : RawExpr) → literal t ≡ Some e → starts t ≡ true
starts_literal (number b n) e h = refl
starts_literal (text b) e h = refl
starts_literal (keyword word.True) e h = refl
starts_literal (keyword word.False) e h = refl
starts_literal (keyword word.Null) e h = refl
starts_literal t e h = absurd (cc)

pub expr_starts : {l : Level} {p : Place} {n : ℕ} {ts : List Lexeme} {e : RawExpr} {gs : List RawAgg} → Spells l p n ts e gs → Starts ts
expr_starts (g.alone d) rest = expr_starts d rest
expr_starts (g.joined {ts = ts} {us = us} o gr j a b) rest = starts_pair ts us o (expr_starts a) rest
expr_starts (g.compared {ts = ts} {us = us} o j a b) rest = starts_pair ts us o (expr_starts a) rest
expr_starts (g.negative d) rest = refl
expr_starts (g.negated o h d) rest = starts_not o h
expr_starts (g.constant t {e = e} h) rest = starts_literal t e h
expr_starts (g.column x) rest = starts_ref x rest
expr_starts (g.bracketed d) rest = refl
expr_starts (g.counted c h) rest = refl
expr_starts (g.aggregated c h d) rest = refl

item_starts : {n : ℕ} {ts : List Lexeme} {x : Item} {gs : List RawAgg} → SpellsItem n ts x gs → Starts ts
item_starts (s.bare r) rest = starts_ref r rest
item_starts (s.named {ts = ts} {c = c} h) rest = ap (begins starts) (append_assoc ts (keyword word.As ∷ name c ∷ []) rest) ∙ expr_starts h.spelled (keyword word.As ∷ name c ∷ rest)

pub listed_starts : (n : ℕ) (ts : List Lexeme) (xs : List Item) (gs : List RawAgg) → SpellsListed n ts xs gs → Starts ts
listed_starts n ts [] gs h rest = absurd h
listed_starts n ts (x ∷ []) gs h rest = item_starts h rest
listed_starts n ts (x ∷ y ∷ more) gs (a, b, fs, hs, e, q, i, l) rest =
    ap (λ z. begins starts (z ++ rest)) e ∙ ap (begins starts) (append_assoc a (symbol mark.Comma ∷ b) rest) ∙ item_starts i (symbol mark.Comma ∷ (b ++ rest))

-- no list of items begins with a test's lexemes if no expression does
pub starts_apart : (q : Lexeme → Bool) → ((t : Lexeme) → starts t ≡ true → q t ≡ false) → (ts : List Lexeme) → begins starts ts ≡ true → begins q ts ≡ false
starts_apart q f [] h = refl
starts_apart q f (t ∷ ts) h = f t h
