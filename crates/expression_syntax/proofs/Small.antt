-- The smallest expressions: none is empty, and outside of items none has aggregates.
use Rattle.std.proofs.Common.{◌≡◌, ◌+◌, ◌≤◌, ◌<◌, ℕ, List, [], ◌∷◌, ◌++◌, length, refl, arith, length-append}
use Rattle.script_trees.specs.declared.raw.RawExpr.{RawExpr}
use Rattle.script_trees.specs.declared.raw.RawRef.{RawRef}
use Rattle.script_trees.specs.declared.raw_agg.RawAgg.{RawAgg}
use Rattle.expression_syntax.specs.declared.level.Level.{Level}
use Rattle.expression_syntax.specs.declared.level.Place.{Place}
use Rattle.expression_syntax.specs.declared.level.Place.TheVariants as place
use Rattle.expression_syntax.specs.Lexemes.{Lexeme, symbol}
use Rattle.expression_syntax.specs.declared.symbol.Symbol.TheVariants as mark
use Rattle.expression_syntax.specs.Expressions.{Spells, SpellsRef, alone, joined, compared, negative, negated, constant, column, bracketed, counted, aggregated, bare, aliased}

-- two lists with something between them
around : (a b : List Lexeme) (o : Lexeme) → length (a ++ o ∷ b) ≡ length a + length b + 1
around a b o = omega (arith, length-append a (o ∷ b))

-- no more aggregates than lexemes, and at least one of these
pub record Sized (ts : List Lexeme) (gs : List RawAgg) : Type 0 where
  pub few : length gs ≤ length ts
  pub some : 0 < length ts

sized_ref : {ts : List Lexeme} {r : RawRef} → SpellsRef ts r → Sized ts []
sized_ref bare = record { few = omega arith; some = omega arith }
sized_ref aliased = record { few = omega arith; some = omega arith }

sized_pair : (ts us : List Lexeme) (o : Lexeme) (gs hs : List RawAgg) → Sized ts gs → Sized us hs → Sized (ts ++ o ∷ us) (gs ++ hs)
sized_pair ts us o gs hs a b = record { few = omega (arith, length-append gs hs, around ts us o, a.few, b.few); some = omega (arith, around ts us o) }

pub sized : {l : Level} {p : Place} {n : ℕ} {ts : List Lexeme} {e : RawExpr} {gs : List RawAgg} → Spells l p n ts e gs → Sized ts gs
sized (alone d) = sized d
sized (joined {ts = ts} {us = us} {gs = gs} {hs = hs} o g j a b) = sized_pair ts us o gs hs (sized a) (sized b)
sized (compared {ts = ts} {us = us} {gs = gs} {hs = hs} o j a b) = sized_pair ts us o gs hs (sized a) (sized b)
sized (negative d) = let s = sized d in record { few = omega (arith, s.few); some = omega arith }
sized (negated o h d) = let s = sized d in record { few = omega (arith, s.few); some = omega arith }
sized (constant t h) = record { few = omega arith; some = omega arith }
sized (column r) = sized_ref r
sized (bracketed {ts = ts} d) = let s = sized d in record { few = omega (arith, s.few, around ts [] (symbol mark.Close)); some = omega arith }
sized (counted c h) = record { few = omega arith; some = omega arith }
sized (aggregated c h d) = record { few = omega arith; some = omega arith }

pub none_plain : {l : Level} {n : ℕ} {ts : List Lexeme} {e : RawExpr} {gs : List RawAgg} → Spells l place.Plain n ts e gs → gs ≡ []
none_plain (alone d) = none_plain d
none_plain (joined {gs = gs} {hs = hs} o g j a b) = let p = none_plain a in let q = none_plain b in cc
none_plain (compared o j a b) = let p = none_plain a in let q = none_plain b in cc
none_plain (negative d) = none_plain d
none_plain (negated o h d) = none_plain d
none_plain (constant t h) = refl
none_plain (column r) = refl
none_plain (bracketed d) = none_plain d

-- outside of items the number that aggregates would begin with says nothing
pub renumbered : {l : Level} {n : ℕ} {ts : List Lexeme} {e : RawExpr} {gs : List RawAgg} → Spells l place.Plain n ts e gs → (m : ℕ) → Spells l place.Plain m ts e gs
renumbered (alone d) m = alone (renumbered d m)
renumbered (joined {gs = gs} o g j a b) m = joined o g j (renumbered a m) (renumbered b (m + length gs))
renumbered (compared {gs = gs} o j a b) m = compared o j (renumbered a m) (renumbered b (m + length gs))
renumbered (negative d) m = negative (renumbered d m)
renumbered (negated o h d) m = negated o h (renumbered d m)
renumbered (constant t h) m = constant t h
renumbered (column r) m = column r
renumbered (bracketed d) m = bracketed (renumbered d m)
