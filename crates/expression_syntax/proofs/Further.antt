-- Reading one item further.
use Rattle.std.proofs.Common.{◌≡◌, ◌+◌, ◌-◌, ◌<◌, ℕ, suc, Bool, List, refl, arith, Some}
use Rattle.expression_syntax.specs.Lexemes.{Lexeme}
use Rattle.expression_syntax.specs.Reading.{Cursor, Parser, and_then, eat}
use Rattle.expression_syntax.specs.ReadParts.{further, next_item}

module _ {A : Type 0} (separates : Lexeme → Bool) (item : Parser A) where
  pub further_none : (turns i : ℕ) (xs : List A) (c : Cursor) → turns < i + 1 → further separates item (turns - i) xs c ≡ Some (xs, c)
  unfolding further
  further_none turns i xs c h = let e : turns - i ≡ 0 = omega arith in rw e refl

  pub further_once : (turns i : ℕ) (xs : List A) (c : Cursor) → i < turns
      → further separates item (turns - i) xs c ≡ and_then (eat separates c) (next_item separates item xs (further separates item (turns - (i + 1))))
  unfolding further
  further_once turns i xs c h = let e : turns - i ≡ suc (turns - (i + 1)) = omega arith in rw e refl
