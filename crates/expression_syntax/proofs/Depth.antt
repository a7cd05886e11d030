-- Reading one step deeper, and one operand further.
use Rattle.std.proofs.Common.{◌≡◌, ◌+◌, ◌-◌, ◌<◌, ℕ, zero, suc, refl, arith, Some, None}
use Rattle.script_trees.specs.declared.raw.RawExpr.{RawExpr}
use Rattle.expression_syntax.specs.declared.level.Level.{Level}
use Rattle.expression_syntax.specs.declared.level.Place.{Place}
use Rattle.expression_syntax.specs.Reading.{Cursor, Parser, and_then}
use Rattle.expression_syntax.specs.ReadExpressions.{go_on, more, read, step, take_operator}

pub read_none : (l : Level) (p : Place) (c : Cursor) → read 0 l p c ≡ None
unfolding read
read_none l p c = refl

pub read_deeper : (d : ℕ) (l : Level) (p : Place) (c : Cursor) → 0 < d → read d l p c ≡ step (read (d - 1)) l p c
unfolding read
read_deeper zero l p c h = absurd (omega arith)
read_deeper (suc n) l p c h = let e : suc n - 1 ≡ n = omega arith in rw e refl

module _ (inner : Level → Place → Parser RawExpr) (l : Level) (p : Place) where
  pub more_none : (turns i : ℕ) (left : RawExpr) (c : Cursor) → turns < i + 1 → more inner l p (turns - i) left c ≡ Some (left, c)
  unfolding more
  more_none turns i left c h = let e : turns - i ≡ 0 = omega arith in rw e refl

  pub more_once : (turns i : ℕ) (left : RawExpr) (c : Cursor) → i < turns
      → more inner l p (turns - i) left c ≡ and_then (take_operator l c) (go_on inner l p left (more inner l p (turns - (i + 1))))
  unfolding more
  more_once turns i left c h = let e : turns - i ≡ suc (turns - (i + 1)) = omega arith in rw e refl
