-- Reading one joined source further.
use Rattle.std.proofs.Common.{◌≡◌, ◌+◌, ◌-◌, ◌<◌, ℕ, suc, List, refl, arith, Some}
use Rattle.expression_syntax.specs.Reading.{Cursor, and_then}
use Rattle.script_trees.specs.declared.select.Joined.{Joined}
use Rattle.scope_syntax.specs.ReadSelect.{join_word, joins, next_join}

pub joins_none : (turns i : ℕ) (js : List Joined) (c : Cursor) → turns < i + 1 → joins (turns - i) js c ≡ Some (js, c)
unfolding joins
joins_none turns i js c h = let e : turns - i ≡ 0 = omega arith in rw e refl

pub joins_once : (turns i : ℕ) (js : List Joined) (c : Cursor) → i < turns → joins (turns - i) js c ≡ and_then (join_word c) (next_join js (joins (turns - (i + 1))))
unfolding joins
joins_once turns i js c h = let e : turns - i ≡ suc (turns - (i + 1)) = omega arith in rw e refl
