-- That columns ascend is a fact: it has one proof. This serves the crate alone.
use Rattle.std.specs.Prelude.{ℕ, suc, List, [], ◌∷◌}
use Rattle.std.specs.Coded.{×_prop, le_prop}
use Rattle.column_ranks.specs.Rising.{IsRising}

pub IsRising-prop : (a : ℕ) (s : List ℕ) (b : ℕ) → IsProp (IsRising a s b)
IsRising-prop a [] b = le_prop
IsRising-prop a (c ∷ s) b = ×_prop le_prop (IsRising-prop (suc c) s b)
