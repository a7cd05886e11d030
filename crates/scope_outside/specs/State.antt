-- What a store tells.
use Rattle.std.specs.Prelude.{◌≡◌, ℕ, ◌<◌, ◌^◌, ◌-◌, ◌⊎◌, Bool, List, Option, None, IfSome}
use Rattle.std.specs.Ordering.{nat_cmp}
use Rattle.std.specs.Cmp.Lexicographic.{slice_cmp}
use Rattle.std.specs.FinMap as map

-- names and their bytes
abbrev pub Files : Type 0
Files = map.FinMap (slice_cmp nat_cmp) (List ℕ)

-- the files where they are told, how often a call failed or found no file, and the name of the latest such call with whether it was a write
pub record StoreState : Type 0 where
  pub files : Option Files
  pub faults : ℕ
  pub misses : ℕ
  pub last : Option (List ℕ × Bool)

-- a count went up, or stands at the last number of a u64
abbrev pub Rose : ℕ → ℕ → Type 0
Rose old new = (old < new) ⊎ (new ≡ 2 ^ 64 - 1)

-- a fact of the files, where they are told
abbrev pub OnFiles : StoreState → (Files → Type 0) → Type 0
OnFiles s P = IfSome s.files P

-- a store of these files that has had no fault and no miss
abbrev pub untroubled : Option Files → StoreState
untroubled files = record { files = files; faults = 0; misses = 0; last = None }
