-- What closures are worth.
use Rattle.std.specs.Prelude.{◌≡◌, ℕ, ◌<◌, true, List}
use Rattle.col_sets.specs.Sets.{has, within}
use Rattle.fd_closure.specs.Known.{by_of, equal_of}
use Rattle.fd_closure.specs.Closure.{closure_of}
use Rattle.fd_closure.specs.declared.facts.Facts.{Facts}

-- s has the constants and is closed under dependencies and equal columns
pub record IsClosed (f : Facts) (s : List ℕ) : Type 0 where
  pub constants : (c : ℕ) → c < 128 → has f.constants c ≡ true → has s c ≡ true
  pub determined : (c : ℕ) → c < 128 → has f.determined c ≡ true → within (by_of f c) s ≡ true → has s c ≡ true
  pub equal : (c d : ℕ) → equal_of f c d ≡ true → has s c ≡ true → has s d ≡ true

-- s is closed, has the columns of from, and lies within every closed set that has them
pub record IsLeast (f : Facts) (from s : List ℕ) : Type 0 where
  pub closed : IsClosed f s
  pub more : (c : ℕ) → c < 128 → has from c ≡ true → has s c ≡ true
  pub least : (t : List ℕ) → IsClosed f t → ((c : ℕ) → has from c ≡ true → has t c ≡ true) → (c : ℕ) → has s c ≡ true → has t c ≡ true

-- the steps lead to the least closed set
abbrev pub IsLeastLaw : Type 0
IsLeastLaw = (f : Facts) (from : List ℕ) → IsLeast f from (closure_of f from)
