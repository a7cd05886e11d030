-- The least closed set, by steps.
use Rattle.std.specs.Prelude.{ℕ, zero, suc, Bool, false, List, nat_eq, ◌&&◌, ◌||◌}
use Rattle.col_sets.specs.Sets.{has, within, columns_where}
use Rattle.fd_closure.specs.Known.{by_of, class_of}
use Rattle.fd_closure.specs.declared.facts.Facts.{Facts}

-- one of the numbers below n passes
unfoldable pub any_below : (ℕ → Bool) → ℕ → Bool
any_below p zero = false
any_below p (suc n) = p n || any_below p n

-- the classes of the columns of s
abbrev pub classes_of : Facts → List ℕ → List ℕ
classes_of f s = columns_where (λ n. any_below (λ c. has s c && nat_eq (class_of f c) n) 128)

-- s determines c in one step: c is a constant, depends on columns of s, or equals one
abbrev pub forces : Facts → List ℕ → ℕ → Bool
forces f s c = has f.constants c || (has f.determined c && within (by_of f c) s) || has (classes_of f s) (class_of f c)

-- s with all that it determines in one step
abbrev pub grown : Facts → List ℕ → List ℕ
grown f s = columns_where (λ c. has s c || forces f s c)

-- n steps
abbrev pub grow : Facts → ℕ → List ℕ → List ℕ
grow f zero s = s
grow f (suc n) s = grow f n (grown f s)

-- 128 steps, after which nothing is added any more
unfoldable pub closure_of : Facts → List ℕ → List ℕ
closure_of f s = grow f 128 s
