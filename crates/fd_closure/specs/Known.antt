-- What facts say of columns.
use Rattle.std.specs.Prelude.{◌≡◌, ℕ, Bool, List, [], slice_index, slice_index_or, nat_lt, nat_eq, ◌&&◌, ◌||◌}
use Rattle.fd_closure.specs.declared.facts.Facts.{Facts}

-- the columns that determine c, where some do
abbrev pub by_of : Facts → ℕ → List ℕ
by_of f c = slice_index_or f.by c []

-- the number of the class of c
abbrev pub class_of : Facts → ℕ → ℕ
class_of f c = slice_index f.class c

-- c and d are equal by the facts: they are in one class
abbrev pub equal_of : Facts → ℕ → ℕ → Bool
equal_of f c d = nat_lt c 128 && (nat_lt d 128 && (nat_lt (class_of f c) 128 && nat_eq (class_of f c) (class_of f d)))

-- by g, columns are equal that were so by f, or of which one was equal to c and the other to d
abbrev pub IsMerged : Facts → ℕ → ℕ → Facts → Type 0
IsMerged f c d g = (a b : ℕ) → equal_of g a b ≡ (equal_of f a b || ((equal_of f a c && equal_of f d b) || (equal_of f a d && equal_of f c b)))
