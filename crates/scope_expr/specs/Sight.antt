-- Columns in sight, by their names.
use Rattle.std.specs.Prelude.{◌≡◌, Bool, true, false, ◌&&◌, List, ℕ, nat_eq, AllPairs, Option, Some, None}
use Rattle.std.specs.Cmp.Lexicographic.{pointwise}
use Rattle.script_trees.specs.declared.raw.RawRef.{RawRef}
use Rattle.scope_expr.specs.declared.scope.Entry.{Entry}

-- a column without alias goes with every source, one with an alias with the source of that alias
abbrev pub is_of : Option (List ℕ) → Option (List ℕ) → Bool
is_of None source = true
is_of (Some alias) None = false
is_of (Some alias) (Some source) = pointwise nat_eq alias source

-- the entry is a column of that name
abbrev pub is_named : RawRef → Entry → Bool
is_named r entry = pointwise nat_eq r.name entry.name && is_of r.alias entry.alias

-- there is an alias, and both have it
abbrev pub have_one_alias : Option (List ℕ) → Option (List ℕ) → Bool
have_one_alias None source = false
have_one_alias (Some alias) source = is_of (Some alias) source

-- both columns are known by one alias and one name
abbrev pub clash : Entry → Entry → Bool
clash a b = pointwise nat_eq a.name b.name && have_one_alias a.alias b.alias

-- no two columns are known by one alias and one name
abbrev pub AreDistinct : List Entry → Type 0
AreDistinct = AllPairs (λ a b. clash a b ≡ false)
