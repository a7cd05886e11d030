-- Examples: estimates of two joins and of a count.
use Rattle.std.specs.Prelude.{◌≡◌, []}
use Rattle.logical_trees.specs.declared.logic_op.LogicOp.TheVariants.{Group, Partial}
use Rattle.logical_trees.specs.Tree.{one}
use Rattle.logical_trees.specs.Worked.{counting, two_joined, three_joined}
use Rattle.rules_sizes.specs.Sizes.{Sizes, size_of}

-- each stream has a million rows, and each column a hundred values
abbrev pub millions : Sizes
millions = record { rows = λ n. 1000000; distinct = λ n c. 100; parts = 4; shared = [] }

-- a join divides by the values of a column
abbrev pub IsJoined : Type 0
IsJoined = (size_of millions 0 two_joined).rows ≡ 10000000000

-- and once more for the third stream
abbrev pub IsJoinedTwice : Type 0
IsJoinedTwice = (size_of millions 0 three_joined).rows ≡ 100000000000000

-- a group for each value of the key
abbrev pub IsCounted : Type 0
IsCounted = (size_of millions 0 (one (Group counting) two_joined)).rows ≡ 100

-- in each of four parts
abbrev pub IsCountedInParts : Type 0
IsCountedInParts = (size_of millions 0 (one (Partial counting) two_joined)).rows ≡ 400
