-- What a search for a tree or a node found.
use Rattle.std.specs.Prelude.{◌≡◌, ◌+◌, ℕ, List, length, slice_get, Option, Some, option_map, Result, MatchResult}
use Rattle.std.specs.Borrow.{Bor}
use Rattle.logical_trees.specs.declared.logical.Logical.{Logical}
use Rattle.logical_trees.specs.Tree.{Expression, tree_of}

-- the tree that was found, if one was
abbrev pub found_tree : Option (Bor Logical) → Option Expression
found_tree found = option_map (λ t. tree_of t.now) found

-- the node with that number among these, or by how much the number is past the last one's
abbrev pub IsNodeAt : List Expression → ℕ → Result (Bor Logical) ℕ → Type 0
IsNodeAt among number found = MatchResult found (λ node. slice_get among number ≡ Some (tree_of node.now)) (λ past. number ≡ length among + past)
