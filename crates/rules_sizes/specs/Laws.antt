-- Estimates go by place, as facts.
use Rattle.std.specs.Prelude.{◌≡◌, ℕ, List}
use Rattle.logical_trees.specs.Tree.{Expression}
use Rattle.logical_trees.specs.Formed.{IsFormed}
use Rattle.rules_shapes.specs.Shapes.{Shape, IsShaped}
use Rattle.rules_sizes.specs.Sizes.{Size, Sizes, size_of, reached_size}
use Rattle.rules_sizes.specs.Places.{ArePairsOf, AreSizesOf, AreSized}
use Rattle.rules_space.specs.Place.{Place}

-- what steps reach from a tree has the tree's size
abbrev pub IsSameSize : Type 0
IsSameSize = (results : List (List ℕ)) (Z : Sizes) (pairs : Place → List (ℕ × ℕ)) (tree u : Expression) (s : Shape) → IsFormed results tree → ArePairsOf pairs tree → IsShaped 0 tree u s
    → reached_size Z pairs u s ≡ size_of Z 0 tree

-- and each of its nodes the size of its place
abbrev pub AreSizesByPlace : Type 0
AreSizesByPlace = (results : List (List ℕ)) (Z : Sizes) (pairs : Place → List (ℕ × ℕ)) (at : Place → Size) (tree u : Expression) (s : Shape) → IsFormed results tree → ArePairsOf pairs tree → AreSizesOf Z at tree
    → IsShaped 0 tree u s → AreSized Z pairs at u s
