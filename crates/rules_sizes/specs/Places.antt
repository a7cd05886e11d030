-- Sizes at the places of a script's tree.
use Rattle.std.specs.Prelude.{◌≡◌, ◌+◌, ℕ, false, List, ◌++◌, map, IsPermutation}
use Rattle.structural_props.specs.Actions.{In}
use Rattle.logical_trees.specs.declared.args.GroupArgs.{GroupArgs}
use Rattle.logical_trees.specs.declared.args.TopArgs.{TopArgs}
use Rattle.logical_trees.specs.declared.logic_op.LogicOp.TheVariants.{Group, Top, Partial, LocalTop}
use Rattle.logical_trees.specs.Tree.{Expression, leaf, one, two}
use Rattle.logical_trees.specs.Blocks.{block_pairs}
use Rattle.rules_places.specs.Space.{is_block}
use Rattle.rules_shapes.specs.Shapes.{Shape, size, top_number, numbered_leaves}
use Rattle.rules_optimal.specs.Places.{numbered, tops, HasNumbers}
use Rattle.rules_sizes.specs.Sizes.{Size, Sizes, one_size, join_size, size_of, by_number, reached_size}
use Rattle.rules_space.specs.Tree as shape
use Rattle.rules_space.specs.Place.{Place, Leaves, Whole, Half, Block, place}

-- the sizes of numbered leaves, by ascending number
abbrev pub leaves_size : Sizes → List (ℕ × Expression) → List Size
leaves_size Z leaves = by_number (map (λ v. size_of Z v.0 v.1) leaves)

-- the places of some leaves of a block have the equalities of the block
abbrev pub ArePairsOf : (Place → List (ℕ × ℕ)) → Expression → Type 0
ArePairsOf pairs tree = (base : ℕ) (n : Expression) → In (base, n) (tops false 0 tree) → (L : Leaves) (leaves out : List (ℕ × Expression)) → IsPermutation (leaves ++ out) (numbered_leaves base n)
    → (v : ℕ × Expression) → In v leaves → HasNumbers L leaves → pairs (Block L) ≡ block_pairs n

-- these are the sizes at each place of the tree: of each node, of each first step of a Group or Top, and of some leaves of each block
pub record AreSizesOf (Z : Sizes) (at : Place → Size) (tree : Expression) : Type 0 where
  pub whole : (v : ℕ × Expression) → In v (numbered 0 tree) → is_block v.1 ≡ false → at (Whole (top_number v.0 v.1)) ≡ size_of Z v.0 v.1
  pub group : (base : ℕ) (args : GroupArgs) (t : Expression) → In (base, one (Group args) t) (numbered 0 tree) → at (Half (base + size t)) ≡ one_size Z (base + size t) (Partial args) (size_of Z base t)
  pub top : (base : ℕ) (args : TopArgs) (t : Expression) → In (base, one (Top args) t) (numbered 0 tree) → at (Half (base + size t)) ≡ one_size Z (base + size t) (LocalTop args) (size_of Z base t)
  pub block : (base : ℕ) (n : Expression) → In (base, n) (tops false 0 tree) → (L : Leaves) (leaves out : List (ℕ × Expression)) → IsPermutation (leaves ++ out) (numbered_leaves base n)
      → (v : ℕ × Expression) → In v leaves → HasNumbers L leaves → at (Block L) ≡ join_size (block_pairs n) (leaves_size Z leaves)

-- each node of the expression has the size at the place of its shape
abbrev pub AreSized : Sizes → (Place → List (ℕ × ℕ)) → (Place → Size) → Expression → Shape → Type 0
AreSized Z pairs at (leaf op) (shape.leaf k) = reached_size Z pairs (leaf op) (shape.leaf k) ≡ at (place (shape.leaf k))
AreSized Z pairs at (one op t) (shape.one k s) = (reached_size Z pairs (one op t) (shape.one k s) ≡ at (place (shape.one k s))) × AreSized Z pairs at t s
AreSized Z pairs at (two op t u) (shape.two k r s) = (reached_size Z pairs (two op t u) (shape.two k r s) ≡ at (place (shape.two k r s))) × AreSized Z pairs at t r × AreSized Z pairs at u s
AreSized Z pairs at t s = ⊥
