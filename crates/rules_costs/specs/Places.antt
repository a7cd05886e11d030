-- The sizes at the places of a tree.
use Rattle.std.specs.Prelude.{◌≡◌, ◌+◌, ◌-◌, ℕ, nat_eq, List, [], take, length, Option, Some, None, slice_get, IfSome}
use Rattle.logical_dag.specs.declared.dag.Dag.{Dag}
use Rattle.logical_dag.specs.declared.place.Place.{Place as DagPlace}
use Rattle.logical_dag.specs.declared.place.PlacePart.{PlacePart}
use Rattle.logical_dag.specs.declared.place.PlacePart.TheVariants.{Whole as AllOf, Leaves as SomeLeaves, Lower}
use Rattle.logical_trees.specs.Tree.{Expression, one, nodes}
use Rattle.logical_trees.specs.Blocks.{block_pairs, chosen}
use Rattle.logical_dag.specs.Scripts.{shared_trees}
use Rattle.rules_shapes.specs.Shapes.{size, top_number, numbered_leaves}
use Rattle.rules_optimal.specs.Places.{numbered}
use Rattle.rules_sizes.specs.Sizes.{Size, Sizes, join_size_by, one_size, join_size, leaf_sizes, size_of}
use Rattle.rules_tables.specs.Tables.{first_of, block_with, mask_by, first_step}
use Rattle.rules_space.specs.Place.{Place, Leaves, Whole, Half, Block}

-- where nothing stands
abbrev pub no_size : Size
no_size = join_size_by 1 []

-- the first step of a Group or Top over its child
abbrev pub lower_size : Sizes → ℕ → Expression → Size
lower_size Z base (one op t) = one_size Z (base + size t) (first_step op) (size_of Z base t)
lower_size Z base t = no_size

-- the size of a part of a node, whose nodes are numbered from base on
abbrev pub part_size : Sizes → ℕ → Expression → PlacePart → Size
part_size Z base t AllOf = size_of Z base t
part_size Z base t (SomeLeaves mask) = join_size (block_pairs t) (chosen mask (leaf_sizes Z base t))
part_size Z base t Lower = lower_size Z base t

abbrev pub part_of : Sizes → PlacePart → Option (ℕ × Expression) → Size
part_of Z part None = no_size
part_of Z part (Some v) = part_size Z v.0 v.1 part

-- the node of a number
abbrev pub node_with : Expression → ℕ → Option (ℕ × Expression)
node_with tree n = first_of (λ v. nat_eq (top_number v.0 v.1) n) (numbered 0 tree)

abbrev pub leaves_at_block : Sizes → Leaves → Option (ℕ × Expression) → Size
leaves_at_block Z L None = no_size
leaves_at_block Z L (Some x) = part_size Z x.0 x.1 (SomeLeaves (mask_by L (numbered_leaves x.0 x.1)))

-- the size at a place
abbrev pub size_at : Sizes → Expression → Place → Size
size_at Z tree (Whole n) = part_of Z AllOf (node_with tree n)
size_at Z tree (Half n) = part_of Z Lower (node_with tree n)
size_at Z tree (Block L) = leaves_at_block Z L (block_with tree L)

-- the size at a place of the Dag in the tree: a node's own nodes are numbered from its number less theirs
abbrev pub node_part : Sizes → ℕ → PlacePart → Option Expression → Size
node_part Z n part None = no_size
node_part Z n part (Some t) = part_size Z (n + 1 - size t) t part

abbrev pub place_size : Sizes → Expression → DagPlace → Size
place_size Z tree q = node_part Z q.node q.part (slice_get (nodes tree) q.node)

-- the sizes of the shared results are those of their trees, each by those of the earlier ones
abbrev pub with_shared : Sizes → List Size → Sizes
with_shared Z shared = record { rows = Z.rows; distinct = Z.distinct; parts = Z.parts; shared = shared }

pub record AreSharedSizes (Z : Sizes) (dag : Dag) : Type 0 where
  pub each_one : length Z.shared ≡ length (shared_trees dag)
  pub sizes : (i : ℕ) → IfSome (slice_get (shared_trees dag) i) (λ t. slice_get Z.shared i ≡ Some (size_of (with_shared Z (take i Z.shared)) 0 t))
