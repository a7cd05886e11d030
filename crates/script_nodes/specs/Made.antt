-- What stands for a part, and for the parts of a command's sources.
use Rattle.std.specs.Prelude.{◌≡◌, ℕ, ◌+◌, List, [], ◌∷◌, length, None}
use Rattle.logical_trees.specs.Tree.{tree_of}
use Rattle.placed_trees.specs.declared.command.Command.{Command}
use Rattle.placed_trees.specs.declared.command.Command.TheVariants.{Extract, Select, Process, Reduce, Combine, Output}
use Rattle.placed_trees.specs.declared.query.Beside.{Beside}
use Rattle.placed_trees.specs.declared.query.Beside.TheVariants.{Inners, Outer}
use Rattle.placed_trees.specs.declared.query.Joined.{Joined}
use Rattle.script_meaning.specs.Part.{Part, nothing, cols_at, joined_part, process_part, reduce_part, combine_part, query_part}
use Rattle.script_nodes.specs.declared.made.Made.{Made}

-- the tree of the part where shared results have these names, its scans are numbered from s and its columns from c; the columns of
-- its rows by place; and the number behind the last column that it numbers
pub record IsMade (name : ℕ → ℕ) (s c : ℕ) (p : Part) (m : Made) : Type 0 where
  pub tree : tree_of m.tree ≡ p.tree name s c
  pub cols : m.cols.items ≡ cols_at p c
  pub next : m.next ≡ c + p.count

-- so are several, one behind the other
abbrev pub AreMade : (ℕ → ℕ) → ℕ → ℕ → List Part → List Made → Type 0
AreMade name s c [] [] = Unit {0}
AreMade name s c (p ∷ parts) (m ∷ mades) = IsMade name s c p m × AreMade name (s + length p.scans) (c + p.count) parts mades
AreMade name s c parts mades = ⊥

-- ---- the part of a command over the parts of its sources, from the left

abbrev pub from_parts : Part → List Joined → List Part → Part
from_parts a (j ∷ joins) (b ∷ parts) = from_parts (joined_part j.on a b) joins parts
from_parts a joins parts = a

abbrev pub beside_parts : Part → Beside → List Part → Part
beside_parts a (Inners joins) parts = from_parts a joins parts
beside_parts a (Outer side call j) (b ∷ parts) = combine_part j.on None None call a b
beside_parts a (Outer side call j) [] = a

abbrev pub over_part : Command → Part → List Part → Part
over_part (Extract d) a parts = a
over_part (Select q) a parts = query_part q (beside_parts a q.beside parts)
over_part (Process source call) a parts = process_part call a
over_part (Reduce source on presort call) a parts = reduce_part on presort call a
over_part (Combine source before other after on call) a (b ∷ parts) = combine_part on before after call a b
over_part (Combine source before other after on call) a [] = a
over_part (Output w) a parts = a

-- an EXTRACT has its stream as its one source, and an OUTPUT its result
abbrev pub over_parts : Command → List Part → Part
over_parts c [] = nothing
over_parts c (a ∷ parts) = over_part c a parts
