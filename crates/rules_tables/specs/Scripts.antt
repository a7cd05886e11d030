-- The script and the forms of a tree.
use Rattle.std.specs.Prelude.{◌+◌, ◌&&◌, ℕ, false, if◌then◌else◌, List, [], ◌∷◌, ◌++◌, flat_map, slice_get}
use Rattle.col_sets.specs.Sets.{has}
use Rattle.logical_trees.specs.declared.logic_op.LogicOp.TheVariants.{Join}
use Rattle.logical_trees.specs.Tree.{Expression, leaf, one, two, nodes, columns_of}
use Rattle.logical_trees.specs.Blocks.{block_pairs}
use Rattle.rules_shapes.specs.Shapes.{size, top_number, numbered_leaves, is_split}
use Rattle.rules_optimal.specs.Places.{tops}
use Rattle.rules_tables.specs.Tables.{op_of}
use Rattle.rules_space.specs.declared.kind.Form.{Form}
use Rattle.rules_space.specs.declared.kind.Form.TheVariants.{Leaf as at_leaf, One as at_one, Two as at_two}
use Rattle.rules_space.specs.declared.kind.Kind.TheVariants as kind
use Rattle.rules_space.specs.Place.{Script}

-- the two leaves that a pair of columns ties, by their numbers
abbrev pub link_of : ℕ × ℕ → ℕ × Expression → ℕ × Expression → List (ℕ × ℕ)
link_of p v w = if has (columns_of v.1) p.0 && has (columns_of w.1) p.1 then (top_number v.0 v.1, top_number w.0 w.1) ∷ [] else []

abbrev pub links_by : List (ℕ × Expression) → ℕ × ℕ → List (ℕ × ℕ)
links_by leaves p = flat_map (λ v. flat_map (link_of p v) leaves) leaves

-- the ties of a block
abbrev pub block_links : ℕ × Expression → List (ℕ × ℕ)
block_links x = flat_map (links_by (numbered_leaves x.0 x.1)) (block_pairs x.1)

-- the script of a tree
abbrev pub script_of : Expression → Script
script_of tree = record { is_group = λ n. is_split (op_of (slice_get (nodes tree) n)); links = flat_map block_links (tops false 0 tree) }

-- the nodes of a tree as forms, in post-order, numbered from base on
abbrev pub forms_from : ℕ → Expression → List Form
forms_from base (leaf op) = at_leaf (kind.Node base) ∷ []
forms_from base (one op t) = forms_from base t ++ at_one (kind.Node (base + size t)) (top_number base t) ∷ []
forms_from base (two (Join on) t u) = forms_from base t ++ (forms_from (base + size t) u ++ at_two kind.Join (top_number base t) (top_number (base + size t) u) ∷ [])
forms_from base (two op t u) = forms_from base t ++ (forms_from (base + size t) u ++ at_two (kind.Node (base + (size t + size u))) (top_number base t) (top_number (base + size t) u) ∷ [])

abbrev pub forms_of : Expression → List Form
forms_of tree = forms_from 0 tree
