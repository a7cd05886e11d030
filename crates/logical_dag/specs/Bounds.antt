-- How large a script's expressions may be.
use Rattle.std.specs.Prelude.{◌≡◌, ◌≤◌, ◌+◌, ◌&&◌, ℕ, nat_lt, Bool, true, List, ◌++◌, length, sum_by}
use Rattle.std.specs.List.{list_all}
use Rattle.logical_trees.specs.declared.logic_op.LogicOp.{LogicOp}
use Rattle.logical_trees.specs.declared.logic_op.LogicOp.TheVariants.{Filter, Join}
use Rattle.logical_trees.specs.Tree.{Expression, leaf, one, two, nodes}

-- a Filter counts for nothing, any other node for one
abbrev pub weight : LogicOp → ℕ
weight (Filter e) = 0
weight op = 1

-- how many nodes other than Filters there are
abbrev pub node_count : Expression → ℕ
node_count (leaf op) = weight op
node_count (one op t) = weight op + node_count t
node_count (two op t u) = weight op + (node_count t + node_count u)

-- how many Filters stand one directly over the other, from the top
abbrev pub filter_depth : Expression → ℕ
filter_depth (one (Filter e) t) = 1 + filter_depth t
filter_depth t = 0

-- how many leaves the join block at the top has, Filters between its Joins being passed over
abbrev pub block_width : Expression → ℕ
block_width (two (Join on) t u) = block_width t + block_width u
block_width (one (Filter e) t) = block_width t
block_width t = 1

-- no three Filters stand directly over one another, and no join block has more than five leaves
abbrev pub is_narrow : Expression → Bool
is_narrow t = list_all (λ u. nat_lt (filter_depth u) 3 && nat_lt (block_width u) 6) (nodes t)

-- the bounds that every script within the limits of the language keeps
pub record AreBounded (scans : ℕ) (shared outputs : List Expression) : Type 0 where
  pub few_scans : scans ≤ 320
  pub few_shared : length shared ≤ 4
  pub few_outputs : length outputs ≤ 64
  pub few_nodes : sum_by node_count (shared ++ outputs) ≤ 2048
  pub narrow : list_all is_narrow (shared ++ outputs) ≡ true
