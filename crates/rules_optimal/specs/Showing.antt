-- An example: a table for a join of two streams.
use Rattle.std.specs.Prelude.{ℕ, zero, suc, if◌then◌else◌, List, [], ◌∷◌}
use Rattle.fd_closure.specs.declared.facts.Facts.{Facts}
use Rattle.logical_trees.specs.declared.logic_op.LogicOp.{LogicOp}
use Rattle.logical_trees.specs.declared.logic_op.LogicOp.TheVariants.{Scan}
use Rattle.logical_trees.specs.Tree.{Expression, leaf}
use Rattle.logical_dag.specs.Facts.{AreFactsOf}
use Rattle.logical_trees.specs.Blocks.{IsJoinOf}
use Rattle.logical_trees.specs.Worked.{two_joined}
use Rattle.rules_optimal.specs.Tables.{PlaceTable}
use Rattle.rules_optimal.specs.Places.{IsTableOf}
use Rattle.rules_space.specs.declared.kind.Kind.{Kind}
use Rattle.rules_space.specs.declared.kind.Kind.TheVariants as kind
use Rattle.rules_space.specs.Place.{Place, Whole, Half, Block}

-- the two streams
abbrev pub first_stream : Expression
first_stream = leaf (Scan 0 (0 ∷ []))

abbrev pub second_stream : Expression
second_stream = leaf (Scan 1 (1 ∷ 2 ∷ []))

abbrev pub their_pairs : List (ℕ × ℕ)
their_pairs = (0, 1) ∷ []

-- facts of each stream and of their joins, by place
abbrev pub facts_by : Facts → Facts → Facts → Place → Facts
facts_by f g h (Whole zero) = f
facts_by f g h (Whole (suc n)) = g
facts_by f g h (Half n) = f
facts_by f g h (Block L) = if L 0 then if L 1 then h else f else g

abbrev pub op_by : Kind → LogicOp
op_by (kind.Node zero) = Scan 0 (0 ∷ [])
op_by (kind.Node (suc n)) = Scan 1 (1 ∷ 2 ∷ [])
op_by k = Scan 0 []

-- nothing costs anything
abbrev pub table_by : Facts → Facts → Facts → PlaceTable
table_by f g h = record {
  env = record { parts = 1; streams = []; schemes = []; lent = [] };
  facts = facts_by f g h;
  pairs = λ p. their_pairs;
  op = op_by;
  cost_leaf = λ k q. 0;
  cost_one = λ k q p d. 0;
  cost_two = λ k q p r d e. 0;
  cost_enforcer = λ k p d. 0;
}

-- it has the facts at the places of their join
abbrev pub IsTwoJoinedTable : Type 0
IsTwoJoinedTable = (f g h : Facts) → AreFactsOf [] first_stream f → AreFactsOf [] second_stream g → ((t : Expression) → IsJoinOf their_pairs (first_stream ∷ second_stream ∷ []) t → AreFactsOf [] t h)
    → IsTableOf (table_by f g h) two_joined
