-- An example: a join of two streams, and its script.
use Rattle.std.specs.Prelude.{false, [], ◌∷◌}
use Rattle.logical_trees.specs.Worked.{two_joined}
use Rattle.rules_shapes.specs.Shapes.{IsScriptOf, IsJustScriptOf}
use Rattle.rules_space.specs.Place.{Script}

-- nodes 0 and 1 are tied by the equality of their columns 0 and 1
abbrev pub tied_script : Script
tied_script = record { is_group = λ n. false; links = (0, 1) ∷ [] }

-- the script has just the ties of the join
abbrev pub IsTwoJoinedScript : Type 0
IsTwoJoinedScript = IsScriptOf tied_script 0 two_joined × IsJustScriptOf tied_script 0 two_joined
