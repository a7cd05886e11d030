-- The part of a command is its node over the parts of its sources.
use Rattle.std.proofs.Common.{◌≡◌, ℕ, List, [], ◌∷◌, map, refl, subst}
use Rattle.placed_trees.specs.declared.command.Command.TheVariants.{Extract, Select, Process, Reduce, Combine, Output}
use Rattle.placed_trees.specs.declared.query.Beside.{Beside}
use Rattle.placed_trees.specs.declared.query.Beside.TheVariants.{Inners, Outer}
use Rattle.placed_trees.specs.declared.query.Joined.{Joined}
use Rattle.placed_trees.specs.declared.statement.Statement.{Statement}
use Rattle.script_meaning.specs.Bound.{source_part, from_part, beside_part}
use Rattle.script_meaning.specs.Part.{Part, joined_part, query_part}
use Rattle.script_nodes.specs.Made.{from_parts, beside_parts}
use Rattle.source_laws.specs.Sources.{beside_sources, IsSameTree}
use Rattle.source_laws.specs.Laws.{IsOverSources}

same_tree : (p : Part) → IsSameTree p p
same_tree p = record { cols = refl; count = refl; scans = refl; refs = refl; tree = refl }

module _ (all : List ℕ) (earlier : List Statement) (env : List Part) where
  from_same : (joins : List Joined) (a : Part) → from_part all earlier env a joins ≡ from_parts a joins (map (λ j. source_part all earlier env j.source) joins)
  from_same [] a = refl
  from_same (j ∷ joins) a = from_same joins (joined_part j.on a (source_part all earlier env j.source))

  beside_same : (beside : Beside) (a : Part) → beside_part all earlier env a beside ≡ beside_parts a beside (beside_sources all earlier env beside)
  beside_same (Inners joins) a = from_same joins a
  beside_same (Outer side call j) a = refl

pub is_over : IsOverSources
is_over all earlier env (Extract d) = record { cols = refl; count = refl; scans = refl; refs = refl; tree = refl }
is_over all earlier env (Select q) =
    subst (λ (b : Part). IsSameTree (query_part q (beside_part all earlier env (source_part all earlier env q.source) q.beside)) (query_part q b))
    (beside_same all earlier env q.beside (source_part all earlier env q.source))
    (same_tree (query_part q (beside_part all earlier env (source_part all earlier env q.source) q.beside)))
is_over all earlier env (Process source call) = record { cols = refl; count = refl; scans = refl; refs = refl; tree = refl }
is_over all earlier env (Reduce source on presort call) = record { cols = refl; count = refl; scans = refl; refs = refl; tree = refl }
is_over all earlier env (Combine source before other after on call) = record { cols = refl; count = refl; scans = refl; refs = refl; tree = refl }
is_over all earlier env (Output w) = record { cols = refl; count = refl; scans = refl; refs = refl; tree = refl }
