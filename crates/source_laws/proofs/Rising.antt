-- The columns of the parts of a script ascend.
use Rattle.std.proofs.Common.{ℕ, zero, suc, Bool, true, false, List, [], ◌∷◌, ◌++◌, Option, Some, None, slice_get}
use Rattle.placed_trees.specs.declared.command.Command.{Command}
use Rattle.placed_trees.specs.declared.command.Command.TheVariants.{Extract, Select, Process, Reduce, Combine, Output}
use Rattle.placed_trees.specs.declared.query.Beside.{Beside}
use Rattle.placed_trees.specs.declared.query.Beside.TheVariants.{Inners, Outer}
use Rattle.placed_trees.specs.declared.query.Joined.{Joined}
use Rattle.placed_trees.specs.declared.source.Source.{Source}
use Rattle.placed_trees.specs.declared.source.Source.TheVariants.{FromResult, FromStream}
use Rattle.placed_trees.specs.declared.source.StoredPlaces.{StoredPlaces}
use Rattle.placed_trees.specs.declared.statement.Statement.{Statement}
use Rattle.placed_trees.specs.Inputs.{input_at}
use Rattle.script_meaning.specs.Bound.{mentions, is_shared, stands, found, placed, source_part, from_part, beside_part, bound, bound_from, parts_of}
use Rattle.script_meaning.specs.Dag.{or_nothing}
use Rattle.script_meaning.specs.Part.{Part, stored_part}
use Rattle.script_meaning.proofs.Shaped.{IsShaped, right_rises, nothing_shaped, scanned_shaped, referred_shaped, joined_shaped, combine_shaped, query_shaped, process_shaped, reduce_shaped}
use Rattle.source_laws.specs.Laws.{EachRises}

-- each of these parts
data AreShaped : List Part → Type 0 where
  none : AreShaped []
  also : {a : Part} {env : List Part} → IsShaped a → AreShaped env → AreShaped (a ∷ env)

push_shaped : (env : List Part) (b : Part) → AreShaped env → IsShaped b → AreShaped (env ++ b ∷ [])
push_shaped [] b h new = also new none
push_shaped (a ∷ env) b (also first rest) new = also first (push_shaped env b rest new)

at_shaped : (env : List Part) (k : ℕ) → AreShaped env → IsShaped (or_nothing (slice_get env k))
at_shaped [] k h = nothing_shaped
at_shaped (a ∷ env) zero (also first rest) = first
at_shaped (a ∷ env) (suc k) (also first rest) = at_shaped env k rest

module _ (all : List ℕ) where
  placed_shaped : (env : List Part) → AreShaped env → (i : Option ℕ) → IsShaped (placed all env i)
  placed_shaped env h None = nothing_shaped
  placed_shaped env h (Some k) = go (slice_get env k) (at_shaped env k h)
    where
      at : (s : Bool) (b : Part) → IsShaped b → IsShaped (stands s k b)
      at true b g = referred_shaped k b
      at false b g = g

      go : (o : Option Part) → IsShaped (or_nothing o) → IsShaped (found all k o)
      go None g = nothing_shaped
      go (Some b) g = at (is_shared all k) b g

  module _ (earlier : List Statement) (env : List Part) (h : AreShaped env) where
    source_shaped : (source : Source) → IsShaped (source_part all earlier env source)
    source_shaped (FromResult i) = placed_shaped env h (input_at earlier i)
    source_shaped (FromStream d) = scanned_shaped d

    from_shaped : (joins : List Joined) (a : Part) → IsShaped a → IsShaped (from_part all earlier env a joins)
    from_shaped [] a t = t
    from_shaped (j ∷ joins) a t = from_shaped joins _ (joined_shaped j.on a _ t (source_shaped j.source))

    beside_all_shaped : (beside : Beside) (a : Part) → IsShaped a → IsShaped (beside_part all earlier env a beside)
    beside_all_shaped (Inners joins) a t = from_shaped joins a t
    beside_all_shaped (Outer side call j) a t = combine_shaped j.on None None call a _ t (source_shaped j.source)

    stored_shaped : (stored : Option StoredPlaces) (a : Part) → IsShaped a → IsShaped (stored_part stored a)
    stored_shaped stored a t = record { rising = t.rising; columns = t.columns }

    bound_shaped : (c : Command) → IsShaped (bound all earlier env c)
    bound_shaped (Extract d) = scanned_shaped d
    bound_shaped (Select q) = query_shaped q _ (beside_all_shaped q.beside _ (source_shaped q.source))
    bound_shaped (Process source call) = process_shaped call _ (source_shaped source)
    bound_shaped (Reduce source on presort call) = reduce_shaped on presort call _ (source_shaped source)
    bound_shaped (Combine source before other after on call) = combine_shaped on before after call _ _ (source_shaped source) (source_shaped other)
    bound_shaped (Output w) = stored_shaped w.stored _ (placed_shaped env h (input_at earlier w.source))

  all_shaped : (earlier : List Statement) (env : List Part) → AreShaped env → (rest : List Statement) → AreShaped (bound_from all earlier env rest)
  all_shaped earlier env h [] = h
  all_shaped earlier env h (s ∷ rest) = all_shaped (earlier ++ s ∷ []) _ (push_shaped env _ h (bound_shaped earlier env h s.command)) rest

pub each_rises : EachRises
each_rises = record {
  parts = λ script k. right_rises _ (at_shaped (parts_of script) k (all_shaped (mentions [] script) [] [] none script));
  scans = λ d. right_rises _ (scanned_shaped d);
  refs = λ k b. right_rises _ (referred_shaped k b);
}
