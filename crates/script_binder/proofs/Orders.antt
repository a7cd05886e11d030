-- What an OUTPUT writes by is what its part says.
use Rattle.std.proofs.Common.{◌≡◌, ℕ, zero, suc, ◌+◌, ◌<◌, ◌≤◌, Bool, true, false, List, [], ◌∷◌, ◌++◌, map, length, take, get_or, refl, sym, ap, ap₂, ◌∙◌, arith, subst, zero-add, length-take, Option, Some, None, slice_get}
use Rattle.std.specs.Prelude.{option_map, IsSomeAnd, All}
use Rattle.std.specs.Option.{option_map_or}
use Rattle.std.proofs.lemmas.List.{length-map}
use Rattle.std.proofs.lemmas.Option.{slice_get_within}
use Rattle.col_sets.specs.declared.dir.Dir.{Dir}
use Rattle.logical_dag.specs.declared.dag.Stored.{Stored}
use Rattle.placed_trees.specs.declared.command.Command.{Command}
use Rattle.placed_trees.specs.declared.command.Command.TheVariants.{Extract, Select, Process, Reduce, Combine, Output}
use Rattle.placed_trees.specs.declared.command.Written.{Written}
use Rattle.placed_trees.specs.declared.source.StoredPlaces.{StoredPlaces}
use Rattle.placed_trees.specs.declared.statement.Statement.{Statement}
use Rattle.placed_trees.specs.Inputs.{gives, input_at}
use Rattle.script_meaning.specs.Meaning.{unless_stored}
use Rattle.script_meaning.specs.Part.{Part, nothing, number, cols_at, stored_at, order_at, stored_part}
use Rattle.script_meaning.specs.Bound.{mentions, is_shared, stands, found, placed, bound, parts_of}
use Rattle.script_meaning.specs.Dag.{part_at, column_order, column_stored, stream_in, stream_at, delimiter_in, delimiter_at}
use Rattle.script_meaning.specs.Placed.{IsPresortBelow, IsStoredBelow, IsCommandPlaced, IsPlaced}
use Rattle.script_meaning.specs.Within.{IsOrderFew, IsStoredFew, IsCommandWithin, AreWithin, IsWithin}
use Rattle.script_meaning.proofs.Bounded.{Gives, input_gives}
use Rattle.source_laws.specs.Laws.{StandsAt, EachStands, EachIsRight}
use Rattle.result_trees.specs.Results.{IsStanding}
use Rattle.script_binder.specs.Steps.{order_in_command, order_of_result, order_written, HasOutput}
use Rattle.script_binder.proofs.Built.{many_parts, get_part, built}

get_take : {X : Type 0} (xs : List X) (i p : ℕ) → p < i → slice_get (take i xs) p ≡ slice_get xs p
get_take xs zero p l = absurd (omega arith)
get_take [] (suc i) p l = refl
get_take (x ∷ xs) (suc i) zero l = refl
get_take (x ∷ xs) (suc i) (suc p) l = get_take xs i p (omega arith)

within_take : (script : List Statement) (k : ℕ) → AreWithin script → AreWithin (take k script)
within_take script zero w = tt
within_take [] (suc k) w = tt
within_take (s ∷ script) (suc k) w = (w.0, within_take script k w.1)

-- ---- the statement of an OUTPUT

pub record IsOf (script : List Statement) (k : ℕ) (c : Command) : Type 0 where
  pub statement : Statement
  pub there : slice_get script k ≡ Some statement
  pub command : statement.command ≡ c

pub statement_of : (script : List Statement) (k : ℕ) (c : Command) → option_map (λ (s : Statement). s.command) (slice_get script k) ≡ Some c → IsOf script k c
statement_of script k c h = go (slice_get script k) refl h
  where
    go : (o : Option Statement) → slice_get script k ≡ o → option_map (λ (s : Statement). s.command) o ≡ Some c → IsOf script k c
    go None e f = absurd (cc)
    go (Some s) e f = record { statement = s; there = e; command = cc }

-- ---- orders by place

order_bound : (all : List ℕ) (earlier : List Statement) (env : List Part) (c : Command) → gives c ≡ true → (bound all earlier env c).order ≡ order_in_command c
order_bound all earlier env (Extract d) g = refl
order_bound all earlier env (Select q) g = refl
order_bound all earlier env (Process source call) g = refl
order_bound all earlier env (Reduce source on presort call) g = refl
order_bound all earlier env (Combine source before other after on call) g = refl
order_bound all earlier env (Output w) g = absurd (cc)

order_stands : (b : Bool) (k : ℕ) (p : Part) → (stands b k p).order ≡ p.order
order_stands true k p = refl
order_stands false k p = refl

gives_there : (script : List Statement) → IsWithin script → (k j : ℕ) (i : Option (List ℕ)) (s : Statement) → input_at (take k script) i ≡ Some j → j < k → slice_get script j ≡ Some s
    → gives s.command ≡ true
unfolding Gives
gives_there script within k j i s at before there =
    subst (λ (o : Option Statement). IsSomeAnd o (λ (x : Statement). gives x.command ≡ true)) (get_take script k j before ∙ there)
    (input_gives (take k script) (within_take script k within.each) i j at)

order_found : EachStands → (script : List Statement) → IsWithin script → (k : ℕ) (i : Option (List ℕ)) → IsSomeAnd (input_at (take k script) i) (λ j. j < length (take k (parts_of script)))
    → (placed (mentions [] script) (take k (parts_of script)) (input_at (take k script) i)).order ≡ order_of_result script (input_at (take k script) i)
order_found stands_at script within k i h = go (input_at (take k script) i) refl h
  where
    all : List ℕ
    all = mentions [] script

    go : (o : Option ℕ) → input_at (take k script) i ≡ o → IsSomeAnd o (λ j. j < length (take k (parts_of script))) → (placed all (take k (parts_of script)) o).order ≡ order_of_result script o
    go None e l = absurd l
    go (Some j) e l = at (slice_get script j) refl
      where
        within_parts : j < length (parts_of script)
        within_parts = omega (arith, length-take k (parts_of script))

        before : j < k
        before = omega (arith, length-take k (parts_of script))

        here : (placed all (take k (parts_of script)) (Some j)).order ≡ (part_at (parts_of script) j).order
        here =
            ap (λ (o : Option Part). (found all j o).order) (get_take (parts_of script) k j before ∙ get_part (parts_of script) j within_parts)
            ∙ order_stands (is_shared all j) j (part_at (parts_of script) j)

        at : (o : Option Statement) → slice_get script j ≡ o → (placed all (take k (parts_of script)) (Some j)).order ≡ option_map_or (λ s. order_in_command s.command) o None
        at None f = absurd (none script j f (omega (arith, many_parts script, within_parts)))
          where
            none : (xs : List Statement) (p : ℕ) → slice_get xs p ≡ None → p < length xs → ⊥
            none [] p g m = omega arith
            none (x ∷ xs) zero g m = absurd (cc)
            none (x ∷ xs) (suc p) g m = none xs p g (omega arith)
        at (Some s) f =
            here ∙ ap (λ (p : Part). p.order) (stands_at script j s f).part
            ∙ order_bound all (take j script) (take j (parts_of script)) s.command (gives_there script within k j i s e before f)

-- ---- the part of an OUTPUT

pub record IsWrittenBy (script : List Statement) (k : ℕ) (w : Written) : Type 0 where
  pub order : (part_at (parts_of script) k).order ≡ order_written script k w
  pub stored : (part_at (parts_of script) k).stored ≡ w.stored
  pub few_orders : IsOrderFew (order_written script k w)
  pub few_stored : IsStoredFew w.stored

few_of_result : EachIsRight → (script : List Statement) → IsPlaced script → IsWithin script → (o : Option ℕ) → IsOrderFew (order_of_result script o)
few_of_result right script is_placed within None = tt
few_of_result right script is_placed within (Some j) = go (slice_get script j) refl
  where
    of_command : (name : Option (List ℕ)) (c : Command) → IsCommandWithin name c → IsOrderFew (order_in_command c)
    of_command name (Extract d) h = tt
    of_command name (Select q) h = h.3
    of_command name (Process source call) h = tt
    of_command name (Reduce source on presort call) h = tt
    of_command name (Combine source before other after on call) h = tt
    of_command name (Output w) h = tt

    go : (o : Option Statement) → slice_get script j ≡ o → IsOrderFew (option_map_or (λ s. order_in_command s.command) o None)
    go None e = tt
    go (Some s) e = of_command s.name s.command (right script is_placed within j s e).within

pub written_by : EachStands → EachIsRight → (script : List Statement) → IsStanding script → (k : ℕ) (w : Written)
    → option_map (λ (s : Statement). s.command) (slice_get script k) ≡ Some (Output w) → IsWrittenBy script k w
written_by stands_at right script standing k w h = record {
  order = ap (λ (p : Part). p.order) part ∙ ap (unless_stored w.stored) (order_found stands_at script standing.within k w.source is_there);
  stored = ap (λ (p : Part). p.stored) part;
  few_orders = few w.stored;
  few_stored = within.1;
}
  where
    it : IsOf script k (Output w)
    it = statement_of script k (Output w) h

    part : part_at (parts_of script) k ≡ stored_part w.stored (placed (mentions [] script) (take k (parts_of script)) (input_at (take k script) w.source))
    part = (stands_at script k it.statement it.there).part ∙ ap (bound (mentions [] script) (take k script) (take k (parts_of script))) it.command

    is_right : IsCommandPlaced (mentions [] script) (take k script) (take k (parts_of script)) (Output w)
    is_right = subst (IsCommandPlaced (mentions [] script) (take k script) (take k (parts_of script))) it.command (right script standing.placed standing.within k it.statement it.there).placed

    is_there : IsSomeAnd (input_at (take k script) w.source) (λ j. j < length (take k (parts_of script)))
    is_there = is_right.0

    within : IsCommandWithin it.statement.name (Output w)
    within = subst (IsCommandWithin it.statement.name) it.command (right script standing.placed standing.within k it.statement it.there).within

    few : (stored : Option StoredPlaces) → IsOrderFew (unless_stored stored (order_of_result script (input_at (take k script) w.source)))
    few None = few_of_result right script standing.placed standing.within (input_at (take k script) w.source)
    few (Some s) = tt

-- ---- in columns

from_zero : (cols : List ℕ) → map (λ p. 0 + p) cols ≡ cols
from_zero [] = refl
from_zero (c ∷ cols) = ap₂ (λ (x : ℕ) (xs : List ℕ). x ∷ xs) (zero-add c) (from_zero cols)

-- the columns of a part that stands at 0
pub numbers_at : (a : Part) (cols : List ℕ) → cols ≡ cols_at a 0 → (p : ℕ) → get_or cols p 128 ≡ number a 0 p
numbers_at a cols e p = ap (λ (s : List ℕ). get_or s p 128) (e ∙ from_zero a.cols) ∙ sym (zero-add (get_or a.cols p 128))

pub ordered_at : (a : Part) (cols : List ℕ) (order : Option (List (ℕ × Dir))) → cols ≡ cols_at a 0 → a.order ≡ order → order_at (λ p. get_or cols p 128) order ≡ column_order a
ordered_at a cols order e o =
    ap (order_at (λ p. get_or cols p 128)) (sym o) ∙ ap (λ (f : ℕ → ℕ). option_map (map {B = ℕ × Dir} (λ k. (f k.0, k.1))) a.order) (λ i p. numbers_at a cols e p i)

pub stored_in_columns : (a : Part) (cols : List ℕ) (stored : Option StoredPlaces) → cols ≡ cols_at a 0 → a.stored ≡ stored → stored_at (λ p. get_or cols p 128) stored ≡ column_stored a
stored_in_columns a cols stored e s = ap (stored_at (λ p. get_or cols p 128)) (sym s) ∙ ap (λ (f : ℕ → ℕ). stored_at f a.stored) (λ i p. numbers_at a cols e p i)

-- ---- places are there

pub width_same : (a : Part) (cols : List ℕ) → cols ≡ cols_at a 0 → length a.cols ≡ length cols
width_same a cols e = sym (ap length e ∙ length-map a.cols (λ p. 0 + p))

pub orders_there : (script : List Statement) → IsPlaced script → (k : ℕ) (cols : List ℕ) (order : Option (List (ℕ × Dir))) → k < length script → cols ≡ cols_at (part_at (parts_of script) k) 0
    → (part_at (parts_of script) k).order ≡ order → IsPresortBelow (length cols) order
orders_there script is_placed k cols order l e o =
    subst (IsPresortBelow (length cols)) o (subst (λ (n : ℕ). IsPresortBelow n (part_at (parts_of script) k).order) (width_same (part_at (parts_of script) k) cols e) (built script is_placed k l).order)

pub stored_there : (script : List Statement) → IsPlaced script → (k : ℕ) (cols : List ℕ) (stored : Option StoredPlaces) → k < length script → cols ≡ cols_at (part_at (parts_of script) k) 0
    → (part_at (parts_of script) k).stored ≡ stored → IsStoredBelow (length cols) stored
stored_there script is_placed k cols stored l e s =
    subst (IsStoredBelow (length cols)) s (subst (λ (n : ℕ). IsStoredBelow n (part_at (parts_of script) k).stored) (width_same (part_at (parts_of script) k) cols e) (built script is_placed k l).stored.0)

-- ---- what is written

pub stream_there : (script : List Statement) (k : ℕ) (w : Written) → option_map (λ (s : Statement). s.command) (slice_get script k) ≡ Some (Output w) → w.stream ≡ stream_at script k
stream_there script k w h = let it = statement_of script k (Output w) h in
    sym (ap (λ (o : Option Statement). option_map_or (λ s. stream_in s.command) o []) it.there ∙ ap stream_in it.command)

pub delimiter_there : (script : List Statement) (k : ℕ) (w : Written) → option_map (λ (s : Statement). s.command) (slice_get script k) ≡ Some (Output w) → w.delimiter ≡ delimiter_at script k
delimiter_there script k w h = let it = statement_of script k (Output w) h in
    sym (ap (λ (o : Option Statement). option_map_or (λ s. delimiter_in s.command) o 0) it.there ∙ ap delimiter_in it.command)
