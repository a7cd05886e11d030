-- What operators tell, and what a set of operators tells.
use Rattle.std.specs.Prelude.{ℕ, Bool, List, [], Option, Some, None, slice_get}
use Rattle.std.specs.Option.{option_and_then}
use Rattle.scope_value.specs.declared.schema.Column.{Column}
use Rattle.scope_value.specs.declared.value.Value.{Value}

-- what an extractor tells: the output schemas and args that it takes; for args, output and fields the row or a refusal;
-- its fixed columns, if it has them; for args the delimiter
pub record ToldExtractor : Type 0 where
  pub takes : List Column → List (List ℕ) → Bool
  pub extracts : List (List ℕ) → List Column → List (List ℕ) → Option (List Value)
  pub fixed_columns : Option (List Column)
  pub delimits : List (List ℕ) → ℕ

-- what a processor tells: the input and output schemas and args that it takes; for args and a row the rows that it gives
pub record ToldProcessor : Type 0 where
  pub takes : List Column → List Column → List (List ℕ) → Bool
  pub processes : List (List ℕ) → List Value → List (List Value)

-- what a reducer tells: the same, for the rows of a group
pub record ToldReducer : Type 0 where
  pub takes : List Column → List Column → List (List ℕ) → Bool
  pub reduces : List (List ℕ) → List (List Value) → List (List Value)

-- what a combiner tells: the same, for the rows of a left and a right group
pub record ToldCombiner : Type 0 where
  pub takes : List Column → List Column → List Column → List (List ℕ) → Bool
  pub combines : List (List ℕ) → List (List Value) → List (List Value) → List (List Value)

-- what a set tells: the names of each kind, and what each object tells, in the order of adding
pub record Operators : Type 0 where
  pub extractor_names : List (List ℕ)
  pub extractors : List ToldExtractor
  pub processor_names : List (List ℕ)
  pub processors : List ToldProcessor
  pub reducer_names : List (List ℕ)
  pub reducers : List ToldReducer
  pub combiner_names : List (List ℕ)
  pub combiners : List ToldCombiner

-- what the object there gives, or no rows where there is none
abbrev pub given_by : {T R : Type 0} → (T → List R) → Option T → List R
given_by gives (Some told) = gives told
given_by gives None = []

-- the row that the extractor at a place reads, or a refusal
abbrev pub extracts_at : Operators → ℕ → List (List ℕ) → List Column → List (List ℕ) → Option (List Value)
extracts_at ops place args output fields = option_and_then (λ e. e.extracts args output fields) (slice_get ops.extractors place)

-- the rows that the processor at a place gives for a row
abbrev pub processes_at : Operators → ℕ → List (List ℕ) → List Value → List (List Value)
processes_at ops place args row = given_by (λ p. p.processes args row) (slice_get ops.processors place)

-- the rows that the reducer at a place gives for the rows of a group
abbrev pub reduces_at : Operators → ℕ → List (List ℕ) → List (List Value) → List (List Value)
reduces_at ops place args rows = given_by (λ r. r.reduces args rows) (slice_get ops.reducers place)

-- the rows that the combiner at a place gives for the rows of two groups
abbrev pub combines_at : Operators → ℕ → List (List ℕ) → List (List Value) → List (List Value) → List (List Value)
combines_at ops place args left right = given_by (λ c. c.combines args left right) (slice_get ops.combiners place)
