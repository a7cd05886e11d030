-- The Dag of a script.
use Rattle.std.specs.Prelude.{ℕ, ◌+◌, ◌==◌, ◌||◌, if◌then◌else◌, List, [], ◌∷◌, ◌++◌, map, filter, flat_map, length, get_or, Option, Some, None, slice_get, option_map}
use Rattle.std.specs.Option.{option_map_or}
use Rattle.std.specs.List.{range_with_len, position_or_len}
use Rattle.col_sets.specs.declared.dir.Dir.{Dir}
use Rattle.col_sets.specs.Sets.{has}
use Rattle.logical_dag.specs.declared.dag.ScanDecl.{ScanDecl}
use Rattle.logical_dag.specs.declared.dag.Stored.{Stored}
use Rattle.logical_dag.specs.Scripts.{scans_of}
use Rattle.logical_trees.specs.Tree.{Expression}
use Rattle.placed_trees.specs.declared.command.Command.{Command}
use Rattle.placed_trees.specs.declared.command.Command.TheVariants.{Output}
use Rattle.placed_trees.specs.declared.source.Stream.{Stream}
use Rattle.placed_trees.specs.declared.statement.Statement.{Statement}
use Rattle.placed_trees.specs.Inputs.{gives}
use Rattle.script_meaning.specs.Part.{Part, nothing, number, stored_at}
use Rattle.script_meaning.specs.Bound.{parts_of}

abbrev pub or_nothing : Option Part → Part
or_nothing None = nothing
or_nothing (Some b) = b

abbrev pub part_at : List Part → ℕ → Part
part_at env k = or_nothing (slice_get env k)

-- the numbers of the OUTPUTs
abbrev pub outputs_from : ℕ → List Statement → List ℕ
outputs_from k [] = []
outputs_from k (s ∷ rest) = if gives s.command then outputs_from (k + 1) rest else k ∷ outputs_from (k + 1) rest

-- the results that the outputs reach through the trees of the parts from number n on
abbrev pub reached : List ℕ → ℕ → List Part → List ℕ
reached outs n [] = []
reached outs n (b ∷ rest) =
    let later = reached outs (n + 1) rest in
    if has outs n || has later n then later ++ b.refs else later

-- the shared trees of the Dag, by their statements, in order
abbrev pub kept_of : List ℕ → List Part → List ℕ
kept_of outs env = filter (has (reached outs 0 env)) (range_with_len 0 (length env))

-- a shared result's number in the Dag
abbrev pub place_in : List ℕ → ℕ → ℕ
place_in kept k = position_or_len (λ x. x == k) kept

-- the scans of these statements' trees, in tree order
abbrev pub scans_of_all : List Part → List ℕ → List Stream
scans_of_all env ks = flat_map (λ k. (part_at env k).scans) ks

-- their trees, the scans being numbered from s on through all of them, and the columns of each from 0
abbrev pub trees_from : (ℕ → ℕ) → List Part → ℕ → List ℕ → List Expression
trees_from name env s [] = []
trees_from name env s (k ∷ ks) = (part_at env k).tree name s 0 ∷ trees_from name env (s + length (part_at env k).scans) ks

abbrev pub stream_in : Command → List ℕ
stream_in (Output w) = w.stream
stream_in c = []

abbrev pub stream_at : List Statement → ℕ → List ℕ
stream_at script k = option_map_or (λ s. stream_in s.command) (slice_get script k) []

-- an ORDER BY in the columns of the output's tree
abbrev pub column_order : Part → Option (List (ℕ × Dir))
column_order b = option_map (map (λ k. (number b 0 k.0, k.1))) b.order

-- how an output is stored, in the columns of its tree
abbrev pub column_stored : Part → Option Stored
column_stored b = stored_at (number b 0) b.stored

-- the byte between the fields of what is written
abbrev pub delimiter_in : Command → ℕ
delimiter_in (Output w) = w.delimiter
delimiter_in c = 0

abbrev pub delimiter_at : List Statement → ℕ → ℕ
delimiter_at script k = option_map_or (λ s. delimiter_in s.command) (slice_get script k) 0

-- the scan of a stream, with its declaration in the columns of its node
abbrev pub declared : Stream → List ℕ → ScanDecl
declared d cols = record { stream = d.name; op = d.op; args = d.args; schema = d.schema; stored = stored_at (λ p. get_or cols p 128) d.stored }

-- so each of them, beside the nodes
abbrev pub declared_all : List Stream → List (ℕ × List ℕ) → List ScanDecl
declared_all [] nodes = []
declared_all (d ∷ scans) [] = declared d [] ∷ declared_all scans []
declared_all (d ∷ scans) (s ∷ nodes) = declared d s.1 ∷ declared_all scans nodes

pub record ScriptDag : Type 0 where
  pub scans : List ScanDecl
  pub shared : List Expression
  pub streams : List (List ℕ)
  pub delimiters : List ℕ
  pub orders : List (Option (List (ℕ × Dir)))
  pub stored : List (Option Stored)
  pub outputs : List Expression

-- the trees of the shared results, and those of the outputs
abbrev pub kept_trees : List Part → List ℕ → List Expression
kept_trees env kept = trees_from (place_in kept) env 0 kept

abbrev pub out_trees : List Part → List ℕ → List ℕ → List Expression
out_trees env outs kept = trees_from (place_in kept) env (length (scans_of_all env kept)) outs

abbrev pub dag_at : List Statement → List Part → List ℕ → List ℕ → ScriptDag
dag_at script env outs kept = record {
  scans = declared_all (scans_of_all env kept ++ scans_of_all env outs) (flat_map scans_of (kept_trees env kept ++ out_trees env outs kept));
  shared = kept_trees env kept;
  streams = map (stream_at script) outs;
  delimiters = map (delimiter_at script) outs;
  orders = map (λ k. column_order (part_at env k)) outs;
  stored = map (λ k. column_stored (part_at env k)) outs;
  outputs = out_trees env outs kept;
}

abbrev pub outs_of : List Statement → List ℕ
outs_of script = outputs_from 0 script

abbrev pub dag_of : List Statement → ScriptDag
dag_of script = dag_at script (parts_of script) (outs_of script) (kept_of (outs_of script) (parts_of script))
