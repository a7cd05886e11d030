-- What the sources of a statement stand for, and what is asked of them.
use Rattle.std.proofs.Common.{◌≡◌, ℕ, zero, suc, ◌+◌, ◌<◌, ◌≤◌, Bool, true, false, List, [], ◌∷◌, ◌++◌, map, flat_map, take, length, get_or, refl, sym, ap, ap₂, ◌∙◌, subst, arith, Option, Some, None, slice_get}
use Rattle.std.specs.Prelude.{All, IsSomeAnd, sum_by}
use Rattle.std.proofs.lemmas.List.{length-map}
use Rattle.std.proofs.lemmas.List.FromFn.{length-range_with_len}
use Rattle.column_ranks.specs.Rising.{IsRising}
use Rattle.logical_dag.specs.Scripts.{scans_of}
use Rattle.placed_trees.specs.declared.command.Command.{Command}
use Rattle.placed_trees.specs.declared.command.Command.TheVariants.{Extract, Select, Process, Reduce, Combine, Output}
use Rattle.placed_trees.specs.declared.query.Beside.{Beside}
use Rattle.placed_trees.specs.declared.query.Beside.TheVariants.{Inners, Outer}
use Rattle.placed_trees.specs.declared.query.Joined.{Joined}
use Rattle.placed_trees.specs.declared.source.Source.{Source}
use Rattle.placed_trees.specs.declared.source.Source.TheVariants.{FromResult, FromStream}
use Rattle.placed_trees.specs.declared.source.Stream.{Stream}
use Rattle.placed_trees.specs.declared.statement.Statement.{Statement}
use Rattle.result_sharing.specs.declared.origin.Origin.{Origin}
use Rattle.result_sharing.specs.Origins.{SourceOf, stream, result, source_of, beside_of, sources_of, part_of, source_now}
use Rattle.script_meaning.specs.Bound.{mentions, is_shared, stands, found, placed, source_part, bound, parts_of}
use Rattle.script_meaning.specs.Dag.{or_nothing, part_at}
use Rattle.script_meaning.specs.Part.{Part, nothing, scanned, referred}
use Rattle.script_meaning.specs.Placed.{IsSourceThere, AreJoinsPlaced, IsBesidePlaced, IsCommandPlaced, IsPlaced}
use Rattle.script_meaning.specs.Within.{IsSourceFew, AreJoinsFew, IsBesideFew, IsCommandWithin}
use Rattle.script_meaning.proofs.Named.{all_none, all_more}
use Rattle.script_meaning.proofs.Whole.{not_none, keeps_length, all_built}
use Rattle.source_laws.specs.Laws.{Rises}
use Rattle.source_laws.specs.Sources.{beside_sources, source_parts}
use Rattle.source_laws.proofs.Rising.{each_rises}
use Rattle.result_trees.specs.Steps.{IsThere, part_in}
use Rattle.result_trees.proofs.Behind.{IsEven}

-- ---- a part that a source stands for

-- what holds of streams, of references and of the parts of statements
each_source : (P : Part → Type 0) → P nothing → ((d : Stream) → P (scanned d)) → ((k : ℕ) (b : Part) → P (referred k b)) → (script : List Statement)
    → ((k : ℕ) → P (part_at (parts_of script) k)) → (s : SourceOf) → P (part_in script s)
each_source P none scans refs script parts (stream d) = scans d
each_source P none scans refs script parts (result None) = none
each_source P none scans refs script parts (result (Some k)) = go (slice_get (parts_of script) k) (parts k)
  where
    at : (t : Bool) (b : Part) → P b → P (stands t k b)
    at true b h = refs k b
    at false b h = h

    go : (o : Option Part) → P (or_nothing o) → P (found (mentions [] script) k o)
    go None h = none
    go (Some b) h = at (is_shared (mentions [] script) k) b h

pub rising_source : (script : List Statement) (s : SourceOf) → Rises (part_in script s)
rising_source script = each_source Rises (λ c. omega arith) each_rises.scans each_rises.refs script (each_rises.parts script)

even_part : (script : List Statement) → IsPlaced script → (k : ℕ) → IsEven (part_at (parts_of script) k)
even_part script is_placed k = go (slice_get (parts_of script) k) refl
  where
    go : (o : Option Part) → slice_get (parts_of script) k ≡ o → IsEven (or_nothing o)
    go None e name s c = refl
    go (Some b) e name s c =
        let built = all_built (λ j. length (part_at (parts_of script) j).cols) (mentions [] script) [] [] script is_placed (λ j b e. absurd (cc)) (λ j b e. ap (λ o. length (or_nothing o).cols) e) k b e in
        sym (length-map (scans_of (b.tree name s c)) (λ (x : ℕ × List ℕ). x.0)) ∙ ap length (built.scans name s c) ∙ length-range_with_len s (length b.scans)

pub even_source : (script : List Statement) → IsPlaced script → (s : SourceOf) → IsEven (part_in script s)
even_source script is_placed = each_source IsEven (λ name s c. refl) (λ d name s c. refl) (λ k b name s c. refl) script (even_part script is_placed)

-- ---- a result that is read

pub parts_length : (script : List Statement) → length (parts_of script) ≡ length script
parts_length script = let h : length (parts_of script) ≡ 0 + length script = keeps_length (mentions [] script) [] [] script in omega (arith, h)

read_as : (script : List Statement) (k : ℕ) → k < length script → (t : Bool) → is_shared (mentions [] script) k ≡ t
    → part_in script (result (Some k)) ≡ stands t k (part_at (parts_of script) k)
read_as script k l t shared = go (slice_get (parts_of script) k) refl
  where
    go : (o : Option Part) → slice_get (parts_of script) k ≡ o → found (mentions [] script) k o ≡ stands t k (or_nothing o)
    go None e = let n = parts_length script in absurd (not_none (parts_of script) k (omega (arith, n)) e)
    go (Some b) e = ap (λ u. stands u k b) shared

pub read_shared : (script : List Statement) (k : ℕ) → k < length script → is_shared (mentions [] script) k ≡ true → part_in script (result (Some k)) ≡ referred k (part_at (parts_of script) k)
read_shared script k l h = read_as script k l true h

pub read_once : (script : List Statement) (k : ℕ) → k < length script → is_shared (mentions [] script) k ≡ false → part_in script (result (Some k)) ≡ part_at (parts_of script) k
read_once script k l h = read_as script k l false h

pub width_of : (env : List Part) (k : ℕ) → k < length env → get_or (map (λ (p : Part). length p.cols) env) k 0 ≡ length (part_at env k).cols
width_of [] k l = absurd (omega arith)
width_of (b ∷ env) zero l = refl
width_of (b ∷ env) (suc k) l = width_of env k (omega arith)

-- ---- what a command takes is there

abbrev pub AreThere : ℕ → List SourceOf → Type 0
AreThere at [] = Unit {0}
AreThere at (s ∷ rest) = IsThere at s × AreThere at rest

pub all_there : (at : ℕ) (origins : List Origin) → AreThere at (map source_now origins) → All (λ o. IsThere at (source_now o)) origins
all_there at [] h = all_none (λ o. IsThere at (source_now o))
all_there at (o ∷ origins) h = all_more (λ o. IsThere at (source_now o)) o origins h.0 (all_there at origins h.1)

module _ (all : List ℕ) (earlier : List Statement) (env : List Part) where
  there_source : (source : Source) → IsSourceThere earlier env source → IsSourceFew source → IsThere (length env) (source_of earlier source)
  there_source (FromResult i) h few = h
  there_source (FromStream d) h few = (few, h)

  there_joins : (joins : List Joined) (a : Part) → AreJoinsPlaced all earlier env a joins → AreJoinsFew joins → AreThere (length env) (map (λ j. source_of earlier j.source) joins)
  there_joins [] a h few = tt
  there_joins (j ∷ joins) a h few = (there_source j.source h.0 few.0.0, there_joins joins _ h.2 few.1)

  there_beside : (beside : Beside) (a : Part) → IsBesidePlaced all earlier env a beside → IsBesideFew beside → AreThere (length env) (beside_of earlier beside)
  there_beside (Inners joins) a h few = there_joins joins a h few.1
  there_beside (Outer side call j) a h few = (there_source j.source h.0 few.0, tt)

  pub there_sources : (name : Option (List ℕ)) (c : Command) → IsCommandPlaced all earlier env c → IsCommandWithin name c → AreThere (length env) (sources_of earlier c)
  there_sources name (Extract d) h few = ((few, h), tt)
  there_sources name (Select q) h few = (there_source q.source h.0 few.0, there_beside q.beside _ h.1 few.1)
  there_sources name (Process source call) h few = (there_source source h few, tt)
  there_sources name (Reduce source on presort call) h few = (there_source source h.0 few.0, tt)
  there_sources name (Combine source before other after on call) h few = (there_source source h.0 few.0, (there_source other h.1 few.2, tt))
  there_sources name (Output w) h few = (h.0, tt)

-- ---- those before a statement are the same for it as those of the script

get_take : {X : Type 0} (xs : List X) (i p : ℕ) → p < i → slice_get (take i xs) p ≡ slice_get xs p
get_take xs zero p l = absurd (omega arith)
get_take [] (suc i) p l = refl
get_take (x ∷ xs) (suc i) zero l = refl
get_take (x ∷ xs) (suc i) (suc p) l = get_take xs i p (omega arith)

pub parts_before : (all : List ℕ) (parts : List Part) (at : ℕ) (sources : List SourceOf) → AreThere at sources
    → map (part_of all parts) sources ≡ map (part_of all (take at parts)) sources
parts_before all parts at [] h = refl
parts_before all parts at (stream d ∷ rest) h = ap (λ (l : List Part). scanned d ∷ l) (parts_before all parts at rest h.1)
parts_before all parts at (result None ∷ rest) h = absurd h.0
parts_before all parts at (result (Some k) ∷ rest) h =
    ap₂ (λ (o : Option Part) (l : List Part). found all k o ∷ l) (sym (get_take parts at k h.0)) (parts_before all parts at rest h.1)
