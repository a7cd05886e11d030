-- Reading some of the parts in turn, and writing some of the outputs. This serves the crate alone.
use Rattle.std.specs.Prelude.{◌≡◌, ℕ, false, List, [], ◌∷◌, ◌++◌, map, flat_map, Option, Err, Vec, All}
use Rattle.std.proofs.Common.{Global}
use Rattle.std.specs.List.{range_with_len}
use Rattle.scope_outside.specs.State.{StoreState, Files, OnFiles}
use Rattle.scope_outside.specs.Answers.{IsFault, IsMiss}
use Rattle.user_ops.specs.Told.{Operators, ToldExtractor}
use Rattle.row_codec.specs.Texts.{rows_text}
use Rattle.logical_dag.specs.declared.dag.Output.{Output}
use Rattle.logical_dag.specs.declared.dag.ScanDecl.{ScanDecl}
use Rattle.logical_trees.specs.Rows.{Row, Bag}
use Rattle.scope_streams.specs.declared.stops.ReadStop.{ReadStop}
use Rattle.scope_streams.specs.declared.stops.ReadStop.TheVariants as read
use Rattle.scope_streams.specs.Parts.{StreamPart, lacks, refuses, part_name, part_rows, rows_or_none, told_rows, scan_bag, all_parts, IsRead, ReadsName, StopsAt}
use Rattle.scope_streams.specs.Ends.{with_files}

-- a part of a scan whose stream has so many
abbrev pub stream_part : ScanDecl → ℕ → ℕ → StreamPart
stream_part d parts p = record { scan = d; part = p; name = part_name d.stream parts p }

-- the first parts of it
abbrev pub first_parts : ScanDecl → ℕ → ℕ → List StreamPart
first_parts d parts n = map (stream_part d parts) (range_with_len 0 n)

-- these parts are read, and these are their rows, one behind the other
abbrev pub AreRead : Operators → Files → List StreamPart → Bag → Type 0
AreRead ops files parts rows = All (IsRead ops files) parts × (rows ≡ flat_map (λ p. rows_or_none (part_rows ops files p)) parts)

-- the parts of these scans are read, and these are the rows of each
abbrev pub AreFirst : Operators → Files → (List ℕ → ℕ) → List ScanDecl → List Bag → Type 0
AreFirst ops files count scans bags = All (IsRead ops files) (all_parts count scans) × (bags ≡ map (scan_bag ops files count) scans)

-- reading these parts ended within them
abbrev pub EndsIn : Operators → List StreamPart → StoreState → StoreState → ReadStop → Type 0
EndsIn ops parts old new read.NoMemory = new ≡ old
EndsIn ops parts old new (read.Failed name) = IsFault name false old new × (new.files ≡ old.files) × OnFiles old (λ files. ReadsName ops files parts name)
EndsIn ops parts old new (read.Missing name) = IsMiss name old new × (new.files ≡ old.files) × OnFiles old (λ files. StopsAt ops files parts (lacks name))
EndsIn ops parts old new (read.Refused name part at) = (new ≡ old) × OnFiles old (λ files. StopsAt ops files parts (refuses name part at))

-- decoding a part's bytes ended at a record that is refused, or for want of memory
abbrev pub IsRefusal : Option ToldExtractor → ScanDecl → ℕ → List ℕ → ReadStop → Type 0
IsRefusal e d part bytes read.NoMemory = Unit {0}
IsRefusal e d part bytes (read.Failed name) = ⊥
IsRefusal e d part bytes (read.Missing name) = ⊥
IsRefusal e d part bytes (read.Refused name p at) = (name ≡ d.stream) × (p ≡ part) × (told_rows e d bytes ≡ Err at)

-- ---- outputs

-- the texts of the rows of outputs
abbrev pub texts_at : List Output → List (Vec Row Global) → List (List ℕ)
texts_at (o ∷ outputs) (v ∷ rows) = rows_text o.delimiter v.items ∷ texts_at outputs rows
texts_at outputs rows = []

-- of these texts all were written but those that are left
pub record AreWritten (texts left : List (List ℕ × List ℕ)) (old now : StoreState) : Type 0 where
  pub done : List (List ℕ × List ℕ)
  pub cut : texts ≡ done ++ left
  pub is : now ≡ record old { files = with_files old.files done }
