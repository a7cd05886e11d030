-- How reading and writing end.
use Rattle.std.specs.Prelude.{◌≡◌, ℕ, List, [], ◌∷◌, ◌++◌, map, Option, Vec, true, false, All}
use Rattle.std.proofs.Common.{Global}
use Rattle.std.specs.FinMap as map
use Rattle.scope_outside.specs.State.{StoreState, Files, OnFiles}
use Rattle.scope_outside.specs.Answers.{IsFault, IsMiss, IsOpenAt, with_file}
use Rattle.user_ops.specs.Told.{Operators}
use Rattle.row_codec.specs.Texts.{rows_text}
use Rattle.logical_dag.specs.declared.dag.Output.{Output}
use Rattle.logical_dag.specs.declared.dag.ScanDecl.{ScanDecl}
use Rattle.logical_trees.specs.Rows.{Row, Bag}
use Rattle.scope_streams.specs.declared.stops.ReadStop.{ReadStop}
use Rattle.scope_streams.specs.declared.stops.ReadStop.TheVariants as read
use Rattle.scope_streams.specs.declared.stops.WriteStop.{WriteStop}
use Rattle.scope_streams.specs.declared.stops.WriteStop.TheVariants as write
use Rattle.scope_streams.specs.Parts.{all_parts, scan_bag, IsRead, ReadsName, StopsAt, lacks, refuses}

-- ---- reading

-- a read of one of these parts failed, or found nothing, or gave a record that is refused; no file changed
abbrev pub ReadEnds : Operators → (List ℕ → ℕ) → List ScanDecl → StoreState → StoreState → ReadStop → Type 0
ReadEnds ops count scans old new read.NoMemory = new ≡ old
ReadEnds ops count scans old new (read.Failed name) =
    IsFault name false old new × (new.files ≡ old.files) × OnFiles old (λ files. ReadsName ops files (all_parts count scans) name)
ReadEnds ops count scans old new (read.Missing name) =
    IsMiss name old new × (new.files ≡ old.files) × OnFiles old (λ files. StopsAt ops files (all_parts count scans) (lacks name))
ReadEnds ops count scans old new (read.Refused name part at) =
    (new ≡ old) × OnFiles old (λ files. StopsAt ops files (all_parts count scans) (refuses name part at))

abbrev pub bags_of : List (Vec Row Global) → List Bag
bags_of = map (λ v. v.items)

-- all parts were read, and these are the rows of the scans
pub record AreScanned (ops : Operators) (count : List ℕ → ℕ) (scans : List ScanDecl) (files : Files) (bags : List Bag) : Type 0 where
  pub read : All (IsRead ops files) (all_parts count scans)
  pub rows : bags ≡ map (scan_bag ops files count) scans

-- one file: its bytes, or why it wasn't read
abbrev pub FileEnds : List ℕ → StoreState → StoreState → ReadStop → Type 0
FileEnds name old new read.NoMemory = new ≡ old
FileEnds name old new (read.Failed n) = (n ≡ name) × IsFault name false old new × (new.files ≡ old.files)
FileEnds name old new (read.Missing n) = (n ≡ name) × IsMiss name old new × (new.files ≡ old.files) × OnFiles old (λ files. map.get files name ≡ Option.None)
FileEnds name old new (read.Refused n part at) = ⊥

-- ---- writing

-- the texts of the rows of streams of these names, with these bytes between fields, each under its name
abbrev pub texts_of : List (List ℕ) → List ℕ → List Bag → List (List ℕ × List ℕ)
texts_of (n ∷ names) (d ∷ delimiters) (rows ∷ more) = (n, rows_text d rows) ∷ texts_of names delimiters more
texts_of names delimiters rows = []

-- texts beside the names of their outputs
abbrev pub named_texts : List Output → List (Vec ℕ Global) → List (List ℕ × List ℕ)
named_texts (o ∷ outputs) (t ∷ texts) = (o.name, t.items) ∷ named_texts outputs texts
named_texts outputs texts = []

-- the files with these under their names, one after the other, where the files are told
abbrev pub with_files : Option Files → List (List ℕ × List ℕ) → Option Files
with_files files [] = files
with_files files (t ∷ texts) = with_files (with_file files t.0 t.1) texts

-- a write of one of the texts failed, or found no memory; those before it stand whole
abbrev pub WriteEnds : List (List ℕ × List ℕ) → StoreState → StoreState → WriteStop → Type 0
WriteEnds texts old new write.NoMemory =
    (front : List (List ℕ × List ℕ)) × (rest : List (List ℕ × List ℕ)) × (texts ≡ front ++ rest) × (new ≡ record old { files = with_files old.files front })
WriteEnds texts old new (write.Failed name) =
    (front : List (List ℕ × List ℕ)) × (text : List ℕ) × (rest : List (List ℕ × List ℕ)) × (texts ≡ front ++ (name, text) ∷ rest)
    × IsFault name true old new × IsOpenAt name (with_files old.files front) new.files
