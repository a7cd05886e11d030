-- The parts of the streams that are read, in turn, and what each of them gives.
use Rattle.std.specs.Prelude.{◌≡◌, ℕ, ◌==◌, if◌then◌else◌, List, [], ◌∷◌, ◌++◌, map, flat_map, Option, Some, None, slice_get, Result, Ok, Err, IsOk, All, codes}
use Rattle.std.specs.List.{range_with_len}
use Rattle.std.specs.Fmt.{decimal}
use Rattle.std.specs.FinMap as map
use Rattle.scope_outside.specs.State.{Files}
use Rattle.user_ops.specs.Told.{ToldExtractor, Operators}
use Rattle.row_codec.specs.Records.{records_of}
use Rattle.row_codec.specs.Rows.{rows_from}
use Rattle.logical_dag.specs.declared.dag.ScanDecl.{ScanDecl}
use Rattle.logical_trees.specs.Rows.{Bag}

-- a part of the stream of a scan, by its number
pub record StreamPart : Type 0 where
  pub scan : ScanDecl
  pub part : ℕ
  pub name : List ℕ

-- a stream of one part has its own name, and the parts of another one are NAME.0, NAME.1 and so on
abbrev pub part_name : List ℕ → ℕ → ℕ → List ℕ
part_name name parts p = if parts == 1 then name else name ++ (codes "." ++ decimal p)

-- the parts of a scan, and those of several, where a stream of each name has so many
abbrev pub scan_parts : (List ℕ → ℕ) → ScanDecl → List StreamPart
scan_parts count d = map (λ p. record { scan = d; part = p; name = part_name d.stream (count d.stream) p }) (range_with_len 0 (count d.stream))

abbrev pub all_parts : (List ℕ → ℕ) → List ScanDecl → List StreamPart
all_parts count scans = flat_map (scan_parts count) scans

-- why reading ends at a part: there is nothing of that name, or the record of that number is the first that the extractor refuses
pub data Stop : Type 0 where
  lacks : List ℕ → Stop
  refuses : List ℕ → ℕ → ℕ → Stop

-- the rows of a part's text
abbrev pub rows_or_stop : StreamPart → Result Bag ℕ → Result Bag Stop
rows_or_stop p (Ok rows) = Ok rows
rows_or_stop p (Err at) = Err (refuses p.scan.stream p.part at)

abbrev pub told_rows : Option ToldExtractor → ScanDecl → List ℕ → Result Bag ℕ
told_rows None d bytes = Ok []
told_rows (Some e) d bytes = rows_from (e.extracts d.args d.schema) 1 (records_of (e.delimits d.args) bytes)

abbrev pub text_rows : Operators → StreamPart → Option (List ℕ) → Result Bag Stop
text_rows ops p None = Err (lacks p.name)
text_rows ops p (Some bytes) = rows_or_stop p (told_rows (slice_get ops.extractors p.scan.op) p.scan bytes)

-- what a part gives
abbrev pub part_rows : Operators → Files → StreamPart → Result Bag Stop
part_rows ops files p = text_rows ops p (map.get files p.name)

abbrev pub IsRead : Operators → Files → StreamPart → Type 0
IsRead ops files p = IsOk (part_rows ops files p)

-- the parts before this one are read
pub record Reaches (ops : Operators) (files : Files) (parts : List StreamPart) (p : StreamPart) : Type 0 where
  pub before : List StreamPart
  pub after : List StreamPart
  pub split : parts ≡ before ++ p ∷ after
  pub read : All (IsRead ops files) before

-- a part of this name comes to be read
abbrev pub ReadsName : Operators → Files → List StreamPart → List ℕ → Type 0
ReadsName ops files parts name = (p : StreamPart) × Reaches ops files parts p × (p.name ≡ name)

-- reading ends at one of the parts, for this reason
abbrev pub StopsAt : Operators → Files → List StreamPart → Stop → Type 0
StopsAt ops files parts stop = (p : StreamPart) × Reaches ops files parts p × (part_rows ops files p ≡ Err stop)

-- the rows of a scan: those of its parts, one behind the other
abbrev pub rows_or_none : Result Bag Stop → Bag
rows_or_none (Ok rows) = rows
rows_or_none (Err stop) = []

abbrev pub scan_bag : Operators → Files → (List ℕ → ℕ) → ScanDecl → Bag
scan_bag ops files count d = flat_map (λ p. rows_or_none (part_rows ops files p)) (scan_parts count d)
