-- The text of rows.
use Rattle.std.specs.Prelude.{◌≡◌, ℕ, List, Option, Some, true, false, flat_map, map}
use Rattle.csv.specs.Writing.{default_writer, fields_written, has_written, row_text, text_written, writer_setup}
use Rattle.csv.specs.declared.writer.Writer.{Writer}
use Rattle.csv.specs.declared.writer.WriterBuilder.{WriterBuilder}
use Rattle.scope_value.specs.declared.value.Value.{Value}
use Rattle.row_codec.specs.Fields.{field_text}

-- csv's defaults, with this delimiter and rows of any lengths
abbrev pub writer_of : ℕ → WriterBuilder
writer_of delimiter = record default_writer { delimiter = delimiter; flexible = true }

-- the written row of its values' texts
abbrev pub line_text : ℕ → List Value → List ℕ
line_text delimiter row = row_text (writer_of delimiter) (map field_text row)

-- the written rows, one after the other
abbrev pub rows_text : ℕ → List (List Value) → List ℕ
rows_text delimiter rows = flat_map (line_text delimiter) rows

-- the writer, set up so, has written this text, and no part of a record after it
pub record HasWritten {W : Type 0} (contents : W → Option (List ℕ)) (delimiter : ℕ) (text : List ℕ) (w : Writer W) : Type 0 where
  pub setup : writer_setup w ≡ writer_of delimiter
  pub between : fields_written w ≡ 0
  pub clean : has_written w ≡ false
  pub is : text_written contents w ≡ Some text
