use Rattle.row_codec.proofs.KnownTexts.{known_records, known_rows, known_texts}
use Rattle.row_codec.proofs.examples.examples_law.Goals as goal

pub returns : goal.returns
returns c = record { records = known_records; rows = known_rows; texts = known_texts }
