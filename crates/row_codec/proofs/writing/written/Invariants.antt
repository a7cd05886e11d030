use Rattle.std.proofs.Common.{Some, take}
use Rattle.row_codec.specs.Texts.{HasWritten, rows_text}
use Rattle.row_codec.proofs.writing.written.Given as goal

abbrev pub invariant-loop-row : goal.invariant-loop-row
invariant-loop-row l = HasWritten (λ v. Some v.items) l.delimiter (rows_text l.delimiter (take l.row-index l.rows)) l.writer
