use Rattle.std.proofs.Common.{◌≡◌, ◌+◌, true}
use Rattle.std.specs.List.{All}
use Rattle.scope_value.specs.Fits.{RowFits}
use Rattle.row_codec.specs.Records.{IsBetween, left_of}
use Rattle.row_codec.specs.Rows.{rows_from, with_front}
use Rattle.row_codec.proofs.part.push_rows.Given as goal

abbrev pub invariant-loop-before : goal.invariant-loop-before
invariant-loop-before g l =
    let told = (goal.Extractor-dyn g l.op.now).told_extractor l.op.now.1 in
    record {
      between : IsBetween l.part.reader;
      left : with_front l.rows.items (rows_from (told.extracts l.args l.output) (l.before + 1) (left_of l.part.reader))
          ≡ rows_from (told.extracts l.args l.output) 1 (left_of l.initial.part.reader);
      fits : told.takes l.output l.args ≡ true → All (RowFits l.output) l.rows.items;
    }
