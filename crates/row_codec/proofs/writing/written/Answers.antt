use Rattle.std.proofs.Common.{◌≡◌, ◌∙◌, ◌++◌, ◌+◌, ◌∷◌, [], List, arith, ap, sym, take}
use Rattle.std.proofs.lemmas.List.{flat_map_more, take_more}
use Rattle.scope_value.specs.declared.value.Value.{Value}
use Rattle.row_codec.specs.Texts.{line_text, rows_text}
use Rattle.row_codec.proofs.writing.written.Goals as goal

pub loop-row-preserved : goal.loop-row-preserved
loop-row-preserved c =
    let delimiter = c.args.delimiter in
    let before = take c.loop-row.row-index c.args.rows.now in
    let row = c.row-item.result in
    let front : take (c.loop-row.row-index + 1) c.args.rows.now ≡ before ++ row ∷ []
    = take_more c.args.rows.now c.loop-row.row-index row (omega arith) ∙ ap (λ (r : List Value). before ++ r ∷ []) (sym c.row-item.is) in
    let wrote = rw c.as_slice.ensures at c.in_ok-write_row.ensures delimiter (rows_text delimiter before) c.loop-row.invariant in
    rw (front, ← flat_map_more (line_text delimiter) [] before row) wrote
