use Rattle.std.proofs.Common.{[], ◌∷◌, ◌++◌, sym, ap, ap₂, ◌∙◌}
use Rattle.std.proofs.lemmas.List.{map_more}
use Rattle.plain_meaning.specs.Steps.{partial_row}
use Rattle.plain_meaning.proofs.grouping.partial_rows.Goals as goal

pub loop-row-preserved : goal.loop-row-preserved
loop-row-preserved c =
    c.in_ok-push.ensures.items
    ∙ ap₂ (λ rows r. rows ++ r ∷ []) c.loop-row.invariant (c.in_ok-partial_row.ensures ∙ ap (partial_row c.args.args.now c.args.cols) c.row-item.is)
    ∙ sym (map_more (partial_row c.args.args.now c.args.cols) c.args.rows.now c.loop-row.row-index c.row-item.result c.loop-row-test.true)
