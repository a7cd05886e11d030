use Rattle.std.proofs.Common.{◌≡◌, ◌∙◌, ap, refl, sym, List, length, map, ◌++◌}
use Rattle.std.proofs.lemmas.List.{length-map}
use Rattle.scope_value.specs.declared.value.Value.{Value}
use Rattle.scope_value.specs.Lent.{held}
use Rattle.row_batch.specs.Rows.{Rows}
use Rattle.row_batch.proofs.RowLemmas.{unseen, added_row, on_err}
use Rattle.row_batch.proofs.batch.Batch.push.Goals as goal

pub returns-in_err-push_row-clause-err : goal.returns-in_err-push_row-clause-err
returns-in_err-push_row-clause-err c = on_err c.from_residual.result (unseen _ _ _ _ _ _ c.self.invariant c.in_err-push_row.ensures.err refl (ap (λ (b : Rows). b.rows) c.self.view_is))

pub returns-in_err-push-clause-err : goal.returns-in_err-push-clause-err
returns-in_err-push-clause-err c = on_err c.from_residual-in_err-push.result (unseen _ _ _ _ _ _ c.self.invariant (c.args.row.now, (c.in_ok-push_row.ensures.ok ∙ ap (λ (row : List Value). c.self.inside.values ++ row) c.as_slice.ensures)) c.in_err-push.ensures.items (ap (λ (b : Rows). b.rows) c.self.view_is))

pub returns-clause-ok : goal.returns-clause-ok
returns-clause-ok c = added_row _ _ _ _ _ _ _ _ c.self.invariant (c.requires ∙ ap (λ (b : Rows). b.width) (sym c.self.view_is)) (c.in_ok-push_row.ensures.ok ∙ ap (λ (row : List Value). c.self.inside.values ++ row) c.as_slice.ensures) c.len-start.ensures c.in_ok-push.ensures.items (ap (λ (b : Rows). b.rows) c.self.view_is)
