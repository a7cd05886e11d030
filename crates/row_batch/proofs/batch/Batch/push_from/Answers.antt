use Rattle.std.proofs.Common.{◌≡◌, ◌∙◌, ap, refl, sym, List, ◌++◌, ◌∷◌, []}
use Rattle.scope_value.specs.declared.value.Value.{Value}
use Rattle.row_batch.specs.Rows.{Rows}
use Rattle.row_batch.proofs.RowLemmas.{unseen, added_row, added_there, on_err}
use Rattle.row_batch.proofs.batch.Batch.push_from.Goals as goal

pub returns-in_err-push_all-clause-err : goal.returns-in_err-push_all-clause-err
returns-in_err-push_all-clause-err c = on_err c.from_residual.result (unseen _ _ _ _ _ _ c.self.invariant c.in_err-push_all.ensures.err refl (ap (λ (b : Rows). b.rows) c.self.view_is))

pub returns-in_err-push-clause-err : goal.returns-in_err-push-clause-err
returns-in_err-push-clause-err c = on_err c.from_residual-in_err-push.result (unseen _ _ _ _ _ _ c.self.invariant (c.row.result, c.in_ok-push_all.ensures.ok) c.in_err-push.ensures.items (ap (λ (b : Rows). b.rows) c.self.view_is))

pub invariant_of-self-2 : goal.invariant_of-self-2
invariant_of-self-2 c = added_there _ _ _ _ _ _ _ c.self.invariant (c.row.ensures.wide ∙ c.requires.wide ∙ ap (λ (b : Rows). b.width) (sym c.self.view_is)) c.in_ok-push_all.ensures.ok c.len-start.ensures c.in_ok-push.ensures.items

pub returns-clause-ok : goal.returns-clause-ok
returns-clause-ok c = added_row _ _ _ _ _ _ _ _ c.self.invariant (c.row.ensures.wide ∙ c.requires.wide ∙ ap (λ (b : Rows). b.width) (sym c.self.view_is)) (c.in_ok-push_all.ensures.ok) c.len-start.ensures c.in_ok-push.ensures.items (ap (λ (b : Rows). b.rows) c.self.view_is) ∙ ap (λ (row : List Value). c.args.self.now.rows ++ row ∷ []) c.row.ensures.value
