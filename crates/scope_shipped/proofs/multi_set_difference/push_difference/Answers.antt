use Rattle.std.proofs.Common.{[], ◌∷◌, ◌∙◌, sym, ap, nat_lt, rules}
use Rattle.user_ops.specs.Adding.{IsAdding-more, IsAdding-left, AddsSome-from_adding}
use Rattle.scope_shipped.proofs.Differences.{count-taken, row-kept, row-dropped}
use Rattle.scope_shipped.proofs.Exits.{on_err}
use Rattle.scope_shipped.proofs.multi_set_difference.push_difference.Goals as goal
use Rattle.scope_shipped.proofs.multi_set_difference.push_difference.Goals.{then-not-take+in_ok-copy+in_ok-push, else-not-take}

pub returns-in_err-copy-clause-err : goal.returns-in_err-copy-clause-err
returns-in_err-copy-clause-err c = on_err _ _ (AddsSome-from_adding _ _ _ _ c.loop-row.invariant.adding)

pub returns-in_err-push-clause-err : goal.returns-in_err-push-clause-err
returns-in_err-push-clause-err c =
    rw c.in_err-push.ensures.items (on_err _ _ (AddsSome-from_adding _ _ _ _ c.loop-row.invariant.adding))

pub loop-row-preserved : goal.loop-row-preserved
loop-row-preserved c =
    let counts = c.loop-row.invariant.left_over c.row-item.result in
    record {
      left_over = λ row.
          count-taken row c.row-item.result c.args.left.now c.args.right.now c.loop-row.row-index _ _ c.loop-row-test.true c.row-item.is
          (c.loop-row.invariant.left_over row) (c.take.ensures.after row);
      adding = elim c.if-not-take.branch [
        | then-not-take+in_ok-copy+in_ok-push w ↦
            rw w.out-is
            (IsAdding-more _ _ _ _ _ (c.row-item.result ∷ [])
            (IsAdding-left _ _ _ _ _ c.loop-row.invariant.adding
            (row-kept c.args.left.now c.args.right.now c.loop-row.row-index c.row-item.result c.loop-row-test.true c.row-item.is
            (sym w.if-not-take.true ∙ c.take.ensures.is ∙ ap (nat_lt 0) counts)))
            (search rules))
        | else-not-take w ↦
            rw w.out-is
            (IsAdding-left _ _ _ _ _ c.loop-row.invariant.adding
            (row-dropped c.args.left.now c.args.right.now c.loop-row.row-index c.row-item.result c.loop-row-test.true c.row-item.is
            (sym w.if-not-take.false ∙ c.take.ensures.is ∙ ap (nat_lt 0) counts)))
      ];
    }
