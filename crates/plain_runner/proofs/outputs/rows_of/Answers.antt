use Rattle.std.proofs.Common.{◌≡◌, sym}
use Rattle.std.proofs.lemmas.Result.{IfOk-weaker}
use Rattle.plain_runner.proofs.outputs.rows_of.Goals as goal

pub returns-in-Some : goal.returns-in-Some
returns-in-Some g c =
    IfOk-weaker c.rows_in_order.result _ _
    (λ rows e. (
      c.in_ok-rows.rows.items,
      c.in_ok-rows.ensures,
      rw c.in-Some.is (sym (rw (c.columns_of.ensures, c.as_slice.ensures.value, c.keys.ensures.value, c.as_slice-in-Some.ensures.value) at e)),
    ))
    c.rows_in_order.ensures
