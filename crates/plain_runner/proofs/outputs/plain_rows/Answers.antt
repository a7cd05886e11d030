use Rattle.std.proofs.lemmas.Result.{IfOk-weaker}
use Rattle.plain_runner.specs.Runs.{bags_of}
use Rattle.plain_runner.proofs.outputs.plain_rows.Goals as goal

pub returns : goal.returns
returns g c =
    IfOk-weaker c.all_rows.result _ _ (λ rows w. (bags_of c.in_ok-shared.shared.items, c.in_ok-shared.ensures, rw c.as_slice.ensures.value at w)) c.all_rows.ensures
