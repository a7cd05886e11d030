use Rattle.std.proofs.Common.{◌≡◌, IfOk, subst}
use Rattle.names_in_sight.specs.declared.input.Input.{Input}
use Rattle.names_in_sight.specs.Inputs.{Before, before_of, input_of}
use Rattle.user_ops.specs.Told.{Operators}
use Rattle.binding_causes.specs.declared.found.Found.{Found}
use Rattle.binding_causes.specs.Asked.{asked_by_combine}
use Rattle.binding_causes.specs.Found.{either, in_asked, in_own_call}
use Rattle.binding_causes.specs.Operators.{is_in, combiner_takes}
use Rattle.binding_causes.proofs.seen.pair_found.Goals as goal

pub returns : goal.returns
returns g c =
    let told : Operators = g.O.Tells.tells c.args.ops.now in
    let before : Before = before_of c.args.at.now.statements.now c.args.at.now.headings.now in
    let call = c.args.call.now in
    let found : Input → Input → Found = λ a b.
    either (in_asked (asked_by_combine a c.args.left.1.now b c.args.right.1.now c.args.on.now))
    (in_own_call (is_in told.combiner_names call.op) (combiner_takes told call.op call.args a.columns b.columns c.args.cols.now) call) in
    subst (λ (b : Input). IfOk c.pair_found_in.result (λ f. f ≡ found (input_of told before c.args.left.0.now) b)) c.in_ok-b.ensures
    (subst (λ (a : Input). IfOk c.pair_found_in.result (λ f. f ≡ found a c.in_ok-b.b)) c.in_ok-a.ensures c.pair_found_in.ensures)
