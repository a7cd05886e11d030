use Rattle.std.proofs.Common.{◌+◌, ◌<◌, length, ap, arith}
use Rattle.std.proofs.lemmas.Result.{IfOk-weaker, IfOk-at_ok}
use Rattle.script_meaning.specs.Part.{joined_part}
use Rattle.script_nodes.specs.Steps.{IsStepOfTwo}
use Rattle.script_nodes.proofs.Sources.{joins_made}
use Rattle.script_nodes.proofs.over.+joins_over.Goals as goal

pub returns-in_ok-others-in-len1-up : goal.returns-in_ok-others-in-len1-up
returns-in_ok-others-in-len1-up t c =
    let second = c.first_of-second.result.0 in
    let w = c.in_ok-others-in-len1-up in
    let step : IsStepOfTwo (joined_part c.as_slice.result.now) (length c.args.first.cols.items + length second.cols.items) 0 c.args.first second w.joined =
    IfOk-at_ok (IsStepOfTwo (joined_part c.as_slice.result.now) (length c.args.first.cols.items + length second.cols.items) 0 c.args.first second) w.ensures.1 c.join_over-joined.ensures in
    let some : 0 < length c.args.joins.now = omega arith in
    IfOk-weaker c.joins_over.result _ _
    (λ m all. joins_made c.args.joins.now c.join-item.result c.args.first second c.args.others.items c.first_of-second.result.1.items w.others.items c.as_slice.result.now w.joined m
    some c.join-item.is c.first_of-second.ensures (ap (λ v. v.items) w.ensures.0) c.as_slice.ensures step all) c.joins_over.ensures
