use Rattle.std.proofs.Common.{ℕ, ◌<◌, length, get_or, arith}
use Rattle.script_nodes.specs.Steps.{column_at}
use Rattle.script_nodes.proofs.Places.{map_more, left_there, right_there, pair_any}
use Rattle.script_nodes.proofs.Agree.{get_any}
use Rattle.script_nodes.proofs.keys.pairs_in.Goals as goal

pub loop-a-preserved : goal.loop-a-preserved
loop-a-preserved c =
    let left = c.args.left.now in
    let right = c.args.right.now in
    let on = c.args.on.now in
    let i = c.loop-a.a-index in
    let lt : i < length on = omega arith in
    let p : ℕ × ℕ = get_or on i (0, 0) in
    map_more {B = ℕ × ℕ} (λ p. (column_at left p.0, column_at right p.1)) on i p c.loop-a.pairs.items c.push.new.self.items (get_or left p.0 0, get_or right p.1 0) lt
    (pair_any on i (0, 0) p lt) c.loop-a.invariant
    (λ j. (get_any left p.0 0 128 (left_there (length left) (length right) on i (0, 0) c.requires.1 lt) j, get_any right p.1 0 128 (right_there (length left) (length right) on i (0, 0) c.requires.1 lt) j))
    c.push.ensures.items
