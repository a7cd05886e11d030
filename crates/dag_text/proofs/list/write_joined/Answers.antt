use Rattle.std.proofs.Common.{◌≤◌, length, arith}
use Rattle.dag_text.proofs.TextLemmas.{joined_done}
use Rattle.dag_text.proofs.list.write_joined.Goals as goal

pub returns : goal.returns
returns g c =
    let end : length c.in-Some.rest.now ≤ c.loop-piece.piece-index = omega arith in
    joined_done c.args.between g.T.Piece.text c.args.pieces.now c.in-Some.rest.now c.in-Some.first.now c.loop-piece.piece-index c.args.out.now.items c.write.new.out.items c.loop-piece.out.items
    c.in-Some.ensures.cases.0 c.in_ok-write.ensures c.loop-piece.invariant end
