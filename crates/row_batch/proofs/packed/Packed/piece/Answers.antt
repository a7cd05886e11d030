use Rattle.row_batch.proofs.CodeLemmas.{piece_within, piece_value, null_past}
use Rattle.row_batch.proofs.packed.Packed.piece.Goals as goal

pub part-requires : goal.part-requires
part-requires c =
    let within = piece_within _ _ _ _ _ _ c.self.invariant c.as_slice.ensures.value c.as_slice-ends.ensures.value c.if-at-ends.true c.start_at.ensures in
    record { up = within.0; within = within.1 }

pub returns-then-at-ends : goal.returns-then-at-ends
returns-then-at-ends c = piece_value _ _ _ _ _ _ _ _ c.self.view_is c.as_slice.ensures.value c.as_slice-ends.ensures.value c.if-at-ends.true c.start_at.ensures c.part.ensures

pub returns-else-at-ends : goal.returns-else-at-ends
returns-else-at-ends c = null_past _ _ _ _ _ c.self.view_is c.as_slice-ends.ensures.value c.if-at-ends.false
