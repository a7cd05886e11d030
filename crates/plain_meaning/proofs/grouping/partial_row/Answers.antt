use Rattle.plain_meaning.proofs.grouping.partial_row.Goals as goal

pub returns : goal.returns
returns c = rw (c.in_ok-k.ensures, c.as_slice.ensures.value, c.in_ok-key.ensures) at c.part_row.ensures
