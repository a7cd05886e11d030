use Rattle.plain_meaning.proofs.calls.combined_rows.Goals as goal

pub returns : goal.returns
returns g c = rw c.combiner_at.ensures (rw c.as_slice.ensures at c.combine_boxed.ensures)
