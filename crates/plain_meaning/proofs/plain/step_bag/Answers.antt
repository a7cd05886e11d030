use Rattle.plain_meaning.proofs.PlainLemmas.{single_parts, first_within}
use Rattle.plain_meaning.proofs.plain.step_bag.Goals as goal

pub returns-in_ok-partial_rows-in-Partial-clause-given : goal.returns-in_ok-partial_rows-in-Partial-clause-given
returns-in_ok-partial_rows-in-Partial-clause-given c =
    λ ops. rw c.in-Partial.is (single_parts c.in-Partial.args c.args.cols c.args.rows.now c.in_ok-partial_rows-in-Partial.field-0.items c.in_ok-partial_rows-in-Partial.ensures)

pub returns-in_ok-first_rows-in-LocalTop-clause-given : goal.returns-in_ok-first_rows-in-LocalTop-clause-given
returns-in_ok-first_rows-in-LocalTop-clause-given c =
    λ ops. rw c.in-LocalTop.is (first_within c.in-LocalTop.args c.args.cols c.args.rows.now c.in_ok-first_rows-in-LocalTop.field-0.items c.in_ok-first_rows-in-LocalTop.ensures)
