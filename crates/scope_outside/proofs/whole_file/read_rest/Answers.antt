use Rattle.scope_outside.proofs.ReadLemmas.{more_of}
use Rattle.scope_outside.proofs.whole_file.read_rest.Goals as goal

pub returns-in_err-count-clause-appends : goal.returns-in_err-count-clause-appends
returns-in_err-count-clause-appends g c = more_of c.reserve.ensures.items c.read_to_end.ensures.appends

pub returns-then-count-gt-MOST_BYTES-clause-appends : goal.returns-then-count-gt-MOST_BYTES-clause-appends
returns-then-count-gt-MOST_BYTES-clause-appends g c = more_of c.reserve.ensures.items c.read_to_end.ensures.appends

pub returns-clause-appends : goal.returns-clause-appends
returns-clause-appends g c = more_of c.reserve.ensures.items c.read_to_end.ensures.appends
