use Rattle.binding_causes.proofs.judging.pick.Goals as goal

pub returns : goal.returns
returns c = rw (← c.is_ambiguous.ensures) c.first_true.ensures
