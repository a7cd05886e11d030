use Rattle.std.proofs.Common.{refl, sym, ◌∙◌}
use Rattle.user_ops.proofs.Places.{found-is_there, none-is_not_there}
use Rattle.user_ops.proofs.named_list.NamedList.add.Goals as goal

pub returns-then-is_some-clause-duplicate : goal.returns-then-is_some-clause-duplicate
returns-then-is_some-clause-duplicate g c =
    (λ _. found-is_there _ _ _ _ c.find.ensures.is c.as_slice.ensures (sym c.is_some.ensures ∙ c.if-is_some.true), λ _. refl)

pub returns-in-Ok-clause-duplicate : goal.returns-in-Ok-clause-duplicate
returns-in-Ok-clause-duplicate g c =
    (λ no. absurd no, λ there. none-is_not_there _ _ _ _ c.find.ensures.is c.as_slice.ensures (sym c.is_some.ensures ∙ c.if-is_some.false) there)

pub returns-in-Err-clause-duplicate : goal.returns-in-Err-clause-duplicate
returns-in-Err-clause-duplicate g c =
    (λ no. absurd (cc no), λ there. absurd (none-is_not_there _ _ _ _ c.find.ensures.is c.as_slice.ensures (sym c.is_some.ensures ∙ c.if-is_some.false) there))
