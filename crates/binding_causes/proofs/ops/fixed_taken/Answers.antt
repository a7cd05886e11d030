use Rattle.std.proofs.Common.{◌≡◌, IfOk, subst}
use Rattle.binding_causes.specs.Operators.{fixed_taken}
use Rattle.binding_causes.proofs.ops.fixed_taken.Goals as goal

-- the object in the box is the one that is lent
pub returns : goal.returns
returns g c =
    subst (λ op. IfOk c.fixed_taken_by.result (λ b. b ≡ fixed_taken c.args.args.now ((goal.Extractor-dyn g op).told_extractor op.1)))
    c.deref_box-1.ensures.1 c.fixed_taken_by.ensures
