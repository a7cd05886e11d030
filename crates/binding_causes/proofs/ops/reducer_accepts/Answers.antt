use Rattle.std.proofs.Common.{◌≡◌, subst}
use Rattle.binding_causes.proofs.ops.reducer_accepts.Goals as goal

-- the object in the box is the one that is lent
pub returns : goal.returns
returns g c =
    subst (λ op. c.accepts.result ≡ ((goal.Reducer-dyn g op).told_reducer op.1).takes c.args.input.now c.args.output.now c.args.args.now)
    c.deref_box-1.ensures.1 c.accepts.ensures
