use Rattle.std.proofs.Common.{◌≡◌, subst}
use Rattle.binding_causes.proofs.ops.combiner_accepts.Goals as goal

-- the object in the box is the one that is lent
pub returns : goal.returns
returns g c =
    subst (λ op. c.accepts.result ≡ ((goal.Combiner-dyn g op).told_combiner op.1).takes c.args.left.now c.args.right.now c.args.output.now c.args.args.now)
    c.deref_box-1.ensures.1 c.accepts.ensures
