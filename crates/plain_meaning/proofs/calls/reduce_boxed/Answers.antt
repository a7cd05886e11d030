use Rattle.std.proofs.Common.{◌≡◌, IfOk, subst}
use Rattle.plain_meaning.specs.Plain.{reduced_by}
use Rattle.plain_meaning.proofs.calls.reduce_boxed.Goals as goal

-- the object in the box is the one that is lent
pub returns : goal.returns
returns g c =
    subst (λ op. IfOk c.reduce_each.result (λ given.
    given.items ≡ reduced_by (((goal.Reducer-dyn g op).told_reducer op.1).reduces c.args.args.now) c.args.input.now.cols c.args.on.now c.args.input.now.presort.now c.args.input.now.rows.now))
    c.deref_box-1.ensures.1 c.reduce_each.ensures
