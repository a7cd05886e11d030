use Rattle.std.proofs.Common.{◌≡◌, IfOk, subst}
use Rattle.plain_meaning.specs.Plain.{combined_by}
use Rattle.plain_meaning.proofs.calls.combine_boxed.Goals as goal

-- the object in the box is the one that is lent
pub returns : goal.returns
returns g c =
    subst (λ op. IfOk c.combine_each.result (λ given.
    given.items ≡ combined_by (((goal.Combiner-dyn g op).told_combiner op.1).combines c.args.args.now) c.args.left.now.cols c.args.right.now.cols c.args.on.now
    c.args.left.now.presort.now c.args.right.now.presort.now c.args.left.now.rows.now c.args.right.now.rows.now))
    c.deref_box-1.ensures.1 c.combine_each.ensures
