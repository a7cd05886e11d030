use Rattle.std.proofs.Common.{◌≡◌, IfOk, subst}
use Rattle.std.specs.List.{flat_map}
use Rattle.plain_meaning.proofs.calls.process_boxed.Goals as goal

-- the object in the box is the one that is lent
pub returns : goal.returns
returns g c =
    subst (λ op. IfOk c.process_each.result (λ given. given.items ≡ flat_map (((goal.Processor-dyn g op).told_processor op.1).processes c.args.args.now) c.args.rows.now))
    c.deref_box-1.ensures.1 c.process_each.ensures
