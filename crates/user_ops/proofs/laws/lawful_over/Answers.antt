use Rattle.user_ops.proofs.laws.lawful_over.Goals as goal

pub returns : goal.returns
returns g c = g.O.Tells.lawful c.args.ops.now
