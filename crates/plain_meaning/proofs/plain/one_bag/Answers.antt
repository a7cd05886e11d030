use Rattle.user_ops.specs.contracts.op_set.OpSetTells.TheImpl as impl
use Rattle.plain_meaning.proofs.plain.one_bag.Goals as goal

pub returns-in-Group-clause-given : goal.returns-in-Group-clause-given
returns-in-Group-clause-given g c = c.step_bag.ensures.given ((impl.ghosts g.dyn-1 g.dyn-2 g.dyn-3 g.dyn-4).tells c.args.ops.now)
