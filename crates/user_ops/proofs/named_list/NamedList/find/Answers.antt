use Rattle.std.proofs.Common.{rules}
use Rattle.user_ops.proofs.Places.{position-map}
use Rattle.user_ops.proofs.named_list.NamedList.find.Goals as goal

pub returns-clause-is : goal.returns-clause-is
returns-clause-is g c = rw position-map (search rules)
