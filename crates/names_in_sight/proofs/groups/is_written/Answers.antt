use Rattle.std.proofs.Common.{◌∙◌}
use Rattle.names_in_sight.proofs.GroupLemmas.{any_has}
use Rattle.names_in_sight.proofs.groups.is_written.Goals as goal

pub returns : goal.returns
returns c = c.contains.ensures.value ∙ any_has c.args.written.now c.args.id
