use Rattle.std.proofs.Common.{◌∙◌}
use Rattle.script_nodes.proofs.Places.{any_has}
use Rattle.script_nodes.proofs.columns.is_named.Goals as goal

pub returns : goal.returns
returns c = c.contains.ensures.value ∙ any_has c.args.written.now c.args.place
