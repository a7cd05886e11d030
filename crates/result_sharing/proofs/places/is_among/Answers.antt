use Rattle.std.proofs.Common.{◌∙◌}
use Rattle.result_sharing.proofs.Steps.{any_has}
use Rattle.result_sharing.proofs.places.is_among.Goals as goal

pub returns : goal.returns
returns c = c.contains.ensures.value ∙ any_has c.args.numbers.now c.args.k
