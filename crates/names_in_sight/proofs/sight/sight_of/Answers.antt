use Rattle.std.proofs.Common.{◌∙◌, arith, rules}
use Rattle.names_in_sight.proofs.SightLemmas.{sight_step}
use Rattle.names_in_sight.proofs.sight.sight_of.Goals as goal

pub loop-input-preserved : goal.loop-input-preserved
loop-input-preserved c =
    sight_step c.args.inputs.now c.loop-input.input-index c.input-item.result c.loop-input.entries c.see.new.entries (omega arith) c.input-item.is (search rules)
    ∙ c.loop-input.invariant
