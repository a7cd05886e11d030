use Rattle.std.proofs.Common.{ap, sym, ◌∙◌}
use Rattle.std.specs.FinMap as map
use Rattle.scope_outside.specs.State.{Files}
use Rattle.scope_outside.proofs.FileLemmas.{get-files}
use Rattle.scope_outside.proofs.file_map.FileMap.get.Goals as goal

pub returns : goal.returns
returns c =
    c.get.ensures.value
    ∙ sym (get-files c.self.inside.entries.entries c.args.name.now)
    ∙ ap (λ (m : Files). map.get m c.args.name.now) c.self.view_is
