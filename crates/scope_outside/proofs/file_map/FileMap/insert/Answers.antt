use Rattle.std.proofs.Common.{ap, ◌∙◌, nat_cmp}
use Rattle.std.specs.Cmp.Lexicographic.{slice_cmp}
use Rattle.std.specs.FinMap as map
use Rattle.scope_outside.specs.State.{Files}
use Rattle.scope_outside.proofs.FileLemmas.{files-insert}
use Rattle.scope_outside.proofs.file_map.FileMap.insert.Goals as goal

pub returns-in-Ok-clause-ok : goal.returns-in-Ok-clause-ok
returns-in-Ok-clause-ok c =
    ap (map.from_entries {R = slice_cmp nat_cmp}) c.in-Ok.ensures.entries
    ∙ files-insert c.self.inside.entries.entries c.args.name c.args.bytes
    ∙ ap (λ (m : Files). map.insert m c.args.name c.args.bytes) c.self.view_is
