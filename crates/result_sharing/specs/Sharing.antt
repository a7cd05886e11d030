-- Which results are shared, and where.
use Rattle.std.specs.Prelude.{◌≡◌, ℕ, List, [], map, length}
use Rattle.placed_trees.specs.declared.statement.Statement.{Statement}
use Rattle.script_meaning.specs.Bound.{mentions, parts_of}
use Rattle.script_meaning.specs.Dag.{outs_of, kept_of}
use Rattle.script_meaning.specs.Part.{Part}
use Rattle.result_sharing.specs.declared.sharing.Sharing.{Sharing}

-- of a script: each mention of a result; how many columns the result of each statement has; the OUTPUTs; and the shared results that
-- they reach, all by the numbers of statements, from 0
pub record IsSharing (script : List Statement) (m : Sharing) : Type 0 where
  pub mentions : m.mentions.items ≡ mentions [] script
  pub widths : m.widths.items ≡ map (λ (p : Part). length p.cols) (parts_of script)
  pub outputs : m.outputs.items ≡ outs_of script
  pub kept : m.kept.items ≡ kept_of (outs_of script) (parts_of script)
