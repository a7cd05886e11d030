use Rattle.std.proofs.Common.{◌≡◌, ℕ, List, length, subst}
use Rattle.std.specs.List.{All}
use Rattle.row_batch.specs.Rows.{Rows}
use Rattle.row_batch.proofs.RowLemmas.{rows_long}
use Rattle.row_batch.proofs.batch.Batch.width.Goals as goal

pub returns-clause-rows : goal.returns-clause-rows
returns-clause-rows c = subst (λ (b : Rows). All (λ row. length row ≡ b.width) b.rows) c.self.view_is (rows_long c.self.inside.width c.self.inside.values c.self.inside.starts.items c.self.invariant)
