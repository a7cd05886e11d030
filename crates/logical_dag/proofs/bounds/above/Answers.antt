-- A Filter stands over one less, and any other node over none.
use Rattle.std.proofs.Common.{refl}
use Rattle.logical_dag.proofs.Narrow.{filter_widths}
use Rattle.logical_dag.proofs.bounds.above.Goals as goal

pub returns-then-below-lt2 : goal.returns-then-below-lt2
returns-then-below-lt2 c = λ t h. rw c.in-Filter.is (filter_widths t c.args.below _ h c.in-Filter.field-0 c.if-below-lt2.true refl refl)
