use Rattle.std.proofs.Common.{sym, ap, ◌∙◌, take, get_or}
use Rattle.std.proofs.lemmas.List.{take_more}
use Rattle.col_sets.specs.Sets.{set_of, with_column}
use Rattle.col_sets.specs.Listed.{set_of_none, set_of_more}
use Rattle.col_sets.proofs.col_set.ColSet.of.Goals as goal

pub loop-c-init : goal.loop-c-init
loop-c-init c = c.empty-set.ensures ∙ sym set_of_none

pub loop-c-preserved : goal.loop-c-preserved
loop-c-preserved c =
    c.with-set.ensures
    ∙ ap (λ s. with_column s (get_or c.args.cols.now c.loop-c.c-index 0)) c.loop-c.invariant
    ∙ set_of_more (take c.loop-c.c-index c.args.cols.now) (get_or c.args.cols.now c.loop-c.c-index 0)
    ∙ ap set_of (sym (take_more c.args.cols.now c.loop-c.c-index 0 c.loop-c-test.true))
