use Rattle.std.proofs.Common.{◌++◌, ◌∷◌, [], ◌+◌, ap, sym, ◌∙◌, append_assoc}
use Rattle.script_nodes.proofs.Places.{range_more}
use Rattle.script_nodes.proofs.columns.with_fresh.Goals as goal

pub loop-place-preserved : goal.loop-place-preserved
loop-place-preserved c =
    c.in_ok-push.ensures.items ∙ ap (λ o. o ++ (c.args.from + c.loop-place.place) ∷ []) c.loop-place.invariant
    ∙ (rw append_assoc (ap (λ l. c.args.cols.items ++ l) (sym (range_more c.args.from c.loop-place.place))))
