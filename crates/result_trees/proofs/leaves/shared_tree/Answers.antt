use Rattle.std.proofs.Common.{sym, ap, ◌∙◌}
use Rattle.std.proofs.lemmas.List.{get_or_default}
use Rattle.std.proofs.lemmas.Result.{IfOk-weaker}
use Rattle.script_meaning.specs.Dag.{place_in}
use Rattle.result_trees.proofs.leaves.shared_tree.Goals as goal

pub returns : goal.returns
returns c =
    let kept = c.args.sharing.now.kept.items in
    let place = c.place_of.ensures ∙ ap (λ l. place_in l c.args.k) c.as_slice.ensures.value in
    let width = c.index.ensures ∙ get_or_default c.args.sharing.now.widths.items c.args.k c.index.result.now 0 c.requires.there in
    IfOk-weaker c.ref_of.result _ _ (λ m made s b wide. made (place_in kept) c.args.k s b (sym place) (wide ∙ sym width)) c.ref_of.ensures
