use Rattle.std.proofs.Common.{◌≡◌, ℕ, List, IfOk, subst, ap, ◌∙◌}
use Rattle.script_meaning.specs.Bound.{parts_of}
use Rattle.script_meaning.specs.Dag.{outs_of, kept_of}
use Rattle.result_sharing.specs.Steps.{kept_by}
use Rattle.result_sharing.proofs.Steps.{kept_same}
use Rattle.result_sharing.proofs.sharing.kept_in.Goals as goal

pub returns : goal.returns
returns c =
    let outs = c.args.outputs.now in
    let parts = parts_of c.args.script.now in
    let same : kept_by outs c.as_slice.result.now ≡ kept_of (outs_of c.args.script.now) parts =
    kept_same outs parts c.as_slice.result.now (c.as_slice.ensures.value ∙ c.in_ok-refs.ensures)
    ∙ ap (λ (of : List ℕ). kept_of of parts) c.requires.outputs in
    subst (λ (kept : List ℕ). IfOk c.kept_of.result (λ v. v.items ≡ kept)) same c.kept_of.ensures
