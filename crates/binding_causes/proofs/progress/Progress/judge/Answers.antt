use Rattle.std.proofs.Common.{◌≡◌, ◌++◌, ℕ, List, IfOk, subst, ap}
use Rattle.std.proofs.lemmas.Result.{IfOk-weaker}
use Rattle.scope_value.specs.declared.schema.Column.{Column}
use Rattle.user_ops.specs.Told.{Operators}
use Rattle.names_in_sight.specs.Inputs.{before_of}
use Rattle.binding_causes.specs.declared.judging.Judged.{Judged}
use Rattle.binding_causes.specs.Judging.{judged}
use Rattle.binding_causes.specs.Limits.{mentions_in}
use Rattle.binding_causes.specs.Progress.{place_of}
use Rattle.binding_causes.specs.Resolution.{first_cause}
use Rattle.binding_causes.proofs.progress.Progress.judge.Goals as goal

pub returns-clause-cause : goal.returns-clause-cause
returns-clause-cause g c =
    let told : Operators = g.O.Tells.tells c.args.ops.now in
    let s = c.args.statement.now in
    let earlier = c.args.earlier.now in
    let p = c.args.self.now in
    let of : List (List Column) → List ℕ → Judged = λ headings counts.
    judged told c.args.all.now (p.near.items ++ mentions_in earlier s.command) (before_of earlier headings) counts s in
    IfOk-weaker c.judge_next.result (λ j. j ≡ of p.headings p.counts.items) (λ j. j.cause ≡ first_cause told (place_of c.args.all.now earlier p) s) (λ j e. ap (λ (k : Judged). k.cause) e)
    (subst (λ (counts : List ℕ). IfOk c.judge_next.result (λ j. j ≡ of p.headings counts)) c.as_slice-2.ensures.value
    (subst (λ (headings : List (List Column)). IfOk c.judge_next.result (λ j. j ≡ of headings c.as_slice-2.result.now)) c.as_slice.ensures c.judge_next.ensures.judged))
