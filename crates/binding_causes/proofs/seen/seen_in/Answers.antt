use Rattle.std.proofs.Common.{◌≡◌, ℕ, List, IfOk, subst}
use Rattle.std.proofs.lemmas.Result.{IfOk-weaker}
use Rattle.scope_value.specs.declared.schema.Column.{Column}
use Rattle.script_trees.specs.declared.command.Command.TheVariants.{Extract, Output}
use Rattle.user_ops.specs.Told.{Operators}
use Rattle.names_in_sight.specs.Inputs.{before_of}
use Rattle.binding_causes.specs.declared.seen.Seen.{Seen}
use Rattle.binding_causes.specs.Found.{seen_of}
use Rattle.binding_causes.proofs.seen.seen_in.Goals as goal

-- what holds of every stream's name holds of this one
pub returns-in-Extract : goal.returns-in-Extract
returns-in-Extract g c =
    let told : Operators = g.O.Tells.tells c.args.ops.now in
    let at = c.args.at.now in
    let e = c.in-Extract in
    let seen : List Column → List ℕ → Seen = λ cols stream. seen_of told at.all.now (before_of at.statements.now at.headings.now) at.counts.now (Extract cols stream e.call e.stored) in
    rw e.is (IfOk-weaker c.in_extract.result (λ s. (name : List ℕ) → s ≡ seen e.cols name) (λ s. s ≡ seen e.cols e.stream) (λ s h. h e.stream)
    (subst (λ (cols : List Column). IfOk c.in_extract.result (λ s. (name : List ℕ) → s ≡ seen cols name)) c.as_slice.ensures c.in_extract.ensures))

pub returns-in-Output : goal.returns-in-Output
returns-in-Output g c =
    let at = c.args.at.now in
    let e = c.in-Output in
    let seen : Operators → List ℕ → Seen = λ told stream. seen_of told at.all.now (before_of at.statements.now at.headings.now) at.counts.now (Output e.source stream e.outputter e.stored) in
    rw e.is (IfOk-weaker c.in_output.result (λ s. (told : Operators) (name : List ℕ) → s ≡ seen told name) (λ s. s ≡ seen (g.O.Tells.tells c.args.ops.now) e.stream) (λ s h. h (g.O.Tells.tells c.args.ops.now) e.stream) c.in_output.ensures)
