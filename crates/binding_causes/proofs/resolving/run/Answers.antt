use Rattle.std.proofs.Common.{◌≡◌, ◌+◌, [], ◌∷◌, ◌++◌, List, Some, None, Err, length, take, sym, ap, ◌∙◌, arith}
use Rattle.std.proofs.lemmas.List.{take_more, length-take}
use Rattle.script_trees.specs.declared.script.Statement.{Statement}
use Rattle.user_ops.specs.Told.{Operators}
use Rattle.binding_causes.specs.Progress.{place_of}
use Rattle.binding_causes.specs.Resolution.{Place, first_cause}
use Rattle.binding_causes.proofs.JudgingLemmas.{resolved_more, resolved_stop}
use Rattle.binding_causes.proofs.resolving.run.Goals as goal

pub returns-in-Some : goal.returns-in-Some
returns-in-Some g c =
    let told : Operators = g.O.Tells.tells c.args.ops.now in
    let at = c.loop-at.at in
    let statements = c.args.statements.now in
    let s = c.index-statements-at.result in
    let p : Place = place_of c.args.all.now (take at statements) c.loop-at.progress in
    let some : first_cause told p s ≡ Some c.in-Some.cause = sym c.in_ok-cause.ensures.cause ∙ c.in-Some.is in
    let count : length (take at statements) ≡ at = omega (arith, length-take at statements) in
    ap Err c.in_ok-fault_at.ensures
    ∙ sym (resolved_stop told p c.loop-at.progress.done statements at s c.in-Some.cause (omega arith) c.index-statements-at.is some count)
    ∙ c.loop-at.invariant

pub loop-at-preserved : goal.loop-at-preserved
loop-at-preserved g c =
    let told : Operators = g.O.Tells.tells c.args.ops.now in
    let at = c.loop-at.at in
    let statements = c.args.statements.now in
    let s = c.index-statements-at.result in
    let p : Place = place_of c.args.all.now (take at statements) c.loop-at.progress in
    let none : first_cause told p s ≡ None = sym c.in_ok-cause.ensures.cause ∙ c.in_default.is in
    let more : take (at + 1) statements ≡ take at statements ++ s ∷ [] = take_more statements at s (omega arith) ∙ ap (λ (d : Statement). take at statements ++ d ∷ []) (sym c.index-statements-at.is) in
    resolved_more told p (place_of c.args.all.now (take (at + 1) statements) c.step.new.self) c.loop-at.progress.done c.step.new.self.done statements at s (omega arith) c.index-statements-at.is none
    (ap (λ (earlier : List Statement). place_of c.args.all.now earlier c.step.new.self) more ∙ c.in_ok-cause.ensures.next c.in_default.is) (c.in_ok-cause.ensures.done c.in_default.is)
    ∙ c.loop-at.invariant
