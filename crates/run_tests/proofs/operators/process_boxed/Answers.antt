use Rattle.std.proofs.Common.{◌≡◌, ◌++◌, ◌∙◌, List, ap, subst}
use Rattle.scope_value.specs.declared.value.Value.{Value}
use Rattle.run_tests.proofs.operators.process_boxed.Goals as goal

-- the object in the box is the one that is lent
pub returns : goal.returns
returns g c =
    subst (λ op. c.process.new.out.items ≡ ((goal.Processor-dyn g op).told_processor op.1).processes c.args.args.now c.args.row.now)
    c.deref_box-1.ensures.1
    (c.in_ok-process.ensures.0 ∙ ap (λ (rows : List (List Value)). rows ++ ((goal.Processor-dyn g c.deref_box-1.result.now).told_processor c.deref_box-1.result.now.1).processes c.args.args.now c.args.row.now) c.new-given.ensures.items)
