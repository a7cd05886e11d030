use Rattle.std.proofs.Common.{◌≡◌, ◌∙◌, true, false, rules, arith}
use Rattle.col_sets.specs.Sets.{has}
use Rattle.fd_closure.proofs.Passes.{met_start, met_put, met_skip, met_end}
use Rattle.fd_closure.proofs.closures.classes_of.Goals as goal
use Rattle.fd_closure.proofs.closures.classes_of.Goals.{then-has, else-has}

pub loop-c-init : goal.loop-c-init
loop-c-init c = c.empty-classes.ensures ∙ met_start c.args.facts.now c.args.set

pub loop-c-preserved : goal.loop-c-preserved
loop-c-preserved c =
    elim c.if-has.branch [
      | then-has w ↦
          let e : has c.args.set c.loop-c.c ≡ true = search rules in
          w.classes-is ∙ rw c.loop-c.invariant at w.with-classes.ensures ∙ met_put c.args.facts.now c.args.set c.loop-c.c e
      | else-has w ↦
          let e : has c.args.set c.loop-c.c ≡ false = search rules in
          w.classes-is ∙ c.loop-c.invariant ∙ met_skip c.args.facts.now c.args.set c.loop-c.c e
    ]

pub returns : goal.returns
returns c = c.loop-c.invariant ∙ met_end c.args.facts.now c.args.set c.loop-c.c (omega arith)
