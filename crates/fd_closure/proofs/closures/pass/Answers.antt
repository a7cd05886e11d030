use Rattle.std.proofs.Common.{◌≡◌, ◌∙◌, ap, arith, ℕ, true, false, rules}
use Rattle.col_sets.specs.Sets.{columns_where}
use Rattle.fd_closure.specs.Closure.{forces}
use Rattle.fd_closure.proofs.Passes.{pass_start, pass_put, pass_skip, pass_end, up_to}
use Rattle.fd_closure.proofs.closures.pass.Goals as goal
use Rattle.fd_closure.proofs.closures.pass.Goals.{then-forced, else-forced}

pub loop-c-init : goal.loop-c-init
loop-c-init c = pass_start c.args.facts.now c.args.set c.union-next.result (rw c.empty.ensures at c.union-next.ensures)

pub loop-c-preserved : goal.loop-c-preserved
loop-c-preserved c =
    elim c.if-forced.branch [
      | then-forced w ↦
          let e : forces c.args.facts.now c.args.set c.loop-c.c ≡ true = search rules in
          w.next-is ∙ rw c.loop-c.invariant at w.with-next.ensures ∙ pass_put c.args.facts.now c.args.set c.loop-c.c c.loop-c-test.true e
      | else-forced w ↦
          let e : forces c.args.facts.now c.args.set c.loop-c.c ≡ false = search rules in
          w.next-is ∙ c.loop-c.invariant ∙ pass_skip c.args.facts.now c.args.set c.loop-c.c e
    ]

pub returns : goal.returns
returns c =
    let e : c.loop-c.c ≡ 128 = omega arith in
    c.loop-c.invariant ∙ ap (λ (n : ℕ). columns_where (up_to c.args.facts.now c.args.set n)) e ∙ pass_end c.args.facts.now c.args.set
