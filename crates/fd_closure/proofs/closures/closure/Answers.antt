use Rattle.std.proofs.Common.{◌≡◌, ◌∙◌, sym, ap, arith, true, rules}
use Rattle.col_sets.specs.Sets.{within}
use Rattle.fd_closure.specs.Closure.{grown, closure_of}
use Rattle.fd_closure.proofs.Passes.{stops, at_last, grow_last, least_of}
use Rattle.fd_closure.proofs.closures.closure.Goals as goal

pub returns-then-within : goal.returns-then-within
returns-then-within c =
    let h : within c.pass-next.result c.loop.set ≡ true = search rules in
    let e : c.loop.set ≡ closure_of c.args.facts.now c.args.from = stops c.args.facts.now c.loop.counter c.args.from c.loop.set (omega arith) (omega arith) c.loop.invariant (rw c.pass-next.ensures at h) in
    record { least = least_of c.args.facts.now c.args.from c.loop.set e; value = e }

pub loop-preserved : goal.loop-preserved
loop-preserved c = c.pass-next.ensures ∙ ap (grown c.args.facts.now) c.loop.invariant ∙ sym (grow_last c.args.facts.now c.loop.counter c.args.from)

pub returns : goal.returns
returns c =
    let e : c.loop.set ≡ closure_of c.args.facts.now c.args.from = at_last c.args.facts.now c.loop.counter c.args.from c.loop.set c.loop.invariant (omega arith) in
    record { least = least_of c.args.facts.now c.args.from c.loop.set e; value = e }
