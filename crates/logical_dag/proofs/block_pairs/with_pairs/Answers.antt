-- Each step sets one more pair equal.
use Rattle.std.proofs.Common.{ap, sym, subst, List, ℕ, take, rules}
use Rattle.std.proofs.lemmas.List.{take_more, take_all}
use Rattle.logical_dag.specs.Known.{AreClasses}
use Rattle.logical_dag.proofs.PairFacts.{EqualOrInside, no_pairs, pairs_both, rest_kept}
use Rattle.logical_dag.proofs.block_pairs.with_pairs.Goals as goal

pub loop-a-init : goal.loop-a-init
loop-a-init c = record { rest = search rules; classes = no_pairs c.args.facts c.requires.own }

pub loop-a-preserved : goal.loop-a-preserved
loop-a-preserved c =
    let f = c.args.facts in
    let g = c.loop-a.all in
    let h = c.with_pair-all.result in
    let before = c.loop-a.invariant in
    record {
      rest = rest_kept f g h before.rest c.with_pair-all.ensures.rest;
      classes = subst (λ (xs : List (ℕ × ℕ)). AreClasses h (EqualOrInside f xs)) (sym (take_more c.args.pairs.now c.loop-a.a-index (0, 0) c.loop-a-test.true))
          (pairs_both f g h (take c.loop-a.a-index c.args.pairs.now) _ (ap (λ k. k.columns) before.rest) before.classes c.with_pair-all.ensures.classes);
    }

pub returns-clause-classes : goal.returns-clause-classes
returns-clause-classes c = subst (λ (xs : List (ℕ × ℕ)). AreClasses c.loop-a.all (EqualOrInside c.args.facts xs)) (take_all c.loop-a.a-index c.args.pairs.now c.loop-a-test.false) c.loop-a.invariant.classes
