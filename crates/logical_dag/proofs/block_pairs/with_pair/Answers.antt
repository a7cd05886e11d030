-- Whether the pair lies inside is what the tests on the columns say.
use Rattle.std.proofs.Common.{◌≡◌, true}
use Rattle.col_sets.specs.Sets.{has}
use Rattle.col_sets.specs.Columns.{has_below}
use Rattle.logical_dag.proofs.PairFacts.{pair_inside, pair_outside}
use Rattle.logical_dag.proofs.block_pairs.with_pair.Goals as goal
use Rattle.logical_dag.proofs.block_pairs.with_pair.Goals.{else-has-via-then-has+else-has-2, else-has-via-else-has}

pub returns-then-has-2-clause-classes : goal.returns-then-has-2-clause-classes
returns-then-has-2-clause-classes c =
    let f = c.args.facts in
    let here : has f.columns c.args.a ≡ true = cc in
    let there : has f.columns c.args.b ≡ true = cc in
    pair_inside f c.with_equal.result c.args.a c.args.b c.requires.own (has_below f.columns c.requires.set c.args.a here) (has_below f.columns c.requires.set c.args.b there) here there c.with_equal.ensures.equal

pub returns-else-has-clause-classes : goal.returns-else-has-clause-classes
returns-else-has-clause-classes c =
    pair_outside c.args.facts c.args.a c.args.b c.requires.own (λ h. elim c.else-has.branch [
      | else-has-via-then-has+else-has-2 w ↦ absurd (let there : has c.args.facts.columns c.args.b ≡ true = h.1 in cc)
      | else-has-via-else-has w ↦ absurd (let here : has c.args.facts.columns c.args.a ≡ true = h.0 in cc)
    ])
