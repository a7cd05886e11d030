use Rattle.std.proofs.Common.{◌<◌, ◌≤◌, arith, length, refl, rules, slice_index_or}
use Rattle.list_lemmas.specs.Reading.{read_again}
use Rattle.logical_dag.proofs.PairsBelow.{pairs_first, pairs_step, pairs_done}
use Rattle.logical_dag.proofs.stated.with_pairs.Goals as goal

pub loop-pair-init : goal.loop-pair-init
loop-pair-init c = record { rest = refl; classes = pairs_first c.args.into c.args.on.now c.requires.own }

pub loop-pair-preserved : goal.loop-pair-preserved
loop-pair-preserved c =
    let within : c.loop-pair.pair-index < length c.args.on.now = omega arith in
    let pair = slice_index_or c.args.on.now c.loop-pair.pair-index (0, 0) in
    record {
      rest = search rules;
      classes = pairs_step c.args.into c.args.on.now c.requires.own c.loop-pair.all c.with_equal-all.result c.loop-pair.pair-index pair.0 pair.1 within
          (read_again c.args.on.now c.loop-pair.pair-index pair (0, 0) within) c.requires.below c.with_equal-all.ensures.equal c.loop-pair.invariant.classes;
    }

pub returns-clause-classes : goal.returns-clause-classes
returns-clause-classes c =
    let end : length c.args.on.now ≤ c.loop-pair.pair-index = omega arith in
    pairs_done c.args.into c.args.on.now c.requires.own c.loop-pair.all c.loop-pair.pair-index end c.loop-pair.invariant.classes
