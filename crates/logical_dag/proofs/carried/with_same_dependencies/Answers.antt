use Rattle.std.proofs.Common.{arith, refl, rules}
use Rattle.logical_dag.proofs.Carrying.{same_first, same_free, same_step, same_end}
use Rattle.logical_dag.proofs.carried.with_same_dependencies.Goals as goal

pub loop-b-init : goal.loop-b-init
loop-b-init c = record { rest = refl; dependencies = same_first c.args.from.now c.args.into c.requires }

pub with_same_dependency-all-requires-clause-free : goal.with_same_dependency-all-requires-clause-free
with_same_dependency-all-requires-clause-free c = same_free c.args.from.now c.args.into c.requires c.loop-b.b c.loop-b.all (omega arith) c.loop-b.invariant.dependencies

pub loop-b-preserved : goal.loop-b-preserved
loop-b-preserved c = record {
  rest = search rules;
  dependencies = same_step c.args.from.now c.args.into c.requires c.loop-b.b c.loop-b.all c.with_same_dependency-all.result c.loop-b.invariant.dependencies c.with_same_dependency-all.ensures.dependencies;
}

pub returns-clause-dependencies : goal.returns-clause-dependencies
returns-clause-dependencies c = same_end c.args.from.now c.args.into c.requires c.loop-b.b c.loop-b.all (omega arith) c.loop-b.invariant.dependencies
