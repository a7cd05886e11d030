use Rattle.std.proofs.Common.{◌≡◌, length, arith, rules}
use Rattle.logical_dag.specs.Known.{name_of}
use Rattle.logical_dag.proofs.Carrying.{named_low, dependencies_step, dependencies_end}
use Rattle.logical_dag.proofs.carried.with_dependencies.Goals as goal

pub loop-b-preserved : goal.loop-b-preserved
loop-b-preserved c = record {
  rest = search rules;
  dependencies =
      dependencies_step c.args.from.now (name_of c.args.names.now) c.args.into c.requires.naming c.loop-b.b c.loop-b.all c.with_dependency_of-all.result
      c.loop-b.invariant.dependencies c.with_dependency_of-all.ensures.dependencies;
}

pub returns-clause-dependencies : goal.returns-clause-dependencies
returns-clause-dependencies c =
    let places : length c.args.names.now.of ≡ 128 = search rules in
    dependencies_end c.args.from.now (name_of c.args.names.now) c.args.into c.requires.naming c.loop-b.b c.loop-b.all
    (λ b d e. let low = named_low c.args.names.now b d places e in omega arith) c.loop-b.invariant.dependencies
