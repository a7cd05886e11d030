use Rattle.std.proofs.Common.{◌≡◌, length, refl, arith, rules}
use Rattle.logical_dag.specs.Known.{name_of}
use Rattle.logical_dag.proofs.Carrying.{named_low, equalities_init, equalities_step, equalities_end}
use Rattle.logical_dag.proofs.carried.with_equalities.Goals as goal

pub loop-b-init : goal.loop-b-init
loop-b-init c = record { rest = refl; classes = equalities_init c.args.from.now (name_of c.args.names.now) c.args.into c.requires.naming c.requires.own }

pub loop-b-preserved : goal.loop-b-preserved
loop-b-preserved c = record {
  rest = search rules;
  classes = equalities_step c.args.from.now (name_of c.args.names.now) c.args.into c.requires.naming c.loop-b.b c.loop-b.all c.loop-b.invariant.classes c.with_equal_of-all.result c.with_equal_of-all.ensures.equal;
}

pub returns-clause-classes : goal.returns-clause-classes
returns-clause-classes c =
    let places : length c.args.names.now.of ≡ 128 = search rules in
    equalities_end c.args.from.now (name_of c.args.names.now) c.args.into c.requires.naming c.loop-b.b c.loop-b.all
    (λ b d e. let low = named_low c.args.names.now b d places e in omega arith) c.loop-b.invariant.classes
