use Rattle.std.proofs.Common.{refl}
use Rattle.logical_dag.specs.Facts.{IsColumnAndLiteral, AreColumns, SetsConstant, SetsEqual}
use Rattle.logical_dag.proofs.Constants.{constants_kept}
use Rattle.logical_dag.proofs.Classes.{classes_kept}
use Rattle.logical_dag.proofs.Conjuncts.{not_pair, other_pair, conjuncts_constants, conjuncts_classes, equation_constants, equation_classes}
use Rattle.logical_dag.proofs.stated.+with_conjuncts.Goals as goal

pub returns-in_default : goal.returns-in_default
returns-in_default t c = record {
  rest = refl;
  constants = constants_kept c.args.facts.now (SetsConstant c.args.e.now) (λ d. not_pair (IsColumnAndLiteral d) c.args.e.now c.in_default.not-Pair);
  classes = λ own below. classes_kept c.args.facts.now (SetsEqual c.args.e.now) own (λ d i. not_pair (AreColumns d i) c.args.e.now c.in_default.not-Pair);
}

pub returns-in_default-op : goal.returns-in_default-op
returns-in_default-op t c = rw c.in-Pair.is (record {
  rest = refl;
  constants = constants_kept c.args.facts.now _ (λ d. other_pair (IsColumnAndLiteral d) c.in-Pair.op c.in-Pair.a c.in-Pair.b c.in_default-op.not-And c.in_default-op.not-Eq);
  classes = λ own below. classes_kept c.args.facts.now _ own (λ d i. other_pair (AreColumns d i) c.in-Pair.op c.in-Pair.a c.in-Pair.b c.in_default-op.not-And c.in_default-op.not-Eq);
})

pub returns-in-And-clause-constants : goal.returns-in-And-clause-constants
returns-in-And-clause-constants t c =
    conjuncts_constants c.args.e.now c.in-Pair.op c.in-Pair.a c.in-Pair.b c.get.result.now c.get-in-And.result.now c.in-Pair.is c.get.ensures c.get-in-And.ensures c.in-And.is
    c.args.facts.now c.with_conjuncts.new.facts c.with_conjuncts-in-And.new.facts c.with_conjuncts.ensures.constants c.with_conjuncts-in-And.ensures.constants

pub returns-in-And-clause-classes : goal.returns-in-And-clause-classes
returns-in-And-clause-classes t c = λ own below.
    conjuncts_classes c.args.e.now c.in-Pair.op c.in-Pair.a c.in-Pair.b c.get.result.now c.get-in-And.result.now c.in-Pair.is c.get.ensures c.get-in-And.ensures c.in-And.is
    c.args.facts.now c.with_conjuncts.new.facts c.with_conjuncts-in-And.new.facts (c.with_conjuncts.ensures.classes own) c.with_conjuncts-in-And.ensures.classes below

pub returns-in-Eq-clause-constants : goal.returns-in-Eq-clause-constants
returns-in-Eq-clause-constants t c =
    equation_constants c.args.e.now c.in-Pair.op c.in-Pair.a c.in-Pair.b c.get-in-Eq.result.now c.get-in-Eq-2.result.now c.in-Pair.is c.get-in-Eq.ensures c.get-in-Eq-2.ensures c.in-Eq.is
    c.args.facts.now c.with_equation.new.facts c.with_equation.ensures.constants

pub returns-in-Eq-clause-classes : goal.returns-in-Eq-clause-classes
returns-in-Eq-clause-classes t c = λ own below.
    equation_classes c.args.e.now c.in-Pair.op c.in-Pair.a c.in-Pair.b c.get-in-Eq.result.now c.get-in-Eq-2.result.now c.in-Pair.is c.get-in-Eq.ensures c.get-in-Eq-2.ensures c.in-Eq.is
    c.args.facts.now c.with_equation.new.facts (c.with_equation.ensures.classes own) below
