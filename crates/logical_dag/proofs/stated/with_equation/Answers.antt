use Rattle.std.proofs.Common.{◌∙◌, refl, sym, ap, inl, inr}
use Rattle.fd_closure.specs.declared.facts.Facts.{Facts}
use Rattle.logical_dag.specs.Facts.{IsColumnAndLiteral, AreColumns}
use Rattle.logical_dag.proofs.Constants.{constants_kept}
use Rattle.logical_dag.proofs.Classes.{classes_kept}
use Rattle.logical_dag.proofs.Conjuncts.{no_constant, no_equal, equation_equal, equation_constant, equation_turned, literal_classes}
use Rattle.logical_dag.proofs.stated.with_equation.Goals as goal

pub returns-in-Col-b-clause-classes : goal.returns-in-Col-b-clause-classes
returns-in-Col-b-clause-classes c own below =
    equation_equal c.args.facts.now c.with_equal.result c.args.a.now c.args.b.now c.in-Col.c c.in-Col-b.d c.in-Col.field-1 c.in-Col-b.field-1 c.in-Col.is c.in-Col-b.is own below c.with_equal.ensures.equal

pub returns-in-Literal-b-clause-constants : goal.returns-in-Literal-b-clause-constants
returns-in-Literal-b-clause-constants c =
    equation_constant c.args.facts.now c.with_constant.result c.args.a.now c.args.b.now c.in-Col.c c.in-Col.field-1 c.in-Literal-b.field-0 c.in-Col.is c.in-Literal-b.is
    (ap (λ (f : Facts). f.constants) c.with_constant.ensures.value)

pub returns-in-Literal-b-clause-classes : goal.returns-in-Literal-b-clause-classes
returns-in-Literal-b-clause-classes c own below =
    literal_classes c.args.facts.now c.with_constant.result c.args.a.now c.args.b.now c.in-Literal-b.field-0 (inr c.in-Literal-b.is) own (ap (λ (f : Facts). f.class) c.with_constant.ensures.value)

pub returns-in_default-b : goal.returns-in_default-b
returns-in_default-b c = record {
  rest = refl;
  constants =
      constants_kept c.args.facts.now (λ d. IsColumnAndLiteral d c.args.a.now c.args.b.now)
      (λ d. no_constant d c.args.a.now c.args.b.now (λ i k v e f. c.in_default-b.not-Literal v f) (λ i k v e f. c.in_default-b.not-Col i k f));
  classes = λ own below.
      classes_kept c.args.facts.now (λ d e. AreColumns d e c.args.a.now c.args.b.now) own
      (λ d e. no_equal d e c.args.a.now c.args.b.now (λ i j k l f g. c.in_default-b.not-Col k l g));
}

pub returns-in-Col-b-2-clause-constants : goal.returns-in-Col-b-2-clause-constants
returns-in-Col-b-2-clause-constants c =
    equation_turned c.args.facts.now c.with_constant-in-Col-b-2.result c.args.a.now c.args.b.now c.in-Col-b-2.d c.in-Col-b-2.field-1 c.in-Literal.field-0 c.in-Literal.is c.in-Col-b-2.is
    (ap (λ (f : Facts). f.constants) c.with_constant-in-Col-b-2.ensures.value)

pub returns-in-Col-b-2-clause-classes : goal.returns-in-Col-b-2-clause-classes
returns-in-Col-b-2-clause-classes c own below =
    literal_classes c.args.facts.now c.with_constant-in-Col-b-2.result c.args.a.now c.args.b.now c.in-Literal.field-0 (inl c.in-Literal.is) own (ap (λ (f : Facts). f.class) c.with_constant-in-Col-b-2.ensures.value)

pub returns-in_default-b-2 : goal.returns-in_default-b-2
returns-in_default-b-2 c = record {
  rest = refl;
  constants =
      constants_kept c.args.facts.now (λ d. IsColumnAndLiteral d c.args.a.now c.args.b.now)
      (λ d. no_constant d c.args.a.now c.args.b.now (λ i k v e f. absurd (let g = sym c.in-Literal.is ∙ e in cc)) (λ i k v e f. c.in_default-b-2.not-Col i k f));
  classes = λ own below.
      classes_kept c.args.facts.now (λ d e. AreColumns d e c.args.a.now c.args.b.now) own
      (λ d e. no_equal d e c.args.a.now c.args.b.now (λ i j k l f g. c.in_default-b-2.not-Col k l g));
}

pub returns-in_default : goal.returns-in_default
returns-in_default c = record {
  rest = refl;
  constants =
      constants_kept c.args.facts.now (λ d. IsColumnAndLiteral d c.args.a.now c.args.b.now)
      (λ d. no_constant d c.args.a.now c.args.b.now (λ i k v e f. c.in_default.not-Col i k e) (λ i k v e f. c.in_default.not-Literal v e));
  classes = λ own below.
      classes_kept c.args.facts.now (λ d e. AreColumns d e c.args.a.now c.args.b.now) own
      (λ d e. no_equal d e c.args.a.now c.args.b.now (λ i j k l f g. c.in_default.not-Col i j f));
}
