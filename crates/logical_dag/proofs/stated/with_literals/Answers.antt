use Rattle.std.proofs.Common.{◌≡◌, ◌<◌, ◌≤◌, ℕ, true, arith, length, refl, rules, Some, slice_get}
use Rattle.std.specs.Prelude.{IsSomeAnd}
use Rattle.logical_dag.specs.Facts.{is_literal}
use Rattle.list_lemmas.specs.Reading.{read_some}
use Rattle.logical_dag.proofs.OneBelow.{constants_first, constants_done}
use Rattle.logical_dag.proofs.LiteralFacts.{IsLiteralAt, literal_step, literals_there, literals_back}
use Rattle.logical_dag.proofs.stated.with_literals.Goals as goal

pub loop-i-init : goal.loop-i-init
loop-i-init c = record { rest = refl; constants = constants_first c.args.into (IsLiteralAt c.args.items.now c.args.cols) }

pub loop-i-preserved : goal.loop-i-preserved
loop-i-preserved c =
    let within : c.loop-i.i < length c.args.items.now = omega arith in
    record {
      rest = search rules;
      constants = literal_step c.args.into c.loop-i.all c.with_literal-all.result c.args.items.now c.args.cols c.loop-i.i c.index-items-i.result c.column_at.result
          (read_some c.args.items.now c.loop-i.i c.index-items-i.result within c.index-items-i.is) c.column_at.ensures c.with_literal-all.ensures.constants c.loop-i.invariant.constants;
    }

pub returns-clause-constants : goal.returns-clause-constants
returns-clause-constants c =
    let end : length c.args.items.now ≤ c.loop-i.i = omega arith in
    constants_done c.args.into (IsLiteralAt c.args.items.now c.args.cols) c.loop-i.all c.loop-i.i
    (λ d. (i : ℕ) × (slice_get c.args.cols i ≡ Some d) × IsSomeAnd (slice_get c.args.items.now i) (λ e. is_literal e ≡ true)) c.loop-i.invariant.constants
    (literals_there c.args.items.now c.args.cols c.loop-i.i) (λ d. literals_back c.args.items.now c.args.cols c.loop-i.i d end)
