-- A script that binds is within the limits of the language.
use Rattle.std.proofs.Common.{sym, subst}
use Rattle.scope_expr.specs.Laws.{IsOneInSight}
use Rattle.script_meaning.specs.Within.{IsWithin}
use Rattle.resolution_laws.specs.LimitLaws.{GivesWithin}
use Rattle.resolution_laws.proofs.Causeless.{causeless}
use Rattle.resolution_laws.proofs.Distinct.{distinct_in_sight}
use Rattle.resolution_laws.proofs.Limits.{all_few}

pub within : IsOneInSight → GivesWithin
within one ops script statements fixed right h =
    let b = causeless ops script statements h in
    subst IsWithin (sym b.resolved) (all_few one ops script.statements right (distinct_in_sight ops script statements fixed h) b.causeless)
