-- Values that are lent or owned.
use Rattle.scope_value.specs.declared.value.Value.{Value}
use Rattle.scope_expr.specs.declared.held.Held.{Held}
use Rattle.scope_expr.specs.declared.held.Held.TheVariants.{Lent, Made}

-- the value, whoever owns it
abbrev pub seen : Held → Value
seen (Lent v) = v.now
seen (Made v) = v
