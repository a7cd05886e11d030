-- The value that is lent.
use Rattle.scope_value.specs.declared.value.Value.{Value}
use Rattle.scope_value.specs.declared.value.Value.TheVariants as value
use Rattle.scope_value.specs.declared.value_ref.ValueRef.{ValueRef}
use Rattle.scope_value.specs.declared.value_ref.ValueRef.TheVariants as lent

-- the same value, wherever its bytes stand
abbrev pub held : ValueRef → Value
held lent.Null = value.Null
held (lent.Bool b) = value.Bool b
held (lent.Int n) = value.Int n
held (lent.Bytes bytes) = value.Bytes bytes.now
held (lent.Wide n) = value.Wide n
