-- What the store in memory that never fails tells.
use Rattle.std.specs.Prelude.{Some, false}
use Rattle.std.specs.Option.{option_map}
use Rattle.scope_outside.specs.State.{StoreState}
use Rattle.scope_outside.specs.declared.no_fail_store.NoFailStore.{NoFailStore}

-- its map, no fault, and its latest miss, which is a read
abbrev pub no_fail_told : NoFailStore → StoreState
no_fail_told s = record { files = Some s.files; faults = 0; misses = s.misses; last = option_map (λ name. (name, false)) s.latest_miss }
