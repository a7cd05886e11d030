-- The part of what a store tells that its failures make.
use Rattle.std.specs.Prelude.{Option}
use Rattle.std.specs.Option.{option_map}
use Rattle.scope_outside.specs.State.{StoreState, Files}
use Rattle.scope_outside.specs.declared.trouble.Trouble.{Trouble}

-- what a store tells that has these files and these failures
abbrev pub state_of : Option Files → Trouble → StoreState
state_of files t = record { files = files; faults = t.faults; misses = t.misses; last = option_map (λ l. (l.name, l.wrote)) t.latest }
