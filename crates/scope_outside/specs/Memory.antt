-- What the stores in memory hold and tell.
use Rattle.std.specs.Prelude.{ℕ, ◌+◌, ◌-◌, ◌^◌, min, List, [], Some}
use Rattle.std.specs.FinMap as map
use Rattle.scope_outside.specs.State.{StoreState, untroubled}
use Rattle.scope_outside.specs.Trouble.{state_of}
use Rattle.scope_outside.specs.declared.mem_store.MemStore.{MemStore}

-- what a store in memory tells, the numbers of its reads and writes that are to fail, counted from 1, and how many of each were made
pub record MemState : Type 0 where
  pub told : StoreState
  pub failing_reads : List ℕ
  pub failing_writes : List ℕ
  pub reads : ℕ
  pub writes : ℕ

-- all of a store in memory
abbrev pub mem_state : MemStore → MemState
mem_state s = record { told = state_of (Some s.files) s.trouble; failing_reads = s.failing_reads.items; failing_writes = s.failing_writes.items; reads = s.reads; writes = s.writes }

-- what a store in memory tells
abbrev pub mem_told : MemStore → StoreState
mem_told s = (mem_state s).told

-- a store in memory that holds nothing and has no call that is to fail
abbrev pub new_memory : MemState
new_memory = record { told = untroubled (Some map.empty); failing_reads = []; failing_writes = []; reads = 0; writes = 0 }

-- the number of the next call, where it has one
abbrev pub next_call : ℕ → ℕ
next_call made = min (made + 1) (2 ^ 64 - 1)
