use Rattle.std.proofs.Common.{List, ℕ, Some, ap, ap₂, ◌∙◌}
use Rattle.scope_outside.specs.State.{StoreState, Files, untroubled}
use Rattle.scope_outside.specs.Trouble.{state_of}
use Rattle.scope_outside.specs.Memory.{new_memory}
use Rattle.scope_outside.proofs.mem_store.MemStore.new.Goals as goal

pub returns : goal.returns
returns c =
    ap₂ (λ (xs ys : List ℕ). record new_memory { told = state_of (Some c.new.result) c.new-4.result; failing_reads = xs; failing_writes = ys }) c.new-2.ensures.items c.new-3.ensures.items
    ∙ ap (λ (t : StoreState). record new_memory { told = t }) (c.new-4.ensures (Some c.new.result) ∙ ap (λ (m : Files). untroubled (Some m)) c.new.ensures)
