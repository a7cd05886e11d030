use Rattle.std.proofs.Common.{Some, refl}
use Rattle.scope_outside.proofs.mem_store.MemStoreStore.write.Goals as goal

pub returns-then-contains-clause-told : goal.returns-then-contains-clause-told
returns-then-contains-clause-told c = (
  rw (← c.in-Ok.ensures) (c.note_fault.ensures (Some c.args.self.now.files)),
  λ q other. refl,
)
