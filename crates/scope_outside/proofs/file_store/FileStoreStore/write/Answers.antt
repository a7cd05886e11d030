use Rattle.std.proofs.Common.{None}
use Rattle.scope_outside.proofs.file_store.FileStoreStore.write.Goals as goal

pub returns-in-Failed-clause-told : goal.returns-in-Failed-clause-told
returns-in-Failed-clause-told g c = rw (c.in-Failed.is, ← c.in-Ok.ensures) (c.note_fault.ensures None, tt)
