use Rattle.std.proofs.Common.{None, refl}
use Rattle.scope_outside.proofs.file_store.FileStoreStore.read.Goals as goal

pub returns-in-Missing-clause-told : goal.returns-in-Missing-clause-told
returns-in-Missing-clause-told g c =
    let front = c.read_file-answer.ensures.appends in
    (front.0, front.1, rw (c.in-Missing.is, ← c.in-Ok.ensures) (c.note_miss.ensures None, refl, tt))

pub returns-in-Failed-clause-told : goal.returns-in-Failed-clause-told
returns-in-Failed-clause-told g c =
    let front = c.read_file-answer.ensures.appends in
    (front.0, front.1, rw (c.in-Failed.is, ← c.in-Ok.ensures) (c.note_fault.ensures None, refl, tt))
