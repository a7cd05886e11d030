use Rattle.std.proofs.Common.{None}
use Rattle.scope_outside.proofs.file_store.FileStore.new.Goals as goal

pub returns : goal.returns
returns g c = c.new.ensures None
