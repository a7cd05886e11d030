-- What the store of files tells.
use Rattle.std.specs.Prelude.{None}
use Rattle.scope_outside.specs.State.{StoreState}
use Rattle.scope_outside.specs.Trouble.{state_of}
use Rattle.scope_outside.specs.declared.file_store.FileStore.{FileStore}

module _ {R : Type 0} where
  -- its counts and its latest trouble, and no file
  abbrev pub file_told : FileStore R → StoreState
  file_told s = state_of None s.trouble
