-- What a store's answers mean.
use Rattle.std.specs.Prelude.{◌≡◌, ◌≢◌, ℕ, ◌≤◌, Bool, true, false, List, [], Option, Some, None}
use Rattle.std.specs.FinMap as map
use Rattle.scope_outside.specs.State.{StoreState, Files, Rose, OnFiles}
use Rattle.scope_outside.specs.declared.answer.ReadAnswer.{ReadAnswer}
use Rattle.scope_outside.specs.declared.answer.ReadAnswer.TheVariants as read
use Rattle.scope_outside.specs.declared.answer.WriteAnswer.{WriteAnswer}
use Rattle.scope_outside.specs.declared.answer.WriteAnswer.TheVariants as write

-- the call failed at the name
pub record IsFault (name : List ℕ) (wrote : Bool) (old new : StoreState) : Type 0 where
  pub rose : Rose old.faults new.faults
  pub never_falls : old.faults ≤ new.faults
  pub misses : new.misses ≡ old.misses
  pub last : new.last ≡ Some (name, wrote)

-- the call found no file of the name
pub record IsMiss (name : List ℕ) (old new : StoreState) : Type 0 where
  pub rose : Rose old.misses new.misses
  pub never_falls : old.misses ≤ new.misses
  pub faults : new.faults ≡ old.faults
  pub last : new.last ≡ Some (name, false)

-- a read appended `more`, and answered
abbrev pub AfterRead : ReadAnswer → List ℕ → List ℕ → StoreState → StoreState → Type 0
AfterRead read.Done name more old new = (new ≡ old) × OnFiles old (λ m. map.get m name ≡ Some more)
AfterRead read.Missing name more old new = IsMiss name old new × (new.files ≡ old.files) × OnFiles old (λ m. map.get m name ≡ None)
AfterRead read.Failed name more old new = IsFault name false old new × (new.files ≡ old.files) × OnFiles old (λ m. map.get m name ≢ None)
AfterRead read.NoMemory name more old new = (new ≡ old) × (more ≡ [])

-- the files are told as they were, but for what stands under the name
abbrev pub IsOpenAt : List ℕ → Option Files → Option Files → Type 0
IsOpenAt name None None = Unit {0}
IsOpenAt name (Some m) (Some n) = (q : List ℕ) → q ≢ name → map.get n q ≡ map.get m q
IsOpenAt name m n = ⊥

-- with the bytes under the name, where the files are told
abbrev pub with_file : Option Files → List ℕ → List ℕ → Option Files
with_file None name bytes = None
with_file (Some m) name bytes = Some (map.insert m name bytes)

-- a write answered
abbrev pub AfterWrite : WriteAnswer → List ℕ → List ℕ → StoreState → StoreState → Type 0
AfterWrite write.Done name bytes old new = new ≡ record old { files = with_file old.files name bytes }
AfterWrite write.Failed name bytes old new = IsFault name true old new × IsOpenAt name old.files new.files
AfterWrite write.NoMemory name bytes old new = new ≡ old
