-- What each status of a call says of the store before it and after it.
use Rattle.std.specs.Prelude.{◌≡◌, ◌⊎◌, ℕ, List, [], ◌∷◌, ◌++◌, Option, Some, None, true, false}
use Rattle.scope_outside.specs.State.{StoreState, OnFiles}
use Rattle.scope_outside.specs.Answers.{IsFault, IsMiss, IsOpenAt}
use Rattle.scope_words.specs.Words.{Reading, reading_of}
use Rattle.user_ops.specs.Told.{Operators}
use Rattle.scope_streams.specs.Parts.{refuses}
use Rattle.scope_streams.specs.Ends.{with_files}
use Rattle.scope_app.specs.declared.status.Status.{Status}
use Rattle.scope_app.specs.declared.status.Status.TheVariants as status
use Rattle.scope_app.specs.Steps.{Given, IsNoText, LeavesAt, BindsNot, StoresStreams, SizesFail, EndsAt, Reads, Lacks, Writes}

-- a fact of what a script of this name, with this file of sizes, is given, where the files are told
abbrev pub OnScript : Operators → StoreState → List ℕ → Option (List ℕ) → (Given → Type 0) → Type 0
OnScript ops old script sizes P = OnFiles old (λ files. P (record { ops = ops; files = files; script = script; sizes = sizes }))

-- nothing happened to the store, and this is why the call ended
abbrev pub Stopped : Operators → StoreState → StoreState → List ℕ → Option (List ℕ) → (Given → Type 0) → Type 0
Stopped ops old new script sizes P = (new ≡ old) × OnScript ops old script sizes P

-- the texts are the first ones of those that are to be written
abbrev pub AreFirst : Given → List (List ℕ × List ℕ) → Type 0
AreFirst g front = (front ≡ []) ⊎ ((rest : List (List ℕ × List ℕ)) × Writes g (front ++ rest))

-- all that a status says of the store before the call of a script and after it
abbrev pub ScriptEnded : Operators → List ℕ → Option (List ℕ) → StoreState → StoreState → Status → Type 0
ScriptEnded ops script sizes old new status.Done =
    (texts : List (List ℕ × List ℕ)) × (new ≡ record old { files = with_files old.files texts }) × OnScript ops old script sizes (λ g. Writes g texts)
ScriptEnded ops script sizes old new status.NoMemory =
    (front : List (List ℕ × List ℕ)) × (new ≡ record old { files = with_files old.files front }) × OnScript ops old script sizes (λ g. AreFirst g front)
ScriptEnded ops script sizes old new (status.ReadFault name) =
    IsFault name false old new × (new.files ≡ old.files) × OnScript ops old script sizes (λ g. Reads g name)
ScriptEnded ops script sizes old new (status.NoStream name) =
    IsMiss name old new × (new.files ≡ old.files) × OnScript ops old script sizes (λ g. Lacks g name)
ScriptEnded ops script sizes old new status.NotText = Stopped ops old new script sizes IsNoText
ScriptEnded ops script sizes old new (status.ScriptFault place) = Stopped ops old new script sizes (λ g. LeavesAt g place)
ScriptEnded ops script sizes old new (status.BindFault fault) = Stopped ops old new script sizes (λ g. BindsNot g fault)
ScriptEnded ops script sizes old new (status.SizesFault fault) = Stopped ops old new script sizes (λ g. SizesFail g fault.at)
ScriptEnded ops script sizes old new (status.RowFault name part at) = Stopped ops old new script sizes (λ g. EndsAt g (refuses name part at))
ScriptEnded ops script sizes old new (status.WriteFault name) =
    (front : List (List ℕ × List ℕ)) × (text : List ℕ) × IsFault name true old new × IsOpenAt name (with_files old.files front) new.files
    × OnScript ops old script sizes (λ g. (rest : List (List ℕ × List ℕ)) × Writes g (front ++ (name, text) ∷ rest))
ScriptEnded ops script sizes old new status.NotBuilt = Stopped ops old new script sizes StoresStreams

-- words without a reading end the call at once
abbrev pub WordsEnded : StoreState → StoreState → Status → Type 0
WordsEnded old new status.NotBuilt = new ≡ old
WordsEnded old new status.NoMemory = new ≡ old
WordsEnded old new s = ⊥

abbrev pub ReadingEnded : Operators → StoreState → StoreState → Status → Option Reading → Type 0
ReadingEnded ops old new s None = WordsEnded old new s
ReadingEnded ops old new s (Some r) = ScriptEnded ops r.script r.sizes old new s

-- all that a status says of a call with these words
abbrev pub Ended : List (List ℕ) → Operators → StoreState → StoreState → Status → Type 0
Ended words ops old new s = ReadingEnded ops old new s (reading_of words)
