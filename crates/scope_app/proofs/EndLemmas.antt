-- From what the stages of a call found to what its status says.
use Rattle.std.proofs.Common.{◌≡◌, ℕ, List, [], Option, Some, None, Result, Ok, Err, inl, inr, refl, subst}
use Rattle.std.specs.Prelude.{IfOk, IfErr, OnOk}
use Rattle.std.specs.FinMap as map
use Rattle.scope_outside.specs.State.{StoreState, OnFiles}
use Rattle.user_ops.specs.Told.{Operators}
use Rattle.row_codec.specs.Records.{records_of}
use Rattle.size_model.specs.declared.sizes.Sizes.{Sizes}
use Rattle.size_model.specs.Answers.{parts_of, stream_of, Reads as ReadsSizes}
use Rattle.scope_words.specs.Words.{Reading, reading_of}
use Rattle.logical_dag.specs.declared.dag.Dag.{Dag}
use Rattle.logical_trees.specs.Rows.{Bag}
use Rattle.scope_streams.specs.declared.stops.ReadStop.{ReadStop}
use Rattle.scope_streams.specs.declared.stops.ReadStop.TheVariants as read
use Rattle.scope_streams.specs.declared.stops.WriteStop.{WriteStop}
use Rattle.scope_streams.specs.declared.stops.WriteStop.TheVariants as write
use Rattle.scope_streams.specs.Ends.{FileEnds, ReadEnds, WriteEnds, AreScanned as AreRead, with_files}
use Rattle.scope_streams.proofs.TurnLemmas.{on_files, on_both, always}
use Rattle.scope_app.specs.declared.status.Status.{Status}
use Rattle.scope_app.specs.declared.status.Status.TheVariants as status
use Rattle.scope_app.specs.Steps.{Reads, Lacks, Writes}
use Rattle.scope_app.specs.Ends.{OnScript, ScriptEnded, ReadingEnded, Ended}
use Rattle.scope_app.specs.Shown.{IsDagOf}
use Rattle.scope_app.specs.Stages.{BindsText, EndsText, EndsSizes, AreShown, AreBuilt, AreSized, AreScanned, read_status, write_status}

-- ---- want of memory, where nothing happened

pub no_memory : (ops : Operators) (script : List ℕ) (sizes : Option (List ℕ)) (old new : StoreState) → new ≡ old → ScriptEnded ops script sizes old new status.NoMemory
no_memory ops script sizes old new same = ([], same, always old.files (λ m. inl refl))

pub no_memory_before : (ops : Operators) (old : StoreState) (o : Option Reading) → ReadingEnded ops old old status.NoMemory o
no_memory_before ops old None = refl
no_memory_before ops old (Some r) = no_memory ops r.script r.sizes old old refl

-- what was done before left the store as it was
pub ended_from : (ops : Operators) (script : List ℕ) (sizes : Option (List ℕ)) (old next new : StoreState) (s : Status) → next ≡ old → ScriptEnded ops script sizes next new s → ScriptEnded ops script sizes old new s
ended_from ops script sizes old next new s same h = rw (← same) h

-- ---- the script

-- its text was read, and binds to nothing
pub text_ended : (ops : Operators) (script : List ℕ) (sizes : Option (List ℕ)) (old new : StoreState) (text : List ℕ) (s : Status) → new ≡ old
    → OnFiles old (λ files. map.get files script ≡ Some text) → EndsText ops text s → ScriptEnded ops script sizes old new s
text_ended ops script sizes old new text status.NoMemory same there h = no_memory ops script sizes old new same
text_ended ops script sizes old new text status.NotText same there h = (same, on_files old.files (λ m has. (text, has, h)) there)
text_ended ops script sizes old new text (status.ScriptFault place) same there h = (same, on_files old.files (λ m has. (text, has, h)) there)
text_ended ops script sizes old new text (status.BindFault fault) same there h =
    (same, on_files old.files (λ m has. (h.0, record { text = text; has = has; spells = h.1 }, h.2)) there)
text_ended ops script sizes old new text status.Done same there h = absurd h
text_ended ops script sizes old new text (status.ReadFault name) same there h = absurd h
text_ended ops script sizes old new text (status.NoStream name) same there h = absurd h
text_ended ops script sizes old new text (status.SizesFault fault) same there h = absurd h
text_ended ops script sizes old new text (status.RowFault name part at) same there h = absurd h
text_ended ops script sizes old new text (status.WriteFault name) same there h = absurd h
text_ended ops script sizes old new text status.NotBuilt same there h = absurd h

-- or to a Dag
pub text_bound : (ops : Operators) (script : List ℕ) (sizes : Option (List ℕ)) (old new : StoreState) (text : List ℕ) (dag : Dag) → new ≡ old
    → OnFiles old (λ files. map.get files script ≡ Some text) → BindsText ops text dag → IsDagOf ops script sizes old new dag
text_bound ops script sizes old new text dag same there h = record {
  same = same;
  binds = on_files old.files (λ m has.
      (h.statements, record { script = h.script; has = record { text = text; has = has; spells = h.spells }; resolved = h.resolved }, h.shows)) there;
}

-- so of a Dag, or how the call ends
module _ (ops : Operators) (script : List ℕ) (old new : StoreState) (text : List ℕ) (same : new ≡ old) (there : OnFiles old (λ files. map.get files script ≡ Some text)) where
  pub dag_found : (r : Result Dag Status) → IfOk r (BindsText ops text) → IfOk r (λ dag. (sizes : Option (List ℕ)) → IsDagOf ops script sizes old new dag)
  dag_found (Ok dag) h = λ sizes. text_bound ops script sizes old new text dag same there h
  dag_found (Err s) h = tt

  pub dag_missed : (r : Result Dag Status) → IfErr r (EndsText ops text) → IfErr r (λ s. (sizes : Option (List ℕ)) → ScriptEnded ops script sizes old new s)
  dag_missed (Ok dag) h = tt
  dag_missed (Err s) h = λ sizes. text_ended ops script sizes old new text s same there h

-- whatever is said of sizes, and so where nothing is
pub of_any : (ops : Operators) (script : List ℕ) (old new : StoreState) (r : Result Dag Status) → IfOk r (λ dag. (sizes : Option (List ℕ)) → IsDagOf ops script sizes old new dag)
    → IfOk r (IsDagOf ops script None old new)
of_any ops script old new (Ok dag) h = h None
of_any ops script old new (Err s) h = tt

pub ends_of_any : (ops : Operators) (script : List ℕ) (old new : StoreState) (r : Result Dag Status) → IfErr r (λ s. (sizes : Option (List ℕ)) → ScriptEnded ops script sizes old new s)
    → IfErr r (ScriptEnded ops script None old new)
ends_of_any ops script old new (Ok dag) h = tt
ends_of_any ops script old new (Err s) h = h None

-- ---- a file that wasn't read

pub file_ended : (ops : Operators) (script : List ℕ) (sizes : Option (List ℕ)) (old new : StoreState) (name : List ℕ) (stop : ReadStop) → FileEnds name old new stop
    → OnScript ops old script sizes (λ g. Reads g name) → OnScript ops old script sizes (λ g. map.get g.files name ≡ None → Lacks g name)
    → ScriptEnded ops script sizes old new (read_status stop)
file_ended ops script sizes old new name read.NoMemory h reads lacks = no_memory ops script sizes old new h
file_ended ops script sizes old new name (read.Failed n) h reads lacks =
    (rw (h.0) h.1, h.2, on_files old.files (λ m r. rw (h.0) r) reads)
file_ended ops script sizes old new name (read.Missing n) h reads lacks =
    (rw (h.0) h.1, h.2, on_both old.files (λ m none lack. rw (h.0) (lack none)) h.3 lacks)
file_ended ops script sizes old new name (read.Refused n part at) h reads lacks = absurd h

-- that of the script
pub script_unread : (ops : Operators) (script : List ℕ) (sizes : Option (List ℕ)) (old new : StoreState) (stop : ReadStop) → FileEnds script old new stop
    → ScriptEnded ops script sizes old new (read_status stop)
script_unread ops script sizes old new stop h =
    file_ended ops script sizes old new script stop h (always old.files (λ m. inl refl)) (always old.files (λ m none. inl (refl, none)))

-- ---- the sizes

module _ (ops : Operators) (script file : List ℕ) (old new : StoreState) (dag : Dag) where
  -- that of the sizes
  pub sizes_unread : (stop : ReadStop) → FileEnds file old new stop → OnScript ops old script (Some file) (AreBuilt dag)
      → ScriptEnded ops script (Some file) old new (read_status stop)
  sizes_unread stop h built =
      file_ended ops script (Some file) old new file stop h
      (on_files old.files (λ m b. inr (inl (b.0, b.1, refl))) built)
      (on_files old.files (λ m b none. inr (inl (b.0, b.1, refl, none))) built)

  -- its bytes were read, and declare no sizes
  pub sizes_ended : (bytes : List ℕ) (s : Status) → new ≡ old → OnFiles old (λ files. map.get files file ≡ Some bytes) → EndsSizes bytes s
      → OnScript ops old script (Some file) (AreBuilt dag) → ScriptEnded ops script (Some file) old new s
  sizes_ended bytes status.NoMemory same there h built = no_memory ops script (Some file) old new same
  sizes_ended bytes (status.SizesFault fault) same there h built =
      (same, on_both old.files (λ m has b. (b.0, bytes, b.1, (file, refl, has), h)) there built)
  sizes_ended bytes status.Done same there h built = absurd h
  sizes_ended bytes (status.ReadFault name) same there h built = absurd h
  sizes_ended bytes (status.NoStream name) same there h built = absurd h
  sizes_ended bytes status.NotText same there h built = absurd h
  sizes_ended bytes (status.ScriptFault place) same there h built = absurd h
  sizes_ended bytes (status.BindFault fault) same there h built = absurd h
  sizes_ended bytes (status.RowFault name part at) same there h built = absurd h
  sizes_ended bytes (status.WriteFault name) same there h built = absurd h
  sizes_ended bytes status.NotBuilt same there h built = absurd h

-- or they declare sizes
pub sized : (ops : Operators) (script file : List ℕ) (old : StoreState) (dag : Dag) (bytes : List ℕ) (sizes : Sizes) → OnFiles old (λ files. map.get files file ≡ Some bytes)
    → ReadsSizes (records_of 44 bytes) sizes → OnScript ops old script (Some file) (AreBuilt dag) → OnScript ops old script (Some file) (AreSized dag (parts_of sizes))
sized ops script file old dag bytes sizes there reads built =
    on_both old.files (λ m has b.
    (b.0, record { built = b.1; sizes = inr (bytes, sizes, (file, refl, has), reads, (λ name. refl)) }, b.2)) there built

-- nothing declares sizes
pub unsized : (ops : Operators) (script : List ℕ) (old : StoreState) (dag : Dag) (sizes : Sizes) → ((name : List ℕ) → stream_of sizes name ≡ None)
    → OnScript ops old script None (AreBuilt dag) → OnScript ops old script None (AreSized dag (parts_of sizes))
unsized ops script old dag sizes none built =
    on_files old.files (λ m b. (b.0, record { built = b.1; sizes = inl (refl, (λ name. rw (none name) refl)) }, b.2)) built

-- so of sizes, or how the call ends
module _ (file : List ℕ) (old new : StoreState) (bytes : List ℕ) (same : new ≡ old) (there : OnFiles old (λ files. map.get files file ≡ Some bytes)) where
  pub sizes_found : (r : Result Sizes Status) → IfOk r (ReadsSizes (records_of 44 bytes)) → IfOk r (λ sizes. (new ≡ old)
      × ((ops : Operators) (script : List ℕ) (dag : Dag) → OnScript ops old script (Some file) (AreBuilt dag) → OnScript ops old script (Some file) (AreSized dag (parts_of sizes))))
  sizes_found (Ok sizes) h = (same, (λ ops script dag built. sized ops script file old dag bytes sizes there h built))
  sizes_found (Err s) h = tt

  pub sizes_missed : (r : Result Sizes Status) → IfErr r (EndsSizes bytes) → IfErr r (λ s. (ops : Operators) (script : List ℕ) (dag : Dag)
      → OnScript ops old script (Some file) (AreBuilt dag) → ScriptEnded ops script (Some file) old new s)
  sizes_missed (Ok sizes) h = tt
  sizes_missed (Err s) h = λ ops script dag built. sizes_ended ops script file old new dag bytes s same there h built

-- ---- the parts of the streams

module _ (ops : Operators) (script : List ℕ) (sizes : Option (List ℕ)) (old new : StoreState) (dag : Dag) (count : List ℕ → ℕ) where
  -- reading ended
  pub scans_ended : (stop : ReadStop) → ReadEnds ops count dag.scans old new stop → OnScript ops old script sizes (AreSized dag count)
      → ScriptEnded ops script sizes old new (read_status stop)
  scans_ended read.NoMemory h at = no_memory ops script sizes old new h
  scans_ended (read.Failed name) h at =
      (h.0, h.1, on_both old.files (λ m r s. inr (inr (s.0, count, s.1, rw (s.2.scans) at r))) h.2 at)
  scans_ended (read.Missing name) h at =
      (h.0, h.1, on_both old.files (λ m r s. inr (inr (s.0, count, s.1, rw (s.2.scans) at r))) h.2 at)
  scans_ended (read.Refused name part k) h at =
      (h.0, on_both old.files (λ m r s. (s.0, count, s.1, rw (s.2.scans) at r)) h.1 at)

  -- all were read
  pub scanned : (bags : List Bag) → OnFiles old (λ files. AreRead ops count dag.scans files bags) → OnScript ops old script sizes (AreSized dag count)
      → OnScript ops old script sizes (AreScanned dag bags)
  scanned bags = on_both old.files (λ m r s. (s.0, count, record { sized = s.1; read = rw (s.2.scans) at r.read }, s.2, r.rows))

-- ---- the outputs

pub write_ended : (ops : Operators) (script : List ℕ) (sizes : Option (List ℕ)) (old new : StoreState) (texts : List (List ℕ × List ℕ)) (end : Result Unit WriteStop)
    → OnOk end (new ≡ record old { files = with_files old.files texts }) → IfErr end (WriteEnds texts old new)
    → OnScript ops old script sizes (λ g. Writes g texts) → ScriptEnded ops script sizes old new (write_status end)
write_ended ops script sizes old new texts (Ok u) done stops writes = (texts, done, writes)
write_ended ops script sizes old new texts (Err write.NoMemory) done stops writes =
    (stops.0, stops.3, on_files old.files (λ m w. inr (stops.1, rw (stops.2) at w)) writes)
write_ended ops script sizes old new texts (Err (write.Failed name)) done stops writes =
    (stops.0, stops.1, stops.4, stops.5, on_files old.files (λ m w. (stops.2, rw (stops.3) at w)) writes)

-- ---- the words

-- a script whose Dag is ready was read, and how its Dag ran is how the call ends
pub dag_ended : (ops : Operators) (script : List ℕ) (sizes : Option (List ℕ)) (old next new : StoreState) (dag : Dag) (s : Status) → IsDagOf ops script sizes old next dag
    → (OnScript ops next script sizes (AreShown dag) → ScriptEnded ops script sizes next new s) → ScriptEnded ops script sizes old new s
dag_ended ops script sizes old next new dag s is ends = ended_from ops script sizes old next new s is.same (ends (rw (is.same) is.binds))

-- what the status says of the reading's script it says of the words
pub words_ended : (ops : Operators) (words : List (List ℕ)) (old new : StoreState) (o : Option Reading) (s : Status) → o ≡ reading_of words → ReadingEnded ops old new s o
    → Ended words ops old new s
words_ended ops words old new o s same h = subst (λ (r : Option Reading). ReadingEnded ops old new s r) same h
