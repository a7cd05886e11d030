-- What a Dag that runs gives: the rows of the script's Dag, which are what the script means.
use Rattle.std.proofs.Common.{◌≡◌, ◌++◌, ◌∷◌, ◌∙◌, ◌||◌, ℕ, Bool, true, false, List, [], Option, Some, None, slice_get, refl, sym, ap, ap₂, map}
use Rattle.std.specs.Prelude.{Result, Ok, Err, IfOk, All, is_some}
use Rattle.std.specs.FinMap as map
use Rattle.std.specs.List.{list_any, range_with_len}
use Rattle.std.proofs.lemmas.List.Elements.{All-cons, All-nil, All-head, All-tail}
use Rattle.std.proofs.lemmas.List.{map-append}
use Rattle.std.proofs.lemmas.List.Folds.{flat_map-map}
use Rattle.scope_outside.specs.State.{Files, StoreState}
use Rattle.user_ops.specs.Lawful.{AreLawful}
use Rattle.user_ops.specs.Told.{Operators, ToldExtractor}
use Rattle.list_lemmas.specs.Bags.{flat_map_same}
use Rattle.scope_syntax.specs.Terminals.{lexemes}
use Rattle.scope_syntax.proofs.WrittenLemmas.{written_right}
use Rattle.logical_dag.specs.declared.dag.Dag.{Dag}
use Rattle.logical_dag.specs.declared.dag.Output.{Output}
use Rattle.logical_dag.specs.declared.dag.ScanDecl.{ScanDecl}
use Rattle.logical_dag.specs.Scripts.{IsBindable, shared_trees, output_trees}
use Rattle.logical_dag.specs.DagMeaning.{TreesGive, orders_of, scan_rows}
use Rattle.logical_trees.specs.Rows.{Bag}
use Rattle.logical_trees.specs.Tree.{Expression}
use Rattle.normal_meaning.specs.Sinking.{normal}
use Rattle.normal_form.specs.Kept.{IsNormalOf, GivesSame}
use Rattle.plain_meaning.specs.Plain.{AreThere}
use Rattle.script_meaning.specs.Dag.{ScriptDag, dag_of}
use Rattle.script_meaning.specs.Laws.{Gives}
use Rattle.script_meaning.specs.OneMeaning.{GivesMeaningAlone}
use Rattle.binding_laws.specs.Laws.{GivesBound, GivesTold, KeepsThere}
use Rattle.script_binder.specs.Shown.{Shows}
use Rattle.script_binder.specs.Binding.{IsReady}
use Rattle.scope_streams.specs.Parts.{part_name, text_rows, told_rows, rows_or_stop, rows_or_none}
use Rattle.scope_streams.proofs.TurnLemmas.{on_files}
use Rattle.scope_app.specs.Steps.{Given, Writes, is_stored, input_of}
use Rattle.scope_app.specs.Ends.{OnScript, ScriptEnded}
use Rattle.scope_app.specs.declared.status.Status.TheVariants as status
use Rattle.scope_app.specs.Stages.{RunsAs, AreShown, AreBuilt, AreScanned, AreTexts, GivesMeanings}

-- two facts of one success
pub both : {X Y : Type 0} (P Q : X → Type 0) (r : Result X Y) → IfOk r P → IfOk r Q → IfOk r (λ x. P x × Q x)
both P Q (Ok x) h k = (h, k)
both P Q (Err y) h k = tt

-- ---- the normal form

pub runs_as : (ops : Operators) (dag new : Dag) → IsNormalOf dag new → GivesSame dag new → (d : ScriptDag) → Shows d dag → RunsAs ops d new
runs_as ops dag new is same d shows = record {
  scans = is.scans ∙ shows.scans;
  streams = is.names ∙ shows.streams;
  delimiters = is.delimiters ∙ shows.delimiters;
  gives = λ input rows h.
      let old : TreesGive ops (map (scan_rows input) dag.scans) (shared_trees dag) (orders_of dag) (output_trees dag) rows = (same ops input rows).1 h in
      rw (← shows.scans, ← shows.shared, ← shows.orders, ← shows.outputs) old;
}

kept_there : KeepsThere → (ops : Operators) (ts : List Expression) → All (AreThere ops) ts → All (AreThere ops) (map normal ts)
kept_there keeps ops [] h = All-nil (AreThere ops)
kept_there keeps ops (t ∷ ts) h =
    All-cons (AreThere ops) (normal t) (map normal ts) (keeps ops t (All-head (AreThere ops) t ts h)) (kept_there keeps ops ts (All-tail (AreThere ops) t ts h))

pub is_ready : KeepsThere → (ops : Operators) (dag new : Dag) → IsNormalOf dag new → IsBindable new → IsReady ops dag → IsReady ops new
is_ready keeps ops dag new is bindable ready = record {
  bindable = bindable;
  there = rw (is.shared, is.outputs, ← map-append normal (shared_trees dag) (output_trees dag)) (kept_there keeps ops (shared_trees dag ++ output_trees dag) ready.there);
  scans = rw (is.scans) ready.scans;
}

-- ---- what is stored

list_any-map : {X Y : Type 0} (p : X → Bool) (f : Y → X) (ys : List Y) → list_any p (map f ys) ≡ list_any (λ y. p (f y)) ys
list_any-map p f [] = refl
list_any-map p f (y ∷ ys) = ap (λ b. p (f y) || b) (list_any-map p f ys)

stored_same : (d : ScriptDag) (dag : Dag) → Shows d dag → is_stored d ≡ (list_any (λ s. is_some s.stored) dag.scans || list_any (λ o. is_some o.stored) dag.outputs)
stored_same d dag shows =
    rw (← shows.scans, ← shows.stored) (ap (λ b. list_any (λ s. is_some s.stored) dag.scans || b) (list_any-map (λ s. is_some s) (λ (o : Output). o.stored) dag.outputs))

module _ (ops : Operators) (script : List ℕ) (sizes : Option (List ℕ)) (old : StoreState) (dag : Dag) where
  -- a stream is stored: that doesn't run
  pub stored_ended : (new : StoreState) → new ≡ old → true ≡ (list_any (λ s. is_some s.stored) dag.scans || list_any (λ o. is_some o.stored) dag.outputs)
      → OnScript ops old script sizes (AreShown dag) → ScriptEnded ops script sizes old new status.NotBuilt
  stored_ended new same is shown = (same, on_files old.files (λ m s. (s.0, s.1, stored_same (dag_of s.0) dag s.2 ∙ sym is)) shown)

  -- none is, and the Dag that runs is the normal form
  pub built : (new : Dag) → false ≡ (list_any (λ s. is_some s.stored) dag.scans || list_any (λ o. is_some o.stored) dag.outputs)
      → ((ops : Operators) (d : ScriptDag) → Shows d dag → RunsAs ops d new) → OnScript ops old script sizes (AreShown dag) → OnScript ops old script sizes (AreBuilt new)
  built new is runs = on_files old.files (λ m s. (s.0, record { has = s.1; unstored = stored_same (dag_of s.0) dag s.2 ∙ sym is }, runs ops (dag_of s.0) s.2))

-- ---- the rows

-- a scan has the same rows, whatever is declared of how its stream is stored
told_same : (o : Option ToldExtractor) (d : ScanDecl) (bytes : List ℕ) → told_rows o (record d { stored = None }) bytes ≡ told_rows o d bytes
told_same None d bytes = refl
told_same (Some e) d bytes = refl

stop_same : (d : ScanDecl) (p : ℕ) (name : List ℕ) (r : Result Bag ℕ)
    → rows_or_stop (record { scan = record d { stored = None }; part = p; name = name }) r ≡ rows_or_stop (record { scan = d; part = p; name = name }) r
stop_same d p name (Ok rows) = refl
stop_same d p name (Err at) = refl

text_same : (ops : Operators) (d : ScanDecl) (p : ℕ) (name : List ℕ) (o : Option (List ℕ))
    → text_rows ops (record { scan = record d { stored = None }; part = p; name = name }) o ≡ text_rows ops (record { scan = d; part = p; name = name }) o
text_same ops d p name None = refl
text_same ops d p name (Some bytes) =
    stop_same d p name (told_rows (slice_get ops.extractors d.op) (record d { stored = None }) bytes)
    ∙ ap (rows_or_stop (record { scan = d; part = p; name = name })) (told_same (slice_get ops.extractors d.op) d bytes)

scan_same : (g : Given) (count : List ℕ → ℕ) (d : ScanDecl) → scan_rows (input_of g count) d ≡ input_of g count d
scan_same g count d =
    simp flat_map-map
    (flat_map_same _ _
    (λ p. ap rows_or_none (text_same g.ops d p (part_name d.stream (count d.stream) p) (map.get g.files (part_name d.stream (count d.stream) p))))
    (range_with_len 0 (count d.stream)))

scans_same : (g : Given) (count : List ℕ → ℕ) (scans : List ScanDecl) → map (scan_rows (input_of g count)) scans ≡ map (input_of g count) scans
scans_same g count [] = refl
scans_same g count (d ∷ scans) = ap₂ (λ (r : Bag) (rs : List Bag). r ∷ rs) (scan_same g count d) (scans_same g count scans)

-- the texts are those of rows that the script's Dag gives, and so that the script means
pub texts_written : (ops : Operators) (script : List ℕ) (sizes : Option (List ℕ)) (old : StoreState) (dag : Dag) (bags : List Bag) (texts : List (List ℕ × List ℕ)) → GivesMeanings ops
    → AreTexts ops dag bags texts → OnScript ops old script sizes (AreScanned dag bags) → OnScript ops old script sizes (λ g. Writes g texts)
texts_written ops script sizes old dag bags texts means made = on_files old.files at
  where
    at : (m : Files) → AreScanned dag bags (record { ops = ops; files = m; script = script; sizes = sizes }) → Writes (record { ops = ops; files = m; script = script; sizes = sizes }) texts
    at m s =
        let g : Given = record { ops = ops; files = m; script = script; sizes = sizes } in
        let has = s.2.sized.built.has in
        let gives : Gives ops (input_of g s.1) (dag_of s.0) made.0 = s.3.gives (input_of g s.1) made.0 (rw (scans_same g s.1 dag.scans, ← s.4) made.1) in
        record {
          statements = s.0;
          count = s.1;
          rows = made.0;
          scanned = s.2;
          gives = gives;
          means = λ told. means has.script s.0 (input_of g s.1) made.0 (lexemes has.has.text has.has.spells.tokens, has.has.spells.spelled) has.resolved told gives;
          texts_are = made.2 ∙ rw (s.3.streams, s.3.delimiters) refl;
        }

-- ---- what the script means

pub gives_meanings : (ops : Operators) → AreLawful ops → GivesBound → GivesTold → GivesMeaningAlone → GivesMeanings ops
gives_meanings ops lawful bound told alone script statements input rows written resolved outer gives =
    let right = written_right script written in
    let is = bound ops script statements lawful right resolved in
    alone ops input statements rows is.fits is.placed (told ops script statements input lawful outer right resolved) gives
