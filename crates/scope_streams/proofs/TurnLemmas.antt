-- Parts that are read in turn: one more of them, and an end within them.
use Rattle.std.proofs.Common.{◌≡◌, ℕ, zero, suc, ◌+◌, ◌<◌, List, [], ◌∷◌, ◌++◌, map, take, drop, length, get_or, Option, Some, None, Result, Ok, Err, refl, sym, ap, ◌∙◌, subst, arith, append_assoc, append-nil, slice_get, Vec, Global}
use Rattle.std.specs.Prelude.{IfSome, IfErr, IsOk, All}
use Rattle.std.specs.List.{range_with_len}
use Rattle.std.specs.FinMap as finite
use Rattle.std.proofs.lemmas.Grind.{flat_map-append}
use Rattle.std.proofs.lemmas.List.{map-append, take_more, take-append-drop}
use Rattle.std.proofs.lemmas.List.Elements.{All-append, All-cons, All-nil}
use Rattle.std.proofs.lemmas.List.FromFn.{map-range_with_len_more}
use Rattle.scope_outside.specs.State.{Files, StoreState, OnFiles}
use Rattle.user_ops.specs.Told.{Operators, ToldExtractor}
use Rattle.logical_dag.specs.declared.dag.ScanDecl.{ScanDecl}
use Rattle.logical_trees.specs.Rows.{Row, Bag}
use Rattle.scope_streams.specs.declared.stops.ReadStop.{ReadStop}
use Rattle.scope_streams.specs.declared.stops.ReadStop.TheVariants as read
use Rattle.scope_streams.specs.Parts.{StreamPart, Stop, part_name, part_rows, rows_or_none, rows_or_stop, told_rows, scan_bag, scan_parts, all_parts, IsRead, Reaches}
use Rattle.scope_streams.specs.Ends.{FileEnds, ReadEnds, AreScanned, bags_of}
use Rattle.scope_streams.specs.Turns.{stream_part, first_parts, AreRead, AreFirst, EndsIn, IsRefusal}

-- ---- facts of the files, where they are told

pub on_files : {P Q : Files → Type 0} (files : Option Files) → ((m : Files) → P m → Q m) → IfSome files P → IfSome files Q
on_files None f h = tt
on_files (Some m) f h = f m h

pub on_both : {P Q R : Files → Type 0} (files : Option Files) → ((m : Files) → P m → Q m → R m) → IfSome files P → IfSome files Q → IfSome files R
on_both None f h k = tt
on_both (Some m) f h k = f m h k

pub always : {P : Files → Type 0} (files : Option Files) → ((m : Files) → P m) → IfSome files P
always None f = tt
always (Some m) f = f m

-- ---- one part

at_one : (ops : Operators) (files : Files) (p : StreamPart) → Reaches ops files (p ∷ []) p
at_one ops files p = record { before = []; after = []; split = refl; read = All-nil (IsRead ops files) }

part_told : (ops : Operators) (files : Files) (p : StreamPart) (name bytes : List ℕ) (e : ToldExtractor) → name ≡ p.name → finite.get files name ≡ Some bytes
    → slice_get ops.extractors p.scan.op ≡ Some e → part_rows ops files p ≡ rows_or_stop p (told_rows (Some e) p.scan bytes)
part_told ops files p name bytes e same there at = rw (sym same, there, at) refl

pub IfErr-weaker : {X Y : Type 0} (r : Result X Y) (P Q : Y → Type 0) → ((y : Y) → P y → Q y) → IfErr r P → IfErr r Q
IfErr-weaker (Ok x) P Q f h = tt
IfErr-weaker (Err y) P Q f h = f y h

-- the name that is read is the part's
pub named : (d : ScanDecl) (parts part : ℕ) (name held stream : List ℕ) → name ≡ held → held ≡ part_name stream parts part → stream ≡ d.stream → name ≡ (stream_part d parts part).name
named d parts part name held stream same is of = same ∙ (is ∙ ap (λ (s : List ℕ). part_name s parts part) of)

-- its file was not read
pub file_stop : (ops : Operators) (p : StreamPart) (name : List ℕ) (old new : StoreState) (stop : ReadStop) → name ≡ p.name → FileEnds name old new stop → EndsIn ops (p ∷ []) old new stop
file_stop ops p name old new read.NoMemory same h = h
file_stop ops p name old new (read.Failed n) same h =
    let is : n ≡ p.name = h.0 ∙ same in
    (rw (h.0) h.1, h.2, always old.files (λ files. (p, at_one ops files p, sym is)))
file_stop ops p name old new (read.Missing n) same h =
    let is : n ≡ p.name = h.0 ∙ same in
    (rw (h.0) h.1, h.2, on_files old.files (λ files none. (p, at_one ops files p, (let gone : finite.get files p.name ≡ None = rw (← same) none in rw (gone, is) refl))) h.3)
file_stop ops p name old new (read.Refused n part at) same h = absurd h

-- its file was read, and it was decoded
pub part_read : (ops : Operators) (old : StoreState) (p : StreamPart) (name bytes : List ℕ) (e : ToldExtractor) (rows : Bag) → name ≡ p.name
    → OnFiles old (λ files. finite.get files name ≡ Some bytes) → slice_get ops.extractors p.scan.op ≡ Some e → told_rows (Some e) p.scan bytes ≡ Ok rows
    → OnFiles old (λ files. part_rows ops files p ≡ Ok rows)
part_read ops old p name bytes e rows same there at is =
    on_files old.files (λ files held. part_told ops files p name bytes e same held at ∙ ap (rows_or_stop p) is) there

-- or a record was refused
pub part_refused : (ops : Operators) (old new : StoreState) (p : StreamPart) (name bytes : List ℕ) (e : ToldExtractor) (stop : ReadStop) → name ≡ p.name → new ≡ old
    → OnFiles old (λ files. finite.get files name ≡ Some bytes) → slice_get ops.extractors p.scan.op ≡ Some e → IsRefusal (Some e) p.scan p.part bytes stop
    → EndsIn ops (p ∷ []) old new stop
part_refused ops old new p name bytes e read.NoMemory same still there at is = still
part_refused ops old new p name bytes e (read.Failed n) same still there at is = absurd is
part_refused ops old new p name bytes e (read.Missing n) same still there at is = absurd is
part_refused ops old new p name bytes e (read.Refused n part k) same still there at is =
    (still, on_files old.files (λ files held. (p, at_one ops files p, part_told ops files p name bytes e same held at ∙ (ap (rows_or_stop p) is.2 ∙ rw (is.0, is.1) refl))) there)

-- ---- an end within some of the parts

reaches_more : (ops : Operators) (files : Files) (all front mid rest : List StreamPart) (p : StreamPart) → all ≡ front ++ (mid ++ rest) → All (IsRead ops files) front
    → Reaches ops files mid p → Reaches ops files all p
reaches_more ops files all front mid rest p cut read h = record {
  before = front ++ h.before;
  after = h.after ++ rest;
  split = cut ∙ (ap (λ (l : List StreamPart). front ++ (l ++ rest)) h.split ∙ simp append_assoc);
  read = All-append (IsRead ops files) front h.before read h.read;
}

pub ends_within : (ops : Operators) (all front mid rest : List StreamPart) (old now new : StoreState) (stop : ReadStop) → all ≡ front ++ (mid ++ rest) → now ≡ old
    → OnFiles old (λ files. All (IsRead ops files) front) → EndsIn ops mid now new stop → EndsIn ops all old new stop
ends_within ops all front mid rest old now new stop cut still before h = by_stop stop (subst (λ (s : StoreState). EndsIn ops mid s new stop) still h)
  where
    by_stop : (stop : ReadStop) → EndsIn ops mid old new stop → EndsIn ops all old new stop
    by_stop read.NoMemory h = h
    by_stop (read.Failed n) h = (h.0, h.1, on_both old.files (λ files k w. (w.0, reaches_more ops files all front mid rest w.0 cut k w.1, w.2)) before h.2)
    by_stop (read.Missing n) h = (h.0, h.1, on_both old.files (λ files k w. (w.0, reaches_more ops files all front mid rest w.0 cut k w.1, w.2)) before h.2)
    by_stop (read.Refused n part at) h = (h.0, on_both old.files (λ files k w. (w.0, reaches_more ops files all front mid rest w.0 cut k w.1, w.2)) before h.1)

-- ---- the parts of a scan

range_cut : {X : Type 0} (f : ℕ → X) (a i n j : ℕ) → i < n → a + i ≡ j → (rest : List X) × (map f (range_with_len a n) ≡ map f (range_with_len a i) ++ (f j ∷ [] ++ rest))
range_cut {X = X} f a i zero j lt e = absurd (omega arith)
range_cut {X = X} f a zero (suc n) j lt e = let same : a ≡ j = omega arith in (map f (range_with_len (a + 1) n), rw same refl)
range_cut {X = X} f a (suc i) (suc n) j lt e =
    let h = range_cut f (a + 1) i n j (omega arith) (omega arith) in (h.0, ap (λ (l : List X). f a ∷ l) h.1)

read_rows : (ops : Operators) (files : Files) (p : StreamPart) (rows : Bag) → part_rows ops files p ≡ Ok rows → AreRead ops files (p ∷ []) rows
read_rows ops files p rows is =
    (All-cons (IsRead ops files) p [] (ok (part_rows ops files p) is) (All-nil (IsRead ops files)), sym (append-nil rows) ∙ ap (λ r. rows_or_none r ++ []) (sym is))
  where
    ok : (r : Result Bag Stop) → r ≡ Ok rows → IsOk r
    ok r e = rw e refl

read_both : (ops : Operators) (files : Files) (front mid : List StreamPart) (rows more : Bag) → AreRead ops files front rows → AreRead ops files mid more
    → AreRead ops files (front ++ mid) (rows ++ more)
read_both ops files front mid rows more h k =
    (All-append (IsRead ops files) front mid h.0 k.0, rw (h.1, k.1) (sym (flat_map-append (λ p. rows_or_none (part_rows ops files p)) front mid)))

pub parts_more : (ops : Operators) (old : StoreState) (d : ScanDecl) (n i : ℕ) (rows more : Bag) → OnFiles old (λ files. AreRead ops files (first_parts d n i) rows)
    → OnFiles old (λ files. part_rows ops files (stream_part d n i) ≡ Ok more) → OnFiles old (λ files. AreRead ops files (first_parts d n (i + 1)) (rows ++ more))
parts_more ops old d n i rows more =
    let e : 0 + i ≡ i = omega arith in
    on_both old.files (λ files h k. rw (map-range_with_len_more (stream_part d n) 0 i i e) (read_both ops files _ _ rows more h (read_rows ops files (stream_part d n i) more k)))

pub parts_stop : (ops : Operators) (d : ScanDecl) (n i : ℕ) (rows : Bag) (old now new : StoreState) (stop : ReadStop) → i < n → now ≡ old
    → OnFiles old (λ files. AreRead ops files (first_parts d n i) rows) → EndsIn ops (stream_part d n i ∷ []) now new stop → EndsIn ops (first_parts d n n) old new stop
parts_stop ops d n i rows old now new stop lt still h k =
    let cut = range_cut (stream_part d n) 0 i n i lt (omega arith) in
    ends_within ops (first_parts d n n) (first_parts d n i) (stream_part d n i ∷ []) cut.0 old now new stop cut.1 still (on_files old.files (λ files r. r.0) h) k

-- ---- the scans

cut_at : {X : Type 0} (xs : List X) (i : ℕ) (x : X) → i < length xs → x ≡ get_or xs i x → xs ≡ take i xs ++ (x ∷ [] ++ drop (i + 1) xs)
cut_at {X = X} xs i x lt is =
    sym (take-append-drop (i + 1) xs) ∙ (ap (λ (l : List X). l ++ drop (i + 1) xs) (take_more xs i x lt ∙ ap (λ (y : X). take i xs ++ y ∷ []) (sym is)) ∙ append_assoc (take i xs) (x ∷ []) (drop (i + 1) xs))

one_more : {X : Type 0} (xs : List X) (i : ℕ) (x : X) → i < length xs → x ≡ get_or xs i x → take (i + 1) xs ≡ take i xs ++ x ∷ []
one_more {X = X} xs i x lt is = take_more xs i x lt ∙ ap (λ (y : X). take i xs ++ y ∷ []) (sym is)

module _ (ops : Operators) (old : StoreState) (count : List ℕ → ℕ) (scans : List ScanDecl) (i : ℕ) (d : ScanDecl) (lt : i < length scans) (is : d ≡ get_or scans i d) (n : ℕ) (same : n ≡ count d.stream) where
  first_more : (files : Files) (bags : List Bag) (rows : Bag) → AreFirst ops files count (take i scans) bags → AreRead ops files (first_parts d n n) rows
      → AreFirst ops files count (take (i + 1) scans) (bags ++ rows ∷ [])
  first_more files bags rows h k =
      let one : AreRead ops files (scan_parts count d) rows = rw same at k in
      rw (one_more scans i d lt is, flat_map-append (scan_parts count) (take i scans) (d ∷ []), map-append (scan_bag ops files count) (take i scans) (d ∷ []))
      (All-append (IsRead ops files) (all_parts count (take i scans)) (scan_parts count d ++ []) h.0 (rw append-nil one.0), rw (h.1, one.1) refl)

  pub scans_more : (bags : List (Vec Row Global)) (rows : Vec Row Global) → OnFiles old (λ files. AreFirst ops files count (take i scans) (bags_of bags))
      → OnFiles old (λ files. AreRead ops files (first_parts d n n) rows.items) → OnFiles old (λ files. AreFirst ops files count (take (i + 1) scans) (bags_of (bags ++ rows ∷ [])))
  scans_more bags rows = on_both old.files (λ files h k. rw (map-append (λ (v : Vec Row Global). v.items) bags (rows ∷ [])) (first_more files (bags_of bags) rows.items h k))

  pub scans_stop : (bags : List (Vec Row Global)) (now new : StoreState) (stop : ReadStop) → now ≡ old
      → OnFiles old (λ files. AreFirst ops files count (take i scans) (bags_of bags)) → EndsIn ops (first_parts d n n) now new stop → ReadEnds ops count scans old new stop
  scans_stop bags now new stop still h k =
      let parts : all_parts count scans ≡ all_parts count (take i scans) ++ (scan_parts count d ++ all_parts count (drop (i + 1) scans)) =
      ap (all_parts count) (cut_at scans i d lt is) ∙ flat_map-append (scan_parts count) (take i scans) (d ∷ drop (i + 1) scans) in
      by_stop stop (ends_within ops (all_parts count scans) (all_parts count (take i scans)) (scan_parts count d) (all_parts count (drop (i + 1) scans)) old now new stop parts still
      (on_files old.files (λ files r. r.0) h) (rw same at k))
    where
      by_stop : (stop : ReadStop) → EndsIn ops (all_parts count scans) old new stop → ReadEnds ops count scans old new stop
      by_stop read.NoMemory h = h
      by_stop (read.Failed name) h = h
      by_stop (read.Missing name) h = h
      by_stop (read.Refused name part at) h = h

-- the extractor of a scan is there
pub All-at : {X : Type 0} (P : X → Type 0) (xs : List X) (i : ℕ) (x : X) → i < length xs → x ≡ get_or xs i x → All P xs → P x
All-at P xs i x lt is h = subst P (sym is) (h i x lt)

-- all of them were read
pub scanned : (ops : Operators) (old : StoreState) (count : List ℕ → ℕ) (scans : List ScanDecl) (bags : List Bag) → OnFiles old (λ files. AreFirst ops files count scans bags)
    → OnFiles old (λ files. AreScanned ops count scans files bags)
scanned ops old count scans bags = on_files old.files (λ files h. record { read = h.0; rows = h.1 })
