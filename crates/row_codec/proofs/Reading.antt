-- The records of a text, one read after the other.
use Rattle.std.proofs.Common.{◌≡◌, ◌∙◌, ◌+◌, ◌<◌, ◌≤◌, ◌==◌, ◌&&◌, ◌++◌, ℕ, zero, suc, Bool, true, false, List, [], ◌∷◌, length, Option, Some, None, refl, ap, arith, if◌then◌else◌, add-one, inl, Bor, IsSome}
use Rattle.csv.specs.Machine.{Read, after_end, ends_at_end, ends_with, field_after, fields_after, in_field, is_byte, is_end, next_record, start_field, start_record, step}
use Rattle.csv.specs.Reading.{Reached, ReadRecord, records_from, records_next, source_of, took_first}
use Rattle.csv.specs.declared.parser.Config.{Config}
use Rattle.csv.specs.declared.parser.Terminator.{Terminator}
use Rattle.csv.specs.declared.parser.Terminator.TheVariants as term
use Rattle.csv.specs.declared.parser.State.{State}
use Rattle.csv.specs.declared.parser.State.TheVariants as st
use Rattle.csv.specs.declared.parser.Action.{Action}
use Rattle.csv.specs.declared.reader.Reader.{Reader}
use Rattle.csv.proofs.ReadFacts.{rows-end, rows-more}
use Rattle.row_codec.specs.Records.{IsBetween, Record, left_of, records_after}

-- ---- where a record ends, the state is one that the end of the text does not end

-- the step ended a record only into such a state
abbrev EndsWell : State × Action → Type 0
EndsWell p = is_end p.1 ≡ true → ends_at_end p.0 ≡ false

by_test : (b : Bool) (p q : State × Action) → EndsWell p → EndsWell q → EndsWell (if b then p else q)
by_test true p q h k = h
by_test false p q h k = k

after_end_quiet : (t : Terminator) (c : ℕ) → ends_at_end (after_end t c) ≡ false
after_end_quiet term.CRLF c = pick (c == 13)
  where
    pick : (b : Bool) → ends_at_end (if b then st.AfterCr else st.StartRecord) ≡ false
    pick true = refl
    pick false = refl
after_end_quiet (term.Any t) c = refl

in_field_ends : (cfg : Config) (c : ℕ) → EndsWell (in_field cfg c)
in_field_ends cfg c = by_test (c == cfg.delimiter) _ _ (λ e. cc e) (by_test (ends_with cfg.terminator c) _ _ (λ e. after_end_quiet cfg.terminator c) (λ e. cc e))

start_field_ends : (cfg : Config) (c : ℕ) → EndsWell (start_field cfg c)
start_field_ends cfg c = by_test (cfg.quoting && (c == cfg.quote)) _ _ (λ e. cc e) (in_field_ends cfg c)

start_record_ends : (cfg : Config) (c : ℕ) → EndsWell (start_record cfg c)
start_record_ends cfg c = by_test (ends_with cfg.terminator c) _ _ (λ e. cc e) (by_test (is_byte cfg.comment c) _ _ (λ e. cc e) (start_field_ends cfg c))

step_ends : (cfg : Config) (s : State) (c : ℕ) → EndsWell (step cfg s c)
step_ends cfg st.StartRecord c = start_record_ends cfg c
step_ends cfg st.StartField c = start_field_ends cfg c
step_ends cfg st.InField c = in_field_ends cfg c
step_ends cfg st.InQuoted c = by_test (cfg.quoting && (c == cfg.quote)) _ _ (λ e. cc e) (by_test (cfg.quoting && is_byte cfg.escape c) _ _ (λ e. cc e) (λ e. cc e))
step_ends cfg st.InEscape c = λ e. cc e
step_ends cfg st.AfterQuote c = by_test (cfg.quoting && cfg.double_quote && (c == cfg.quote)) _ _ (λ e. cc e) (in_field_ends cfg c)
step_ends cfg st.InComment c = by_test (c == 10) _ _ (λ e. cc e) (λ e. cc e)
step_ends cfg st.AfterCr c = by_test (c == 10) _ _ (λ e. cc e) (start_record_ends cfg c)

-- what a read leaves: no more bytes than before, and such a state
abbrev Leaves : ℕ → Option Read → Type 0
Leaves n None = Unit {0}
Leaves n (Some p) = (length p.2 ≤ n) × (ends_at_end p.1 ≡ false)

leaves : (cfg : Config) (s : State) (fields : List (List ℕ)) (field xs : List ℕ) → Leaves (length xs) (next_record cfg s fields field xs)
unfolding next_record
leaves cfg s fields field [] = pick (ends_at_end s)
  where
    pick : (b : Bool) → Leaves 0 (if b then Some (fields ++ (field ∷ []), st.StartRecord, []) else None)
    pick true = (omega arith, refl)
    pick false = tt
leaves cfg s fields field (c ∷ rest) = pick (is_end (step cfg s c).1) refl (leaves cfg (step cfg s c).0 (fields_after (step cfg s c).1 fields field) (field_after (step cfg s c).1 c field) rest)
  where
    pick : (b : Bool) → is_end (step cfg s c).1 ≡ b
        → Leaves (length rest) (next_record cfg (step cfg s c).0 (fields_after (step cfg s c).1 fields field) (field_after (step cfg s c).1 c field) rest)
        → Leaves (length (c ∷ rest)) (if b then Some (fields_after (step cfg s c).1 fields field, (step cfg s c).0, rest)
        else next_record cfg (step cfg s c).0 (fields_after (step cfg s c).1 fields field) (field_after (step cfg s c).1 c field) rest)
    pick true e h = (omega arith, step_ends cfg s c e)
    pick false e h = more _ h
      where
        more : (o : Option Read) → Leaves (length rest) o → Leaves (length (c ∷ rest)) o
        more None h = tt
        more (Some p) h = (omega (arith, h.0), h.1)

-- ---- all the records from a state on

-- a read from such a state takes at least a byte
abbrev Takes : ℕ → Option Read → Type 0
Takes n None = Unit {0}
Takes n (Some p) = (length p.2 < n) × (ends_at_end p.1 ≡ false)

takes : (cfg : Config) (s : State) (xs : List ℕ) → ends_at_end s ≡ false → Takes (length xs) (next_record cfg s [] [] xs)
unfolding next_record
takes cfg s [] quiet = rw quiet tt
takes cfg s (c ∷ rest) quiet = pick (is_end (step cfg s c).1) refl
  where
    more : (o : Option Read) → Leaves (length rest) o → Takes (length (c ∷ rest)) o
    more None h = tt
    more (Some p) h = (omega (arith, h.0), h.1)

    pick : (b : Bool) → is_end (step cfg s c).1 ≡ b
        → Takes (length (c ∷ rest)) (if b then Some (fields_after (step cfg s c).1 [] [], (step cfg s c).0, rest)
        else next_record cfg (step cfg s c).0 (fields_after (step cfg s c).1 [] []) (field_after (step cfg s c).1 c []) rest)
    pick true e = (omega arith, step_ends cfg s c e)
    pick false e = more _ (leaves cfg (step cfg s c).0 (fields_after (step cfg s c).1 [] []) (field_after (step cfg s c).1 c []) rest)

-- the count of reads plays no part, where it is large enough
same_count : (n m : ℕ) (cfg : Config) (s : State) (xs : List ℕ) → ends_at_end s ≡ false → length xs < n → length xs < m
    → records_from cfg n s xs ≡ records_from cfg m s xs
unfolding records_from
same_count zero m cfg s xs quiet a b = absurd (omega arith)
same_count (suc n) zero cfg s xs quiet a b = absurd (omega arith)
same_count (suc n) (suc m) cfg s xs quiet a b =
    pick (next_record cfg s [] [] xs) (takes cfg s xs quiet) (λ s2 ys q c d. same_count n m cfg s2 ys q c d)
  where
    pick : (o : Option Read) → Takes (length xs) o
        → ((s2 : State) (ys : List ℕ) → ends_at_end s2 ≡ false → length ys < n → length ys < m → records_from cfg n s2 ys ≡ records_from cfg m s2 ys)
        → records_next (records_from cfg n) o ≡ records_next (records_from cfg m) o
    pick None h rest = refl
    pick (Some p) h rest = ap (λ (more : List Record). p.0 ∷ more) (rest p.1 p.2 h.1 (omega (arith, h.0)) (omega (arith, h.0)))

-- one more record, and the rest
pub record_more : (cfg : Config) (s : State) (xs : List ℕ) (p : Read) → ends_at_end s ≡ false → next_record cfg s [] [] xs ≡ Some p
    → (records_after cfg s xs ≡ p.0 ∷ records_after cfg p.1 p.2) × (ends_at_end p.1 ≡ false)
unfolding records_after records_from
record_more cfg s xs p quiet e =
    let t = rw e at (takes cfg s xs quiet) in
    (rw (add-one, e) (ap (λ (rest : List Record). p.0 ∷ rest) (same_count (length xs) (length p.2 + 1) cfg p.1 p.2 t.1 t.0 (omega arith))), t.1)

-- no more record
pub record_none : (cfg : Config) (s : State) (xs : List ℕ) → next_record cfg s [] [] xs ≡ None → records_after cfg s xs ≡ []
unfolding records_after records_from
record_none cfg s xs e = rw (add-one, e) refl

-- ---- the same, of a reader of a text

abbrev remaining : Bor (List ℕ) → Option (List ℕ)
remaining s = Some s.now

pub starts : (r : Reader (Bor (List ℕ))) (cfg : Config) (xs : List ℕ) → r.config ≡ cfg → r.state ≡ st.StartRecord → source_of remaining r ≡ Some xs
    → left_of r ≡ records_from cfg (length xs + 1) st.StartRecord xs
unfolding left_of records_after
starts r cfg xs c s e = rw (e, c, s) refl

left_is : (r : Reader (Bor (List ℕ))) (xs : List ℕ) → source_of remaining r ≡ Some xs → left_of r ≡ records_after r.config r.state xs
unfolding left_of
left_is r xs e = rw e refl

pub reader_more : (a b : Reader (Bor (List ℕ))) (fields : Record) → IsBetween a → took_first b ≡ true → ReadRecord remaining a b true fields
    → IsBetween b × (left_of a ≡ fields ∷ left_of b)
unfolding Reached
reader_more a b fields h first r = pick (source_of remaining a) refl h.known
  where
    pick : (o : Option (List ℕ)) → source_of remaining a ≡ o → IsSome o → IsBetween b × (left_of a ≡ fields ∷ left_of b)
    pick None e known = cc
    pick (Some rest) e known =
        let m = rows-more remaining a b fields a.config a.state rest rest [] refl e (refl, refl) r in
        let p = m.2.0 in
        let next = record_more a.config a.state rest p h.quiet m.2.1 in
        let row : fields ≡ p.0 = m.2.2 in
        let state : p.1 ≡ b.state = m.2.3.0 in
        let left : p.2 ≡ m.0 = m.2.3.1 in (
          record { trim = r.3 ∙ h.trim; ready = inl first; quiet = rw (← state) next.1; known = rw m.1 refl },
          (let e1 = left_is a rest e in let e2 = left_is b m.0 m.1 in let config : b.config ≡ a.config = r.2 in let n = next.0 in cc),
        )

pub reader_end : (a b : Reader (Bor (List ℕ))) (fields : Record) → IsBetween a → ReadRecord remaining a b false fields → left_of a ≡ []
unfolding left_of
reader_end a b fields h r = pick (source_of remaining a) refl h.known
  where
    pick : (o : Option (List ℕ)) → source_of remaining a ≡ o → IsSome o → left_of a ≡ []
    pick None e known = cc
    pick (Some rest) e known = rw e (record_none a.config a.state rest (rows-end remaining a b fields a.config rest refl e r))
