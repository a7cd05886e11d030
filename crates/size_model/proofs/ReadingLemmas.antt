-- How far the records of a sizes file were read, and what one more gives.
use Rattle.std.proofs.Common.{◌≡◌, ◌+◌, ◌++◌, ◌&&◌, ℕ, Bool, true, false, cond, List, [], ◌∷◌, length, Option, Some, None, refl, sym, ap, ◌∙◌, arith, append_assoc, length-append, if◌then◌else◌}
use Rattle.std.specs.Option.{IfSome, is_none, option_or}
use Rattle.std.specs.Str.{bytes_eq}
use Rattle.row_codec.specs.Records.{Record}
use Rattle.size_model.specs.Declarations.{Declaration, Declares, column, column_in, declaration_of, first_some, further, is_new, nothing, says_column, says_stream, stream, stream_in}
use Rattle.size_model.specs.Answers.{Adds, Answers, column_of, is_free, is_taken, stream_of}
use Rattle.size_model.specs.declared.sizes.Sizes.{Sizes}
use Rattle.size_model.proofs.TableLemmas.{bytes_same}

-- ---- what the first of declarations says

or_none : {A : Type 0} (o : Option A) → option_or o None ≡ o
or_none None = refl
or_none (Some x) = refl

or_assoc : {A : Type 0} (o p q : Option A) → option_or o (option_or p q) ≡ option_or (option_or o p) q
or_assoc None p q = refl
or_assoc (Some x) p q = refl

first_more : {A : Type 0} (f : Declaration → Option A) (ds : List Declaration) (d : Declaration) → first_some f (ds ++ d ∷ []) ≡ option_or (first_some f ds) (f d)
first_more f [] d = or_none (f d)
first_more f (e ∷ ds) d = ap (option_or (f e)) (first_more f ds d) ∙ or_assoc (f e) (first_some f ds) (f d)

none_is : {A : Type 0} (o : Option A) → is_none o ≡ true → o ≡ None
none_is None h = refl
none_is (Some x) h = absurd (cc)

both : (a b : Bool) → a && b ≡ true → (a ≡ true) × (b ≡ true)
both true true h = (refl, refl)
both true false h = absurd (cc)
both false b h = absurd (cc)

-- a value was put where there was none
placed : {A : Type 0} (b : Bool) (x : A) (o p : Option A) → o ≡ p → (b ≡ true → p ≡ None) → cond b (Some x) o ≡ option_or p (if b then Some x else None)
placed true x o p e f = rw (f refl) refl
placed false x o p e f = e ∙ sym (or_none p)

-- ---- one declaration more

free_is : (d : Declaration) (ds : List Declaration) (s : Sizes) → Answers ds s → is_free d s ≡ is_new d ds
free_is (stream n size) ds s a = ap is_none (a.streams n)
free_is (column n c k) ds s a = ap is_none (a.columns n c)

answers_more : (d : Declaration) (ds : List Declaration) (old new : Sizes) → Answers ds old → is_new d ds ≡ true → Adds d old new → Answers (ds ++ d ∷ []) new
answers_more (stream n size) ds old new a free e = record {
  streams = λ name. e.0 name
      ∙ placed (bytes_eq n name) size (stream_of old name) (stream_in ds name) (a.streams name)
      (λ q. ap (stream_in ds) (sym (bytes_same n name q)) ∙ none_is (stream_in ds n) free)
      ∙ sym (first_more (says_stream name) ds (stream n size));
  columns = λ name col. e.1 name col ∙ a.columns name col ∙ sym (or_none (column_in ds name col)) ∙ sym (first_more (says_column name col) ds (stream n size));
}
answers_more (column n c k) ds old new a free e = record {
  streams = λ name. e.0 name ∙ a.streams name ∙ sym (or_none (stream_in ds name)) ∙ sym (first_more (says_stream name) ds (column n c k));
  columns = λ name col. e.1 name col
      ∙ placed (bytes_eq n name && bytes_eq c col) k (column_of old name col) (column_in ds name col) (a.columns name col)
      (λ q. let r = both (bytes_eq n name) (bytes_eq c col) q in
      ap (λ z. column_in ds z col) (sym (bytes_same n name r.0)) ∙ ap (column_in ds n) (sym (bytes_same c col r.1)) ∙ none_is (column_in ds n c) free)
      ∙ sym (first_more (says_column name col) ds (column n c k));
}

-- ---- records

-- so many records of the whole were read, and the sizes answer what these declare
pub record ReadSoFar (whole : List Record) (number : ℕ) (rest : List Record) (s : Sizes) : Type 0 where
  pub done : List Record
  pub declared : List Declaration
  pub cut : whole ≡ done ++ rest
  pub many : length done ≡ number
  pub declare : Declares done declared
  pub answers : Answers declared s

pub none_read : (whole : List Record) (s : Sizes) → ((name : List ℕ) → stream_of s name ≡ None) → ((name col : List ℕ) → column_of s name col ≡ None) → ReadSoFar whole 0 whole s
none_read whole s f g = record { done = []; declared = []; cut = refl; many = refl; declare = nothing; answers = record { streams = f; columns = g } }

one_by : (whole : List Record) (number : ℕ) (x : Record) (rest : List Record) (old new : Sizes) (o : Option Declaration) → declaration_of x ≡ o
    → ReadSoFar whole number (x ∷ rest) old → is_taken o old ≡ true → IfSome o (λ d. Adds d old new) → ReadSoFar whole (number + 1) rest new
one_by whole number x rest old new None q r h e = absurd (cc)
one_by whole number x rest old new (Some d) q r h e =
    let free : is_new d r.declared ≡ true = sym (free_is d r.declared old r.answers) ∙ h in
    record {
      done = r.done ++ x ∷ [];
      declared = r.declared ++ d ∷ [];
      cut = r.cut ∙ sym (append_assoc r.done (x ∷ []) rest);
      many = (let k = length-append r.done (x ∷ []) in let m = r.many in omega (arith, k, m));
      declare = further x r.declare q free;
      answers = answers_more d r.declared old new r.answers free e;
    }

-- one more record is of the form
pub one_more : (whole : List Record) (number : ℕ) (x : Record) (rest : List Record) (old new : Sizes) → ReadSoFar whole number (x ∷ rest) old
    → is_taken (declaration_of x) old ≡ true → IfSome (declaration_of x) (λ d. Adds d old new) → ReadSoFar whole (number + 1) rest new
one_more whole number x rest old new r h e = one_by whole number x rest old new (declaration_of x) refl r h e
