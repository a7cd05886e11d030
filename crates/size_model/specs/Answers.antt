-- What sizes answer: two look-ups by name, and a default where nothing is declared.
use Rattle.std.specs.Prelude.{◌≡◌, ◌&&◌, ℕ, Bool, false, cond, List, Option, Some, None}
use Rattle.std.specs.Option.{is_none, option_and_then, option_map_or}
use Rattle.std.specs.HashMap.{HashMap, get_by}
use Rattle.std.specs.Str.{bytes_eq}
use Rattle.std.specs.Vec.{vec_items}
use Rattle.row_codec.specs.Records.{Record}
use Rattle.size_model.specs.Declarations.{Declaration, Declares, stream, column, column_in, stream_in}
use Rattle.size_model.specs.declared.declaration.StreamSize.{StreamSize}
use Rattle.size_model.specs.declared.sizes.Sizes.{Sizes}

-- what a table has under a name, where `text` gives the bytes of its keys
abbrev pub under : {K V S : Type 0} → (K → List ℕ) → HashMap K V S → List ℕ → Option V
under text table name = get_by (λ k. bytes_eq name (text k)) table

-- the rows and parts that are declared of a stream
abbrev pub stream_of : Sizes → List ℕ → Option StreamSize
stream_of s name = under vec_items s.streams name

-- the distinct values that are declared of a stream's column
abbrev pub column_of : Sizes → List ℕ → List ℕ → Option ℕ
column_of s name col = option_and_then (λ table. under vec_items table col) (under vec_items s.columns name)

-- a stream that isn't declared has 1000 rows and 1 part, and a column that isn't has 100 distinct values
abbrev pub rows_of : Sizes → List ℕ → ℕ
rows_of s name = option_map_or (λ size. size.rows) (stream_of s name) 1000

abbrev pub parts_of : Sizes → List ℕ → ℕ
parts_of s name = option_map_or (λ size. size.parts) (stream_of s name) 1

abbrev pub distinct_of : Sizes → List ℕ → List ℕ → ℕ
distinct_of s name col = option_map_or (λ k. k) (column_of s name col) 100

-- the sizes answer what is declared
pub record Answers (ds : List Declaration) (s : Sizes) : Type 0 where
  pub streams : (name : List ℕ) → stream_of s name ≡ stream_in ds name
  pub columns : (name col : List ℕ) → column_of s name col ≡ column_in ds name col

-- all the records are of the form, and the sizes answer what they declare
abbrev pub Reads : List Record → Sizes → Type 0
Reads rs s = (ds : List Declaration) × Declares rs ds × Answers ds s

-- ---- one more declaration

-- nothing is declared of the same yet
abbrev pub is_free : Declaration → Sizes → Bool
is_free (stream n size) s = is_none (stream_of s n)
is_free (column n c k) s = is_none (column_of s n c)

-- what a record declares, if anything, is free
abbrev pub is_taken : Option Declaration → Sizes → Bool
is_taken None s = false
is_taken (Some d) s = is_free d s

-- the same sizes, and one declaration more
abbrev pub Adds : Declaration → Sizes → Sizes → Type 0
Adds (stream n size) old new =
    ((name : List ℕ) → stream_of new name ≡ cond (bytes_eq n name) (Some size) (stream_of old name))
    × ((name col : List ℕ) → column_of new name col ≡ column_of old name col)
Adds (column n c k) old new =
    ((name : List ℕ) → stream_of new name ≡ stream_of old name)
    × ((name col : List ℕ) → column_of new name col ≡ cond (bytes_eq n name && bytes_eq c col) (Some k) (column_of old name col))
