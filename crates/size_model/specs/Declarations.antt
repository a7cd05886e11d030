-- What the records of a sizes file declare, and which record is the first outside the form.
use Rattle.std.specs.Prelude.{◌≡◌, ◌==◌, ◌+◌, ◌++◌, ◌&&◌, ◌^◌, ℕ, Bool, true, false, List, [], ◌∷◌, length, Option, Some, None, if◌then◌else◌, codes}
use Rattle.std.specs.Option.{is_none, option_or}
use Rattle.std.specs.Str.{bytes_eq}
use Rattle.row_codec.specs.Numbers.{number_below}
use Rattle.row_codec.specs.Records.{Record}
use Rattle.size_model.specs.declared.declaration.Declaration as code
use Rattle.size_model.specs.declared.declaration.Declaration.TheVariants as variant
use Rattle.size_model.specs.declared.declaration.StreamSize.{StreamSize}

-- what a record declares: the rows and parts of a stream, or how many distinct values a column of a stream has
pub data Declaration : Type 0 where
  stream : List ℕ → StreamSize → Declaration
  column : List ℕ → List ℕ → ℕ → Declaration

-- the same, without pointers
abbrev pub told : code.Declaration → Declaration
told (variant.Stream name size) = stream name.now size
told (variant.Column name col distinct) = column name.now col.now distinct

-- ---- one record

-- the most rows, and the most distinct values
abbrev pub max_count : ℕ
max_count = 2 ^ 60

-- the most parts
abbrev pub max_parts : ℕ
max_parts = 64

-- a number from 1 to `most`, in ASCII digits without a zero in front
abbrev pub count : ℕ → List ℕ → Option ℕ
count most [] = None
count most (b ∷ rest) = if b == 48 then None else number_below (most + 1) (b ∷ rest)

abbrev pub stream_record : List ℕ → Option ℕ → Option ℕ → Option Declaration
stream_record name (Some r) (Some p) = Some (stream name (record { rows = r; parts = p }))
stream_record name _ _ = None

abbrev pub column_record : List ℕ → List ℕ → Option ℕ → Option Declaration
column_record name col None = None
column_record name col (Some k) = Some (column name col k)

-- stream,NAME,ROWS,PARTS or column,NAME,COLUMN,DISTINCT
abbrev pub declared_by : List ℕ → List ℕ → List ℕ → List ℕ → Option Declaration
declared_by kind name third fourth =
    if bytes_eq kind (codes "stream") then stream_record name (count max_count third) (count max_parts fourth)
    else (if bytes_eq kind (codes "column") then column_record name third (count max_count fourth) else None)

-- what a record declares, which has four fields
abbrev pub declaration_of : Record → Option Declaration
declaration_of (kind ∷ name ∷ third ∷ fourth ∷ []) = declared_by kind name third fourth
declaration_of _ = None

-- ---- declarations one after the other

-- what the first of them says that says anything
abbrev pub first_some : {A : Type 0} → (Declaration → Option A) → List Declaration → Option A
first_some f [] = None
first_some f (d ∷ ds) = option_or (f d) (first_some f ds)

abbrev pub says_stream : List ℕ → Declaration → Option StreamSize
says_stream name (stream n size) = if bytes_eq n name then Some size else None
says_stream name (column n c k) = None

abbrev pub says_column : List ℕ → List ℕ → Declaration → Option ℕ
says_column name col (stream n size) = None
says_column name col (column n c k) = if bytes_eq n name && bytes_eq c col then Some k else None

-- the rows and parts that are declared of a stream
abbrev pub stream_in : List Declaration → List ℕ → Option StreamSize
stream_in ds name = first_some (says_stream name) ds

-- the distinct values that are declared of a stream's column
abbrev pub column_in : List Declaration → List ℕ → List ℕ → Option ℕ
column_in ds name col = first_some (says_column name col) ds

-- none of the declarations is of the same stream, or of the same column of a stream
abbrev pub is_new : Declaration → List Declaration → Bool
is_new (stream n size) ds = is_none (stream_in ds n)
is_new (column n c k) ds = is_none (column_in ds n c)

-- the records declare these, in order: each is of one of the two forms, and declares what none before it does
pub data Declares : List Record → List Declaration → Type 0 where
  nothing : Declares [] []
  further : {rs : List Record} {ds : List Declaration} (r : Record) {d : Declaration}
      → Declares rs ds → declaration_of r ≡ Some d → is_new d ds ≡ true → Declares (rs ++ r ∷ []) (ds ++ d ∷ [])

-- the first record outside the form, counted from 1: those before it declare something, and it declares nothing, or
-- what one of them does
pub record IsFirstFault (rs : List Record) (number : ℕ) : Type 0 where
  pub before : List Record
  pub bad : Record
  pub behind : List Record
  pub declared : List Declaration
  pub cut : rs ≡ before ++ bad ∷ behind
  pub declare : Declares before declared
  pub outside : (d : Declaration) → declaration_of bad ≡ Some d → is_new d declared ≡ false
  pub place : number ≡ length before + 1
