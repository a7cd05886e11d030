-- Reading of the parts that several commands have: lists, optional parts, operators, columns, sources, keys, equalities.
use Rattle.std.specs.Prelude.{ℕ, zero, suc, Bool, true, false, List, [], ◌∷◌, ◌++◌, length, Option, Some, None, if◌then◌else◌}
use Rattle.scope_value.specs.declared.schema.ColType.{ColType}
use Rattle.scope_value.specs.declared.schema.ColType.TheVariants as kind
use Rattle.scope_value.specs.declared.schema.Column.{Column}
use Rattle.script_trees.specs.declared.raw.RawRef.{RawRef}
use Rattle.script_trees.specs.declared.call.Call.{Call}
use Rattle.script_trees.specs.declared.key.RawKey.{RawKey}
use Rattle.expression_syntax.specs.declared.keyword.Keyword.{Keyword}
use Rattle.expression_syntax.specs.declared.keyword.Keyword.TheVariants as word
use Rattle.script_trees.specs.declared.source.Origin.{Origin}
use Rattle.script_trees.specs.declared.source.Origin.TheVariants.{Named, Stream}
use Rattle.script_trees.specs.declared.source.Source.{Source}
use Rattle.expression_syntax.specs.declared.symbol.Symbol.TheVariants as mark
use Rattle.expression_syntax.specs.declared.weak_keyword.WeakKeyword.{WeakKeyword}
use Rattle.expression_syntax.specs.Lexemes.{Lexeme, symbol, name, number, text, is_keyword, is_symbol, is_weak}
use Rattle.expression_syntax.specs.Parts.{is_comma, type_word}
use Rattle.expression_syntax.specs.Reading.{Parser, ◌>>=◌, ◌>>◌, and_then, begins, eat, expect, pure, refuse, take_name, take_one}
use Rattle.expression_syntax.specs.ReadExpressions as expression

-- takes a keyword if it is next, and says whether it did
abbrev pub eat_word : Keyword → Parser Bool
eat_word w = eat (is_keyword w)

-- takes a keyword, which has to be next
abbrev pub expect_word : Keyword → Parser (Unit {0})
expect_word w = expect (is_keyword w)

-- the same of a word that is a name elsewhere
abbrev pub eat_weak : WeakKeyword → Parser Bool
eat_weak w = eat (is_weak w)

abbrev pub expect_weak : WeakKeyword → Parser (Unit {0})
expect_weak w = expect (is_weak w)

-- ---- lists and optional parts

-- x {o x}
module _ {A : Type 0} (separates : Lexeme → Bool) (item : Parser A) where
  -- further items, each behind a separator, up to a number of turns
  abbrev pub next_item : List A → (List A → Parser (List A)) → Bool → Parser (List A)
  next_item xs next false = pure xs
  next_item xs next true = item >>= (λ x. next (xs ++ x ∷ []))

  unfoldable pub further : ℕ → List A → Parser (List A)
  further zero xs = pure xs
  further (suc k) xs = eat separates >>= next_item xs (further k)

  unfoldable pub list : Parser (List A)
  list c = and_then (item c) (λ x. further (length c.rest) (x ∷ []))

-- [w x]
unfoldable pub optional : {A : Type 0} → Keyword → Parser A → Parser (Option A)
optional w item = do
  is_there ← eat_word w
  if is_there then (do x ← item; pure (Some x)) else pure None

-- [w x], where w is a name elsewhere
unfoldable pub optional_weak : {A : Type 0} → WeakKeyword → Parser A → Parser (Option A)
optional_weak w item = do
  is_there ← eat_weak w
  if is_there then (do x ← item; pure (Some x)) else pure None

-- [x], where the next lexeme tells
abbrev pub read_if : {A : Type 0} → Parser A → Bool → Parser (Option A)
read_if item true = item >>= (λ x. pure (Some x))
read_if item false = pure None

unfoldable pub told : {A : Type 0} → (Lexeme → Bool) → Parser A → Parser (Option A)
told first item c = read_if item (begins first c.rest) c

-- ---- operators

-- a string
abbrev pub text_from : Lexeme → Parser (List ℕ)
text_from (text s) = pure s
text_from _ = refuse

unfoldable pub take_text : Parser (List ℕ)
take_text = take_one >>= text_from

-- the digits of a number
abbrev pub digits_from : (List ℕ → List ℕ) → Lexeme → Parser (List ℕ)
digits_from f (number digits n) = pure (f digits)
digits_from f _ = refuse

-- a number behind a minus
unfoldable pub negative : Parser (List ℕ)
negative = take_one >>= digits_from (λ digits. 45 ∷ digits)

abbrev pub arg_from : Lexeme → Parser (List ℕ)
arg_from (text s) = pure s
arg_from (symbol mark.Minus) = negative
arg_from t = digits_from (λ digits. digits) t

unfoldable pub arg : Parser (List ℕ)
arg = take_one >>= arg_from

-- arguments and the closing bracket, behind the opening one
unfoldable pub args : Parser (List (List ℕ))
args = do
  is_none ← eat (is_symbol mark.Close)
  if is_none then pure [] else (do
    xs ← list is_comma arg
    expect (is_symbol mark.Close)
    pure xs)

-- an operator, of which the name was read
unfoldable pub call_of : List ℕ → Parser Call
call_of c = do
  is_called ← eat (is_symbol mark.Open)
  if is_called then (do xs ← args; pure (record { op = c; args = xs })) else pure (record { op = c; args = [] })

unfoldable pub call : Parser Call
call = take_name >>= call_of

-- ---- columns

-- a column's type, where the word is one
abbrev pub typed : List ℕ → Option ColType → Parser Column
typed c None = refuse
typed c (Some k) = pure (record { name = c; kind = k })

-- a column, of which the name and the colon were read
abbrev pub typed_from : List ℕ → Lexeme → Parser Column
typed_from c (name w) = typed c (type_word w)
typed_from c _ = refuse

unfoldable pub typed_column : List ℕ → Parser Column
typed_column c = take_one >>= typed_from c

-- a column, of which the name was read
unfoldable pub column_of : List ℕ → Parser Column
column_of c = do
  is_typed ← eat (is_symbol mark.Colon)
  if is_typed then typed_column c else pure (record { name = c; kind = kind.Text })

unfoldable pub column : Parser Column
column = take_name >>= column_of

-- ---- sources

-- a stream, behind its name
unfoldable pub stream : List ℕ → Parser Origin
stream s = do
  expect_word word.Using
  op ← call
  pure (Stream s op)

abbrev pub origin_from : Lexeme → Parser Origin
origin_from (name c) = pure (Named c)
origin_from (text s) = stream s
origin_from _ = refuse

unfoldable pub origin : Parser Origin
origin = take_one >>= origin_from

abbrev pub alias : Parser (Option (List ℕ))
alias = optional word.As take_name

unfoldable pub source : Parser Source
source = do
  from ← origin
  called ← alias
  pure (record { origin = from; alias = called })

-- whether a source, or a name, begins with a lexeme
abbrev pub begins_source : Lexeme → Bool
begins_source (name c) = true
begins_source (text s) = true
begins_source _ = false

abbrev pub is_name : Lexeme → Bool
is_name (name c) = true
is_name _ = false

-- ---- references, keys, equalities

unfoldable pub reference : Parser RawRef
reference = take_name >>= expression.column

-- DESC or nothing
unfoldable pub down : RawRef → Parser RawKey
down r = do
  is_down ← eat_word word.Desc
  pure (record { column = r; down = is_down })

unfoldable pub key : Parser RawKey
key = do
  r ← reference
  is_up ← eat_word word.Asc
  if is_up then pure (record { column = r; down = false }) else down r

unfoldable pub equality : Parser (RawRef × RawRef)
equality = do
  a ← reference
  expect (is_symbol mark.Equal)
  b ← reference
  pure (a, b)
