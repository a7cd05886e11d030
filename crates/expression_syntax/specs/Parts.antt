-- The grammar of the parts of statements: lists, operators, columns, sources, keys, equalities, and items. Each
-- definition says by its comment which production it is.
use Rattle.std.specs.Prelude.{◌≡◌, ◌+◌, ℕ, ℤ, Bool, true, false, List, [], ◌∷◌, ◌++◌, length, Option, Some, None, if◌then◌else◌, codes}
use Rattle.std.specs.Str.{bytes_eq}
use Rattle.scope_value.specs.declared.schema.ColType.{ColType}
use Rattle.scope_value.specs.declared.schema.ColType.TheVariants as kind
use Rattle.scope_value.specs.declared.schema.Column.{Column}
use Rattle.script_trees.specs.declared.raw.RawExpr.{RawExpr}
use Rattle.script_trees.specs.declared.raw.RawExpr.TheVariants.{Ref}
use Rattle.script_trees.specs.declared.raw.RawRef.{RawRef}
use Rattle.script_trees.specs.declared.call.Call.{Call}
use Rattle.script_trees.specs.declared.item.Item.{Item}
use Rattle.script_trees.specs.declared.item.Items.{Items}
use Rattle.script_trees.specs.declared.item.Items.TheVariants.{All, Listed}
use Rattle.script_trees.specs.declared.key.RawKey.{RawKey}
use Rattle.script_trees.specs.declared.raw_agg.RawAgg.{RawAgg}
use Rattle.script_trees.specs.declared.source.Origin.{Origin}
use Rattle.script_trees.specs.declared.source.Origin.TheVariants.{Named, Stream}
use Rattle.script_trees.specs.declared.source.Source.{Source}
use Rattle.expression_syntax.specs.declared.keyword.Keyword.{Keyword}
use Rattle.expression_syntax.specs.declared.keyword.Keyword.TheVariants as word
use Rattle.expression_syntax.specs.declared.symbol.Symbol.TheVariants as mark
use Rattle.expression_syntax.specs.declared.level.Place.TheVariants as place
use Rattle.expression_syntax.specs.declared.weak_keyword.WeakKeyword.{WeakKeyword}
use Rattle.expression_syntax.specs.Lexemes.{Lexeme, keyword, symbol, name, number, text, is_weak}
use Rattle.expression_syntax.specs.Expressions.{SpellsExpr, SpellsRef}

-- ---- parts that many productions have

-- [x]
abbrev pub SpellsOptional : {A : Type 0} → (List Lexeme → A → Type 0) → List Lexeme → Option A → Type 0
SpellsOptional P ts None = ts ≡ []
SpellsOptional P ts (Some x) = P ts x

-- x {o x}, where o is a separator
abbrev pub SpellsList : {A : Type 0} → (Lexeme → Bool) → (List Lexeme → A → Type 0) → List Lexeme → List A → Type 0
SpellsList separates P ts [] = ⊥
SpellsList separates P ts (x ∷ []) = P ts x
SpellsList separates P ts (x ∷ y ∷ more) =
    (a b : List Lexeme) × (o : Lexeme) × (ts ≡ a ++ o ∷ b) × (separates o ≡ true) × P a x × SpellsList separates P b (y ∷ more)

-- what stands between the parts of most lists
abbrev pub is_comma : Lexeme → Bool
is_comma (symbol mark.Comma) = true
is_comma _ = false

-- AND | "&&", which stands between the equalities of ON
abbrev pub is_and : Lexeme → Bool
is_and (keyword word.And) = true
is_and (symbol mark.Both) = true
is_and _ = false

-- name
abbrev pub SpellsName : List Lexeme → List ℕ → Type 0
SpellsName ts c = ts ≡ name c ∷ []

-- a word, and then something
abbrev pub SpellsAfter : {A : Type 0} → Keyword → (List Lexeme → A → Type 0) → List Lexeme → A → Type 0
SpellsAfter w P ts x = (a : List Lexeme) × (ts ≡ keyword w ∷ a) × P a x

-- the same, where the word is a name elsewhere
abbrev pub SpellsAfterWeak : {A : Type 0} → WeakKeyword → (List Lexeme → A → Type 0) → List Lexeme → A → Type 0
SpellsAfterWeak w P ts x = (t : Lexeme) × (a : List Lexeme) × (ts ≡ t ∷ a) × (is_weak w t ≡ true) × P a x

-- two words, and then something
abbrev pub SpellsAfterTwo : {A : Type 0} → Keyword → Keyword → (List Lexeme → A → Type 0) → List Lexeme → A → Type 0
SpellsAfterTwo v w P ts x = (a : List Lexeme) × (ts ≡ keyword v ∷ keyword w ∷ a) × P a x

-- ---- operators, columns, sources, keys, equalities

-- arg = string | ["-"] number
pub data SpellsArg : List Lexeme → List ℕ → Type 0 where
  bytes : {s : List ℕ} → SpellsArg (text s ∷ []) s
  digits : {d : List ℕ} {n : ℤ} → SpellsArg (number d n ∷ []) d
  minus : {d : List ℕ} {n : ℤ} → SpellsArg (symbol mark.Minus ∷ number d n ∷ []) (45 ∷ d)

-- [arg {"," arg}]
abbrev pub SpellsArgs : List Lexeme → List (List ℕ) → Type 0
SpellsArgs ts [] = ts ≡ []
SpellsArgs ts (x ∷ more) = SpellsList is_comma SpellsArg ts (x ∷ more)

-- op = name ["(" [arg {"," arg}] ")"]
pub data SpellsCall : List Lexeme → Call → Type 0 where
  alone : {c : List ℕ} → SpellsCall (name c ∷ []) (record { op = c; args = [] })
  called : {c : List ℕ} (ts : List Lexeme) {args : List (List ℕ)} → SpellsArgs ts args
      → SpellsCall (name c ∷ symbol mark.Open ∷ (ts ++ symbol mark.Close ∷ [])) (record { op = c; args = args })

-- "int" | "long" | "string" | "bool"
abbrev pub type_word : List ℕ → Option ColType
type_word w =
    if bytes_eq w (codes "int") then Some kind.Int
    else (if bytes_eq w (codes "long") then Some kind.Long
    else (if bytes_eq w (codes "string") then Some kind.Text
    else (if bytes_eq w (codes "bool") then Some kind.Bool else None)))

-- col = name [":" type]; a column without a type is a string
pub data SpellsColumn : List Lexeme → Column → Type 0 where
  untyped : {c : List ℕ} → SpellsColumn (name c ∷ []) (record { name = c; kind = kind.Text })
  typed : {c : List ℕ} (w : List ℕ) {k : ColType} → type_word w ≡ Some k
      → SpellsColumn (name c ∷ symbol mark.Colon ∷ name w ∷ []) (record { name = c; kind = k })

-- cols = col {"," col}
abbrev pub SpellsColumns : List Lexeme → List Column → Type 0
SpellsColumns = SpellsList is_comma SpellsColumn

-- name | string USING op
abbrev pub SpellsOrigin : List Lexeme → Origin → Type 0
SpellsOrigin ts (Named c) = ts ≡ name c ∷ []
SpellsOrigin ts (Stream s call) = (a : List Lexeme) × (ts ≡ text s ∷ keyword word.Using ∷ a) × SpellsCall a call

-- source = name [AS name] | string USING op [AS name]
abbrev pub SpellsSource : List Lexeme → Source → Type 0
SpellsSource ts s = (a b : List Lexeme) × (ts ≡ a ++ b) × SpellsOrigin a s.origin × SpellsOptional (SpellsAfter word.As SpellsName) b s.alias

-- refs = ref {"," ref}
abbrev pub SpellsRefs : List Lexeme → List RawRef → Type 0
SpellsRefs = SpellsList is_comma SpellsRef

-- ref [ASC | DESC]
pub data SpellsKey : List Lexeme → RawKey → Type 0 where
  bare : {ts : List Lexeme} {r : RawRef} → SpellsRef ts r → SpellsKey ts (record { column = r; down = false })
  up : {ts : List Lexeme} {r : RawRef} → SpellsRef ts r → SpellsKey (ts ++ keyword word.Asc ∷ []) (record { column = r; down = false })
  down : {ts : List Lexeme} {r : RawRef} → SpellsRef ts r → SpellsKey (ts ++ keyword word.Desc ∷ []) (record { column = r; down = true })

-- keys = ref [ASC | DESC] {"," ref [ASC | DESC]}
abbrev pub SpellsKeys : List Lexeme → List RawKey → Type 0
SpellsKeys = SpellsList is_comma SpellsKey

-- ref "==" ref
abbrev pub SpellsEquality : List Lexeme → RawRef × RawRef → Type 0
SpellsEquality ts e = (a b : List Lexeme) × (ts ≡ a ++ symbol mark.Equal ∷ b) × SpellsRef a e.0 × SpellsRef b e.1

-- eqs = ref "==" ref {(AND | "&&") ref "==" ref}
abbrev pub SpellsEqualities : List Lexeme → List (RawRef × RawRef) → Type 0
SpellsEqualities = SpellsList is_and SpellsEquality

-- ---- items

-- item = ref [AS name] | expr AS name. A ref alone has its last name; a ref with AS is an expr with AS.
pub data SpellsItem : ℕ → List Lexeme → Item → List RawAgg → Type 0 where
  bare : {n : ℕ} {ts : List Lexeme} {r : RawRef} → SpellsRef ts r → SpellsItem n ts (record { expr = Ref r; name = r.name }) []
  named : {n : ℕ} {ts : List Lexeme} {e : RawExpr} {gs : List RawAgg} {c : List ℕ} → SpellsExpr place.Item n ts e gs
      → SpellsItem n (ts ++ keyword word.As ∷ name c ∷ []) (record { expr = e; name = c }) gs

-- item {"," item}: the aggregates are numbered on from item to item
abbrev pub SpellsListed : ℕ → List Lexeme → List Item → List RawAgg → Type 0
SpellsListed n ts [] gs = ⊥
SpellsListed n ts (x ∷ []) gs = SpellsItem n ts x gs
SpellsListed n ts (x ∷ y ∷ more) gs =
    (a b : List Lexeme) × (fs hs : List RawAgg) × (ts ≡ a ++ symbol mark.Comma ∷ b) × (gs ≡ fs ++ hs)
    × SpellsItem n a x fs × SpellsListed (n + length fs) b (y ∷ more) hs

-- items = "*" | item {"," item}
abbrev pub SpellsItems : List Lexeme → Items → List RawAgg → Type 0
SpellsItems ts All gs = (ts ≡ symbol mark.Star ∷ []) × (gs ≡ [])
SpellsItems ts (Listed xs) gs = SpellsListed 0 ts xs gs
