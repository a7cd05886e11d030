-- The grammar of statements: which lexemes spell which command, and which a script. Each definition says by its
-- comment which production it is.
use Rattle.std.specs.Prelude.{◌≡◌, ◌+◌, ℕ, pos, Bool, true, false, List, [], ◌∷◌, ◌++◌, length, filter, Option, Some, None, ◌⊎◌, if◌then◌else◌}
use Rattle.std.specs.List.{slice_split}
use Rattle.scope_value.specs.declared.schema.Column.{Column}
use Rattle.script_trees.specs.declared.raw.RawExpr.{RawExpr}
use Rattle.script_trees.specs.declared.raw.RawRef.{RawRef}
use Rattle.script_trees.specs.declared.call.Call.{Call}
use Rattle.script_trees.specs.declared.command.Command.{Command}
use Rattle.script_trees.specs.declared.command.Command.TheVariants.{Extract, Select, Process, Reduce, Combine, Output}
use Rattle.script_trees.specs.declared.key.RawKey.{RawKey}
use Rattle.script_trees.specs.declared.script.Script.{Script}
use Rattle.script_trees.specs.declared.script.Statement.{Statement}
use Rattle.script_trees.specs.declared.select.Joined.{Joined}
use Rattle.script_trees.specs.declared.select.Select as selects
use Rattle.script_trees.specs.declared.side.JoinSide.{JoinSide}
use Rattle.script_trees.specs.declared.side.JoinSide.TheVariants as side
use Rattle.script_trees.specs.declared.source.Source.{Source}
use Rattle.script_trees.specs.declared.stored.RawStored.{RawStored}
use Rattle.expression_syntax.specs.declared.keyword.Keyword.TheVariants as word
use Rattle.expression_syntax.specs.declared.symbol.Symbol.TheVariants as mark
use Rattle.expression_syntax.specs.declared.level.Place.TheVariants as place
use Rattle.expression_syntax.specs.declared.weak_keyword.WeakKeyword.TheVariants as weak
use Rattle.expression_syntax.specs.Lexemes.{Lexeme, keyword, symbol, name, number, text, is_weak}
use Rattle.expression_syntax.specs.Expressions.{SpellsExpr}
use Rattle.expression_syntax.specs.Parts.{SpellsAfter, SpellsAfterTwo, SpellsAfterWeak, SpellsCall, SpellsColumns, SpellsEqualities, SpellsItems, SpellsKeys, SpellsName, SpellsOptional, SpellsRefs, SpellsSource}

-- ---- SELECT

-- [DISTINCT]
abbrev pub SpellsDistinct : List Lexeme → Bool → Type 0
SpellsDistinct ts true = ts ≡ keyword word.Distinct ∷ []
SpellsDistinct ts false = ts ≡ []

-- number
abbrev pub SpellsCount : List Lexeme → ℕ → Type 0
SpellsCount ts n = (digits : List ℕ) × (ts ≡ number digits (pos n) ∷ [])

-- source ON eqs
abbrev pub SpellsTied : List Lexeme → Joined → Type 0
SpellsTied ts j = (a b : List Lexeme) × (ts ≡ a ++ keyword word.On ∷ b) × SpellsSource a j.source × SpellsEqualities b j.on

-- [INNER]
abbrev pub SpellsInner : List Lexeme → Type 0
SpellsInner ts = (ts ≡ []) ⊎ (ts ≡ keyword word.Inner ∷ [])

-- [INNER] JOIN source ON eqs
abbrev pub SpellsJoin : List Lexeme → Joined → Type 0
SpellsJoin ts j = (a b : List Lexeme) × (ts ≡ a ++ keyword word.Join ∷ b) × (j.side ≡ side.Inner) × SpellsInner a × SpellsTied b j

-- inners = {[INNER] JOIN source ON eqs}
abbrev pub SpellsInners : List Lexeme → List Joined → Type 0
SpellsInners ts [] = ts ≡ []
SpellsInners ts (j ∷ more) = (a b : List Lexeme) × (ts ≡ a ++ b) × SpellsJoin a j × SpellsInners b more

-- LEFT | RIGHT | FULL
abbrev pub side_of : Lexeme → Option JoinSide
side_of t =
    if is_weak weak.Left t then Some side.Left
    else (if is_weak weak.Right t then Some side.Right
    else (if is_weak weak.Full t then Some side.Full else None))

-- [OUTER]
abbrev pub SpellsOuterWord : List Lexeme → Type 0
SpellsOuterWord ts = (ts ≡ []) ⊎ ((t : Lexeme) × (ts ≡ t ∷ []) × (is_weak weak.Outer t ≡ true))

-- outer = (LEFT | RIGHT | FULL) [OUTER] JOIN source ON eqs
abbrev pub SpellsOuter : List Lexeme → Joined → Type 0
SpellsOuter ts j =
    (t : Lexeme) × (a b : List Lexeme) × (ts ≡ t ∷ (a ++ keyword word.Join ∷ b)) × (side_of t ≡ Some j.side) × SpellsOuterWord a × SpellsTied b j

-- inners | outer
abbrev pub SpellsJoined : List Lexeme → List Joined → Type 0
SpellsJoined ts js = SpellsInners ts js ⊎ ((j : Joined) × (js ≡ j ∷ []) × SpellsOuter ts j)

-- [FROM source (inners | outer)]; the first source has the side Inner and no equalities
abbrev pub SpellsFrom : List Lexeme → List Joined → Type 0
SpellsFrom ts [] = ts ≡ []
SpellsFrom ts (first ∷ more) =
    (first.side ≡ side.Inner) × (first.on ≡ [])
    × ((a b : List Lexeme) × (ts ≡ keyword word.From ∷ (a ++ b)) × SpellsSource a first.source × SpellsJoined b more)

-- expr, outside of items
abbrev pub SpellsPlain : List Lexeme → RawExpr → Type 0
SpellsPlain ts e = SpellsExpr place.Plain 0 ts e []

-- select = SELECT [DISTINCT] [TOP number] items [FROM ..] [WHERE expr] [GROUP BY refs] [HAVING expr] [ORDER BY keys]
pub record SpellsSelect (ts : List Lexeme) (s : selects.Select) : Type 0 where
  pub distinct_part : List Lexeme
  pub top_part : List Lexeme
  pub items_part : List Lexeme
  pub from_part : List Lexeme
  pub where_part : List Lexeme
  pub group_part : List Lexeme
  pub having_part : List Lexeme
  pub order_part : List Lexeme
  pub whole : ts ≡ keyword word.Select ∷ (distinct_part ++ (top_part ++ (items_part ++ (from_part ++ (where_part ++ (group_part ++ (having_part ++ order_part)))))))
  pub distinct : SpellsDistinct distinct_part s.distinct
  pub top : SpellsOptional (SpellsAfter word.Top SpellsCount) top_part s.top
  pub items : SpellsItems items_part s.items s.aggs
  pub sources : SpellsFrom from_part s.sources
  pub rows : SpellsOptional (SpellsAfter word.Where SpellsPlain) where_part s.filter
  pub group : SpellsOptional (SpellsAfterTwo word.Group word.By SpellsRefs) group_part s.group
  pub having : SpellsOptional (SpellsAfter word.Having SpellsPlain) having_part s.having
  pub order : SpellsOptional (SpellsAfterTwo word.Order word.By SpellsKeys) order_part s.order

-- ---- the other commands

-- USING op PRODUCE cols
abbrev pub SpellsProduct : List Lexeme → Call → List Column → Type 0
SpellsProduct ts call cols =
    (a b : List Lexeme) × (ts ≡ keyword word.Using ∷ (a ++ keyword word.Produce ∷ b)) × SpellsCall a call × SpellsColumns b cols

-- [PRESORT keys]
abbrev pub SpellsPresort : List Lexeme → Option (List RawKey) → Type 0
SpellsPresort = SpellsOptional (SpellsAfter word.Presort SpellsKeys)

-- "(" x ")"
abbrev pub SpellsBracketed : {A : Type 0} → (List Lexeme → A → Type 0) → List Lexeme → A → Type 0
SpellsBracketed P ts x = (a : List Lexeme) × (ts ≡ symbol mark.Open ∷ (a ++ symbol mark.Close ∷ [])) × P a x

-- HASH "(" refs ")" [SORTED "(" keys ")"]
abbrev pub SpellsDeclared : List Lexeme → RawStored → Type 0
SpellsDeclared ts s =
    (a b : List Lexeme) × (ts ≡ a ++ b) × SpellsAfterWeak weak.Hash (SpellsBracketed SpellsRefs) a s.hash
    × SpellsOptional (SpellsAfterWeak weak.Sorted (SpellsBracketed SpellsKeys)) b s.sorted

-- [stored], where stored = STORED HASH "(" refs ")" [SORTED "(" keys ")"]
abbrev pub SpellsStored : List Lexeme → Option RawStored → Type 0
SpellsStored = SpellsOptional (SpellsAfterWeak weak.Stored SpellsDeclared)

-- extract = EXTRACT cols FROM string USING op [stored]
abbrev pub SpellsExtract : List Lexeme → List Column → List ℕ → Call → Option RawStored → Type 0
SpellsExtract ts cols stream call stored =
    (a b c : List Lexeme) × (ts ≡ keyword word.Extract ∷ (a ++ keyword word.From ∷ text stream ∷ keyword word.Using ∷ (b ++ c)))
    × SpellsColumns a cols × SpellsCall b call × SpellsStored c stored

-- process = PROCESS [source] USING op PRODUCE cols
abbrev pub SpellsProcess : List Lexeme → Option Source → Call → List Column → Type 0
SpellsProcess ts source call cols =
    (a b : List Lexeme) × (ts ≡ keyword word.Process ∷ (a ++ b)) × SpellsOptional SpellsSource a source × SpellsProduct b call cols

-- reduce = REDUCE [source] [PRESORT keys] ON refs USING op PRODUCE cols
abbrev pub SpellsReduce : List Lexeme → Option Source → Option (List RawKey) → List RawRef → Call → List Column → Type 0
SpellsReduce ts source presort on call cols =
    (a b c d : List Lexeme) × (ts ≡ keyword word.Reduce ∷ (a ++ (b ++ keyword word.On ∷ (c ++ d))))
    × SpellsOptional SpellsSource a source × SpellsPresort b presort × SpellsRefs c on × SpellsProduct d call cols

-- source [PRESORT keys]
abbrev pub SpellsInput : List Lexeme → Source → Option (List RawKey) → Type 0
SpellsInput ts source presort = (a b : List Lexeme) × (ts ≡ a ++ b) × SpellsSource a source × SpellsPresort b presort

-- combine = COMBINE source [PRESORT keys] WITH source [PRESORT keys] ON eqs USING op PRODUCE cols
abbrev pub SpellsCombine : List Lexeme → Source → Option (List RawKey) → Source → Option (List RawKey) → List (RawRef × RawRef) → Call → List Column → Type 0
SpellsCombine ts left left_presort right right_presort on call cols =
    (a b c d : List Lexeme) × (ts ≡ keyword word.Combine ∷ (a ++ keyword word.With ∷ (b ++ keyword word.On ∷ (c ++ d))))
    × SpellsInput a left left_presort × SpellsInput b right right_presort × SpellsEqualities c on × SpellsProduct d call cols

-- output = OUTPUT [name] TO string [USING name] [stored]
abbrev pub SpellsOutput : List Lexeme → Option (List ℕ) → List ℕ → Option (List ℕ) → Option RawStored → Type 0
SpellsOutput ts source stream outputter stored =
    (a b c : List Lexeme) × (ts ≡ keyword word.Output ∷ (a ++ keyword word.To ∷ text stream ∷ (b ++ c)))
    × SpellsOptional SpellsName a source × SpellsOptional (SpellsAfter word.Using SpellsName) b outputter × SpellsStored c stored

-- command | output
abbrev pub SpellsCommand : List Lexeme → Command → Type 0
SpellsCommand ts (Extract cols stream call stored) = SpellsExtract ts cols stream call stored
SpellsCommand ts (Select s) = SpellsSelect ts s
SpellsCommand ts (Process source call cols) = SpellsProcess ts source call cols
SpellsCommand ts (Reduce source presort on call cols) = SpellsReduce ts source presort on call cols
SpellsCommand ts (Combine left left_presort right right_presort on call cols) = SpellsCombine ts left left_presort right right_presort on call cols
SpellsCommand ts (Output source stream outputter stored) = SpellsOutput ts source stream outputter stored

-- ---- statements and scripts

-- the end of a statement
abbrev pub is_end : Lexeme → Bool
is_end (symbol mark.Semicolon) = true
is_end _ = false

-- every command but an output can be named
abbrev pub can_be_named : Command → Bool
can_be_named (Output source stream outputter stored) = false
can_be_named _ = true

-- statement = [name "="] command | output
pub data SpellsStatement : List Lexeme → Statement → Type 0 where
  unnamed : {ts : List Lexeme} {c : Command} → SpellsCommand ts c → SpellsStatement ts (record { name = None; command = c })
  named : {ts : List Lexeme} {c : Command} {n : List ℕ} → can_be_named c ≡ true → SpellsCommand ts c
      → SpellsStatement (name n ∷ symbol mark.Is ∷ ts) (record { name = Some n; command = c })

-- whether there is anything
abbrev pub is_filled : List Lexeme → Bool
is_filled [] = false
is_filled (t ∷ ts) = true

-- the statements of a script that aren't empty: what stands between semicolons
abbrev pub pieces : List Lexeme → List (List Lexeme)
pieces ts = filter is_filled (slice_split is_end ts)

-- each piece spells its statement
abbrev pub SpellsEach : List (List Lexeme) → List Statement → Type 0
SpellsEach [] [] = Unit {0}
SpellsEach (p ∷ ps) (s ∷ ss) = SpellsStatement p s × SpellsEach ps ss
SpellsEach _ _ = ⊥

-- script = {[statement] ";"} [statement]
abbrev pub SpellsScript : List Lexeme → Script → Type 0
SpellsScript ts s = SpellsEach (pieces ts) s.statements

-- the first statement outside the grammar, counted from 1: those before it are spelled, and it spells none
pub record IsFirstFault (ts : List Lexeme) (number : ℕ) : Type 0 where
  pub before : List (List Lexeme)
  pub bad : List Lexeme
  pub behind : List (List Lexeme)
  pub cut : pieces ts ≡ before ++ bad ∷ behind
  pub spelled : (ss : List Statement) × SpellsEach before ss
  pub outside : (s : Statement) → SpellsStatement bad s → ⊥
  pub place : number ≡ length before + 1
