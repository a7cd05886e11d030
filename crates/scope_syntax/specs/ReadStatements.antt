-- Reading of EXTRACT and of whole statements.
use Rattle.std.specs.Prelude.{◌≡◌, ℕ, List, [], ◌∷◌, Option, Some, None, Result, Ok, Err, if◌then◌else◌}
use Rattle.script_trees.specs.declared.command.Command.{Command}
use Rattle.script_trees.specs.declared.command.Command.TheVariants.{Extract, Select}
use Rattle.expression_syntax.specs.declared.keyword.Keyword.TheVariants as word
use Rattle.expression_syntax.specs.declared.refusal.Refusal.{Refusal}
use Rattle.expression_syntax.specs.declared.refusal.Refusal.TheVariants.{Memory, Grammar}
use Rattle.script_trees.specs.declared.script.Statement.{Statement}
use Rattle.expression_syntax.specs.declared.symbol.Symbol.TheVariants as mark
use Rattle.expression_syntax.specs.Lexemes.{Lexeme, keyword, name, is_symbol}
use Rattle.expression_syntax.specs.Parts.{is_comma}
use Rattle.scope_syntax.specs.Statements.{can_be_named}
use Rattle.expression_syntax.specs.Reading.{Cursor, Parser, ◌>>=◌, ◌>>◌, expect, pure, refuse, start, take_one}
use Rattle.expression_syntax.specs.ReadParts.{call, column, expect_word, list, take_text}
use Rattle.scope_syntax.specs.ReadSelect.{select}
use Rattle.scope_syntax.specs.ReadStored.{stored}
use Rattle.scope_syntax.specs.ReadCommands.{combine, output, process, reduce}

unfoldable pub extract : Parser Command
extract = do
  cols ← list is_comma column
  expect_word word.From
  stream ← take_text
  expect_word word.Using
  op ← call
  declared ← stored
  pure (Extract cols stream op declared)

unfoldable pub selection : Parser Command
selection = do
  s ← select
  pure (Select s)

-- a command, of which the first lexeme was taken
abbrev pub command_from : Lexeme → Parser Command
command_from (keyword word.Extract) = extract
command_from (keyword word.Select) = selection
command_from (keyword word.Process) = process
command_from (keyword word.Reduce) = reduce
command_from (keyword word.Combine) = combine
command_from (keyword word.Output) = output
command_from _ = refuse

unfoldable pub command : Parser Command
command = take_one >>= command_from

-- a command and its name, where it can have one
abbrev pub with_name : List ℕ → Command → Parser Statement
with_name n c = if can_be_named c then pure (record { name = Some n; command = c }) else refuse

-- a statement, of which the name was taken
unfoldable pub named_statement : List ℕ → Parser Statement
named_statement n = do
  expect (is_symbol mark.Is)
  c ← command
  with_name n c

abbrev pub without_name : Command → Statement
without_name c = record { name = None; command = c }

-- a statement, of which the first lexeme was taken
abbrev pub statement_from : Lexeme → Parser Statement
statement_from (name n) = named_statement n
statement_from t = command_from t >>= (λ c. pure (without_name c))

unfoldable pub statement : Parser Statement
statement = take_one >>= statement_from

-- what was read, where nothing is left
abbrev pub if_nothing_left : Statement → List Lexeme → Option Statement
if_nothing_left s [] = Some s
if_nothing_left s (t ∷ ts) = None

abbrev pub whole_of : Option (Statement × Cursor) → Option Statement
whole_of None = None
whole_of (Some p) = if_nothing_left p.0 p.1.rest

-- the statement that these lexemes are
unfoldable pub read_statement : List Lexeme → Option Statement
read_statement ts = whole_of (statement (start ts))

-- an answer is what reading gives, unless memory runs out
abbrev pub Answers : {A : Type 0} → Option A → Result A Refusal → Type 0
Answers o (Ok a) = o ≡ Some a
Answers o (Err Memory) = Unit {0}
Answers o (Err Grammar) = o ≡ None
