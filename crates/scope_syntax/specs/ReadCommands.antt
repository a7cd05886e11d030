-- Reading of the commands besides SELECT, each behind its first word.
use Rattle.std.specs.Prelude.{List, Option}
use Rattle.scope_value.specs.declared.schema.Column.{Column}
use Rattle.script_trees.specs.declared.call.Call.{Call}
use Rattle.script_trees.specs.declared.command.Command.{Command}
use Rattle.script_trees.specs.declared.command.Command.TheVariants.{Process, Reduce, Combine, Output}
use Rattle.script_trees.specs.declared.key.RawKey.{RawKey}
use Rattle.expression_syntax.specs.declared.keyword.Keyword.TheVariants as word
use Rattle.script_trees.specs.declared.source.Source.{Source}
use Rattle.expression_syntax.specs.Parts.{is_and, is_comma}
use Rattle.expression_syntax.specs.Reading.{Parser, ◌>>=◌, ◌>>◌, pure, take_name}
use Rattle.expression_syntax.specs.ReadParts.{begins_source, call, column, equality, expect_word, is_name, key, list, optional, reference, source, take_text, told}
use Rattle.scope_syntax.specs.ReadStored.{stored}

-- [PRESORT keys]
abbrev pub presort : Parser (Option (List RawKey))
presort = optional word.Presort (list is_comma key)

-- USING op PRODUCE cols
unfoldable pub produced : Parser (Call × List Column)
produced = do
  expect_word word.Using
  op ← call
  expect_word word.Produce
  cols ← list is_comma column
  pure (op, cols)

unfoldable pub process : Parser Command
process = do
  from ← told begins_source source
  made ← produced
  pure (Process from made.0 made.1)

unfoldable pub reduce : Parser Command
reduce = do
  from ← told begins_source source
  keys ← presort
  expect_word word.On
  on ← list is_comma reference
  made ← produced
  pure (Reduce from keys on made.0 made.1)

-- source [PRESORT keys]
unfoldable pub input : Parser (Source × Option (List RawKey))
input = do
  from ← source
  keys ← presort
  pure (from, keys)

unfoldable pub combine : Parser Command
combine = do
  left ← input
  expect_word word.With
  right ← input
  expect_word word.On
  on ← list is_and equality
  made ← produced
  pure (Combine left.0 left.1 right.0 right.1 on made.0 made.1)

unfoldable pub output : Parser Command
output = do
  from ← told is_name take_name
  expect_word word.To
  stream ← take_text
  by ← optional word.Using take_name
  declared ← stored
  pure (Output from stream by declared)
