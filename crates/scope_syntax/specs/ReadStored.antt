-- Reading of what is declared of a stored stream.
use Rattle.std.specs.Prelude.{List, Option}
use Rattle.script_trees.specs.declared.key.RawKey.{RawKey}
use Rattle.script_trees.specs.declared.stored.RawStored.{RawStored}
use Rattle.expression_syntax.specs.declared.symbol.Symbol.TheVariants as mark
use Rattle.expression_syntax.specs.declared.weak_keyword.WeakKeyword.TheVariants as weak
use Rattle.expression_syntax.specs.Lexemes.{is_symbol}
use Rattle.expression_syntax.specs.Parts.{is_comma}
use Rattle.expression_syntax.specs.Reading.{Parser, ◌>>=◌, ◌>>◌, expect, pure}
use Rattle.expression_syntax.specs.ReadParts.{expect_weak, key, list, optional_weak, reference}

-- "(" x ")"
unfoldable pub bracketed : {A : Type 0} → Parser A → Parser A
bracketed p = do
  expect (is_symbol mark.Open)
  x ← p
  expect (is_symbol mark.Close)
  pure x

-- [SORTED "(" keys ")"]
abbrev pub sorted : Parser (Option (List RawKey))
sorted = optional_weak weak.Sorted (bracketed (list is_comma key))

-- HASH "(" refs ")" [SORTED "(" keys ")"]
unfoldable pub declared : Parser RawStored
declared = do
  expect_weak weak.Hash
  columns ← bracketed (list is_comma reference)
  keys ← sorted
  pure (record { hash = columns; sorted = keys })

-- [stored]
abbrev pub stored : Parser (Option RawStored)
stored = optional_weak weak.Stored declared
