-- Reading of what a SELECT lists.
use Rattle.std.specs.Prelude.{◌==◌, ℕ, List, [], length, Some, None, if◌then◌else◌}
use Rattle.script_trees.specs.declared.raw.RawExpr.{RawExpr}
use Rattle.script_trees.specs.declared.raw.RawExpr.TheVariants.{Ref}
use Rattle.script_trees.specs.declared.raw.RawRef.{RawRef}
use Rattle.script_trees.specs.declared.item.Item.{Item}
use Rattle.script_trees.specs.declared.item.Items.{Items}
use Rattle.script_trees.specs.declared.item.Items.TheVariants.{All, Listed}
use Rattle.expression_syntax.specs.declared.keyword.Keyword.TheVariants as word
use Rattle.expression_syntax.specs.declared.level.Place.TheVariants as place
use Rattle.script_trees.specs.declared.raw_agg.RawAgg.{RawAgg}
use Rattle.expression_syntax.specs.declared.symbol.Symbol.TheVariants as mark
use Rattle.expression_syntax.specs.Lexemes.{Lexeme, is_symbol}
use Rattle.expression_syntax.specs.Parts.{is_comma}
use Rattle.expression_syntax.specs.Reading.{Parser, ◌>>=◌, and_then, eat, pure, take_name}
use Rattle.expression_syntax.specs.ReadExpressions.{whole}
use Rattle.expression_syntax.specs.ReadParts.{eat_word, list, reference}

-- an item that is named by its column
abbrev pub as_item : RawRef → Item
as_item r = record { expr = Ref r; name = r.name }

abbrev pub column_item : Parser Item
column_item = reference >>= (λ r. pure (as_item r))

-- An item without AS has to be a column: what was read as an expression, from these lexemes on and behind so many
-- aggregates, is read anew.
unfoldable pub bare : List Lexeme → ℕ → Parser Item
bare before n c = if length c.aggs == n then column_item (record c { rest = before }) else None

-- the name behind AS
unfoldable pub named : RawExpr → Parser Item
named e = do
  n ← take_name
  pure (record { expr = e; name = n })

-- an item, behind its expression
unfoldable pub item_behind : List Lexeme → ℕ → RawExpr → Parser Item
item_behind before n e = do
  is_named ← eat_word word.As
  if is_named then named e else bare before n

unfoldable pub item : Parser Item
item c = and_then (whole place.Item c) (item_behind c.rest (length c.aggs))

unfoldable pub items : Parser Items
items = do
  are_all ← eat (is_symbol mark.Star)
  if are_all then pure All else (do xs ← list is_comma item; pure (Listed xs))

-- the aggregates so far, of which none are left
unfoldable pub take_aggs : Parser (List RawAgg)
take_aggs c = Some (c.aggs, record c { aggs = [] })
