-- Reading of SELECT, behind its word.
use Rattle.std.specs.Prelude.{ℕ, ℤ, zero, suc, pos, negsuc, Bool, true, false, List, [], ◌∷◌, ◌++◌, length, Option, Some, None, if◌then◌else◌}
use Rattle.script_trees.specs.declared.raw.RawExpr.{RawExpr}
use Rattle.script_trees.specs.declared.raw.RawRef.{RawRef}
use Rattle.script_trees.specs.declared.item.Items.{Items}
use Rattle.script_trees.specs.declared.key.RawKey.{RawKey}
use Rattle.expression_syntax.specs.declared.keyword.Keyword.{Keyword}
use Rattle.expression_syntax.specs.declared.keyword.Keyword.TheVariants as word
use Rattle.expression_syntax.specs.declared.level.Place.TheVariants as place
use Rattle.script_trees.specs.declared.raw_agg.RawAgg.{RawAgg}
use Rattle.script_trees.specs.declared.select.Joined.{Joined}
use Rattle.script_trees.specs.declared.select.Select as selects
use Rattle.script_trees.specs.declared.side.JoinSide.{JoinSide}
use Rattle.script_trees.specs.declared.side.JoinSide.TheVariants as side
use Rattle.script_trees.specs.declared.source.Source.{Source}
use Rattle.expression_syntax.specs.declared.weak_keyword.WeakKeyword.TheVariants as weak
use Rattle.expression_syntax.specs.Lexemes.{Lexeme, number}
use Rattle.expression_syntax.specs.Parts.{is_and, is_comma}
use Rattle.expression_syntax.specs.Reading.{Parser, ◌>>=◌, ◌>>◌, pure, refuse, take_one}
use Rattle.expression_syntax.specs.ReadExpressions.{whole}
use Rattle.expression_syntax.specs.ReadItems.{items, take_aggs}
use Rattle.expression_syntax.specs.ReadParts.{eat_weak, eat_word, equality, expect_word, key, list, optional, reference, source}

-- ---- the number of TOP

abbrev pub not_negative : ℤ → Parser ℕ
not_negative (pos n) = pure n
not_negative (negsuc n) = refuse

abbrev pub count_from : Lexeme → Parser ℕ
count_from (number digits n) = not_negative n
count_from _ = refuse

unfoldable pub count : Parser ℕ
count = take_one >>= count_from

abbrev pub top : Parser (Option ℕ)
top = optional word.Top count

-- ---- sources

-- [INNER] JOIN, and whether it was there
unfoldable pub join_word : Parser Bool
join_word = do
  is_inner ← eat_word word.Inner
  if is_inner then (do expect_word word.Join; pure true) else eat_word word.Join

-- a source that is joined by a side, behind JOIN
unfoldable pub joined : JoinSide → Parser Joined
joined d = do
  s ← source
  expect_word word.On
  es ← list is_and equality
  pure (record { source = s; side = d; on = es })

-- further joined sources, up to a number of turns
abbrev pub next_join : List Joined → (List Joined → Parser (List Joined)) → Bool → Parser (List Joined)
next_join js next false = pure js
next_join js next true = joined side.Inner >>= (λ j. next (js ++ j ∷ []))

unfoldable pub joins : ℕ → List Joined → Parser (List Joined)
joins zero js = pure js
joins (suc k) js = join_word >>= next_join js (joins k)

-- the first source has the side Inner and no equalities
abbrev pub first_source : Source → List Joined
first_source s = (record { source = s; side = side.Inner; on = [] }) ∷ []

-- {[INNER] JOIN source ON eqs}
unfoldable pub inners : Source → Parser (List Joined)
inners s c = joins (length c.rest) (first_source s) c

-- LEFT, RIGHT or FULL, where one is next
unfoldable pub take_side : Parser (Option JoinSide)
take_side = do
  is_left ← eat_weak weak.Left
  if is_left then pure (Some side.Left) else (do
    is_right ← eat_weak weak.Right
    if is_right then pure (Some side.Right) else (do
      is_full ← eat_weak weak.Full
      if is_full then pure (Some side.Full) else pure None))

-- [OUTER] JOIN source ON eqs
unfoldable pub outer : JoinSide → Parser Joined
outer d = do
  is_outer ← eat_weak weak.Outer
  expect_word word.Join
  joined d

-- the sources of FROM, of which the first was read and a side taken, or none
abbrev pub sources_by : Source → Option JoinSide → Parser (List Joined)
sources_by s None = inners s
sources_by s (Some d) = outer d >>= (λ j. pure (first_source s ++ j ∷ []))

unfoldable pub sources : Source → Parser (List Joined)
sources s = take_side >>= sources_by s

unfoldable pub from : Parser (List Joined)
from = do
  is_there ← eat_word word.From
  if is_there then source >>= sources else pure []

-- ---- the other clauses

-- a word, and then something
unfoldable pub behind : {A : Type 0} → Keyword → Parser A → Parser A
behind w p = expect_word w >> p

abbrev pub filter : Parser (Option RawExpr)
filter = optional word.Where (whole place.Plain)

abbrev pub group : Parser (Option (List RawRef))
group = optional word.Group (behind word.By (list is_comma reference))

abbrev pub having : Parser (Option RawExpr)
having = optional word.Having (whole place.Plain)

abbrev pub order : Parser (Option (List RawKey))
order = optional word.Order (behind word.By (list is_comma key))

-- what stands behind the items
unfoldable pub clauses : Bool → Option ℕ → Items → List RawAgg → Parser selects.Select
clauses d t xs gs = do
  js ← from
  f ← filter
  g ← group
  h ← having
  o ← order
  pure (record { distinct = d; top = t; items = xs; aggs = gs; sources = js; filter = f; group = g; having = h; order = o })

unfoldable pub select : Parser selects.Select
select = do
  d ← eat_word word.Distinct
  t ← top
  xs ← items
  gs ← take_aggs
  clauses d t xs gs
