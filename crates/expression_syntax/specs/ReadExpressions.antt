-- Reading of expressions, production by production.
use Rattle.std.specs.Prelude.{◌+◌, ◌-◌, ◌^◌, ◌==◌, ℕ, min, zero, suc, Bool, true, false, List, [], ◌∷◌, ◌++◌, length, take, drop, Option, Some, None, if◌then◌else◌, nat_lt, nat_le}
use Rattle.script_trees.specs.declared.agg.AggKind.{AggKind}
use Rattle.script_trees.specs.declared.agg.AggKind.TheVariants.{Count}
use Rattle.script_trees.specs.declared.op.PairOp.{PairOp}
use Rattle.script_trees.specs.declared.raw.RawExpr.{RawExpr}
use Rattle.script_trees.specs.declared.raw.RawExpr.TheVariants as raw
use Rattle.script_trees.specs.declared.raw.RawRef.{RawRef}
use Rattle.script_trees.specs.declared.raw_agg.RawAgg.{RawAgg}
use Rattle.expression_syntax.specs.declared.symbol.Symbol.TheVariants as mark
use Rattle.expression_syntax.specs.declared.level.Level.{Level}
use Rattle.expression_syntax.specs.declared.level.Level.TheVariants as level
use Rattle.expression_syntax.specs.declared.level.Place.{Place}
use Rattle.expression_syntax.specs.declared.level.Place.TheVariants as place
use Rattle.expression_syntax.specs.Lexemes.{Lexeme, symbol, name, is_symbol}
use Rattle.expression_syntax.specs.Expressions.{aggregate, joins, literal, max_expression, negates, tighter}
use Rattle.expression_syntax.specs.Reading.{Cursor, Parser, ◌>>=◌, ◌>>◌, and_then, eat, expect, past, pure, refuse, take_name, take_one}

-- a level's place in their order, from the loosest
abbrev pub rank : Level → ℕ
rank level.Or = 1
rank level.And = 2
rank level.Compare = 3
rank level.Sum = 4
rank level.Product = 5
rank level.Unary = 6
rank level.Primary = 7

-- the operator that a lexeme is at a level
abbrev pub if_of : Level → Option (Level × PairOp) → Option PairOp
if_of l None = None
if_of l (Some j) = if rank j.0 == rank l then Some j.1 else None

abbrev pub operator : Level → List Lexeme → Option PairOp
operator l [] = None
operator l (t ∷ ts) = if_of l (joins t)

-- takes an operator of a level if one is next
abbrev pub after_operator : Option PairOp → Parser (Option PairOp)
after_operator None c = Some (None, c)
after_operator (Some x) c = Some (Some x, past c)

unfoldable pub take_operator : Level → Parser (Option PairOp)
take_operator l c = after_operator (operator l c.rest) c

-- a column behind its first name, which is an alias if a dot stands behind it
abbrev pub column_end : List ℕ → Bool → Parser RawRef
column_end w true = take_name >>= (λ c. pure (record { alias = Some w; name = c }))
column_end w false = pure (record { alias = None; name = w })

unfoldable pub column : List ℕ → Parser RawRef
column w = eat (is_symbol mark.Dot) >>= column_end w

-- a new aggregate, which has the next number
unfoldable pub push : RawAgg → Parser RawExpr
push g c = if nat_lt (length c.aggs) (2 ^ 32) then Some (raw.Agg (length c.aggs), record c { aggs = c.aggs ++ g ∷ [] }) else None

-- a literal, where the lexeme is one
abbrev pub found : Option RawExpr → Parser RawExpr
found None = refuse
found (Some e) = pure e

-- the expressions of one level, one step deeper
module _ (inner : Level → Place → Parser RawExpr) where
  -- further operands of a level, each behind an operator, up to a number of turns
  abbrev pub go_on : Level → Place → RawExpr → (RawExpr → Parser RawExpr) → Option PairOp → Parser RawExpr
  go_on l p left next None = pure left
  go_on l p left next (Some x) = inner (tighter l) p >>= (λ right. next (raw.Pair x left right))

  unfoldable pub more : Level → Place → ℕ → RawExpr → Parser RawExpr
  more l p zero left = pure left
  more l p (suc k) left = take_operator l >>= go_on l p left (more l p k)

  unfoldable pub chain : Level → Place → Parser RawExpr
  chain l p c = and_then (inner (tighter l) p c) (more l p (length c.rest))

  unfoldable pub comparison : Place → Parser RawExpr
  comparison p = do
    left ← inner level.Sum p
    found ← take_operator level.Compare
    go_on level.Compare p left pure found

  -- a unary behind a negation, or none
  abbrev pub negated : Place → Bool → Parser RawExpr
  negated p true = inner level.Unary p >>= (λ e. pure (raw.Not e))
  negated p false = inner level.Primary p

  -- a unary behind a minus, or none
  abbrev pub signed : Place → Bool → Parser RawExpr
  signed p true = inner level.Unary p >>= (λ e. pure (raw.Neg e))
  signed p false = eat negates >>= negated p

  unfoldable pub unary : Place → Parser RawExpr
  unary p = eat (is_symbol mark.Minus) >>= signed p

  -- what stands behind an opening bracket
  unfoldable pub bracketed : Level → Place → Parser RawExpr
  bracketed l p = do
    e ← inner l p
    expect (is_symbol mark.Close)
    pure e

  -- an aggregate of its kind, behind the opening bracket
  unfoldable pub argument : AggKind → Parser RawExpr
  argument k = do
    e ← bracketed level.Or place.Plain
    push (record { kind = k; arg = Some e })

  -- what COUNT counts: all rows behind a star
  abbrev pub rows_end : Bool → Parser RawExpr
  rows_end true = expect (is_symbol mark.Close) >> push (record { kind = Count; arg = None })
  rows_end false = argument Count

  unfoldable pub rows : Parser RawExpr
  rows = eat (is_symbol mark.Star) >>= rows_end

  -- what an aggregate's name begins, where it may stand
  abbrev pub call : Place → Option AggKind → Parser RawExpr
  call place.Plain _ = refuse
  call place.Item None = refuse
  call place.Item (Some Count) = rows
  call place.Item (Some k) = argument k

  -- what a name begins, behind which an opening bracket stands or not
  abbrev pub named_end : Place → List ℕ → Bool → Parser RawExpr
  named_end p w true = call p (aggregate w)
  named_end p w false = column w >>= (λ r. pure (raw.Ref r))

  unfoldable pub named : Place → List ℕ → Parser RawExpr
  named p w = eat (is_symbol mark.Open) >>= named_end p w

  -- what a lexeme begins that was taken
  abbrev pub begun : Place → Lexeme → Parser RawExpr
  begun p (symbol mark.Open) = bracketed level.Or p
  begun p (name w) = named p w
  begun p t = found (literal t)

  unfoldable pub primary : Place → Parser RawExpr
  primary p = take_one >>= begun p

  abbrev pub step : Level → Place → Parser RawExpr
  step level.Compare p = comparison p
  step level.Unary p = unary p
  step level.Primary p = primary p
  step l p = chain l p

-- an expression of a level; the number bounds how deep the productions nest
unfoldable pub read : ℕ → Level → Place → Parser RawExpr
read zero l p = refuse
read (suc n) l p = step (read n) l p

-- as deep as an expression of so many lexemes can nest: each level once for each
abbrev pub max_depth : ℕ
max_depth = 1407

-- all but the lexemes that an expression may have, and one more, are hidden
unfoldable pub narrowed : Cursor → Cursor
narrowed c = record c { rest = take (max_expression + 1) c.rest }

-- where all these were ahead, and few enough of them were read, the reading goes on behind what was read
unfoldable pub widen : List Lexeme → Parser (Unit {0})
widen all c =
    let used = min (length all) (max_expression + 1) - length c.rest in
    if nat_le used max_expression then Some (tt, record c { rest = drop used all }) else None

-- a whole expression
unfoldable pub whole : Place → Parser RawExpr
whole p c = and_then (read max_depth level.Or p (narrowed c)) (λ e. widen c.rest >> pure e)
