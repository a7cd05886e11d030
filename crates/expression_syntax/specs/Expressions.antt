-- The grammar of expressions: which lexemes spell which expression.
use Rattle.std.specs.Prelude.{◌≡◌, ◌≤◌, ◌+◌, ℕ, Bool, true, false, List, [], ◌∷◌, ◌++◌, length, Option, Some, None, if◌then◌else◌, codes}
use Rattle.std.specs.Str.{str_eq_ignore_ascii_case}
use Rattle.scope_value.specs.declared.value.Value.TheVariants as value
use Rattle.script_trees.specs.declared.agg.AggKind.{AggKind}
use Rattle.script_trees.specs.declared.agg.AggKind.TheVariants.{Count, CountIf, Sum, Min, Max}
use Rattle.script_trees.specs.declared.op.PairOp.{PairOp}
use Rattle.script_trees.specs.declared.op.PairOp.TheVariants as op
use Rattle.script_trees.specs.declared.raw.RawExpr.{RawExpr}
use Rattle.script_trees.specs.declared.raw.RawExpr.TheVariants as raw
use Rattle.script_trees.specs.declared.raw.RawRef.{RawRef}
use Rattle.script_trees.specs.declared.raw_agg.RawAgg.{RawAgg}
use Rattle.expression_syntax.specs.declared.keyword.Keyword.TheVariants as word
use Rattle.expression_syntax.specs.declared.symbol.Symbol.{Symbol}
use Rattle.expression_syntax.specs.declared.symbol.Symbol.TheVariants as mark
use Rattle.expression_syntax.specs.declared.level.Level.{Level}
use Rattle.expression_syntax.specs.declared.level.Level.TheVariants as level
use Rattle.expression_syntax.specs.declared.level.Place.{Place}
use Rattle.expression_syntax.specs.declared.level.Place.TheVariants as place
use Rattle.expression_syntax.specs.Lexemes.{Lexeme, keyword, symbol, name, number, text}

-- ref = name | name "." name
pub data SpellsRef : List Lexeme → RawRef → Type 0 where
  bare : {c : List ℕ} → SpellsRef (name c ∷ []) (record { alias = None; name = c })
  aliased : {a c : List ℕ} → SpellsRef (name a ∷ symbol mark.Dot ∷ name c ∷ []) (record { alias = Some a; name = c })

-- the level that a level's operands are of
abbrev pub tighter : Level → Level
tighter level.Or = level.And
tighter level.And = level.Compare
tighter level.Compare = level.Sum
tighter level.Sum = level.Product
tighter level.Product = level.Unary
tighter level.Unary = level.Primary
tighter level.Primary = level.Primary

-- the symbols between two operands, and the level at which each joins them
abbrev pub symbol_joins : Symbol → Option (Level × PairOp)
symbol_joins mark.Either = Some (level.Or, op.Or)
symbol_joins mark.Both = Some (level.And, op.And)
symbol_joins mark.Equal = Some (level.Compare, op.Eq)
symbol_joins mark.Unequal = Some (level.Compare, op.Ne)
symbol_joins mark.Less = Some (level.Compare, op.Lt)
symbol_joins mark.AtMost = Some (level.Compare, op.Le)
symbol_joins mark.Greater = Some (level.Compare, op.Gt)
symbol_joins mark.AtLeast = Some (level.Compare, op.Ge)
symbol_joins mark.Plus = Some (level.Sum, op.Add)
symbol_joins mark.Minus = Some (level.Sum, op.Sub)
symbol_joins mark.Star = Some (level.Product, op.Mul)
symbol_joins mark.Slash = Some (level.Product, op.Div)
symbol_joins mark.Percent = Some (level.Product, op.Rem)
symbol_joins _ = None

-- the operators between two operands, each with its level
abbrev pub joins : Lexeme → Option (Level × PairOp)
joins (symbol s) = symbol_joins s
joins (keyword word.Or) = Some (level.Or, op.Or)
joins (keyword word.And) = Some (level.And, op.And)
joins _ = None

-- the levels whose operators group to the left; a comparison takes no second one
abbrev pub groups : Level → Bool
groups level.Or = true
groups level.And = true
groups level.Sum = true
groups level.Product = true
groups _ = false

-- the two spellings of a negation
abbrev pub negates : Lexeme → Bool
negates (symbol mark.Bang) = true
negates (keyword word.Not) = true
negates _ = false

-- the literals, each of one lexeme
abbrev pub literal : Lexeme → Option RawExpr
literal (number digits n) = Some (raw.Literal (value.Int n))
literal (text bytes) = Some (raw.Literal (value.Bytes bytes))
literal (keyword word.True) = Some (raw.Literal (value.Bool true))
literal (keyword word.False) = Some (raw.Literal (value.Bool false))
literal (keyword word.Null) = Some (raw.Literal value.Null)
literal _ = None

-- the aggregates' names, in any ASCII case
abbrev pub aggregate : List ℕ → Option AggKind
aggregate c =
    if str_eq_ignore_ascii_case (codes "COUNT") c then Some Count
    else (if str_eq_ignore_ascii_case (codes "COUNTIF") c then Some CountIf
    else (if str_eq_ignore_ascii_case (codes "SUM") c then Some Sum
    else (if str_eq_ignore_ascii_case (codes "MIN") c then Some Min
    else (if str_eq_ignore_ascii_case (codes "MAX") c then Some Max else None))))

-- `Spells l p n ts e gs`: at the level l and the place p the lexemes ts spell the expression e. Its aggregates are
-- numbered from n, from the left, and are gs.
pub data Spells : Level → Place → ℕ → List Lexeme → RawExpr → List RawAgg → Type 0 where
  -- each level holds what the next tighter one does
  alone : {l : Level} {p : Place} {n : ℕ} {ts : List Lexeme} {e : RawExpr} {gs : List RawAgg}
      → Spells (tighter l) p n ts e gs → Spells l p n ts e gs
  -- expr, and, sum and product = what stands before, an operator of the level, an operand of the next level
  joined : {l : Level} {p : Place} {n : ℕ} {ts us : List Lexeme} {a b : RawExpr} {gs hs : List RawAgg} (o : Lexeme) {x : PairOp}
      → groups l ≡ true → joins o ≡ Some (l, x) → Spells l p n ts a gs → Spells (tighter l) p (n + length gs) us b hs
      → Spells l p n (ts ++ o ∷ us) (raw.Pair x a b) (gs ++ hs)
  -- cmp = sum, a comparison, sum
  compared : {p : Place} {n : ℕ} {ts us : List Lexeme} {a b : RawExpr} {gs hs : List RawAgg} (o : Lexeme) {x : PairOp}
      → joins o ≡ Some (level.Compare, x) → Spells level.Sum p n ts a gs → Spells level.Sum p (n + length gs) us b hs
      → Spells level.Compare p n (ts ++ o ∷ us) (raw.Pair x a b) (gs ++ hs)
  -- unary = "-" unary | ("!" | NOT) unary
  negative : {p : Place} {n : ℕ} {ts : List Lexeme} {e : RawExpr} {gs : List RawAgg}
      → Spells level.Unary p n ts e gs → Spells level.Unary p n (symbol mark.Minus ∷ ts) (raw.Neg e) gs
  negated : {p : Place} {n : ℕ} {ts : List Lexeme} {e : RawExpr} {gs : List RawAgg} (o : Lexeme)
      → negates o ≡ true → Spells level.Unary p n ts e gs → Spells level.Unary p n (o ∷ ts) (raw.Not e) gs
  -- primary = a literal | ref | "(" expr ")" | agg
  constant : {p : Place} {n : ℕ} (t : Lexeme) {e : RawExpr} → literal t ≡ Some e → Spells level.Primary p n (t ∷ []) e []
  column : {p : Place} {n : ℕ} {ts : List Lexeme} {r : RawRef} → SpellsRef ts r → Spells level.Primary p n ts (raw.Ref r) []
  bracketed : {p : Place} {n : ℕ} {ts : List Lexeme} {e : RawExpr} {gs : List RawAgg}
      → Spells level.Or p n ts e gs → Spells level.Primary p n (symbol mark.Open ∷ (ts ++ symbol mark.Close ∷ [])) e gs
  -- agg = COUNT "(" "*" ")" | an aggregate's name "(" expr ")"; in items alone, and not inside another
  counted : {n : ℕ} (c : List ℕ) → aggregate c ≡ Some Count
      → Spells level.Primary place.Item n (name c ∷ symbol mark.Open ∷ symbol mark.Star ∷ symbol mark.Close ∷ []) (raw.Agg n)
      (record { kind = Count; arg = None } ∷ [])
  aggregated : {n : ℕ} {ts : List Lexeme} {e : RawExpr} (c : List ℕ) {k : AggKind}
      → aggregate c ≡ Some k → Spells level.Or place.Plain n ts e []
      → Spells level.Primary place.Item n (name c ∷ symbol mark.Open ∷ (ts ++ symbol mark.Close ∷ [])) (raw.Agg n)
      (record { kind = k; arg = Some e } ∷ [])

-- the most lexemes that an expression may have
abbrev pub max_expression : ℕ
max_expression = 200

-- a whole expression, of an item, of WHERE or of HAVING
pub record SpellsExpr (p : Place) (n : ℕ) (ts : List Lexeme) (e : RawExpr) (gs : List RawAgg) : Type 0 where
  pub short : length ts ≤ max_expression
  pub spelled : Spells level.Or p n ts e gs
