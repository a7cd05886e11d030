-- Expressions with the trees of groups that stand for them.
use Rattle.std.specs.Prelude.{◌≡◌, ◌+◌, ◌⊎◌, Bool, ℕ, true, false, List, [], ◌∷◌, ◌++◌, IsPermutation, Contains}
use Rattle.col_sets.specs.Sets.{has}
use Rattle.structural_props.specs.Actions.{In}
use Rattle.logical_trees.specs.declared.args.GroupArgs.{GroupArgs}
use Rattle.logical_trees.specs.declared.args.TopArgs.{TopArgs}
use Rattle.logical_trees.specs.declared.logic_op.LogicOp.{LogicOp}
use Rattle.logical_trees.specs.declared.logic_op.LogicOp.TheVariants.{Join, Group, Top, Partial, Finish, LocalTop, LastTop}
use Rattle.logical_trees.specs.Tree.{Expression, leaf, one, two, columns_of}
use Rattle.logical_trees.specs.Blocks.{block_pairs}
use Rattle.rules_steps.specs.Steps.{Pairs, IsDealt, Reaches}
use Rattle.rules_places.specs.Space.{is_join}
use Rattle.rules_space.specs.Tree as shape
use Rattle.rules_space.specs.declared.kind.Kind.TheVariants as kind
use Rattle.rules_space.specs.Place.{Script, place, linked}

abbrev pub Shape : Type 0
Shape = shape.Tree

-- how many nodes an expression has
abbrev pub size : Expression → ℕ
size (leaf op) = 1
size (one op t) = size t + 1
size (two op t u) = size t + (size u + 1)

-- the number of the top node, where the nodes are numbered in post-order from base on
abbrev pub top_number : ℕ → Expression → ℕ
top_number base (leaf op) = base
top_number base (one op t) = base + size t
top_number base (two op t u) = base + (size t + size u)

-- the leaves of the block at the top, each with the number from which its nodes are numbered
abbrev pub numbered_leaves : ℕ → Expression → List (ℕ × Expression)
numbered_leaves base (two (Join on) t u) = numbered_leaves base t ++ numbered_leaves (base + size t) u
numbered_leaves base t = (base, t) ∷ []

-- the shape of an expression of a script: its nodes by number, a Join by what it joins
abbrev pub shape_of : ℕ → Expression → Shape
shape_of base (leaf op) = shape.leaf (kind.Node base)
shape_of base (one op t) = shape.one (kind.Node (base + size t)) (shape_of base t)
shape_of base (two (Join on) t u) = shape.two kind.Join (shape_of base t) (shape_of (base + size t) u)
shape_of base (two op t u) = shape.two (kind.Node (base + (size t + size u))) (shape_of base t) (shape_of (base + size t) u)

mutual
  -- the second expression is one that rules make of the first, whose nodes are numbered from base on; its shape is s
  pub data IsShaped : ℕ → Expression → Expression → Shape → Type 0 where
    of_leaf : (base : ℕ) (op : LogicOp) → IsShaped base (leaf op) (leaf op) (shape.leaf (kind.Node base))
    of_one : (base : ℕ) (op : LogicOp) {t u : Expression} {s : Shape} → IsShaped base t u s → Reaches t u → IsShaped base (one op t) (one op u) (shape.one (kind.Node (base + size t)) s)
    of_group : (base : ℕ) (args : GroupArgs) {t u : Expression} {s : Shape} → IsShaped base t u s → Reaches t u
        → IsShaped base (one (Group args) t) (one (Finish args) (one (Partial args) u)) (shape.one (kind.Finish (base + size t)) (shape.one (kind.Partial (base + size t)) s))
    of_top : (base : ℕ) (args : TopArgs) {t u : Expression} {s : Shape} → IsShaped base t u s → Reaches t u
        → IsShaped base (one (Top args) t) (one (LastTop args) (one (LocalTop args) u)) (shape.one (kind.Finish (base + size t)) (shape.one (kind.Partial (base + size t)) s))
    of_two : (base : ℕ) (op : LogicOp) {t u v w : Expression} {r s : Shape} → is_join op ≡ false → IsShaped base t u r → Reaches t u → IsShaped (base + size t) v w s → Reaches v w
        → IsShaped base (two op t v) (two op u w) (shape.two (kind.Node (base + (size t + size v))) r s)
    of_join : (base : ℕ) (on : Pairs) (t u : Expression) {v : Expression} {s : Shape} → IsKnit (block_pairs (two (Join on) t u)) (numbered_leaves base (two (Join on) t u)) v s → IsShaped base (two (Join on) t u) v s

  -- a join by these pairs of expressions made of these numbered leaves
  pub data IsKnit : List (ℕ × ℕ) → List (ℕ × Expression) → Expression → Shape → Type 0 where
    alone : {pairs : List (ℕ × ℕ)} (base : ℕ) {t u : Expression} {s : Shape} → IsShaped base t u s → Reaches t u → IsKnit pairs ((base, t) ∷ []) u s
    both : {pairs : List (ℕ × ℕ)} {before beside leaves : List (ℕ × Expression)} (on : Pairs) {t u : Expression} {r s : Shape} → IsKnit pairs before t r → IsKnit pairs beside u s
        → IsPermutation (before ++ beside) leaves → IsDealt pairs t u on → IsKnit pairs leaves (two (Join on) t u) (shape.two kind.Join r s)

-- each pair of columns ties the two leaves that have them, by their numbers
abbrev pub AreTied : Script → List (ℕ × ℕ) → List (ℕ × Expression) → Type 0
AreTied S pairs leaves = (a b : ℕ) → Contains pairs (a, b) → (v w : ℕ × Expression) → In v leaves → In w leaves → has (columns_of v.1) a ≡ true → has (columns_of w.1) b ≡ true
    → Contains S.links (top_number v.0 v.1, top_number w.0 w.1)

-- the script has each Group and Top and the ties of each Join of the expression, whose nodes are numbered from base on
abbrev pub IsScriptOf : Script → ℕ → Expression → Type 0
IsScriptOf S base (leaf op) = Unit {0}
IsScriptOf S base (one (Group args) t) = (S.is_group (base + size t) ≡ true) × IsScriptOf S base t
IsScriptOf S base (one (Top args) t) = (S.is_group (base + size t) ≡ true) × IsScriptOf S base t
IsScriptOf S base (one op t) = Unit {0} × IsScriptOf S base t
IsScriptOf S base (two (Join on) t u) = AreTied S (block_pairs (two (Join on) t u)) (numbered_leaves base (two (Join on) t u)) × IsScriptOf S base t × IsScriptOf S (base + size t) u
IsScriptOf S base (two op t u) = Unit {0} × IsScriptOf S base t × IsScriptOf S (base + size t) u

-- a Group or a Top
abbrev pub is_split : LogicOp → Bool
is_split (Group args) = true
is_split (Top args) = true
is_split op = false

-- two leaves are tied only where a pair has a column of each
abbrev pub AreJust : Script → List (ℕ × ℕ) → List (ℕ × Expression) → Type 0
AreJust S pairs leaves = (v w : ℕ × Expression) → In v leaves → In w leaves → Contains S.links (top_number v.0 v.1, top_number w.0 w.1)
    → (a b : ℕ) × (has (columns_of v.1) a ≡ true) × (has (columns_of w.1) b ≡ true) × (Contains pairs (a, b) ⊎ Contains pairs (b, a))

-- the script has no more than that: of the nodes of the expression with one child it splits a Group and a Top alone, and it ties the
-- leaves of a block by the block's equalities alone
abbrev pub IsJustScriptOf : Script → ℕ → Expression → Type 0
IsJustScriptOf S base (leaf op) = Unit {0}
IsJustScriptOf S base (one op t) = (S.is_group (base + size t) ≡ true → is_split op ≡ true) × IsJustScriptOf S base t
IsJustScriptOf S base (two (Join on) t u) = AreJust S (block_pairs (two (Join on) t u)) (numbered_leaves base (two (Join on) t u)) × IsJustScriptOf S base t × IsJustScriptOf S (base + size t) u
IsJustScriptOf S base (two op t u) = Unit {0} × IsJustScriptOf S base t × IsJustScriptOf S (base + size t) u

-- each Join of a shape has a tie between its children
abbrev pub AllLinked : Script → Shape → Type 0
AllLinked S (shape.leaf k) = Unit {0}
AllLinked S (shape.one k s) = AllLinked S s
AllLinked S (shape.two kind.Join r s) = AllLinked S r × AllLinked S s × (linked S (place r) (place s) ≡ true)
AllLinked S (shape.two k r s) = AllLinked S r × AllLinked S s × Unit {0}
