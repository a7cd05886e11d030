-- A table that has the facts at the places of a script's tree.
use Rattle.std.specs.Prelude.{◌≡◌, ◌↔◌, ◌+◌, ℕ, Bool, true, false, if◌then◌else◌, List, [], ◌∷◌, ◌++◌, map, IsPermutation}
use Rattle.structural_props.specs.Actions.{In}
use Rattle.logical_trees.specs.declared.args.GroupArgs.{GroupArgs}
use Rattle.logical_trees.specs.declared.args.TopArgs.{TopArgs}
use Rattle.logical_trees.specs.declared.logic_op.LogicOp.TheVariants.{Join, Group, Top, Partial, Finish, LocalTop, LastTop}
use Rattle.logical_trees.specs.Tree.{Expression, leaf, one, two}
use Rattle.logical_dag.specs.Scripts.{top_of}
use Rattle.logical_dag.specs.Facts.{AreFactsOf}
use Rattle.logical_trees.specs.Blocks.{block_pairs, IsJoinOf}
use Rattle.rules_places.specs.Space.{is_block}
use Rattle.rules_shapes.specs.Shapes.{size, top_number, numbered_leaves}
use Rattle.rules_optimal.specs.Tables.{PlaceTable}
use Rattle.rules_space.specs.declared.kind.Kind.TheVariants as kind
use Rattle.rules_space.specs.Place.{Leaves, Whole, Half, Block}

-- all expressions of a tree, each with the number from which its nodes are numbered
abbrev pub numbered : ℕ → Expression → List (ℕ × Expression)
numbered base (leaf op) = (base, leaf op) ∷ []
numbered base (one op t) = (base, one op t) ∷ numbered base t
numbered base (two op t u) = (base, two op t u) ∷ (numbered base t ++ numbered (base + size t) u)

-- the tops of its join blocks; a Join that stands under another is none
abbrev pub tops : Bool → ℕ → Expression → List (ℕ × Expression)
tops under base (leaf op) = []
tops under base (one op t) = tops false base t
tops under base (two (Join on) t u) = (if under then [] else (base, two (Join on) t u) ∷ []) ++ (tops true base t ++ tops true (base + size t) u)
tops under base (two op t u) = tops false base t ++ tops false (base + size t) u

-- these are just the numbers of these leaves
abbrev pub HasNumbers : Leaves → List (ℕ × Expression) → Type 0
HasNumbers L leaves = (m : ℕ) → (L m ≡ true) ↔ ((v : ℕ × Expression) × In v leaves × (top_number v.0 v.1 ≡ m))

-- the table has the facts at each place of the tree: those of each node, of each first step of a Group or Top, and of the joins of
-- some leaves of each block; and it has each node's operator, and each block's equalities
pub record IsTableOf (T : PlaceTable) (tree : Expression) : Type 0 where
  pub whole : (v : ℕ × Expression) → In v (numbered 0 tree) → is_block v.1 ≡ false
      → AreFactsOf T.env.lent v.1 (T.facts (Whole (top_number v.0 v.1))) × (top_of v.1 ≡ T.op (kind.Node (top_number v.0 v.1)))
  pub group : (base : ℕ) (args : GroupArgs) (t : Expression) → In (base, one (Group args) t) (numbered 0 tree)
      → AreFactsOf T.env.lent (one (Partial args) t) (T.facts (Half (base + size t))) × (Partial args ≡ T.op (kind.Partial (base + size t))) × (Finish args ≡ T.op (kind.Finish (base + size t)))
  pub top : (base : ℕ) (args : TopArgs) (t : Expression) → In (base, one (Top args) t) (numbered 0 tree)
      → AreFactsOf T.env.lent (one (LocalTop args) t) (T.facts (Half (base + size t))) × (LocalTop args ≡ T.op (kind.Partial (base + size t))) × (LastTop args ≡ T.op (kind.Finish (base + size t)))
  pub block : (base : ℕ) (n : Expression) → In (base, n) (tops false 0 tree) → (L : Leaves) (leaves out : List (ℕ × Expression)) → IsPermutation (leaves ++ out) (numbered_leaves base n)
      → (v : ℕ × Expression) → In v leaves → HasNumbers L leaves
      → ((t : Expression) → IsJoinOf (block_pairs n) (map (λ w. w.1) leaves) t → AreFactsOf T.env.lent t (T.facts (Block L))) × (T.pairs (Block L) ≡ block_pairs n)
