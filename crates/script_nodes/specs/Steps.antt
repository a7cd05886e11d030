-- How a node comes to stand over what stands already. This serves the crate alone.
use Rattle.std.specs.Prelude.{◌≡◌, ℕ, ◌+◌, List, ◌∷◌, length, get_or}
use Rattle.logical_trees.specs.Tree.{Expression, tree_of}
use Rattle.script_meaning.specs.Part.{Part}
use Rattle.script_nodes.specs.declared.made.Made.{Made}
use Rattle.script_nodes.specs.Made.{IsMade, AreMade}
use Rattle.script_nodes.specs.Over.{next_behind}

-- the column at a place among these, one past all columns where there is none
abbrev pub column_at : List ℕ → ℕ → ℕ
column_at cols p = get_or cols p 128

-- the tree with its columns by place and the number behind them
pub record IsNode (t : Expression) (columns : List ℕ) (behind : ℕ) (m : Made) : Type 0 where
  pub tree : tree_of m.tree ≡ t
  pub cols : m.cols.items ≡ columns
  pub next : m.next ≡ behind

-- where a part stands, what the function makes of it, with so many columns, of which so many are numbered anew
pub record IsStep (f : Part → Part) (n fresh : ℕ) (old new : Made) : Type 0 where
  pub turns : (name : ℕ → ℕ) (s c : ℕ) (p : Part) → IsMade name s c p old → IsMade name s c (f p) new
  pub width : length new.cols.items ≡ n
  pub next : new.next ≡ old.next + fresh

-- the same over a part and one behind it
pub record IsStepOfTwo (f : Part → Part → Part) (n fresh : ℕ) (left right new : Made) : Type 0 where
  pub turns : (name : ℕ → ℕ) (s c : ℕ) (a b : Part) → IsMade name s c a left → IsMade name (s + length a.scans) (c + a.count) b right → IsMade name s c (f a b) new
  pub width : length new.cols.items ≡ n
  pub next : new.next ≡ right.next + fresh

-- the same over a part and all those behind it
pub record IsStepOfAll (f : Part → List Part → Part) (n fresh : ℕ) (first : Made) (others : List Made) (new : Made) : Type 0 where
  pub turns : (name : ℕ → ℕ) (s c : ℕ) (p : Part) (parts : List Part) → IsMade name s c p first → AreMade name (s + length p.scans) (c + p.count) parts others
      → IsMade name s c (f p parts) new
  pub width : length new.cols.items ≡ n
  pub next : new.next ≡ next_behind (first ∷ others) + fresh
