-- Choices of schemes that are listed.
use Rattle.std.specs.Prelude.{◌≡◌, ◌<◌, ◌≤◌, ℕ, suc, nat_lt, Bool, true, false, ◌&&◌, if◌then◌else◌, List, [], ◌∷◌, take, length, Some, slice_get}
use Rattle.structural_props.specs.declared.scheme.Scheme.{Scheme}
use Rattle.structural_props.specs.declared.property.Delivered.{Delivered}
use Rattle.logical_dag.specs.Scripts.{shared_trees, all_trees}
use Rattle.rules_optimal.specs.Tables.{IsBounded}
use Rattle.rules_tables.specs.Scripts.{script_of, forms_of}
use Rattle.rules_scripts.specs.Whole.{sum_to, Setting, tree_count, table_for, IsWanted, TreeGroups, root_of}
use Rattle.rules_space.specs.Memo.{Begins, IsClosed}
use Rattle.rules_space.specs.Steps.{IsStepped, IsPlacedFirst}

-- which schemes are listed for each shared tree
abbrev pub Listing : Type 0
Listing = ℕ → Scheme → Bool

-- what is given beyond the shared trees does not matter
abbrev pub is_listed : Setting → Listing → Listing
is_listed W listed s x = if nat_lt s (length (shared_trees W.dag)) then listed s x else true

-- these are listed, the first of them for tree i
abbrev pub all_listed : Listing → ℕ → List Scheme → Bool
all_listed listed i [] = true
all_listed listed i (x ∷ xs) = listed i x && all_listed listed (suc i) xs

-- the schemes given for the trees before t are listed
abbrev pub are_listed : Setting → Listing → List Scheme → ℕ → Bool
are_listed W listed given t = all_listed (is_listed W listed) 0 (take t given)

-- the groups of tree t, bounded under listed schemes; a scheme of its own that is not listed has no bound below C
pub record AreGroupsListed (W : Setting) (listed : Listing) (C t : ℕ) (c : TreeGroups) : Type 0 where
  pub there : slice_get (all_trees W.dag) t ≡ Some c.tree
  pub begins : Begins (forms_of c.tree) c.memo
  pub stepped : IsStepped (script_of c.tree) (forms_of c.tree) c.memo c.at
  pub placed : IsPlacedFirst c.memo c.at
  pub closed : IsClosed (script_of c.tree) c.memo c.at
  pub bounded : (given : List Scheme) → are_listed W listed given t ≡ true → IsBounded (table_for W given t c.tree) c.memo c.at (c.bound given)
  pub unlisted : (given : List Scheme) (d : Delivered) → are_listed W listed given t ≡ true → listed t d.scheme ≡ false → C ≤ c.bound given (root_of c) d

-- under no choice of listed schemes do the least bounds that are wanted sum to less
abbrev pub IsLeastListed : Setting → Listing → (ℕ → TreeGroups) → ℕ → Type 0
IsLeastListed W listed groups C = (given : List Scheme) → ((t : ℕ) → are_listed W listed given t ≡ true)
    → (least : ℕ → ℕ) × ((t : ℕ) (d : Delivered) → t < tree_count W → IsWanted W given t d → least t ≤ (groups t).bound given (root_of (groups t)) d) × (C ≤ sum_to least (tree_count W))
