-- Which columns a property names.
use Rattle.std.specs.Prelude.{◌≡◌, ℕ, Bool, true, false, List, [], ◌∷◌}
use Rattle.col_sets.specs.Sets.{within}
use Rattle.structural_props.specs.declared.property.Delivered.{Delivered}
use Rattle.structural_props.specs.declared.scheme.Scheme.{Scheme}
use Rattle.structural_props.specs.declared.scheme.Scheme.TheVariants.{Any, Serial, Hash, Range, Copies}
use Rattle.structural_props.specs.declared.action.Action.{Action}
use Rattle.structural_props.specs.declared.action.Action.TheVariants.{Group, Order, Rest}
use Rattle.structural_props.specs.Rows.{range_columns}

-- the parts are copies of one bag
abbrev pub is_copies : Scheme → Bool
is_copies (Copies k) = true
is_copies (Any k) = false
is_copies Serial = false
is_copies (Hash key) = false
is_copies (Range keys) = false

-- each row was dealt out to one part
abbrev pub IsDealt : Scheme → Type 0
IsDealt s = is_copies s ≡ false

-- the columns that a scheme names
abbrev pub scheme_columns : Scheme → List ℕ
scheme_columns (Any k) = []
scheme_columns Serial = []
scheme_columns (Hash key) = key
scheme_columns (Range keys) = range_columns keys
scheme_columns (Copies k) = []

-- the columns that an action names
abbrev pub action_columns : Action → List ℕ
action_columns (Order c dir) = c ∷ []
action_columns (Group s) = s
action_columns Rest = []

-- the actions name only these columns
abbrev pub AreActionsWithin : List ℕ → List Action → Type 0
AreActionsWithin cols [] = Unit {0}
AreActionsWithin cols (a ∷ acts) = (within (action_columns a) cols ≡ true) × AreActionsWithin cols acts

-- a delivered property names only these columns
pub record IsPropertyOver (cols : List ℕ) (d : Delivered) : Type 0 where
  pub scheme : within (scheme_columns d.scheme) cols ≡ true
  pub local : AreActionsWithin cols d.local
