-- What of a scheme and of actions is handed on, where columns are left out or have new names.
use Rattle.std.specs.Prelude.{ℕ, Bool, true, false, if◌then◌else◌, List, [], ◌∷◌, map, Option, unwrap_or, is_some}
use Rattle.std.specs.List.{list_all}
use Rattle.col_sets.specs.declared.dir.Dir.{Dir}
use Rattle.col_sets.specs.Sets.{has, within, set_of}
use Rattle.structural_props.specs.declared.scheme.Scheme.{Scheme}
use Rattle.structural_props.specs.declared.scheme.Scheme.TheVariants.{Any, Serial, Hash, Range, Copies}
use Rattle.structural_props.specs.declared.action.Action.{Action}
use Rattle.structural_props.specs.declared.action.Action.TheVariants.{Group, Order, Rest}
use Rattle.structural_props.specs.Rows.{range_columns}
use Rattle.structural_props.specs.Named.{scheme_columns}

-- how many parts a scheme has, n being the partition count
abbrev pub width : ℕ → Scheme → ℕ
width n (Any k) = k
width n Serial = 1
width n (Hash key) = n
width n (Range keys) = n
width n (Copies k) = k

-- one part stays one, of more nothing else is known
abbrev pub loose : ℕ → Scheme → Scheme
loose n Serial = Serial
loose n s = Any (width n s)

-- the scheme, where all its columns are keys
abbrev pub keep : ℕ → List ℕ → Scheme → Scheme
keep n keys s = if within (scheme_columns s) keys then s else Any (width n s)

-- the longest prefix of actions that pass
abbrev pub upto : (Action → Bool) → List Action → List Action
upto test [] = []
upto test (a ∷ acts) = if test a then a ∷ upto test acts else []

-- the action has only key columns; Rest has others
abbrev pub has_keys_only : List ℕ → Action → Bool
has_keys_only keys (Order c dir) = has keys c
has_keys_only keys (Group s) = within s keys
has_keys_only keys Rest = false

-- the longest prefix of actions that have only key columns, without Rest
abbrev pub front : List ℕ → List Action → List Action
front keys = upto (has_keys_only keys)

-- the action is not Rest
abbrev pub is_no_rest : Action → Bool
is_no_rest (Order c dir) = true
is_no_rest (Group s) = true
is_no_rest Rest = false

-- the actions up to Rest
abbrev pub cut : List Action → List Action
cut = upto is_no_rest

-- the longest prefix of Orders, as keys
abbrev pub orders_of : List Action → List (ℕ × Dir)
orders_of [] = []
orders_of (Order c dir ∷ acts) = (c, dir) ∷ orders_of acts
orders_of (Group s ∷ acts) = []
orders_of (Rest ∷ acts) = []

-- whether Rest follows it
abbrev pub has_rest : List Action → Bool
has_rest [] = false
has_rest (Order c dir ∷ acts) = has_rest acts
has_rest (Group s ∷ acts) = false
has_rest (Rest ∷ acts) = true

-- ---- renaming

-- the column has a name
abbrev pub is_named : (ℕ → Option ℕ) → ℕ → Bool
is_named name c = is_some (name c)

-- its name, where it has one
abbrev pub new_name : (ℕ → Option ℕ) → ℕ → ℕ
new_name name c = unwrap_or (name c) 0

-- all have names
abbrev pub all_named : (ℕ → Option ℕ) → List ℕ → Bool
all_named name cols = list_all (is_named name) cols

-- the set of the names
abbrev pub names_of : (ℕ → Option ℕ) → List ℕ → List ℕ
names_of name s = set_of (map (new_name name) s)

-- keys under their names
abbrev pub renamed_keys : (ℕ → Option ℕ) → List (ℕ × Dir) → List (ℕ × Dir)
renamed_keys name = map (λ k. (new_name name k.0, k.1))

-- a scheme under new names, where all its columns have one
abbrev pub renamed_scheme : ℕ → (ℕ → Option ℕ) → Scheme → Scheme
renamed_scheme n name (Any k) = Any k
renamed_scheme n name Serial = Serial
renamed_scheme n name (Hash key) = if all_named name key then Hash (map (new_name name) key) else Any n
renamed_scheme n name (Range keys) = if all_named name (range_columns keys) then Range (renamed_keys name keys) else Any n
renamed_scheme n name (Copies k) = Copies k

-- an action whose columns all have a name
abbrev pub can_rename : (ℕ → Option ℕ) → Action → Bool
can_rename name (Order c dir) = is_named name c
can_rename name (Group s) = all_named name s
can_rename name Rest = false

-- an action under new names
abbrev pub renamed_action : (ℕ → Option ℕ) → Action → Action
renamed_action name (Order c dir) = Order (new_name name c) dir
renamed_action name (Group s) = Group (names_of name s)
renamed_action name Rest = Rest

-- actions under new names, up to the first with a column without one, or Rest
abbrev pub renamed_local : (ℕ → Option ℕ) → List Action → List Action
renamed_local name acts = map (renamed_action name) (upto (can_rename name) acts)
