-- Causes that lie in the names of results, aliases, items, declared columns and streams.
use Rattle.std.specs.Prelude.{ℕ, ◌==◌, Bool, false, not, ◌&&◌, ◌||◌, List, [], ◌∷◌, ◌++◌, map, flat_map, length, take, drop, nat_le, nat_lt, Option, Some, None, is_some}
use Rattle.std.specs.List.{list_any, list_all}
use Rattle.std.specs.Str.{bytes_eq}
use Rattle.scope_value.specs.declared.schema.Column.{Column}
use Rattle.script_trees.specs.declared.command.Command.{Command}
use Rattle.script_trees.specs.declared.command.Command.TheVariants.{Extract, Select, Process, Reduce, Combine, Output}
use Rattle.script_trees.specs.declared.item.Items.{Items}
use Rattle.script_trees.specs.declared.item.Items.TheVariants.{All, Listed}
use Rattle.script_trees.specs.declared.script.Statement.{Statement}
use Rattle.script_trees.specs.declared.select.Joined.{Joined}
use Rattle.script_trees.specs.declared.source.Source.{Source}
use Rattle.script_trees.specs.declared.source.Origin.{Origin}
use Rattle.script_trees.specs.declared.source.Origin.TheVariants.{Named, Stream}
use Rattle.names_in_sight.specs.Inputs.{input_at, alias_of}
use Rattle.binding_causes.specs.Columns.{repeats}

-- ---- the inputs that a command reads

-- its sources
abbrev pub source_opt : Option Source → List Source
source_opt None = []
source_opt (Some s) = s ∷ []

abbrev pub sources_of : Command → List Source
sources_of (Extract cols stream call stored) = []
sources_of (Select s) = map (λ j. j.source) s.sources
sources_of (Process source call cols) = source_opt source
sources_of (Reduce source presort on call cols) = source_opt source
sources_of (Combine left left_presort right right_presort on call cols) = left ∷ right ∷ []
sources_of (Output source stream outputter stored) = []

-- the results among them, an omitted one being None
abbrev pub origin_inputs : Origin → List (Option (List ℕ))
origin_inputs (Named n) = Some n ∷ []
origin_inputs (Stream name call) = []

abbrev pub source_inputs : Option Source → List (Option (List ℕ))
source_inputs None = None ∷ []
source_inputs (Some s) = origin_inputs s.origin

abbrev pub from_inputs : List Joined → List (Option (List ℕ))
from_inputs [] = None ∷ []
from_inputs (j ∷ sources) = flat_map (λ j. origin_inputs j.source.origin) (j ∷ sources)

abbrev pub inputs : Command → List (Option (List ℕ))
inputs (Extract cols stream call stored) = []
inputs (Select s) = from_inputs s.sources
inputs (Process source call cols) = source_inputs source
inputs (Reduce source presort on call cols) = source_inputs source
inputs (Combine left left_presort right right_presort on call cols) = origin_inputs left.origin ++ origin_inputs right.origin
inputs (Output source stream outputter stored) = source ∷ []

-- a source isn't the name of an earlier result, or an omitted input has no result just before it
abbrev pub has_unknown_name : List Statement → Command → Bool
has_unknown_name earlier c = list_any (λ i. not (is_some (input_at earlier i))) (inputs c)

-- ---- names that are there already

-- the result's name is that of an earlier one
abbrev pub is_taken : List Statement → Option (List ℕ) → Bool
is_taken earlier None = false
is_taken earlier (Some n) = is_some (input_at earlier (Some n))

-- the alias of a source, if it has one
abbrev pub name_opt : Option (List ℕ) → List (List ℕ)
name_opt None = []
name_opt (Some n) = n ∷ []

abbrev pub aliases : Source → List (List ℕ)
aliases s = name_opt (alias_of s.origin s.alias)

-- two sources have one alias
abbrev pub has_double_alias : Command → Bool
has_double_alias (Select s) = repeats bytes_eq (flat_map (λ j. aliases j.source) s.sources)
has_double_alias (Combine left left_presort right right_presort on call cols) = repeats bytes_eq (aliases left ++ aliases right)
has_double_alias c = false

-- two items that are written have one name
abbrev pub has_double_item : Items → Bool
has_double_item All = false
has_double_item (Listed items) = repeats bytes_eq (map (λ x. x.name) items)

-- two declared columns have one name
abbrev pub has_double_column : List Column → Bool
has_double_column cols = repeats bytes_eq (map (λ c. c.name) cols)

abbrev pub declares_twice : Command → Bool
declares_twice (Extract cols stream call stored) = has_double_column cols
declares_twice (Select s) = has_double_item s.items
declares_twice (Process source call cols) = has_double_column cols
declares_twice (Reduce source presort on call cols) = has_double_column cols
declares_twice (Combine left left_presort right right_presort on call cols) = has_double_column cols
declares_twice (Output source stream outputter stored) = false

-- ---- streams that are written twice

-- a dot and one or two digits
abbrev pub is_digit : ℕ → Bool
is_digit c = nat_le 48 c && nat_lt c 58

abbrev pub is_part_number : List ℕ → Bool
is_part_number [] = false
is_part_number (dot ∷ digits) = dot == 46 && ((nat_le 1 (length digits) && nat_le (length digits) 2) && list_all is_digit digits)

-- the second name is the first one, a dot, and one or two digits: that of a part, or one that looks so
abbrev pub is_part_name : List ℕ → List ℕ → Bool
is_part_name name other = bytes_eq (take (length name) other) name && is_part_number (drop (length name) other)

-- two OUTPUTs, of which may be stored the first and the second, write one name, or the name of a part of a stored one
abbrev pub clash : List ℕ → Bool → List ℕ → Bool → Bool
clash a is_a_stored b is_b_stored = bytes_eq a b || ((is_a_stored && is_part_name a b) || (is_b_stored && is_part_name b a))

abbrev pub clashes_with : List ℕ → Bool → Command → Bool
clashes_with stream is_stored (Output source other outputter stored) = clash other (is_some stored) stream is_stored
clashes_with stream is_stored c = false

-- an OUTPUT's stream was written before
abbrev pub is_written_before : List Statement → Command → Bool
is_written_before earlier (Output source stream outputter stored) = list_any (λ s. clashes_with stream (is_some stored) s.command) earlier
is_written_before earlier c = false
