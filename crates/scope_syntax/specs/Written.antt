-- Scripts that can be written, and what each of them has.
use Rattle.std.specs.Prelude.{◌≡◌, ◌<◌, true, List, [], ◌∷◌, length, Option, is_some, IfSome}
use Rattle.std.specs.List.{All}
use Rattle.script_trees.specs.declared.item.Items.{Items}
use Rattle.script_trees.specs.declared.item.Items.TheVariants as listing
use Rattle.expression_syntax.specs.Lexemes.{Lexeme}
use Rattle.script_trees.specs.declared.command.Command.{Command}
use Rattle.script_trees.specs.declared.command.Command.TheVariants.{Extract, Select, Process, Reduce, Combine, Output}
use Rattle.script_trees.specs.declared.script.Script.{Script}
use Rattle.script_trees.specs.declared.script.Statement.{Statement}
use Rattle.script_trees.specs.declared.select.Joined.{Joined}
use Rattle.script_trees.specs.declared.side.JoinSide.TheVariants as side
use Rattle.script_trees.specs.declared.stored.RawStored.{RawStored}
use Rattle.scope_syntax.specs.Statements.{SpellsScript, can_be_named}

-- some lexemes spell the script: it is one that `parse` can give
abbrev pub IsWritten : Script → Type 0
IsWritten s = (ts : List Lexeme) × SpellsScript ts s

-- there is something
abbrev pub HasSome : {X : Type 0} → List X → Type 0
HasSome xs = 0 < length xs

-- there is something, where the list is given
abbrev pub HasSomeIf : {X : Type 0} → Option (List X) → Type 0
HasSomeIf o = IfSome o HasSome

-- the items are all columns, or there is one
abbrev pub HasItems : Items → Type 0
HasItems listing.All = Unit {0}
HasItems (listing.Listed xs) = HasSome xs

-- one source is joined by any side, more of them by Inner alone
abbrev pub AreSides : List Joined → Type 0
AreSides (j ∷ []) = Unit {0}
AreSides js = All (λ j. j.side ≡ side.Inner) js

-- the first source has the side Inner and no equalities, and each later one has equalities
abbrev pub AreJoined : List Joined → Type 0
AreJoined [] = Unit {0}
AreJoined (first ∷ more) = (first.side ≡ side.Inner) × ((first.on ≡ []) × (AreSides more × All (λ j. HasSome j.on) more))

-- the lists of a declaration have something in them, where it is given
abbrev pub HasKeys : RawStored → Type 0
HasKeys s = HasSome s.hash × HasSomeIf s.sorted

abbrev pub HasKeysIf : Option RawStored → Type 0
HasKeysIf o = IfSome o HasKeys

-- the lists of a command have something in them
abbrev pub HasParts : Command → Type 0
HasParts (Extract cols stream call stored) = HasSome cols × HasKeysIf stored
HasParts (Select s) = HasItems s.items × (AreJoined s.sources × (HasSomeIf s.group × HasSomeIf s.order))
HasParts (Process source call cols) = HasSome cols
HasParts (Reduce source presort on call cols) = HasSomeIf presort × (HasSome on × HasSome cols)
HasParts (Combine left left_presort right right_presort on call cols) = HasSomeIf left_presort × (HasSomeIf right_presort × (HasSome on × HasSome cols))
HasParts (Output source stream outputter stored) = HasKeysIf stored

-- a statement's command has its parts, and is no output where it is named
abbrev pub IsRight : Statement → Type 0
IsRight t = HasParts t.command × (is_some t.name ≡ true → can_be_named t.command ≡ true)
