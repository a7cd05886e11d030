-- What groups have, as facts.
use Rattle.std.specs.Prelude.{ℕ, List}
use Rattle.rules_space.specs.Tree.{Tree, Form}
use Rattle.rules_space.specs.Place.{Script, Place}
use Rattle.rules_space.specs.Space.{Reaches}
use Rattle.rules_space.specs.Memo.{Memo, In, IsClosed, IsTreeOf}
use Rattle.rules_space.specs.Steps.{IsMemo}

-- every tree that the rules reach is in the group of the Dag's node
abbrev pub SpaceIsRepresented : Type 0
SpaceIsRepresented = (S : Script) (dag : List Form) (M : Memo) (at : ℕ → Place) (n : ℕ) → IsMemo S dag M at → IsClosed S M at
    → (t u : Tree) → IsTreeOf dag n t → Reaches S t u → In M n u

-- every tree of a group of the Dag is in the space
abbrev pub MemoIsSpace : Type 0
MemoIsSpace = (S : Script) (dag : List Form) (M : Memo) (at : ℕ → Place) → IsMemo S dag M at
    → (n : ℕ) (t u : Tree) → IsTreeOf dag n t → In M n u → Reaches S t u
