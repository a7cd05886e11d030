-- All that the rules reach from a tree of the Dag is in its group.
use Rattle.std.proofs.Common.{ℕ, List}
use Rattle.rules_space.specs.Tree.{Tree, leaf, one, two, Form}
use Rattle.rules_space.specs.Memo.{Memo, In, IsTreeOf, Begins}
use Rattle.rules_space.specs.Laws.{SpaceIsRepresented}
use Rattle.rules_space.proofs.Represent.{reached_in}
use Rattle.rules_space.proofs.Sound.{found}

begun : (dag : List Form) (M : Memo) → Begins dag M → (n : ℕ) (t : Tree) → IsTreeOf dag n t → In M n t
begun dag M b n (leaf k) w = (0, b n _ w)
begun dag M b n (one k u) w = (w.0, begun dag M b w.0 u w.1, (0, b n _ w.2))
begun dag M b n (two k u v) w = (w.0, w.1, begun dag M b w.0 u w.2, begun dag M b w.1 v w.3, (0, b n _ w.4))

pub represented : SpaceIsRepresented
represented S dag M at n memo closed t u is r = reached_in S M at (found S dag M at memo) closed n r (begun dag M memo.begins n t is)
