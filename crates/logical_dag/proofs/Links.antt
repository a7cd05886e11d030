-- Chains of stated equalities, and the equal columns of an expression.
use Rattle.std.proofs.Common.{ℕ, List, refl, sym, ◌∙◌}
use Rattle.fd_closure.specs.declared.facts.Facts.{Facts}
use Rattle.logical_trees.specs.declared.logic_op.LogicOp.TheVariants.{Ref, Filter, Project, Join, Group, Process, Reduce, Partial, Finish}
use Rattle.logical_trees.specs.Tree.{Expression, leaf, one, two}
use Rattle.logical_dag.specs.Facts.{IsLinked, stated, itself, turned, chained, AreEqual}
use Rattle.logical_dag.proofs.Classes.{linked_bind}

-- a relation with all stated pairs that is reflexive, symmetric and transitive has all linked pairs
pub linked_within : (P R : ℕ → ℕ → Type 0) → ((c d : ℕ) → P c d → R c d) → ((c : ℕ) → R c c) → ((c d : ℕ) → R c d → R d c) → ((c d e : ℕ) → R c d → R d e → R c e)
    → (c d : ℕ) → IsLinked P c d → R c d
linked_within P R each own turn chain c d (stated p) = each c d p
linked_within P R each own turn chain c d itself = own c
linked_within P R each own turn chain c d (turned l) = turn d c (linked_within P R each own turn chain d c l)
linked_within P R each own turn chain c d (chained {d = e} l m) =
    chain c e d (linked_within P R each own turn chain c e l) (linked_within P R each own turn chain e d m)

-- more stated pairs link more
pub linked_more : (P Q : ℕ → ℕ → Type 0) → ((c d : ℕ) → P c d → Q c d) → (c d : ℕ) → IsLinked P c d → IsLinked Q c d
linked_more P Q each = linked_bind P Q (λ c d p. stated (each c d p))
