-- The test on the mask says whether the leaf is chosen.
use Rattle.std.proofs.Common.{◌≡◌, ℕ, ◌%◌, nat_eq, true, false, cond, List, [], ◌∷◌, arith}
use Rattle.std.proofs.lemmas.Bool.Decides.{nat_tests}
use Rattle.fd_closure.specs.declared.facts.Facts.{Facts}
use Rattle.logical_trees.specs.Tree.{Expression, tree_of}
use Rattle.logical_dag.specs.Laws.{lent_columns}
use Rattle.logical_dag.specs.Gathered.{AreAdded}
use Rattle.logical_dag.proofs.Added.{none_added}
use Rattle.logical_dag.proofs.block_facts.with_chosen.Goals as goal
use Rattle.logical_dag.proofs.block_facts.with_chosen.Goals.{then-mask-eq1, else-mask-eq1}

-- the leaf where the test holds, and none where it doesn't
taken : (shared : List Facts) (t : Expression) (n : ℕ) (f g : Facts) → n ≡ 1 → AreAdded shared f (t ∷ []) g → AreAdded shared f (cond (nat_eq n 1) (t ∷ []) []) g
taken shared t n f g e h = let k : nat_eq n 1 ≡ true = grind (arith, nat_tests) in rw k h

left : (shared : List Facts) (t : Expression) (n : ℕ) (f g : Facts) → (n ≡ 1 → ⊥) → AreAdded shared f [] g → AreAdded shared f (cond (nat_eq n 1) (t ∷ []) []) g
left shared t n f g e h = let k : nat_eq n 1 ≡ false = grind (arith, nat_tests) in rw k h

pub returns-clause-facts : goal.returns-clause-facts
returns-clause-facts c =
    let shared = c.args.shared.now in
    let t = tree_of c.args.tree.now in
    let f = c.args.into in
    let n = c.args.mask % 2 in
    elim c.if-mask-eq1.branch [
      | then-mask-eq1 w ↦ rw w.facts-is (taken shared t n f w.with_leaf-facts.result w.if-mask-eq1.true w.with_leaf-facts.ensures)
      | else-mask-eq1 w ↦ rw w.facts-is (left shared t n f f w.if-mask-eq1.false (none_added shared (lent_columns shared) f c.requires.over))
    ]
