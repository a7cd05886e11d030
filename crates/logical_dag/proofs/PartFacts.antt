-- The facts of the parts of a node.
use Rattle.std.proofs.Common.{◌≡◌, ℕ, List, [], ◌∷◌, map, length, refl, sym, ap, ◌∙◌, subst}
use Rattle.std.proofs.lemmas.List.{length-map}
use Rattle.fd_closure.specs.declared.facts.Facts.{Facts}
use Rattle.logical_dag.specs.declared.place.PlacePart.TheVariants.{Leaves, Lower}
use Rattle.logical_trees.specs.declared.args.GroupArgs.{GroupArgs}
use Rattle.logical_trees.specs.declared.args.TopArgs.{TopArgs}
use Rattle.logical_trees.specs.declared.logical.Logical.{Logical, out-Logical, fold_out-Logical}
use Rattle.logical_trees.specs.declared.logic_op.LogicOp.{LogicOp}
use Rattle.logical_trees.specs.declared.logic_op.LogicOp.TheVariants.{Join, Group, Top, Partial, LocalTop}
use Rattle.logical_trees.specs.Tree.{Expression, leaf, one, two, node, tree_of}
use Rattle.logical_trees.specs.Formed.{IsFormed}
use Rattle.logical_dag.specs.Facts.{AreFactsOf}
use Rattle.logical_trees.specs.Blocks.{block_leaves, block_pairs, chosen}
use Rattle.logical_dag.specs.Places.{IsPart}
use Rattle.logical_dag.specs.BlockFacts.{AreFactsOfAll}
use Rattle.logical_dag.proofs.KnownSteps.{kept_named}
use Rattle.logical_dag.proofs.KnownTables.{facts_own, node_facts}
use Rattle.logical_dag.proofs.JoinFacts.{join_facts}
use Rattle.logical_trees.specs.LeafLemmas.{formed_sets}
use Rattle.logical_trees.specs.BlockLemmas.{chosen_formed, chosen_none_within}

-- the facts of chosen leaves are those of each join of them
pub leaves_facts : (results : List (List ℕ)) (shared : List Facts) (mask : ℕ) (node t : Expression) (f : Facts) → IsFormed results node → IsPart (Leaves mask) node t
    → AreFactsOfAll shared (block_pairs node) (chosen mask (block_leaves node)) f → AreFactsOf shared t f
leaves_facts results shared mask (two (Join on) u v) t f formed j known =
    let node = two (Join on) u v in
    join_facts (block_pairs node) shared (chosen mask (block_leaves node)) t f j (formed_sets results (chosen mask (block_leaves node)) (chosen_formed results mask node formed)) (chosen_none_within results mask node formed) known
leaves_facts results shared mask (two op u v) t f formed j known = absurd j
leaves_facts results shared mask (one op u) t f formed j known = absurd j
leaves_facts results shared mask (leaf op) t f formed j known = absurd j

-- ---- the first step of a node

-- the first step of a Top has the facts below
pub local_facts : (results : List (List ℕ)) (shared : List Facts) (args : TopArgs) (u : Expression) (f : Facts) → IsFormed results (one (LocalTop args) u) → AreFactsOf shared u f → AreFactsOf shared (one (LocalTop args) u) f
local_facts results shared args u f formed h = node_facts shared u f results formed.0 h (LocalTop args) f formed.1 (kept_named f (facts_own shared u f h))

-- a node with one child that is a Group or a Top has a first step, and no other node
pub top_lower : (results : List (List ℕ)) (shared : List Facts) (args : TopArgs) (u t : Expression) (f : Facts) → IsFormed results (one (LocalTop args) u) → AreFactsOf shared u f → IsPart Lower (one (Top args) u) t → AreFactsOf shared t f
top_lower results shared args u t f formed h e = subst (λ v. AreFactsOf shared v f) e (local_facts results shared args u f formed h)

-- an expression that is neither
abbrev pub HasNoStep : Expression → Type 0
HasNoStep e = (t : Expression) → IsPart Lower e t → ⊥

pub other_step : (op : LogicOp) (u : Expression) → ((args : GroupArgs) → op ≡ Group args → ⊥) → ((args : TopArgs) → op ≡ Top args → ⊥) → HasNoStep (one op u)
other_step (Group args) u h k t e = h args refl
other_step (Top args) u h k t e = k args refl
other_step op u h k t e = e

-- a node has a first step only over one child
pub no_step : (op : LogicOp) (kids : List Expression) → (length kids ≡ 1 → ⊥) → HasNoStep (node op kids)
no_step op [] h t e = e
no_step op (u ∷ []) h t e = h refl
no_step op (u ∷ v ∷ kids) h t e = e

pub other_kids : (tree : Logical) (kids : List Logical) → kids ≡ (out-Logical tree).kids → (length kids ≡ 1 → ⊥) → HasNoStep (tree_of tree)
other_kids tree kids same h =
    subst HasNoStep (sym (fold_out-Logical Expression (λ x. node x.op x.kids) tree))
    (no_step (out-Logical tree).op (map tree_of (out-Logical tree).kids) (λ e. h (ap length same ∙ sym (length-map (out-Logical tree).kids tree_of) ∙ e)))

-- the first step of a Group has the facts of its key
pub group_lower : (shared : List Facts) (args : GroupArgs) (u t : Expression) (f : Facts) → AreFactsOf shared (one (Partial args) u) f → IsPart Lower (one (Group args) u) t → AreFactsOf shared t f
group_lower shared args u t f h e = subst (λ v. AreFactsOf shared v f) e h
