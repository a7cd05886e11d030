-- What the rules reach is in the group.
use Rattle.std.proofs.Common.{◌≡◌, ℕ, true, subst}
use Rattle.rules_space.specs.Tree.{Tree}
use Rattle.rules_space.specs.Place.{Script, Place, place, linked}
use Rattle.rules_space.specs.Space.{Rule, commute, associate, split, Step, here, below, left, right, Reaches, stays, after}
use Rattle.rules_space.specs.Memo.{Memo, In, IsClosed}

module _ (S : Script) (M : Memo) (at : ℕ → Place) (found : (g : ℕ) (u : Tree) → In M g u → place u ≡ at g) (closed : IsClosed S M at) where
  rule_keeps : (g : ℕ) {u v : Tree} → Rule S u v → In M g u → In M g v
  rule_keeps g (commute u v) w = (w.1, w.0, w.3, w.2, closed.commute g w.0 w.1 w.4)
  rule_keeps g (associate u v x l) w =
      let inner = w.2 in
      let tied : linked S (at inner.1) (at w.1) ≡ true =
      subst (λ p. linked S p (at w.1) ≡ true) (found inner.1 v inner.3)
      (subst (λ p. linked S (place v) p ≡ true) (found w.1 x w.3) l) in
      let new = closed.associate g w.0 w.1 inner.0 inner.1 w.4 inner.4 tied in
      (inner.0, new.0, inner.2, (inner.1, w.1, inner.3, w.3, new.1), new.2)
  rule_keeps g (split n u y) w =
      let new = closed.split g n w.0 w.2 y in
      (new.0, (w.0, w.1, new.1), new.2)

  step_keeps : (g : ℕ) {u v : Tree} → Step S u v → In M g u → In M g v
  step_keeps g (here r) w = rule_keeps g r w
  step_keeps g (below k s) w = (w.0, step_keeps w.0 s w.1, w.2)
  step_keeps g (left k x s) w = (w.0, w.1, step_keeps w.0 s w.2, w.3, w.4)
  step_keeps g (right k x s) w = (w.0, w.1, w.2, step_keeps w.1 s w.3, w.4)

  pub reached_in : (g : ℕ) {u v : Tree} → Reaches S u v → In M g u → In M g v
  reached_in g (stays u) w = w
  reached_in g (after s r) w = reached_in g r (step_keeps g s w)
