-- Places and equalities along rule steps.
use Rattle.std.proofs.Common.{◌≡◌, ℕ, ◌+◌, ◌≤◌, Bool, true, false, ◌&&◌, ◌||◌, List, [], ◌∷◌, refl, sym, ap, ◌∙◌, subst, arith}
use Rattle.rules_space.specs.Tree.{Kind, Node, Join, Partial, Finish, Tree, leaf, one, two}
use Rattle.rules_space.specs.Place.{Script, Place, Block, Leaves, placed, place, leaves_at, either, linked, linked_by}
use Rattle.rules_space.specs.Space.{Rule, commute, associate, split, Step, here, below, left, right, Reaches, stays, after}

pub or_turned : (a b : Bool) → (a || b) ≡ (b || a)
or_turned true true = refl
or_turned true false = refl
or_turned false true = refl
or_turned false false = refl

pub or_moved : (a b c : Bool) → ((a || b) || c) ≡ (a || (b || c))
or_moved true b c = refl
or_moved false b c = refl

turned : (a b c d e : Bool) → ((a && d) || ((b && c) || e)) ≡ ((c && b) || ((d && a) || e))
turned true true true true e = refl
turned true true true false e = refl
turned true true false true e = refl
turned true true false false e = refl
turned true false true true e = refl
turned true false true false e = refl
turned true false false true e = refl
turned true false false false e = refl
turned false true true true e = refl
turned false true true false e = refl
turned false true false true e = refl
turned false true false false e = refl
turned false false true true e = refl
turned false false true false e = refl
turned false false false true e = refl
turned false false false false e = refl

pub linked_turned : (links : List (ℕ × ℕ)) (L R : Leaves) → linked_by links L R ≡ linked_by links R L
linked_turned [] L R = refl
linked_turned (p ∷ links) L R =
    ap (λ e. (L p.0 && R p.1) || ((L p.1 && R p.0) || e)) (linked_turned links L R) ∙ turned (L p.0) (L p.1) (R p.0) (R p.1) (linked_by links R L)

wider : (a b c d e x y z : Bool) → (e ≡ true → z ≡ true) → ((a && c) || ((b && d) || e)) ≡ true → ((a && (c || x)) || ((b && (d || y)) || z)) ≡ true
wider true b true d e x y z f h = refl
wider true b false d e true y z f h = refl
wider true true false true e false y z f h = refl
wider true true false false e false true z f h = refl
wider true true false false e false false z f h = f h
wider true false false d e false y z f h = f h
wider false true c true e x y z f h = refl
wider false true c false e x true z f h = refl
wider false true c false e x false z f h = f h
wider false false c d e x y z f h = f h

-- an equality with a side in R has it in more than R
pub linked_wider : (links : List (ℕ × ℕ)) (L R P : Leaves) → linked_by links L R ≡ true → linked_by links L (either R P) ≡ true
linked_wider [] L R P h = h
linked_wider (p ∷ links) L R P h =
    wider (L p.0) (L p.1) (R p.1) (R p.0) (linked_by links L R) (P p.1) (P p.0) (linked_by links L (either R P)) (linked_wider links L R P) h

rule_place : (S : Script) {t u : Tree} → Rule S t u → place t ≡ place u
rule_place S (commute t u) = λ i. Block (λ m. or_turned (leaves_at (place t) m) (leaves_at (place u) m) i)
rule_place S (associate t u v l) = λ i. Block (λ m. or_moved (leaves_at (place t) m) (leaves_at (place u) m) (leaves_at (place v) m) i)
rule_place S (split n t y) = refl

pub step_place : (S : Script) {t u : Tree} → Step S t u → place t ≡ place u
step_place S (here r) = rule_place S r
step_place S (below k s) = ap (λ p. placed k (leaves_at p)) (step_place S s)
step_place S (left k v s) = ap (λ p. placed k (either (leaves_at p) (leaves_at (place v)))) (step_place S s)
step_place S (right k v s) = ap (λ p. placed k (either (leaves_at (place v)) (leaves_at p))) (step_place S s)

pub reached_place : (S : Script) {t u : Tree} → Reaches S t u → place t ≡ place u
reached_place S (stays t) = refl
reached_place S (after s r) = step_place S s ∙ reached_place S r

-- a Join's children are tied
abbrev pub IsTied : Script → Kind → Place → Place → Type 0
IsTied S Join p q = linked S p q ≡ true
IsTied S (Node n) p q = Unit {0}
IsTied S (Partial n) p q = Unit {0}
IsTied S (Finish n) p q = Unit {0}

abbrev pub AllTied : Script → Tree → Type 0
AllTied S (leaf k) = Unit {0}
AllTied S (one k t) = AllTied S t
AllTied S (two k t u) = AllTied S t × AllTied S u × IsTied S k (place t) (place u)

rule_tied : (S : Script) {t u : Tree} → Rule S t u → AllTied S t → AllTied S u
rule_tied S (commute t u) w = (w.1, w.0, sym (linked_turned S.links (leaves_at (place t)) (leaves_at (place u))) ∙ w.2)
rule_tied S (associate t u v l) w =
    (w.0.0, (w.0.1, w.1, l), linked_wider S.links (leaves_at (place t)) (leaves_at (place u)) (leaves_at (place v)) w.0.2)
rule_tied S (split n t y) w = w

step_tied : (S : Script) {t u : Tree} → Step S t u → AllTied S t → AllTied S u
step_tied S (here r) w = rule_tied S r w
step_tied S (below k s) w = step_tied S s w
step_tied S (left k v s) w = (step_tied S s w.0, w.1, subst (λ p. IsTied S k p (place v)) (step_place S s) w.2)
step_tied S (right k v s) w = (w.0, step_tied S s w.1, subst (λ p. IsTied S k (place v) p) (step_place S s) w.2)

pub reached_tied : (S : Script) {t u : Tree} → Reaches S t u → AllTied S t → AllTied S u
reached_tied S (stays t) w = w
reached_tied S (after s r) w = reached_tied S r (step_tied S s w)

-- ---- sizes, which no rule changes

abbrev pub weight : Kind → ℕ
weight (Node n) = 2
weight Join = 1
weight (Partial n) = 1
weight (Finish n) = 1

abbrev pub size : Tree → ℕ
size (leaf k) = weight k
size (one k t) = weight k + size t
size (two k t u) = weight k + (size t + size u)

rule_size : (S : Script) {t u : Tree} → Rule S t u → size t ≡ size u
rule_size S (commute t u) = omega arith
rule_size S (associate t u v l) = omega arith
rule_size S (split n t y) = omega arith

step_size : (S : Script) {t u : Tree} → Step S t u → size t ≡ size u
step_size S (here r) = rule_size S r
step_size S (below k s) = ap (λ n. weight k + n) (step_size S s)
step_size S (left k v s) = ap (λ n. weight k + (n + size v)) (step_size S s)
step_size S (right k v s) = ap (λ n. weight k + (size v + n)) (step_size S s)

pub reached_size : (S : Script) {t u : Tree} → Reaches S t u → size t ≡ size u
reached_size S (stays t) = refl
reached_size S (after s r) = step_size S s ∙ reached_size S r

pub weighs : (k : Kind) → 1 ≤ weight k
weighs (Node n) = omega arith
weighs Join = omega arith
weighs (Partial n) = omega arith
weighs (Finish n) = omega arith

-- ---- many steps

pub then : (S : Script) {t u v : Tree} → Reaches S t u → Reaches S u v → Reaches S t v
then S (stays t) q = q
then S (after s r) q = after s (then S r q)

pub only : (S : Script) {t u : Tree} → Rule S t u → Reaches S t u
only S r = after (here r) (stays _)

pub all_below : (S : Script) (k : Kind) {t u : Tree} → Reaches S t u → Reaches S (one k t) (one k u)
all_below S k (stays t) = stays _
all_below S k (after s r) = after (below k s) (all_below S k r)

pub all_left : (S : Script) (k : Kind) (v : Tree) {t u : Tree} → Reaches S t u → Reaches S (two k t v) (two k u v)
all_left S k v (stays t) = stays _
all_left S k v (after s r) = after (left k v s) (all_left S k v r)

pub all_right : (S : Script) (k : Kind) (v : Tree) {t u : Tree} → Reaches S t u → Reaches S (two k v t) (two k v u)
all_right S k v (stays t) = stays _
all_right S k v (after s r) = after (right k v s) (all_right S k v r)

pub all_both : (S : Script) (k : Kind) {t u v w : Tree} → Reaches S t u → Reaches S v w → Reaches S (two k t v) (two k u w)
all_both S k {t} {u} {v} {w} p q = then S (all_left S k v p) (all_right S k u q)

-- Associate backwards, where the first two are tied
pub regrouped : (S : Script) (t u v : Tree) → linked S (place t) (place u) ≡ true → Reaches S (two Join t (two Join u v)) (two Join (two Join t u) v)
regrouped S t u v l =
    after (here (commute t (two Join u v)))
    (after (left Join t (here (commute u v)))
    (after (here (associate v u t (sym (linked_turned S.links (leaves_at (place t)) (leaves_at (place u))) ∙ l)))
    (after (here (commute v (two Join u t)))
    (after (left Join v (here (commute u t))) (stays _)))))
