-- What is named in columns by place is the same wherever the numbers of the columns come from.
use Rattle.std.proofs.Common.{◌≡◌, ℕ, zero, suc, ◌+◌, ◌<◌, List, [], ◌∷◌, map, length, get_or, refl, ap, ap₂, ◌∙◌, arith, Option, Some, None, subst}
use Rattle.std.specs.Prelude.{option_map}
use Rattle.std.proofs.lemmas.List.{length-map}
use denote.Hole.Carrier.{hidden}
use Rattle.col_sets.specs.declared.dir.Dir.{Dir}
use Rattle.script_trees.specs.declared.agg.AggKind.{AggKind}
use Rattle.scope_expr.specs.declared.expr.Expr.{Expr, end_of-Expr, more_of-Expr}
use Rattle.scope_expr.specs.declared.expr.Expr.TheBlock.{shape-the_row-Expr-0, hidden-the_row-Expr-0}
use Rattle.scope_expr.specs.declared.expr.Expr.TheVariants.{Literal, Col, Neg, Neg', Not, Not', Pair, Pair'}
use Rattle.scope_expr.specs.Moved.{moved, name_in}
use Rattle.script_meaning.specs.Part.{Part, number, numbered, order_at, listed}
use Rattle.script_meaning.specs.Placed.{IsBelow, IsBelowOpt, AreBelow, AreArgsBelow, ArePlaces, IsOrderBelow, IsPresortBelow, ArePairs}
use Rattle.script_nodes.specs.declared.made.Made.{Made}
use Rattle.script_nodes.specs.Made.{IsMade}
use Rattle.script_nodes.specs.Steps.{column_at}

module _ (f g : ℕ → ℕ) (n : ℕ) (same : (q : ℕ) → q < n → f q ≡ g q) where
  pub moved_same : (e : Expr) → IsBelow n e → moved f e ≡ moved g e
  unfolding shape-the_row-Expr-0 hidden-the_row-Expr-0 hidden
  moved_same (Literal v) h = refl
  moved_same (Col p k) h = ap (λ q. Col q k) (same p h)
  moved_same (Neg' s (more_of-Expr a end_of-Expr)) h = ap Neg (moved_same a h)
  moved_same (Not' s (more_of-Expr a end_of-Expr)) h = ap Not (moved_same a h)
  moved_same (Pair' op s (more_of-Expr a end_of-Expr) t (more_of-Expr b end_of-Expr)) h = ap₂ (Pair op) (moved_same a h.0) (moved_same b h.1)

  pub all_same : (es : List Expr) → AreBelow n es → map (moved f) es ≡ map (moved g) es
  all_same [] h = refl
  all_same (e ∷ es) h = ap₂ (λ x xs. x ∷ xs) (moved_same e h.0) (all_same es h.1)

  pub argument_same : (o : Option Expr) → IsBelowOpt n o → option_map (moved f) o ≡ option_map (moved g) o
  argument_same None h = refl
  argument_same (Some e) h = ap Some (moved_same e h)

  pub aggs_same : (e : ℕ) (aggs : List (AggKind × Option Expr)) → AreArgsBelow n aggs → numbered f e aggs ≡ numbered g e aggs
  aggs_same e [] h = refl
  aggs_same e (a ∷ aggs) h = ap₂ (λ x xs. record { kind = a.0; arg = x; id = e } ∷ xs) (argument_same a.1 h.0) (aggs_same (e + 1) aggs h.1)

  pub places_same : (ps : List ℕ) → ArePlaces n ps → map f ps ≡ map g ps
  places_same [] h = refl
  places_same (p ∷ ps) h = ap₂ (λ x xs. x ∷ xs) (same p h.0) (places_same ps h.1)

  pub listed_same : (ps : List ℕ) → ArePlaces n ps → option_map (map f) (listed ps) ≡ option_map (map g) (listed ps)
  listed_same [] h = refl
  listed_same (p ∷ ps) h = ap Some (places_same (p ∷ ps) h)

  pub order_same : (order : List (ℕ × Dir)) → IsOrderBelow n order → map {B = ℕ × Dir} (λ k. (f k.0, k.1)) order ≡ map {B = ℕ × Dir} (λ k. (g k.0, k.1)) order
  order_same [] h = refl
  order_same (k ∷ order) h = ap₂ (λ (x : ℕ) (xs : List (ℕ × Dir)). (x, k.1) ∷ xs) (same k.0 h.0) (order_same order h.1)

  pub presort_same : (presort : Option (List (ℕ × Dir))) → IsPresortBelow n presort → order_at f presort ≡ order_at g presort
  presort_same None h = refl
  presort_same (Some order) h = ap Some (order_same order h)

pub pairs_same : (f g h k : ℕ → ℕ) (m n : ℕ) → ((q : ℕ) → q < m → f q ≡ g q) → ((q : ℕ) → q < n → h q ≡ k q) → (on : List (ℕ × ℕ)) → ArePairs m n on
    → map {B = ℕ × ℕ} (λ p. (f p.0, h p.1)) on ≡ map {B = ℕ × ℕ} (λ p. (g p.0, k p.1)) on
pairs_same f g h k m n left right [] l = refl
pairs_same f g h k m n left right (p ∷ on) l =
    let first : (f p.0, h p.1) ≡ (g p.0, k p.1) = (λ i. (left p.0 l.0 i, right p.1 l.1 i)) in
    ap₂ (λ (x : ℕ × ℕ) (xs : List (ℕ × ℕ)). x ∷ xs) first (pairs_same f g h k m n left right on l.2)

-- ---- the column at a place

at_place : (c : ℕ) (s : List ℕ) (q : ℕ) → q < length s → get_or (map (λ p. c + p) s) q 128 ≡ c + get_or s q 128
at_place c [] q l = absurd (omega arith)
at_place c (d ∷ s) zero l = refl
at_place c (d ∷ s) (suc q) l = at_place c s q (omega arith)

pub in_width : (name : ℕ → ℕ) (s c : ℕ) (p : Part) (m : Made) → IsMade name s c p m → length m.cols.items ≡ length p.cols
in_width name s c p m h = ap length h.cols ∙ length-map p.cols (λ q. c + q)

pub in_place : (name : ℕ → ℕ) (s c : ℕ) (p : Part) (m : Made) → IsMade name s c p m → (q : ℕ) → q < length m.cols.items → column_at m.cols.items q ≡ number p c q
in_place name s c p m h q l = ap (λ cols. get_or cols q 128) h.cols ∙ at_place c p.cols q (subst (λ (n : ℕ). q < n) (in_width name s c p m h) l)

-- names by place are columns by place
pub get_any : (s : List ℕ) (q d e : ℕ) → q < length s → get_or s q d ≡ get_or s q e
get_any [] q d e l = absurd (omega arith)
get_any (c ∷ s) zero d e l = refl
get_any (c ∷ s) (suc q) d e l = get_any s q d e (omega arith)

pub named_same : (cols : List ℕ) (e : Expr) → IsBelow (length cols) e → moved (name_in cols) e ≡ moved (column_at cols) e
named_same cols e h = moved_same (name_in cols) (column_at cols) (length cols) (λ q l. get_any cols q q 128 l) e h
