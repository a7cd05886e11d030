-- Trees refer to earlier statements alone, and what a tree of the Dag refers to is in the Dag.
use Rattle.std.proofs.Common.{◌≡◌, ℕ, zero, suc, ◌+◌, ◌<◌, Bool, true, false, cond, ◌||◌, List, [], ◌∷◌, ◌++◌, length, refl, sym, ◌∙◌, arith, Option, Some, None, subst, slice_get, ◌==◌, nat_lt, nat_eq, ◌⊎◌, inl, inr}
use Rattle.std.proofs.lemmas.Bool.Decides.{nat_tests}
use Rattle.std.proofs.lemmas.Option.{slice_get_within}
use Rattle.col_sets.specs.Sets.{has}
use Rattle.col_sets.specs.Columns.{has-filter}
use Rattle.col_sets.specs.Tests.{either, or_left, or_right, from_test, and_true}
use Rattle.placed_trees.specs.declared.command.Command.{Command}
use Rattle.placed_trees.specs.declared.command.Command.TheVariants.{Extract, Select, Process, Reduce, Combine, Output}
use Rattle.placed_trees.specs.declared.query.Beside.{Beside}
use Rattle.placed_trees.specs.declared.query.Beside.TheVariants.{Inners, Outer}
use Rattle.placed_trees.specs.declared.query.Grouping.{Grouping}
use Rattle.placed_trees.specs.declared.query.Joined.{Joined}
use Rattle.placed_trees.specs.declared.query.Query.{Query}
use Rattle.placed_trees.specs.declared.source.Source.{Source}
use Rattle.placed_trees.specs.declared.source.Source.TheVariants.{FromResult, FromStream}
use Rattle.placed_trees.specs.declared.statement.Statement.{Statement}
use Rattle.placed_trees.specs.Inputs.{input_at}
use Rattle.script_meaning.specs.Part.{Part, joined_part, filter_opt, grouping_opt, unique_opt, first_opt, query_part}
use Rattle.scope_expr.specs.declared.expr.Expr.{Expr}
use Rattle.col_sets.specs.declared.dir.Dir.{Dir}
use Rattle.script_meaning.specs.Bound.{is_shared, stands, found, placed, source_part, from_part, beside_part, bound, bound_from}
use Rattle.script_meaning.specs.Dag.{or_nothing, part_at, reached, kept_of}
use Rattle.script_meaning.proofs.Shaped.{has_left, has_right}

-- what is in two lists is in one of them
pub in_either : (s t : List ℕ) (c : ℕ) → has (s ++ t) c ≡ true → (has s c ≡ true) ⊎ (has t c ≡ true)
in_either [] t c h = inr h
in_either (d ∷ s) t c h = go (d == c) (in_either s t c) h
  where
    go : (b : Bool) → (has (s ++ t) c ≡ true → (has s c ≡ true) ⊎ (has t c ≡ true)) → (b || has (s ++ t) c) ≡ true → ((b || has s c) ≡ true) ⊎ (has t c ≡ true)
    go true more k = inl refl
    go false more k = more k

-- the tree refers to statements below n alone
abbrev pub RefersBelow : ℕ → Part → Type 0
RefersBelow n b = (j : ℕ) → has b.refs j ≡ true → j < n

abbrev pub AllBelow : ℕ → List Part → Type 0
AllBelow n [] = Unit {0}
AllBelow n (b ∷ env) = RefersBelow n b × AllBelow (n + 1) env

push_below : (n : ℕ) (env : List Part) (b : Part) → AllBelow n env → RefersBelow (n + length env) b → AllBelow n (env ++ b ∷ [])
push_below n [] b h k = ((λ j m. let l : j < n + 0 = k j m in omega arith), tt)
push_below n (a ∷ env) b h k =
    let e : n + suc (length env) ≡ n + 1 + length env = omega arith in
    (h.0, push_below (n + 1) env b h.1 (subst (λ (i : ℕ). RefersBelow i b) e k))

pub below_at : (n : ℕ) (env : List Part) (k : ℕ) (b : Part) → AllBelow n env → slice_get env k ≡ Some b → RefersBelow (n + k) b
below_at n [] k b h e j m = absurd (cc)
below_at n (a ∷ env) zero b h e j m =
    let same : a ≡ b = cc in
    let l : j < n = h.0 j (subst (λ (x : Part). has x.refs j ≡ true) (sym same) m) in omega arith
below_at n (a ∷ env) (suc k) b h e j m = let l : j < n + 1 + k = below_at (n + 1) env k b h.1 e j m in omega arith

-- ---- trees refer to earlier statements

placed_below : (all : List ℕ) (env : List Part) (i : Option ℕ) → AllBelow 0 env → RefersBelow (length env) (placed all env i)
placed_below all env None h = λ j m. absurd (cc)
placed_below all env (Some k) h = go (slice_get env k) refl
  where
    go : (o : Option Part) → slice_get env k ≡ o → RefersBelow (length env) (found all k o)
    go None e = λ j m. absurd (cc)
    go (Some b) e = at (is_shared all k)
      where
        at : (s : Bool) → RefersBelow (length env) (stands s k b)
        at true j m = let same : k ≡ j = one (either _ _ m) in let l : k < length env = slice_get_within env k b e in omega arith
          where
            one : (nat_eq k j ≡ true) ⊎ (has [] j ≡ true) → k ≡ j
            one (inl q) = from_test k j q
            one (inr q) = absurd (cc)
        at false j m =
            let l : j < 0 + k = below_at 0 env k b h e j m in
            let w : k < length env = slice_get_within env k b e in omega arith

source_below : (all : List ℕ) (earlier : List Statement) (env : List Part) → AllBelow 0 env → (source : Source) → RefersBelow (length env) (source_part all earlier env source)
source_below all earlier env h (FromResult i) = placed_below all env (input_at earlier i) h
source_below all earlier env h (FromStream d) = λ j m. absurd (cc)

-- what refers to what one of two refers to
either_below : (n : ℕ) (a b : Part) → RefersBelow n a → RefersBelow n b → (j : ℕ) → has (a.refs ++ b.refs) j ≡ true → j < n
either_below n a b h k j m = go (in_either a.refs b.refs j m)
  where
    go : (has a.refs j ≡ true) ⊎ (has b.refs j ≡ true) → j < n
    go (inl q) = h j q
    go (inr q) = k j q

from_below : (all : List ℕ) (earlier : List Statement) (env : List Part) → AllBelow 0 env → (joins : List Joined) (a : Part) → RefersBelow (length env) a
    → RefersBelow (length env) (from_part all earlier env a joins)
from_below all earlier env h [] a k = k
from_below all earlier env h (j ∷ joins) a k =
    from_below all earlier env h joins (joined_part j.on a (source_part all earlier env j.source))
    (either_below (length env) a (source_part all earlier env j.source) k (source_below all earlier env h j.source))

beside_below : (all : List ℕ) (earlier : List Statement) (env : List Part) → AllBelow 0 env → (beside : Beside) (a : Part) → RefersBelow (length env) a
    → RefersBelow (length env) (beside_part all earlier env a beside)
beside_below all earlier env h (Inners joins) a k = from_below all earlier env h joins a k
beside_below all earlier env h (Outer side call j) a k = either_below (length env) a (source_part all earlier env j.source) k (source_below all earlier env h j.source)

refs_filter : (o : Option Expr) (a : Part) → (filter_opt o a).refs ≡ a.refs
refs_filter None a = refl
refs_filter (Some e) a = refl

refs_grouping : (o : Option Grouping) (a : Part) → (grouping_opt o a).refs ≡ a.refs
refs_grouping None a = refl
refs_grouping (Some g) a = refl

refs_unique : (b : Bool) (a : Part) → (unique_opt b a).refs ≡ a.refs
refs_unique false a = refl
refs_unique true a = refl

refs_first : (o : Option ℕ) (order : List (ℕ × Dir)) (a : Part) → (first_opt o order a).refs ≡ a.refs
refs_first None order a = refl
refs_first (Some n) order a = refl

pub refs_query : (q : Query) (a : Part) → (query_part q a).refs ≡ a.refs
refs_query q a = refs_first q.top _ _ ∙ refs_unique q.distinct _ ∙ refs_filter q.having _ ∙ refs_grouping q.group _ ∙ refs_filter q.test a

bound_below : (all : List ℕ) (earlier : List Statement) (env : List Part) → AllBelow 0 env → (c : Command) → RefersBelow (length env) (bound all earlier env c)
bound_below all earlier env h (Extract d) j m = absurd (cc)
bound_below all earlier env h (Select q) j m =
    beside_below all earlier env h q.beside _ (source_below all earlier env h q.source) j
    (subst (λ (s : List ℕ). has s j ≡ true) (refs_query q (beside_part all earlier env (source_part all earlier env q.source) q.beside)) m)
bound_below all earlier env h (Process source call) j m = source_below all earlier env h source j m
bound_below all earlier env h (Reduce source on presort call) j m = source_below all earlier env h source j m
bound_below all earlier env h (Combine source before other after on call) j m =
    either_below (length env) (source_part all earlier env source) (source_part all earlier env other) (source_below all earlier env h source) (source_below all earlier env h other) j m
bound_below all earlier env h (Output w) j m = placed_below all env (input_at earlier w.source) h j m

pub all_below : (all : List ℕ) (earlier : List Statement) (env : List Part) (rest : List Statement) → AllBelow 0 env → AllBelow 0 (bound_from all earlier env rest)
all_below all earlier env [] h = h
all_below all earlier env (s ∷ rest) h =
    all_below all (earlier ++ s ∷ []) _ rest
    (push_below 0 env _ h (subst (λ (i : ℕ). RefersBelow i (bound all earlier env s.command)) (omega arith) (bound_below all earlier env h s.command)))

-- ---- what the Dag's trees refer to is in the Dag

-- an output, or reached
abbrev IsLive : List ℕ → ℕ → List Part → ℕ → Type 0
IsLive outs n env k = (has outs k || has (reached outs n env) k) ≡ true

closed : (outs : List ℕ) (env : List Part) (n : ℕ) → AllBelow n env → (k i : ℕ) (b : Part) → slice_get env i ≡ Some b → k ≡ n + i → IsLive outs n env k
    → (j : ℕ) → has b.refs j ≡ true → has (reached outs n env) j ≡ true
closed outs [] n h k i b e at live j m = absurd (cc)
closed outs (a ∷ env) n h k zero b e at live j m = go (has outs n || has (reached outs (n + 1) env) n) refl live
  where
    same : a ≡ b
    same = cc

    here : k ≡ n
    here = omega arith

    in_a : has a.refs j ≡ true
    in_a = subst (λ (x : Part). has x.refs j ≡ true) (sym same) m

    go : (t : Bool) → (has outs n || has (reached outs (n + 1) env) n) ≡ t
        → (has outs k || has (cond (has outs n || has (reached outs (n + 1) env) n) (reached outs (n + 1) env ++ a.refs) (reached outs (n + 1) env)) k) ≡ true
        → has (cond (has outs n || has (reached outs (n + 1) env) n) (reached outs (n + 1) env ++ a.refs) (reached outs (n + 1) env)) j ≡ true
    go true f l = rw f (has_right (reached outs (n + 1) env) a.refs j in_a)
    go false f l =
        let g : (has outs k || has (reached outs (n + 1) env) k) ≡ true = (rw f at l) in
        let q : (has outs n || has (reached outs (n + 1) env) n) ≡ true = subst (λ (x : ℕ). (has outs x || has (reached outs (n + 1) env) x) ≡ true) here g in
        absurd (cc)
closed outs (a ∷ env) n h k (suc i) b e at live j m = go (closed outs env (n + 1) h.1 k i b e (omega arith)) (has outs n || has (reached outs (n + 1) env) n) refl live
  where
    far : has a.refs k ≡ true → ⊥
    far q = let l : k < n = h.0 k q in omega arith

    later : (has outs k || has (reached outs (n + 1) env ++ a.refs) k) ≡ true → (has outs k || has (reached outs (n + 1) env) k) ≡ true
    later l = which (either _ _ l)
      where
        which : (has outs k ≡ true) ⊎ (has (reached outs (n + 1) env ++ a.refs) k ≡ true) → (has outs k || has (reached outs (n + 1) env) k) ≡ true
        which (inl q) = or_left _ _ q
        which (inr q) = in_one (in_either (reached outs (n + 1) env) a.refs k q)
          where
            in_one : (has (reached outs (n + 1) env) k ≡ true) ⊎ (has a.refs k ≡ true) → (has outs k || has (reached outs (n + 1) env) k) ≡ true
            in_one (inl p) = or_right _ _ p
            in_one (inr p) = absurd (far p)

    go : (IsLive outs (n + 1) env k → (j : ℕ) → has b.refs j ≡ true → has (reached outs (n + 1) env) j ≡ true) → (t : Bool) → (has outs n || has (reached outs (n + 1) env) n) ≡ t
        → (has outs k || has (cond (has outs n || has (reached outs (n + 1) env) n) (reached outs (n + 1) env ++ a.refs) (reached outs (n + 1) env)) k) ≡ true
        → has (cond (has outs n || has (reached outs (n + 1) env) n) (reached outs (n + 1) env ++ a.refs) (reached outs (n + 1) env)) j ≡ true
    go more true f l = rw f (has_left (reached outs (n + 1) env) a.refs j (more (later (rw f at l)) j m))
    go more false f l = rw f (more (rw f at l) j m)

-- the tree of an output or of a kept result refers to kept results alone
pub refs_kept : (outs : List ℕ) (env : List Part) → AllBelow 0 env → (k : ℕ) → IsLive outs 0 env k → (j : ℕ) → has (part_at env k).refs j ≡ true → has (kept_of outs env) j ≡ true
refs_kept outs env h k live j m = go (slice_get env k) refl m
  where
    go : (o : Option Part) → slice_get env k ≡ o → has (or_nothing o).refs j ≡ true → has (kept_of outs env) j ≡ true
    go None e q = absurd (cc)
    go (Some b) e q =
        let r : has (reached outs 0 env) j ≡ true = closed outs env 0 h k k b e (omega arith) live j q in
        let w : k < length env = slice_get_within env k b e in
        let l : j < 0 + k = below_at 0 env k b h e j q in
        has-filter (has (reached outs 0 env)) j (length env) 0 ∙ and_true _ _ (inner (omega arith)) r
      where
        inner : j < length env → cond (nat_lt j 0) false (nat_lt j (0 + length env)) ≡ true
        inner l = grind (arith, nat_tests)
