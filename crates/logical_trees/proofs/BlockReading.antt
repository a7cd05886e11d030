-- Leaves and equalities of a block, by what was found of its sides.
use Rattle.std.proofs.Common.{◌≡◌, ℕ, ◌+◌, ◌-◌, ◌*◌, ◌<◌, ◌≤◌, List, [], ◌∷◌, ◌++◌, map, take, get_or, length, refl, sym, ap, ap₂, ◌∙◌, subst, arith, append-nil, append_assoc, length-append, Option, Some, slice_get}
use Rattle.std.specs.Prelude.{Result, Ok, Err, MatchResult}
use Rattle.std.specs.Borrow.{Bor}
use Rattle.std.proofs.lemmas.List.{map_more, length_push}
use Rattle.list_lemmas.specs.Reading.{get_front, get_past, get_last, past_last, past_both}
use Rattle.logical_trees.specs.declared.logical.Logical.{Logical}
use Rattle.logical_trees.specs.declared.blocks.Equality.{Equality}
use Rattle.logical_trees.specs.declared.logic_op.LogicOp.TheVariants.{Join}
use Rattle.logical_trees.specs.Tree.{Expression, leaf, one, two, nodes, tree_of}
use Rattle.logical_trees.specs.Blocks.{block_leaves, block_equalities, equality, IsLeafAt}
use Rattle.logical_trees.specs.BlockShapeLemmas.{IsNoJoin, no_join_leaves}

-- ---- leaves

own : (x : Expression) (n : ℕ) (r : Result (Bor Logical) ℕ) → MatchResult r (λ found. (n ≡ 0) × (tree_of found.now ≡ x)) (λ more. n ≡ 1 + more) → IsLeafAt (x ∷ []) n r
own x n (Ok found) h = get_last [] x (tree_of found.now) n n (omega arith) h.0 h.1
own x n (Err more) h = past_last [] x n n more (omega arith) h

-- an expression that is no Join is its only leaf
pub own_leaf : (x : Expression) (n : ℕ) (r : Result (Bor Logical) ℕ) → IsNoJoin x → MatchResult r (λ found. (n ≡ 0) × (tree_of found.now ≡ x)) (λ more. n ≡ 1 + more)
    → IsLeafAt (block_leaves x) n r
own_leaf x n r other h = subst (λ (leaves : List Expression). IsLeafAt leaves n r) (sym (no_join_leaves x other)) (own x n r h)

pub left_leaf : (x t u : Expression) (on : _) (n : ℕ) (v : Expression) → x ≡ two (Join on) t u → slice_get (block_leaves t) n ≡ Some v → slice_get (block_leaves x) n ≡ Some v
left_leaf x t u on n v e h = rw e (get_front (block_leaves t) (block_leaves u) n v h)

past_left : (xs ys : List Expression) (n past : ℕ) (r : Result (Bor Logical) ℕ) → n ≡ length xs + past → IsLeafAt ys past r → IsLeafAt (xs ++ ys) n r
past_left xs ys n past (Ok found) e h = get_past xs ys n past (tree_of found.now) e h
past_left xs ys n past (Err more) e h = past_both xs ys n past more e h

pub right_leaf : (x t u : Expression) (on : _) (n past : ℕ) (r : Result (Bor Logical) ℕ) → x ≡ two (Join on) t u → n ≡ length (block_leaves t) + past → IsLeafAt (block_leaves u) past r
    → IsLeafAt (block_leaves x) n r
right_leaf x t u on n past r e l h = subst (λ (y : Expression). IsLeafAt (block_leaves y) n r) (sym e) (past_left (block_leaves t) (block_leaves u) n past r l h)

-- ---- equalities

-- a Join has those of its sides and its own
pub all_added : (x t u : Expression) (on : _) (n first : ℕ) (old left right new : List Equality) → x ≡ two (Join on) t u → first ≡ n - length (nodes u) - 1
    → left ≡ old ++ block_equalities t first → right ≡ left ++ block_equalities u (n - 1) → new ≡ right ++ map (equality n) on.items → new ≡ old ++ block_equalities x n
all_added x t u on n first old left right new e f a b c =
    c ∙ ap (λ l. l ++ map (equality n) on.items) (b ∙ ap (λ l. l ++ block_equalities u (n - 1)) (a ∙ ap (λ k. old ++ block_equalities t k) f))
    ∙ append_assoc (old ++ block_equalities t (n - length (nodes u) - 1)) (block_equalities u (n - 1)) (map (equality n) on.items)
    ∙ append_assoc old (block_equalities t (n - length (nodes u) - 1)) (block_equalities u (n - 1) ++ map (equality n) on.items)
    ∙ ap (λ y. old ++ block_equalities y n) (sym e)

-- how many leaves a Join's block has
pub leaves_two : (x t u : Expression) (on : _) → x ≡ two (Join on) t u → length (block_leaves x) ≡ length (block_leaves t) + length (block_leaves u)
leaves_two x t u on e = ap (λ y. length (block_leaves y)) e ∙ length-append (block_leaves t) (block_leaves u)

-- with what its sides and it have added, there is room enough
pub room_of_two : (x t u : Expression) (on : _) (old left right new pairs : ℕ) → x ≡ two (Join on) t u → left + 4 ≤ old + 4 * length (block_leaves t) → right + 4 ≤ left + 4 * length (block_leaves u)
    → new ≡ right + pairs → pairs ≤ 4 → new + 4 ≤ old + 4 * length (block_leaves x)
room_of_two x t u on old left right new pairs e a b c d = let l = leaves_two x t u on e in omega (arith, l, a, b, c, d)

-- ---- pair by pair

pub one_added : (n : ℕ) (on : List (ℕ × ℕ)) (i : ℕ) (old before after : List Equality) (x : Equality) → i < length on → before ≡ old ++ map (equality n) (take i on) → after ≡ before ++ x ∷ []
    → x ≡ equality n (get_or on i (0, 0)) → after ≡ old ++ map (equality n) (take (i + 1) on)
one_added n on i old before after x l h k e =
    k ∙ ap₂ (λ xs y. xs ++ y ∷ []) h e ∙ append_assoc old (map (equality n) (take i on)) (equality n (get_or on i (0, 0)) ∷ []) ∙ ap (λ xs. old ++ xs) (sym (map_more (equality n) on i (0, 0) l))

pub one_longer : (old i : ℕ) (before after : List Equality) (x : Equality) → length before ≡ old + i → after ≡ before ++ x ∷ [] → length after ≡ old + (i + 1)
one_longer old i before after x h k = let l = ap length k ∙ length_push before x in omega (arith, l, h)
