-- What the definitions of texts give, by the constructors and the steps that the code uses.
use Rattle.std.proofs.Common.{◌≡◌, ◌<◌, ◌≤◌, ◌+◌, ℕ, zero, suc, List, [], ◌∷◌, ◌++◌, map, take, length, get_or, Result, Ok, Err, OnOk, is_ok, cond, refl, sym, ap, ap₂, ◌∙◌, arith, append_assoc, length-append, codes}
use Rattle.std.specs.List.{join_with_byte, flat_map}
use Rattle.std.proofs.lemmas.List.{append-nil, take_all, take_more, length-take-le}
use denote.Hole.Carrier.{hidden}
use Rattle.script_trees.specs.declared.op.PairOp.{PairOp}
use Rattle.scope_expr.specs.declared.expr.Expr.{Expr}
use Rattle.scope_expr.specs.declared.expr.Expr.TheBlock.{shape-the_row-Expr-0, hidden-the_row-Expr-0}
use Rattle.scope_expr.specs.declared.expr.Expr.TheVariants.{Neg, Not, Pair}
use Rattle.dag_text.specs.Pieces.{expression_text, between_text}
use Rattle.dag_text.specs.Lines.{lines}

-- ---- one text behind another

pub also : (out before written a b : List ℕ) → before ≡ out ++ a → written ≡ before ++ b → written ≡ out ++ (a ++ b)
also out before written a b first second = second ∙ ap (λ (text : List ℕ). text ++ b) first ∙ append_assoc out a b

-- the last one, for which there may be no memory
pub closed : {T E : Type 0} (r : Result T E) (out before written a b : List ℕ) → before ≡ out ++ a → written ≡ cond (is_ok r) (before ++ b) before → OnOk r (written ≡ out ++ (a ++ b))
closed (Ok x) out before written a b first second = also out before written a b first second
closed (Err x) out before written a b first second = tt

-- ---- expressions

pub text_neg : (a : Expr) → expression_text (Neg a) ≡ codes "-(" ++ expression_text a ++ codes ")"
unfolding shape-the_row-Expr-0 hidden-the_row-Expr-0 hidden
text_neg a = refl

pub text_not : (a : Expr) → expression_text (Not a) ≡ codes "!(" ++ expression_text a ++ codes ")"
unfolding shape-the_row-Expr-0 hidden-the_row-Expr-0 hidden
text_not a = refl

pub text_pair : (op : PairOp) (a b : Expr) → expression_text (Pair op a b) ≡ codes "(" ++ expression_text a ++ between_text op ++ expression_text b ++ codes ")"
unfolding shape-the_row-Expr-0 hidden-the_row-Expr-0 hidden
text_pair op a b = refl

-- ---- lists

-- the first, and then each later one behind the byte
pub joined_first : (between : ℕ) {X : Type 0} (f : X → List ℕ) (x : X) (xs : List X)
    → join_with_byte between (map f (x ∷ xs)) ≡ f x ++ flat_map (λ y. between ∷ f y) xs
joined_first between f x [] = sym (append-nil (f x))
joined_first between f x (y ∷ xs) = ap (λ (rest : List ℕ). f x ++ (between ∷ rest)) (joined_first between f y xs)

-- all later ones are written
pub joined_done : (between : ℕ) {X : Type 0} (f : X → List ℕ) (xs rest : List X) (x : X) (i : ℕ) (out before written : List ℕ) → xs ≡ x ∷ rest → before ≡ out ++ f x
    → written ≡ before ++ flat_map (λ y. between ∷ f y) (take i rest) → length rest ≤ i → written ≡ out ++ join_with_byte between (map f xs)
joined_done between f xs rest x i out before written is first later end =
    also out before written (f x) (flat_map (λ y. between ∷ f y) (take i rest)) first later
    ∙ ap (λ ys. out ++ (f x ++ flat_map (λ y. between ∷ f y) ys)) (take_all i rest end)
    ∙ ap (λ (text : List ℕ). out ++ text) (sym (joined_first between f x rest) ∙ ap (λ ys. join_with_byte between (map f ys)) (sym is))

-- ---- lines

-- those of two lists, one behind the other
pub lines_append : {X : Type 0} (line : ℕ → X → List ℕ) (n : ℕ) (xs ys : List X) → lines line n (xs ++ ys) ≡ lines line n xs ++ lines line (n + length xs) ys
lines_append line n [] ys = let e : n ≡ n + 0 = omega arith in ap (λ (k : ℕ). lines line k ys) e
lines_append line n (x ∷ xs) ys =
    let e : n + 1 + length xs ≡ n + length (x ∷ xs) = omega arith in
    ap (λ (rest : List ℕ). line n x ++ rest) (lines_append line (n + 1) xs ys ∙ ap (λ (k : ℕ). lines line (n + 1) xs ++ lines line k ys) e)
    ∙ sym (append_assoc (line n x) (lines line (n + 1) xs) (lines line (n + length (x ∷ xs)) ys))

-- one more of a list
pub lines_more : {X : Type 0} (line : ℕ → X → List ℕ) (xs : List X) (i : ℕ) (x : X) → i < length xs → x ≡ get_or xs i x
    → lines line 0 (take (i + 1) xs) ≡ lines line 0 (take i xs) ++ line i x
lines_more {X} line xs i x within is =
    let l = length-take-le i xs (omega arith) in
    let e : 0 + length (take i xs) ≡ i = omega (arith, l) in
    ap (lines line 0) (take_more xs i x within)
    ∙ lines_append line 0 (take i xs) (get_or xs i x ∷ [])
    ∙ ap₂ (λ (k : ℕ) (y : X). lines line 0 (take i xs) ++ (line k y ++ [])) e (sym is)
    ∙ ap (λ (rest : List ℕ). lines line 0 (take i xs) ++ rest) (append-nil (line i x))

pub line_done : {X : Type 0} (line : ℕ → X → List ℕ) (xs : List X) (i : ℕ) (x : X) (out before written : List ℕ) → before ≡ out ++ lines line 0 (take i xs) → written ≡ before ++ line i x
    → i < length xs → x ≡ get_or xs i x → written ≡ out ++ lines line 0 (take (i + 1) xs)
line_done line xs i x out before written so more within is =
    more ∙ ap (λ (text : List ℕ). text ++ line i x) so ∙ append_assoc out (lines line 0 (take i xs)) (line i x)
    ∙ ap (λ (text : List ℕ). out ++ text) (sym (lines_more line xs i x within is))
