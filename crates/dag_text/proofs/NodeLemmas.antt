-- The lines of a node's children, and after its own, are those of its nodes.
use Rattle.std.proofs.Common.{◌≡◌, ◌+◌, ◌-◌, ℕ, List, [], ◌∷◌, ◌++◌, length, refl, sym, ap, ap₂, ◌∙◌, arith, append_assoc}
use Rattle.std.proofs.lemmas.List.{append-nil}
use Rattle.logical_trees.specs.declared.logic_op.LogicOp.{LogicOp}
use Rattle.logical_trees.specs.Tree.{Expression, leaf, one, two, nodes}
use Rattle.logical_trees.specs.NumberLemmas.{nodes_one, nodes_two}
use Rattle.dag_text.specs.Lines.{lines, node_text, node_line}
use Rattle.dag_text.proofs.TextLemmas.{lines_append}

-- ---- a node without children

pub leaf_written : (x : Expression) (op : LogicOp) (first : ℕ) (out written : List ℕ) → x ≡ leaf op → written ≡ out ++ node_text op first [] → written ≡ out ++ lines node_line first (nodes x)
leaf_written x op first out written is so = so ∙ ap (λ (text : List ℕ). out ++ text) (sym (append-nil (node_text op first [])) ∙ ap (λ (y : Expression). lines node_line first (nodes y)) (sym is))

pub leaf_number : (x : Expression) (op : LogicOp) (first : ℕ) → x ≡ leaf op → first + 1 ≡ first + length (nodes x)
leaf_number x op first is = ap (λ (y : Expression). first + length (nodes y)) (sym is)

-- ---- a node over one

one_lines : (op : LogicOp) (t : Expression) (first below number : ℕ) → below + 1 ≡ first + length (nodes t) → number ≡ below + 1
    → lines node_line first (nodes (one op t)) ≡ lines node_line first (nodes t) ++ node_text op number (below ∷ [])
one_lines op t first below number last own =
    let here : first + length (nodes t) ≡ number = omega (arith, last, own) in
    let under : number - 1 ≡ below = omega (arith, own) in
    lines_append node_line first (nodes t) (one op t ∷ [])
    ∙ ap (λ (rest : List ℕ). lines node_line first (nodes t) ++ rest)
    (append-nil (node_line (first + length (nodes t)) (one op t)) ∙ ap (λ (n : ℕ). node_line n (one op t)) here ∙ ap (λ (k : ℕ). node_text op number (k ∷ [])) under)

pub one_written : (x : Expression) (op : LogicOp) (t : Expression) (first below number : ℕ) (out before written : List ℕ) → x ≡ one op t → below + 1 ≡ first + length (nodes t) → number ≡ below + 1
    → before ≡ out ++ lines node_line first (nodes t) → written ≡ before ++ node_text op number (below ∷ []) → written ≡ out ++ lines node_line first (nodes x)
one_written x op t first below number out before written is last own kid so =
    so ∙ ap (λ (text : List ℕ). text ++ node_text op number (below ∷ [])) kid
    ∙ append_assoc out (lines node_line first (nodes t)) (node_text op number (below ∷ []))
    ∙ ap (λ (text : List ℕ). out ++ text) (sym (one_lines op t first below number last own) ∙ ap (λ (y : Expression). lines node_line first (nodes y)) (sym is))

pub one_number : (x : Expression) (op : LogicOp) (t : Expression) (first below number : ℕ) → x ≡ one op t → below + 1 ≡ first + length (nodes t) → number ≡ below + 1 → number + 1 ≡ first + length (nodes x)
one_number x op t first below number is last own = let e = nodes_one op t in let f = ap (λ (y : Expression). length (nodes y)) is in omega (arith, last, own, e, f)

-- ---- a node over two

two_lines : (op : LogicOp) (t u : Expression) (first left next right number : ℕ) → left + 1 ≡ first + length (nodes t) → next ≡ left + 1 → right + 1 ≡ next + length (nodes u) → number ≡ right + 1
    → lines node_line first (nodes (two op t u)) ≡ lines node_line first (nodes t) ++ (lines node_line next (nodes u) ++ node_text op number (left ∷ right ∷ []))
two_lines op t u first left next right number last after other own =
    let there : first + length (nodes t) ≡ next = omega (arith, last, after) in
    let here : next + length (nodes u) ≡ number = omega (arith, other, own) in
    let before : number - length (nodes u) - 1 ≡ left = omega (arith, last, after, other, own) in
    let under : number - 1 ≡ right = omega (arith, own) in
    lines_append node_line first (nodes t) (nodes u ++ two op t u ∷ [])
    ∙ ap (λ (rest : List ℕ). lines node_line first (nodes t) ++ rest)
    (ap (λ (n : ℕ). lines node_line n (nodes u ++ two op t u ∷ [])) there
    ∙ lines_append node_line next (nodes u) (two op t u ∷ [])
    ∙ ap (λ (rest : List ℕ). lines node_line next (nodes u) ++ rest)
    (append-nil (node_line (next + length (nodes u)) (two op t u)) ∙ ap (λ (n : ℕ). node_line n (two op t u)) here ∙ ap₂ (λ (j k : ℕ). node_text op number (j ∷ k ∷ [])) before under))

pub two_written : (x : Expression) (op : LogicOp) (t u : Expression) (first left next right number : ℕ) (out before beside written : List ℕ) → x ≡ two op t u
    → left + 1 ≡ first + length (nodes t) → next ≡ left + 1 → right + 1 ≡ next + length (nodes u) → number ≡ right + 1
    → before ≡ out ++ lines node_line first (nodes t) → beside ≡ before ++ lines node_line next (nodes u) → written ≡ beside ++ node_text op number (left ∷ right ∷ [])
    → written ≡ out ++ lines node_line first (nodes x)
two_written x op t u first left next right number out before beside written is last after other own kid second so =
    let own_text = node_text op number (left ∷ right ∷ []) in
    so ∙ ap (λ (text : List ℕ). text ++ own_text) (second ∙ ap (λ (text : List ℕ). text ++ lines node_line next (nodes u)) kid)
    ∙ append_assoc (out ++ lines node_line first (nodes t)) (lines node_line next (nodes u)) own_text
    ∙ append_assoc out (lines node_line first (nodes t)) (lines node_line next (nodes u) ++ own_text)
    ∙ ap (λ (text : List ℕ). out ++ text) (sym (two_lines op t u first left next right number last after other own) ∙ ap (λ (y : Expression). lines node_line first (nodes y)) (sym is))

pub two_number : (x : Expression) (op : LogicOp) (t u : Expression) (first left next right number : ℕ) → x ≡ two op t u → left + 1 ≡ first + length (nodes t) → next ≡ left + 1
    → right + 1 ≡ next + length (nodes u) → number ≡ right + 1 → number + 1 ≡ first + length (nodes x)
two_number x op t u first left next right number is last after other own =
    let e = nodes_two op t u in let f = ap (λ (y : Expression). length (nodes y)) is in omega (arith, last, after, other, own, e, f)
