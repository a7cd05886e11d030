-- Trees that are made one after the other, with their scans.
use Rattle.std.proofs.Common.{◌≡◌, ℕ, zero, suc, ◌+◌, ◌<◌, ◌≤◌, List, [], ◌∷◌, ◌++◌, map, flat_map, length, take, get_or, refl, sym, ap, ap₂, ◌∙◌, arith, append-nil, append_assoc, add-zero, zero-add, length-append, subst}
use Rattle.std.proofs.lemmas.List.{take_more, take_all}
use Rattle.std.proofs.lemmas.Grind.{flat_map-append}
use Rattle.std.proofs.lemmas.List.Folds.{length-flat_map-take}
use Rattle.logical_dag.specs.declared.dag.ScanDecl.{ScanDecl}
use Rattle.logical_dag.specs.Scripts.{scans_of}
use Rattle.logical_trees.specs.Tree.{Expression, tree_of}
use Rattle.placed_trees.specs.declared.source.Stream.{Stream}
use Rattle.placed_trees.specs.declared.statement.Statement.{Statement}
use Rattle.script_meaning.specs.Part.{Part}
use Rattle.script_meaning.specs.Bound.{parts_of}
use Rattle.script_meaning.specs.Dag.{part_at, scans_of_all, trees_from, declared, declared_all}
use Rattle.script_meaning.specs.Placed.{IsPlaced}
use Rattle.script_meaning.proofs.Declared.{length_declared}
use Rattle.script_binder.specs.Steps.{IsTreeMade, AreTreesMade}
use Rattle.script_binder.proofs.Built.{scans_many}

pub declared_append : (scans more : List Stream) (nodes others : List (ℕ × List ℕ)) → length nodes ≡ length scans
    → declared_all (scans ++ more) (nodes ++ others) ≡ declared_all scans nodes ++ declared_all more others
declared_append [] more [] others e = refl
declared_append [] more (s ∷ nodes) others e = absurd (omega arith)
declared_append (d ∷ scans) more [] others e = absurd (omega arith)
declared_append (d ∷ scans) more (s ∷ nodes) others e = ap (λ (l : List ScanDecl). declared d s.1 ∷ l) (declared_append scans more nodes others (omega arith))

trees_push : (name : ℕ → ℕ) (env : List Part) (s : ℕ) (ks : List ℕ) (k : ℕ)
    → trees_from name env s (ks ++ k ∷ []) ≡ trees_from name env s ks ++ (part_at env k).tree name (s + length (scans_of_all env ks)) 0 ∷ []
trees_push name env s [] k = ap (λ (n : ℕ). (part_at env k).tree name n 0 ∷ []) (sym (add-zero s))
trees_push name env s (j ∷ ks) k =
    let more : length (scans_of_all env (j ∷ ks)) ≡ length (part_at env j).scans + length (scans_of_all env ks) = length-append (part_at env j).scans (scans_of_all env ks) in
    let at : s + length (part_at env j).scans + length (scans_of_all env ks) ≡ s + length (scans_of_all env (j ∷ ks)) = omega (arith, more) in
    ap (λ (l : List Expression). (part_at env j).tree name s 0 ∷ l)
    (trees_push name env (s + length (part_at env j).scans) ks k
    ∙ ap (λ (n : ℕ). trees_from name env (s + length (part_at env j).scans) ks ++ (part_at env k).tree name n 0 ∷ []) at)

pub trees_many : (script : List Statement) → IsPlaced script → (name : ℕ → ℕ) (s : ℕ) (ks : List ℕ)
    → length (flat_map scans_of (trees_from name (parts_of script) s ks)) ≡ length (scans_of_all (parts_of script) ks)
trees_many script is_placed name s [] = refl
trees_many script is_placed name s (k ∷ ks) =
    let here = scans_many script is_placed name k s 0 in
    let rest = trees_many script is_placed name (s + length (part_at (parts_of script) k).scans) ks in
    length-append (scans_of ((part_at (parts_of script) k).tree name s 0)) (flat_map scans_of (trees_from name (parts_of script) (s + length (part_at (parts_of script) k).scans) ks))
    ∙ ap₂ (λ (m n : ℕ). m + n) here rest
    ∙ sym (length-append (part_at (parts_of script) k).scans (scans_of_all (parts_of script) ks))

-- none yet
pub trees_none : (script : List Statement) (name : ℕ → ℕ) (before : List ScanDecl) → AreTreesMade script name [] before before []
trees_none script name before = record { trees = refl; scans = sym (append-nil before) }

-- how many scans there are
pub trees_length : (script : List Statement) (name : ℕ → ℕ) (ks : List ℕ) (before after : List ScanDecl) (trees : List Expression) → AreTreesMade script name ks before after trees
    → length after ≡ length before + length (scans_of_all (parts_of script) ks)
trees_length script name ks before after trees made =
    ap length made.scans ∙ length-append before (declared_all (scans_of_all (parts_of script) ks) (flat_map scans_of trees))
    ∙ ap (λ (n : ℕ). length before + n) (length_declared (scans_of_all (parts_of script) ks) (flat_map scans_of trees))

trees_one_more : (script : List Statement) → IsPlaced script → (name : ℕ → ℕ) (ks : List ℕ) (k : ℕ) (before middle after : List ScanDecl) (trees : List Expression) (t : Expression)
    → AreTreesMade script name ks before middle trees → IsTreeMade script name k middle after t → AreTreesMade script name (ks ++ k ∷ []) before after (trees ++ t ∷ [])
trees_one_more script is_placed name ks k before middle after trees t made one = record {
  trees =
      ap₂ (λ (l : List Expression) (u : Expression). l ++ u ∷ []) made.trees (one.tree ∙ ap (λ (n : ℕ). (part_at env k).tree name n 0) (trees_length script name ks before middle trees made))
      ∙ sym (trees_push name env (length before) ks k);
  scans =
      one.scans ∙ ap (λ (l : List ScanDecl). l ++ declared_all (part_at env k).scans (scans_of t)) made.scans
      ∙ append_assoc before (declared_all (scans_of_all env ks) (flat_map scans_of trees)) (declared_all (part_at env k).scans (scans_of t))
      ∙ ap (λ (l : List ScanDecl). before ++ l)
      (sym (declared_append (scans_of_all env ks) (part_at env k).scans (flat_map scans_of trees) (scans_of t) many)
      ∙ sym (ap₂ declared_all
      (flat_map-append (λ j. (part_at env j).scans) ks (k ∷ []) ∙ ap (λ (l : List Stream). scans_of_all env ks ++ l) (append-nil (part_at env k).scans))
      (flat_map-append scans_of trees (t ∷ []) ∙ ap (λ (l : List (ℕ × List ℕ)). flat_map scans_of trees ++ l) (append-nil (scans_of t)))));
}
  where
    env : List Part
    env = parts_of script

    many : length (flat_map scans_of trees) ≡ length (scans_of_all env ks)
    many = ap (λ (l : List Expression). length (flat_map scans_of l)) made.trees ∙ trees_many script is_placed name (length before) ks

-- one tree more, of the next of these
pub trees_more : (script : List Statement) → IsPlaced script → (name : ℕ → ℕ) (ks : List ℕ) (i k : ℕ) (before middle after : List ScanDecl) (trees : List Expression) (t : Expression)
    → i < length ks → k ≡ get_or ks i k → AreTreesMade script name (take i ks) before middle trees → IsTreeMade script name k middle after t
    → AreTreesMade script name (take (i + 1) ks) before after (trees ++ t ∷ [])
trees_more script is_placed name ks i k before middle after trees t lt is made one =
    let front : take i ks ++ k ∷ [] ≡ take (i + 1) ks = sym (take_more ks i k lt ∙ ap (λ (d : ℕ). take i ks ++ d ∷ []) (sym is)) in
    let P : List ℕ → Type 0 = λ l. AreTreesMade script name l before after (trees ++ t ∷ []) in
    subst P front (trees_one_more script is_placed name (take i ks) k before middle after trees t made one)

-- there is room for the next of these
pub trees_room : (script : List Statement) (name : ℕ → ℕ) (ks : List ℕ) (i k : ℕ) (before middle : List ScanDecl) (trees : List Expression)
    → i < length ks → k ≡ get_or ks i k → AreTreesMade script name (take i ks) before middle trees
    → length before + length (scans_of_all (parts_of script) ks) ≤ 320 → length middle + length (part_at (parts_of script) k).scans ≤ 320
trees_room script name ks i k before middle trees lt is made room =
    let so_far = trees_length script name (take i ks) before middle trees made in
    let more = length-flat_map-take (λ j. (part_at (parts_of script) j).scans) ks i k lt in
    let here : length (part_at (parts_of script) k).scans ≡ length (part_at (parts_of script) (get_or ks i k)).scans = ap (λ (j : ℕ). length (part_at (parts_of script) j).scans) is in
    omega (arith, so_far, more, here, room)
