-- Scans with their declarations in the columns of their nodes.
use Rattle.std.proofs.Common.{◌≡◌, ℕ, zero, suc, ◌<◌, true, List, [], ◌∷◌, map, length, get_or, refl, sym, ap, arith}
use Rattle.col_sets.specs.Sets.{has, count}
use Rattle.col_sets.specs.Tests.{or_left, or_right, to_test}
use Rattle.placed_trees.specs.declared.source.Stream.{Stream}
use Rattle.logical_dag.specs.declared.dag.ScanDecl.{ScanDecl}
use Rattle.logical_trees.specs.Rows.{Bag}
use Rattle.logical_dag.specs.DagMeaning.{scan_rows}
use Rattle.script_meaning.specs.Dag.{declared, declared_all}
use Rattle.script_meaning.specs.Laws.{stream_rows}
use Rattle.script_meaning.specs.Written.{AreScansOver}
use Rattle.script_meaning.proofs.Named.{stored_over}
use Rattle.script_meaning.proofs.Built.{AreDeclared}

-- they are as many
pub length_declared : (scans : List Stream) (nodes : List (ℕ × List ℕ)) → length (declared_all scans nodes) ≡ length scans
length_declared [] nodes = refl
length_declared (d ∷ scans) [] = ap suc (length_declared scans [])
length_declared (d ∷ scans) (s ∷ nodes) = ap suc (length_declared scans nodes)

-- and have the same rows
pub rows_declared : (input : ScanDecl → Bag) (scans : List Stream) (nodes : List (ℕ × List ℕ)) → map (scan_rows input) (declared_all scans nodes) ≡ map (stream_rows input) scans
rows_declared input [] nodes = refl
rows_declared input (d ∷ scans) [] = ap (λ bags. stream_rows input d ∷ bags) (rows_declared input scans [])
rows_declared input (d ∷ scans) (s ∷ nodes) = ap (λ bags. stream_rows input d ∷ bags) (rows_declared input scans nodes)

-- the column at a place of a list is there
has_place : (cols : List ℕ) (p : ℕ) → p < length cols → has cols (get_or cols p 128) ≡ true
has_place [] p l = absurd (omega arith)
has_place (c ∷ cols) zero l = or_left _ _ (to_test c c refl)
has_place (c ∷ cols) (suc p) l = or_right _ _ (has_place cols p (omega arith))

-- what was declared by place is among the columns of the node
pub declared_over : (scans : List Stream) (nodes : List (ℕ × List ℕ)) → map (λ s. count s.1) nodes ≡ map (λ d. length d.schema) scans → AreDeclared scans
    → AreScansOver (declared_all scans nodes) nodes
declared_over [] [] wide h = tt
declared_over [] (s ∷ nodes) wide h = absurd (cc)
declared_over (d ∷ scans) [] wide h = absurd (cc)
declared_over (d ∷ scans) (s ∷ nodes) wide h =
    let first : count s.1 ≡ length d.schema = cc in
    let rest : map (λ (x : ℕ × List ℕ). count x.1) nodes ≡ map (λ (e : Stream). length e.schema) scans = cc in (
      (sym first, stored_over (λ p. get_or s.1 p 128) s.1 (length d.schema) (λ p l. has_place s.1 p (omega arith)) d.stored h.0),
      declared_over scans nodes rest h.1,
    )
