-- The Scan of a stream, with its declaration, and the Ref to a shared result.
use Rattle.std.proofs.Common.{◌≡◌, ℕ, ◌+◌, ◌<◌, ◌≤◌, List, [], ◌∷◌, ◌++◌, map, length, get_or, refl, sym, ap, ◌∙◌, arith}
use Rattle.std.specs.Prelude.{All}
use Rattle.std.specs.List.{range_with_len}
use Rattle.std.proofs.lemmas.List.{length-map}
use Rattle.std.proofs.lemmas.List.FromFn.{length-range_with_len}
use Rattle.col_sets.specs.Keys.{IsBelow}
use Rattle.column_ranks.specs.Picked.{place_below}
use Rattle.column_ranks.specs.Rising.{IsRising}
use Rattle.logical_dag.specs.declared.dag.ScanDecl.{ScanDecl}
use Rattle.logical_dag.specs.Scripts.{scans_of}
use Rattle.logical_trees.specs.Tree.{tree_of}
use Rattle.placed_trees.specs.declared.source.Stream.{Stream}
use Rattle.script_meaning.specs.Dag.{declared, declared_all}
use Rattle.script_meaning.specs.Part.{scanned}
use Rattle.script_meaning.proofs.Shaped.{range_shift}
use Rattle.script_nodes.specs.declared.made.Made.{Made}
use Rattle.script_nodes.specs.Made.{IsMade}
use Rattle.result_trees.specs.Results.{IsPartMade}

-- columns that ascend are columns
pub rising_columns : (b : ℕ) (s : List ℕ) → IsRising 0 s b → b ≤ 128 → All IsBelow s
rising_columns b s h l k d m = let n : get_or s k d < b = place_below 0 b s k d h m in omega arith

module _ (name : ℕ → ℕ) (s c : ℕ) (d : Stream) (m : Made) (h : IsMade name s c (scanned d) m) where
  pub scan_width : length m.cols.items ≡ length d.schema
  scan_width = ap length h.cols ∙ length-map (range_with_len 0 (length d.schema)) (λ p. c + p) ∙ length-range_with_len 0 (length d.schema)

  scan_columns : m.cols.items ≡ range_with_len c (length d.schema)
  scan_columns = let e : c + 0 ≡ c = omega arith in h.cols ∙ range_shift c 0 (length d.schema) ∙ ap (λ i. range_with_len i (length d.schema)) e

  -- with its declaration behind those that are there
  pub scan_declared : (before after : List ScanDecl) → s ≡ length before → after ≡ before ++ declared d m.cols.items ∷ [] → IsPartMade name c (scanned d) before after m
  scan_declared before after e put = record {
    made = record { tree = h.tree ∙ ap (λ i. (scanned d).tree name i c) e; cols = h.cols; next = h.next };
    scans = put ∙ ap (λ cols. before ++ declared d cols ∷ []) scan_columns ∙ ap (λ t. before ++ declared_all (d ∷ []) (scans_of t)) (sym h.tree);
  }
