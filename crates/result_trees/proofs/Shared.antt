-- The results that are shared, as they are read.
use Rattle.std.proofs.Common.{◌≡◌, ℕ, ◌+◌, ◌<◌, ◌≤◌, true, List, [], ◌∷◌, ◌++◌, map, length, get_or, sym, ap, ◌∙◌, subst, arith, append-nil}
use Rattle.std.proofs.lemmas.List.{length-map}
use Rattle.col_sets.specs.Sets.{has}
use Rattle.col_sets.proofs.ColSets.{length-filter_range}
use Rattle.logical_dag.specs.declared.dag.ScanDecl.{ScanDecl}
use Rattle.placed_trees.specs.declared.statement.Statement.{Statement}
use Rattle.result_sharing.specs.declared.sharing.Sharing.{Sharing}
use Rattle.result_sharing.specs.Sharing.{IsSharing}
use Rattle.script_meaning.specs.Bound.{mentions, is_shared, parts_of}
use Rattle.script_meaning.specs.Dag.{part_at, place_in, outs_of, reached}
use Rattle.script_meaning.specs.Part.{Part, referred}
use Rattle.script_nodes.specs.declared.made.Made.{Made}
use Rattle.script_nodes.specs.Made.{IsMade}
use Rattle.result_trees.specs.Results.{IsPartMade}
use Rattle.result_trees.specs.Steps.{read_in}
use Rattle.result_trees.proofs.Sources.{parts_length, read_shared, width_of}

module _ (script : List Statement) (m : Sharing) (sharing : IsSharing script m) where
  pub few_kept : length script ≤ 64 → length m.kept.items ≤ 64
  few_kept few =
      let e = ap length sharing.kept in
      let f = length-filter_range (has (reached (outs_of script) 0 (parts_of script))) (length (parts_of script)) in
      let n = parts_length script in
      omega (arith, e, f, n)

  -- ---- one that is there
  module _ (k : ℕ) (there : k < length script) where
    pub width_there : k < length m.widths.items
    width_there =
        let e = ap length sharing.widths ∙ length-map (parts_of script) (λ (p : Part). length p.cols) in
        let n = parts_length script in
        omega (arith, e, n)

    own_width : length (part_at (parts_of script) k).cols ≡ get_or m.widths.items k 0
    own_width =
        let n = parts_length script in
        sym (ap (λ l. get_or l k 0) sharing.widths ∙ width_of (parts_of script) k (omega (arith, n)))

    -- and is shared
    module _ (shared : is_shared (mentions [] script) k ≡ true) where
      pub ref_columns : (c : ℕ) → c + (read_in script k).count ≤ 128 → c + get_or m.widths.items k 0 ≤ 128
      ref_columns c h =
          let e = ap (λ (p : Part). p.count) (read_shared script k there shared) in
          let w = own_width in
          omega (arith, e, w)

      pub ref_made : (c : ℕ) (scans : List ScanDecl) (x : Made)
          → ((s : ℕ) (b : Part) → length b.cols ≡ get_or m.widths.items k 0 → IsMade (place_in m.kept.items) s c (referred k b) x) → IsPartMade (place_in m.kept.items) c (read_in script k) scans scans x
      ref_made c scans x h =
          subst (λ (p : Part). IsPartMade (place_in m.kept.items) c p scans scans x) (sym (read_shared script k there shared))
          (record { made = h (length scans) (part_at (parts_of script) k) own_width; scans = sym (append-nil scans) })
