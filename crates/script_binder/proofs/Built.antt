-- What holds of each part of a script that names what is there.
use Rattle.std.proofs.Common.{◌≡◌, ℕ, zero, suc, ◌+◌, ◌<◌, ◌≤◌, List, [], ◌∷◌, ◌++◌, map, length, take, get_or, refl, sym, ap, ◌∙◌, arith, Option, Some, None, slice_get}
use Rattle.std.specs.Prelude.{All}
use Rattle.std.proofs.lemmas.List.{length-map}
use Rattle.std.proofs.lemmas.List.FromFn.{length-range_with_len}
use Rattle.col_sets.specs.Keys.{IsBelow}
use Rattle.column_ranks.specs.Picked.{place_below}
use Rattle.column_ranks.specs.Rising.{IsRising}
use Rattle.logical_dag.specs.Scripts.{scans_of}
use Rattle.placed_trees.specs.declared.statement.Statement.{Statement}
use Rattle.script_meaning.specs.Part.{Part}
use Rattle.script_meaning.specs.Bound.{mentions, parts_of}
use Rattle.script_meaning.specs.Dag.{or_nothing, part_at}
use Rattle.script_meaning.specs.Placed.{IsPlaced}
use Rattle.script_meaning.proofs.Built.{IsBuilt}
use Rattle.script_meaning.proofs.Whole.{keeps_length, all_built, not_none}

abbrev pub width_at : List Statement → ℕ → ℕ
width_at script k = length (part_at (parts_of script) k).cols

pub many_parts : (script : List Statement) → length (parts_of script) ≡ length script
many_parts script = let e : length (parts_of script) ≡ 0 + length script = keeps_length (mentions [] script) [] [] script in omega (arith, e)

pub get_part : (env : List Part) (k : ℕ) → k < length env → slice_get env k ≡ Some (part_at env k)
get_part [] k l = absurd (omega arith)
get_part (b ∷ env) zero l = refl
get_part (b ∷ env) (suc k) l = get_part env k (omega arith)

built_part : (script : List Statement) → IsPlaced script → (k : ℕ) (b : Part) → slice_get (parts_of script) k ≡ Some b → IsBuilt (width_at script) b
built_part script is_placed k b e =
    all_built (width_at script) (mentions [] script) [] [] script is_placed (λ j x f. absurd (cc)) (λ j x f. ap (λ (o : Option Part). length (or_nothing o).cols) f) k b e

pub built : (script : List Statement) → IsPlaced script → (k : ℕ) → k < length script → IsBuilt (width_at script) (part_at (parts_of script) k)
built script is_placed k l =
    let within : k < length (parts_of script) = omega (arith, many_parts script) in
    built_part script is_placed k (part_at (parts_of script) k) (get_part (parts_of script) k within)

-- its tree has a node for each scan
pub scans_many : (script : List Statement) → IsPlaced script → (name : ℕ → ℕ) (k s c : ℕ)
    → length (scans_of ((part_at (parts_of script) k).tree name s c)) ≡ length (part_at (parts_of script) k).scans
scans_many script is_placed name k s c = go (slice_get (parts_of script) k) refl
  where
    go : (o : Option Part) → slice_get (parts_of script) k ≡ o → length (scans_of ((or_nothing o).tree name s c)) ≡ length (or_nothing o).scans
    go None e = refl
    go (Some b) e =
        sym (length-map (scans_of (b.tree name s c)) (λ (x : ℕ × List ℕ). x.0))
        ∙ ap length ((built_part script is_placed k b e).scans name s c) ∙ length-range_with_len s (length b.scans)

-- columns that ascend are columns
pub rising_columns : (b : ℕ) (s : List ℕ) → IsRising 0 s b → b ≤ 128 → All IsBelow s
rising_columns b s h l k d m = let n : get_or s k d < b = place_below 0 b s k d h m in omega arith
