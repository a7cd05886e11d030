use Rattle.std.proofs.Common.{◌≡◌, ℕ, ◌<◌, length, None, slice_index_or}
use Rattle.logical_dag.specs.Facts.{item_name}
use Rattle.logical_dag.proofs.naming.item_names.Given as goal

abbrev pub invariant-loop-c : goal.invariant-loop-c
invariant-loop-c l = record { places : length l.of ≡ 128; before : (k : ℕ) → k < l.c → slice_index_or l.of k None ≡ item_name l.items l.cols k }
