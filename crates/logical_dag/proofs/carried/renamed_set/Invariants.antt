use Rattle.std.proofs.Common.{◌≡◌, ℕ, ◌<◌, true}
use Rattle.std.specs.Prelude.{◌↔◌, IsSome}
use Rattle.col_sets.specs.Sets.{has}
use Rattle.logical_dag.specs.Facts.{Renamed}
use Rattle.logical_dag.specs.Known.{name_of}
use Rattle.logical_dag.proofs.carried.renamed_set.Given as goal

abbrev pub invariant-loop-c : goal.invariant-loop-c
invariant-loop-c l = record {
  all : (c : ℕ) → c < l.c → has l.set c ≡ true → IsSome (name_of l.names c);
  just : (d : ℕ) → (has l.renamed d ≡ true) ↔ Renamed (name_of l.names) (λ c. (has l.set c ≡ true) × (c < l.c)) d;
}
