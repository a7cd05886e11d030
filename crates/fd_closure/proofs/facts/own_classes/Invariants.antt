use Rattle.std.proofs.Common.{◌≡◌, ℕ, ◌<◌, slice_index, length}
use Rattle.fd_closure.proofs.facts.own_classes.Given as goal

abbrev pub invariant-loop-c : goal.invariant-loop-c
invariant-loop-c l = record { places : length l.class ≡ 128; own : (k : ℕ) → k < l.c → slice_index l.class k ≡ k }
