use Rattle.std.proofs.Common.{◌≡◌, ℕ, ◌<◌, ◌≤◌, slice_index, nat_eq, length, if◌then◌else◌}
use Rattle.fd_closure.proofs.facts.joined_classes.Given as goal

abbrev pub invariant-loop-c : goal.invariant-loop-c
invariant-loop-c l = record {
  places : length l.joined ≡ 128;
  before : (k : ℕ) → k < l.c → slice_index l.joined k ≡ (if nat_eq (slice_index l.class k) l.from then l.to else slice_index l.class k);
  after : (k : ℕ) → l.c ≤ k → slice_index l.joined k ≡ slice_index l.class k;
}
