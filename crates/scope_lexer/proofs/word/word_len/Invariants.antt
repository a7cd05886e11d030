use Rattle.std.proofs.Common.{length, drop, ◌-◌, ◌≡◌, ◌≤◌, ◌+◌}
use Rattle.std.specs.List.{prefix_len}
use Rattle.scope_lexer.specs.Bytes.{is_word_byte}
use Rattle.scope_lexer.proofs.word.word_len.Given as goal

abbrev pub invariant-loop-len : goal.invariant-loop-len
invariant-loop-len l = record {
  passed : l.len + prefix_len is_word_byte (drop l.len l.text) ≡ prefix_len is_word_byte l.text;
  inside : l.len ≤ length l.text;
}

abbrev pub decreases-loop-len : goal.decreases-loop-len
decreases-loop-len l = length l.text - l.len
