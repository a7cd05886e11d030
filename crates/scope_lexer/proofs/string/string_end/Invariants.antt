use Rattle.std.proofs.Common.{◌≡◌, ◌≤◌, ◌-◌, length, drop}
use Rattle.scope_lexer.specs.Begins.{string_end}
use Rattle.scope_lexer.proofs.string.string_end.Given as goal

abbrev pub invariant-loop-at : goal.invariant-loop-at
invariant-loop-at l = record {
  end : string_end l.at (drop l.at l.text) ≡ string_end 1 (drop 1 l.text);
  inside : l.at ≤ length l.text;
}

abbrev pub decreases-loop-at : goal.decreases-loop-at
decreases-loop-at l = length l.text - l.at
