-- So far the text has those that were looked at.
use Rattle.std.proofs.Common.{◌≡◌, ◌++◌, take}
use Rattle.dag_text.specs.Lines.{lines, output_lines}
use Rattle.dag_text.proofs.dag.write_outputs.Given as goal

abbrev pub invariant-loop-i : goal.invariant-loop-i
invariant-loop-i l = l.out.items ≡ l.fn.out.items ++ lines output_lines 0 (take l.i l.outputs)
