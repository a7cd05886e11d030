-- So far the text has those that were looked at.
use Rattle.std.proofs.Common.{◌≡◌, ◌++◌, take}
use Rattle.dag_text.specs.Lines.{lines, scan_line}
use Rattle.dag_text.proofs.dag.write_scans.Given as goal

abbrev pub invariant-loop-i : goal.invariant-loop-i
invariant-loop-i l = l.out.items ≡ l.fn.out.items ++ lines scan_line 0 (take l.i l.scans)
