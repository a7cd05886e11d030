use Rattle.dag_text.specs.Lines.{scan_line}
use Rattle.dag_text.proofs.TextLemmas.{line_done}
use Rattle.dag_text.proofs.dag.write_scans.Goals as goal

pub loop-i-preserved : goal.loop-i-preserved
loop-i-preserved c =
    line_done scan_line c.args.scans.now c.loop-i.i c.index-scans-i.result c.args.out.now.items c.loop-i.out.items c.write_scan.new.out.items c.loop-i.invariant c.in_ok-write_scan.ensures c.loop-i-test.true c.index-scans-i.is
