use Rattle.dag_text.specs.Lines.{shared_lines}
use Rattle.dag_text.proofs.TextLemmas.{line_done}
use Rattle.dag_text.proofs.dag.write_all_shared.Goals as goal

pub loop-i-preserved : goal.loop-i-preserved
loop-i-preserved c =
    line_done shared_lines c.args.shared.now c.loop-i.i c.index-shared-i.result c.args.out.now.items c.loop-i.out.items c.write_shared.new.out.items c.loop-i.invariant c.in_ok-write_shared.ensures c.loop-i-test.true c.index-shared-i.is
