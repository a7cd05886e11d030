use Rattle.dag_text.specs.Lines.{output_lines}
use Rattle.dag_text.proofs.TextLemmas.{line_done}
use Rattle.dag_text.proofs.dag.write_outputs.Goals as goal

pub loop-i-preserved : goal.loop-i-preserved
loop-i-preserved c =
    line_done output_lines c.args.outputs.now c.loop-i.i c.index-outputs-i.result c.args.out.now.items c.loop-i.out.items c.write_output.new.out.items c.loop-i.invariant c.in_ok-write_output.ensures c.loop-i-test.true c.index-outputs-i.is
