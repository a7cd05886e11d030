use Rattle.scope_streams.specs.Ends.{bags_of}
use Rattle.scope_app.proofs.running.run_scanned.Goals as goal

pub returns-in-Ok : goal.returns-in-Ok
returns-in-Ok g c = λ script sizes at. c.write_outputs.ensures script sizes (bags_of c.args.scans.now) at (rw (← c.as_slice.ensures.value) at c.in-Ok.ensures)
