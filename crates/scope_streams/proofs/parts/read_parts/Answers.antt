use Rattle.std.proofs.Common.{◌≡◌, ◌∙◌, arith}
use Rattle.user_ops.specs.contracts.op_set.OpSetTells.TheImpl as impl
use Rattle.scope_streams.proofs.TurnLemmas.{parts_more, parts_stop}
use Rattle.scope_streams.proofs.parts.read_parts.Goals as goal

pub returns-in-Err-clause-err : goal.returns-in-Err-clause-err
returns-in-Err-clause-err g c =
    parts_stop ((impl.ghosts g.dyn-1 g.dyn-2 g.dyn-3 g.dyn-4).tells c.args.ops.now) c.args.scan.now c.args.parts c.loop-part.part c.loop-part.rows.items (g.S.Store.told c.args.store.now) (g.S.Store.told c.loop-part.store) (g.S.Store.told c.read_one.new.store) c.in-Err.stop
    c.loop-part-test.true c.loop-part.invariant.still c.loop-part.invariant.read c.in-Err.ensures.err

pub loop-part-preserved : goal.loop-part-preserved
loop-part-preserved g c = record {
  still = c.in-Ok.ensures.ok.0 ∙ c.loop-part.invariant.still;
  read =
      rw c.in-Ok-append.ensures.items
      (parts_more ((impl.ghosts g.dyn-1 g.dyn-2 g.dyn-3 g.dyn-4).tells c.args.ops.now) (g.S.Store.told c.args.store.now) c.args.scan.now c.args.parts c.loop-part.part c.loop-part.rows.items c.in-Ok.more.items
      c.loop-part.invariant.read (rw c.loop-part.invariant.still at c.in-Ok.ensures.ok.1));
}

pub returns-clause-ok : goal.returns-clause-ok
returns-clause-ok g c =
    let end : c.loop-part.part ≡ c.args.parts = omega arith in
    (c.loop-part.invariant.still, rw end at c.loop-part.invariant.read)
