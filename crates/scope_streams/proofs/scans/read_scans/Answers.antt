use Rattle.std.proofs.Common.{◌≡◌, ◌∙◌, ◌<◌, ◌≤◌, take, ap, length, arith}
use Rattle.user_ops.specs.contracts.op_set.OpSetTells.TheImpl as impl
use Rattle.std.proofs.lemmas.List.{take_all}
use Rattle.size_model.specs.Answers.{parts_of}
use Rattle.scope_streams.specs.Ends.{bags_of}
use Rattle.scope_streams.proofs.TurnLemmas.{scans_more, scans_stop, scanned, All-at}
use Rattle.scope_streams.proofs.scans.read_scans.Goals as goal

pub read_parts-requires : goal.read_parts-requires
read_parts-requires g c = All-at (λ d. d.op < length ((impl.ghosts g.dyn-1 g.dyn-2 g.dyn-3 g.dyn-4).tells c.args.ops.now).extractors) c.args.scans.now c.loop-scan.scan-index c.scan-item.result c.loop-scan-test.true c.scan-item.is c.requires

pub returns-in-Err-clause-err : goal.returns-in-Err-clause-err
returns-in-Err-clause-err g c =
    scans_stop ((impl.ghosts g.dyn-1 g.dyn-2 g.dyn-3 g.dyn-4).tells c.args.ops.now) (g.S.Store.told c.args.store.now) (parts_of c.args.sizes.now) c.args.scans.now c.loop-scan.scan-index c.scan-item.result
    c.loop-scan-test.true c.scan-item.is c.parts-parts.result (c.parts-parts.ensures ∙ ap (parts_of c.args.sizes.now) c.as_slice.ensures) c.loop-scan.bags.items (g.S.Store.told c.loop-scan.store) (g.S.Store.told c.read_parts.new.store) c.in-Err.stop
    c.loop-scan.invariant.still c.loop-scan.invariant.read c.in-Err.ensures.err

pub loop-scan-preserved : goal.loop-scan-preserved
loop-scan-preserved g c = record {
  still = c.in-Ok.ensures.ok.0 ∙ c.loop-scan.invariant.still;
  read =
      rw c.in-Ok-push.ensures.items
      (scans_more ((impl.ghosts g.dyn-1 g.dyn-2 g.dyn-3 g.dyn-4).tells c.args.ops.now) (g.S.Store.told c.args.store.now) (parts_of c.args.sizes.now) c.args.scans.now c.loop-scan.scan-index c.scan-item.result
      c.loop-scan-test.true c.scan-item.is c.parts-parts.result (c.parts-parts.ensures ∙ ap (parts_of c.args.sizes.now) c.as_slice.ensures) c.loop-scan.bags.items c.in-Ok.rows
      c.loop-scan.invariant.read (rw c.loop-scan.invariant.still at c.in-Ok.ensures.ok.1));
}

pub returns-clause-ok : goal.returns-clause-ok
returns-clause-ok g c =
    let end : length c.args.scans.now ≤ c.loop-scan.scan-index = omega arith in
    let all : take c.loop-scan.scan-index c.args.scans.now ≡ c.args.scans.now = take_all c.loop-scan.scan-index c.args.scans.now end in (
      c.loop-scan.invariant.still,
      scanned ((impl.ghosts g.dyn-1 g.dyn-2 g.dyn-3 g.dyn-4).tells c.args.ops.now) (g.S.Store.told c.args.store.now) (parts_of c.args.sizes.now) c.args.scans.now (bags_of c.loop-scan.bags.items)
          (rw all at c.loop-scan.invariant.read),
    )
