use Rattle.user_ops.specs.contracts.op_set.OpSetTells.TheImpl as impl
use Rattle.std.proofs.lemmas.Result.{IfOk-weaker}
use Rattle.scope_streams.specs.Turns.{stream_part}
use Rattle.scope_streams.proofs.TurnLemmas.{file_stop, part_read, part_refused, IfErr-weaker, named}
use Rattle.scope_streams.proofs.parts.read_one.Goals as goal

pub returns-in-Ok-read_file-clause-ok : goal.returns-in-Ok-read_file-clause-ok
returns-in-Ok-read_file-clause-ok g c =
    let name = named c.args.scan.now c.args.parts c.args.part _ _ _ c.as_slice-2.ensures.value c.in-Ok.ensures c.as_slice.ensures in
    IfOk-weaker c.decoded.result _ _
    (λ rows is. (
      c.in-Ok-read_file.ensures.ok.0,
      part_read ((impl.ghosts g.dyn-1 g.dyn-2 g.dyn-3 g.dyn-4).tells c.args.ops.now) (g.S.Store.told c.args.store.now) (stream_part c.args.scan.now c.args.parts c.args.part) c.as_slice-2.result.now c.in-Ok-read_file.bytes.items _ rows.items name
          c.in-Ok-read_file.ensures.ok.1 c.extractor_at-op.ensures (rw c.as_slice-in-Ok-read_file.ensures.value at is),
    ))
    c.decoded.ensures.ok

pub returns-in-Ok-read_file-clause-err : goal.returns-in-Ok-read_file-clause-err
returns-in-Ok-read_file-clause-err g c =
    let name = named c.args.scan.now c.args.parts c.args.part _ _ _ c.as_slice-2.ensures.value c.in-Ok.ensures c.as_slice.ensures in
    IfErr-weaker c.decoded.result _ _
    (λ stop is. part_refused ((impl.ghosts g.dyn-1 g.dyn-2 g.dyn-3 g.dyn-4).tells c.args.ops.now) (g.S.Store.told c.args.store.now) (g.S.Store.told c.read_file.new.store) (stream_part c.args.scan.now c.args.parts c.args.part) c.as_slice-2.result.now c.in-Ok-read_file.bytes.items _ stop name
    c.in-Ok-read_file.ensures.ok.0 c.in-Ok-read_file.ensures.ok.1 c.extractor_at-op.ensures (rw c.as_slice-in-Ok-read_file.ensures.value at is))
    c.decoded.ensures.err

pub returns-clause-err : goal.returns-clause-err
returns-clause-err g c =
    file_stop ((impl.ghosts g.dyn-1 g.dyn-2 g.dyn-3 g.dyn-4).tells c.args.ops.now) (stream_part c.args.scan.now c.args.parts c.args.part) c.as_slice-2.result.now (g.S.Store.told c.args.store.now) (g.S.Store.told c.read_file.new.store) c.in-Err.stop
    (named c.args.scan.now c.args.parts c.args.part _ _ _ c.as_slice-2.ensures.value c.in-Ok.ensures c.as_slice.ensures) c.in-Err.ensures.err
