-- The store is as it was, and the bags so far are those of the first scans.
use Rattle.std.proofs.Common.{◌≡◌, take}
use Rattle.user_ops.specs.contracts.op_set.OpSetTells.TheImpl as impl
use Rattle.scope_outside.specs.State.{OnFiles}
use Rattle.size_model.specs.Answers.{parts_of}
use Rattle.scope_streams.specs.Ends.{bags_of}
use Rattle.scope_streams.specs.Turns.{AreFirst}
use Rattle.scope_streams.proofs.scans.read_scans.Given as goal

abbrev pub invariant-loop-scan : goal.invariant-loop-scan
invariant-loop-scan g l = record {
  still : g.S.Store.told l.store ≡ g.S.Store.told l.initial.store;
  read : OnFiles (g.S.Store.told l.initial.store) (λ files. AreFirst ((impl.ghosts g.dyn-1 g.dyn-2 g.dyn-3 g.dyn-4).tells l.ops) files (parts_of l.sizes) (take l.scan-index l.scans) (bags_of l.bags.items));
}
