-- The store is as it was, and the rows so far are those of the first parts.
use Rattle.std.proofs.Common.{◌≡◌}
use Rattle.user_ops.specs.contracts.op_set.OpSetTells.TheImpl as impl
use Rattle.scope_outside.specs.State.{OnFiles}
use Rattle.scope_streams.specs.Turns.{first_parts, AreRead}
use Rattle.scope_streams.proofs.parts.read_parts.Given as goal

abbrev pub invariant-loop-part : goal.invariant-loop-part
invariant-loop-part g l = record {
  still : g.S.Store.told l.store ≡ g.S.Store.told l.initial.store;
  read : OnFiles (g.S.Store.told l.initial.store) (λ files. AreRead ((impl.ghosts g.dyn-1 g.dyn-2 g.dyn-3 g.dyn-4).tells l.ops) files (first_parts l.scan l.parts l.part) l.rows.items);
}
