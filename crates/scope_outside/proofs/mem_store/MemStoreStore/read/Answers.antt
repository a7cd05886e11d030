use Rattle.std.proofs.Common.{◌≡◌, [], Some, None, refl, ap, sym, ◌∙◌, append-nil}
use Rattle.std.specs.FinMap as map
use Rattle.scope_outside.proofs.mem_store.MemStoreStore.read.Goals as goal

pub returns-in_default-get-clause-told : goal.returns-in_default-get-clause-told
returns-in_default-get-clause-told c = (
  [],
  sym (append-nil _),
  (
    rw (← c.in-Ok.ensures) (c.note_miss.ensures (Some c.args.self.now.files)),
    refl,
    ap (map.get c.args.self.now.files) (sym c.in-Ok.ensures) ∙ sym c.in_default-get.ensures,
  ),
)

pub returns-then-contains-clause-told : goal.returns-then-contains-clause-told
returns-then-contains-clause-told c = (
  [],
  sym (append-nil _),
  (
    rw (← c.in-Ok.ensures) (c.note_fault.ensures (Some c.args.self.now.files)),
    refl,
    λ none.
        let found = ap (map.get c.args.self.now.files) (sym c.in-Ok.ensures) ∙ sym c.in-Some.ensures in
        absurd (let e : None ≡ Some c.in-Some.content.now = sym none ∙ found in cc),
  ),
)
