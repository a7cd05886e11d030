use Rattle.std.proofs.Common.{◌∙◌, ap, ◌++◌, ◌∷◌, [], List, length}
use Rattle.scope_value.specs.declared.value.Value.{Value}
use Rattle.row_batch.specs.Codes.{value_of}
use Rattle.row_batch.proofs.CodeLemmas.{pushed_ends, pushed_value}
use Rattle.row_batch.proofs.packed.Packed.push_piece.Goals as goal

pub invariant_of-self-in-Ok : goal.invariant_of-self-in-Ok
invariant_of-self-in-Ok c = pushed_ends _ _ _ _ _ _ c.self.invariant c.in_ok-append.ensures.ok (ap length c.as_slice-end.ensures.value) c.in-Ok.ensures.items

pub returns-in-Ok-clause-ok : goal.returns-in-Ok-clause-ok
returns-in-Ok-clause-ok c = pushed_value _ _ _ _ _ _ c.self.invariant c.in_ok-append.ensures.ok (ap length c.as_slice-end.ensures.value) c.in-Ok.ensures.items ∙ ap (λ (old : List Value). old ++ value_of (c.args.mark.now ++ c.args.bytes.now) ∷ []) c.self.view_is
