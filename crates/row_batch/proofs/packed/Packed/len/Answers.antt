use Rattle.std.proofs.Common.{ap, sym, ◌∙◌, length}
use Rattle.row_batch.proofs.CodeLemmas.{unpacked_many}
use Rattle.row_batch.proofs.packed.Packed.len.Goals as goal

pub returns : goal.returns
returns c = ap length c.as_slice.ensures.value ∙ sym (unpacked_many c.self.inside.bytes.items c.self.inside.ends.items) ∙ ap length c.self.view_is
