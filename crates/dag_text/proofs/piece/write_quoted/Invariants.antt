-- So far the text has the quote and the bytes that were looked at.
use Rattle.std.proofs.Common.{◌≡◌, ◌∷◌, ◌++◌, take}
use Rattle.std.specs.Prelude.{flat_map}
use Rattle.dag_text.specs.Pieces.{escaped}
use Rattle.dag_text.proofs.piece.write_quoted.Given as goal

abbrev pub invariant-loop-b : goal.invariant-loop-b
invariant-loop-b l = l.out.items ≡ l.fn.out.items ++ (34 ∷ flat_map escaped (take l.b-index l.bytes))
