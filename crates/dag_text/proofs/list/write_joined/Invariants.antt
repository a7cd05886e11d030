-- So far the text has the first piece and the later ones that were looked at, each behind the byte.
use Rattle.std.proofs.Common.{◌≡◌, ◌∷◌, ◌++◌, take}
use Rattle.std.specs.Prelude.{flat_map}
use Rattle.dag_text.proofs.list.write_joined.Given as goal

abbrev pub invariant-loop-piece : goal.invariant-loop-piece
invariant-loop-piece g l = l.out.items ≡ l.initial.out.items ++ flat_map (λ x. l.between ∷ g.T.Piece.text x) (take l.piece-index l.rest)
