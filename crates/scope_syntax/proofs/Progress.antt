-- What is left of a script's terminals.
use Rattle.std.proofs.Common.{◌≡◌, ◌+◌, ◌<◌, ◌^◌, ℕ, List, [], ◌∷◌, length, map, Option, Some, None, MatchOption, sym, ap, arith, subst}
use Rattle.std.specs.List.{slice_split}
use Rattle.std.specs.Borrow.{Bor}
use Rattle.expression_syntax.specs.declared.terminal.Terminal.{Terminal}
use Rattle.expression_syntax.specs.Lexemes.{Lexeme, lexeme_of}
use Rattle.scope_syntax.specs.Statements.{IsFirstFault, is_end, pieces}
use Rattle.expression_syntax.specs.declared.refusal.Refusal.TheVariants.{Grammar}
use Rattle.script_trees.specs.declared.script.Statement.{Statement}
use Rattle.scope_syntax.specs.ReadScripts.{Added, ReadSoFar, Refused}
use Rattle.scope_syntax.proofs.ScriptLaws.{first_fault, one_piece, pieces_cut, pieces_last, so_far_few, with_piece}

-- the pieces that are left
abbrev pub left : Option (Bor (List Terminal)) → List (List Lexeme)
left None = []
left (Some ts) = pieces (map lexeme_of ts.now)

-- how many terminals are left, and one
abbrev pub left_long : Option (Bor (List Terminal)) → ℕ
left_long None = 0
left_long (Some ts) = length ts.now + 1

-- what a cut says of the first piece and of what is left behind it
abbrev pub IsCut : List Lexeme → List Lexeme → Option (Bor (List Terminal)) → Type 0
IsCut ts p more = MatchOption more (slice_split is_end ts ≡ p ∷ []) (λ m. slice_split is_end ts ≡ p ∷ slice_split is_end (map lexeme_of m.now))

cut_pieces : (ts p : List Lexeme) (more : Option (Bor (List Terminal))) → IsCut ts p more → pieces ts ≡ with_piece p (left more)
cut_pieces ts p None h = pieces_last ts p h
cut_pieces ts p (Some m) h = pieces_cut ts p (map lexeme_of m.now) h

still : (whole p : List Lexeme) (rest : Option (Bor (List Terminal))) (ahead : Bor (List Terminal)) (more : Option (Bor (List Terminal))) (old : List Statement)
    → ReadSoFar whole (left rest) old → rest ≡ Some ahead → IsCut (map lexeme_of ahead.now) p more → ReadSoFar whole (with_piece p (left more)) old
still whole p rest ahead more old r e h =
    subst (λ z. ReadSoFar whole z old) (cut_pieces (map lexeme_of ahead.now) p more h) (subst (λ z. ReadSoFar whole (left z) old) e r)

pub one_more : (whole p : List Lexeme) (rest : Option (Bor (List Terminal))) (ahead : Bor (List Terminal)) (more : Option (Bor (List Terminal))) (old new : List Statement)
    → ReadSoFar whole (left rest) old → rest ≡ Some ahead → IsCut (map lexeme_of ahead.now) p more → Added p old new → ReadSoFar whole (left more) new
one_more whole p rest ahead more old new r e h a = one_piece whole p (left more) old new (still whole p rest ahead more old r e h) a

fault_by : (whole p : List Lexeme) (rest : List (List Lexeme)) (old new : List Statement) → length whole < 2 ^ 31 → ReadSoFar whole (with_piece p rest) old → Refused p old new Grammar
    → IsFirstFault whole (length new + 1)
fault_by whole [] rest old new few r f = absurd f
fault_by whole (t ∷ ts) rest old new few r f = subst (λ z. IsFirstFault whole (length z + 1)) (sym f.1) (first_fault whole (t ∷ ts) rest old few r f.0)

pub a_fault : (whole p : List Lexeme) (rest : Option (Bor (List Terminal))) (ahead : Bor (List Terminal)) (more : Option (Bor (List Terminal))) (old new : List Statement) → length whole < 2 ^ 31
    → ReadSoFar whole (left rest) old → rest ≡ Some ahead → IsCut (map lexeme_of ahead.now) p more → Refused p old new Grammar → IsFirstFault whole (length new + 1)
a_fault whole p rest ahead more old new few r e h f = fault_by whole p (left more) old new few (still whole p rest ahead more old r e h) f

pub number_fits : (whole : List Lexeme) (rest : List (List Lexeme)) (p : List Lexeme) (old new : List Statement) → length whole < 2 ^ 31 → ReadSoFar whole rest old → Refused p old new Grammar
    → length new + 1 < 2 ^ 32
number_fits whole rest [] old new few r f = absurd f
number_fits whole rest (t ∷ ts) old new few r f = omega (arith, few, so_far_few whole rest old r, ap length f.1)
