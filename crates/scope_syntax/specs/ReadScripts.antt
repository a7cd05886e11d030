-- Reading of scripts, piece by piece.
use Rattle.std.specs.Prelude.{◌≡◌, ◌++◌, List, [], ◌∷◌, Some, None}
use Rattle.expression_syntax.specs.declared.refusal.Refusal.{Refusal}
use Rattle.expression_syntax.specs.declared.refusal.Refusal.TheVariants.{Memory, Grammar}
use Rattle.script_trees.specs.declared.script.Statement.{Statement}
use Rattle.expression_syntax.specs.Lexemes.{Lexeme}
use Rattle.scope_syntax.specs.Statements.{SpellsEach, pieces}
use Rattle.scope_syntax.specs.ReadStatements.{read_statement}

-- the statement of a piece was added, if it isn't empty
abbrev pub Added : List Lexeme → List Statement → List Statement → Type 0
Added [] old new = new ≡ old
Added (t ∷ ts) old new = (s : Statement) × (read_statement (t ∷ ts) ≡ Some s) × (new ≡ old ++ s ∷ [])

-- why it was not
abbrev pub Refused : List Lexeme → List Statement → List Statement → Refusal → Type 0
Refused piece old new Memory = Unit {0}
Refused [] old new Grammar = ⊥
Refused (t ∷ ts) old new Grammar = (read_statement (t ∷ ts) ≡ None) × (new ≡ old)

-- statements were read from all pieces but those that are left
pub record ReadSoFar (whole : List Lexeme) (rest : List (List Lexeme)) (ss : List Statement) : Type 0 where
  pub done : List (List Lexeme)
  pub cut : pieces whole ≡ done ++ rest
  pub spelled : SpellsEach done ss
