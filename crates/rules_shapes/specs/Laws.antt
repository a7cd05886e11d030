-- Expressions with the trees of groups that stand for them, as facts.
use Rattle.std.specs.Prelude.{ℕ, List}
use Rattle.logical_trees.specs.Tree.{Expression}
use Rattle.logical_trees.specs.Formed.{IsFormed}
use Rattle.rules_steps.specs.Steps.{Step, Reaches}
use Rattle.rules_shapes.specs.Shapes.{Shape, shape_of, IsShaped, IsScriptOf, IsJustScriptOf, AllLinked}
use Rattle.rules_space.specs.Place.{Script}
use Rattle.rules_space.specs.Space as shape

-- an expression of a script has its own shape
abbrev pub HasOwnShape : Type 0
HasOwnShape = (results : List (List ℕ)) (base : ℕ) (t : Expression) → IsFormed results t → IsShaped base t t (shape_of base t)

-- a step of expressions is a step of their shapes
abbrev pub IsStepShaped : Type 0
IsStepShaped = (results : List (List ℕ)) (S : Script) (base : ℕ) (t u v : Expression) (s : Shape) → IsFormed results t → IsFormed results u → IsScriptOf S base t
    → IsShaped base t u s → Step u v → (r : Shape) × shape.Step S s r × IsShaped base t v r

-- so each expression that steps reach has a shape that the rules of shapes reach
abbrev pub IsReachedShaped : Type 0
IsReachedShaped = (results : List (List ℕ)) (S : Script) (base : ℕ) (t u : Expression) → IsFormed results t → IsScriptOf S base t → Reaches t u
    → (s : Shape) × shape.Reaches S (shape_of base t) s × IsShaped base t u s

-- each Join of the shape of a formed expression has a tie between its children, since the Join has an equality
abbrev pub IsEachJoinLinked : Type 0
IsEachJoinLinked = (results : List (List ℕ)) (S : Script) (base : ℕ) (t u : Expression) (s : Shape) → IsFormed results t → IsScriptOf S base t → IsShaped base t u s → AllLinked S s

-- a step of shapes is a step of the expressions, where the script has no other ties
abbrev pub IsStepMeant : Type 0
IsStepMeant = (results : List (List ℕ)) (S : Script) (base : ℕ) (t u : Expression) (s r : Shape) → IsFormed results t → IsFormed results u → IsJustScriptOf S base t
    → IsShaped base t u s → shape.Step S s r → (v : Expression) × Step u v × IsShaped base t v r

-- so each shape that the rules of shapes reach is that of an expression that steps reach
abbrev pub IsReachedMeant : Type 0
IsReachedMeant = (results : List (List ℕ)) (S : Script) (base : ℕ) (t : Expression) (s : Shape) → IsFormed results t → IsJustScriptOf S base t → shape.Reaches S (shape_of base t) s
    → (u : Expression) × Reaches t u × IsShaped base t u s
