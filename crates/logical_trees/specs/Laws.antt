-- What bags that stand for expressions keep, as facts.
use Rattle.std.specs.Prelude.{ℕ, List, IsPermutation}
use Rattle.user_ops.specs.Told.{Operators}
use Rattle.logical_trees.specs.declared.args.GroupArgs.{GroupArgs}
use Rattle.logical_trees.specs.declared.args.TopArgs.{TopArgs}
use Rattle.logical_trees.specs.declared.logic_op.LogicOp.{LogicOp}
use Rattle.logical_trees.specs.declared.logic_op.LogicOp.TheVariants.{Group, Top, Partial, Finish, LocalTop, LastTop}
use Rattle.logical_trees.specs.Tree.{Expression, one, two}
use Rattle.logical_trees.specs.Rows.{Bag}
use Rattle.logical_trees.specs.Meaning.{Sources, StandsFor, SameBags}
use Rattle.logical_trees.specs.Formed.{IsWhole, IsFormed, IsGroup}

-- what stands for an expression does so in any order
abbrev pub IsOrderFree : Type 0
IsOrderFree = (ops : Operators) (from : Sources) (t : Expression) (A B : Bag) → StandsFor ops from t A → IsPermutation A B → StandsFor ops from t B

-- at most one bag stands for a whole expression
abbrev pub HasOneBag : Type 0
HasOneBag = (ops : Operators) (from : Sources) (results : List (List ℕ)) (t : Expression) (A B : Bag) → IsWhole t → IsFormed results t
    → StandsFor ops from t A → StandsFor ops from t B → IsPermutation A B

-- some bag does
abbrev pub HasSomeBag : Type 0
HasSomeBag = (ops : Operators) (from : Sources) (t : Expression) → IsWhole t → (B : Bag) × StandsFor ops from t B

-- a child may be replaced by one with the same bags
abbrev pub KeepsBelow : Type 0
KeepsBelow = (op : LogicOp) (t u : Expression) → SameBags t u → SameBags (one op t) (one op u)

-- and so may both children
abbrev pub KeepsBeside : Type 0
KeepsBeside = (op : LogicOp) (t u v w : Expression) → SameBags t u → SameBags v w → SameBags (two op t v) (two op u w)

-- a Group in two steps gives the same bags
abbrev pub IsSplitGroupKept : Type 0
IsSplitGroupKept = (args : GroupArgs) (t : Expression) → IsGroup args → SameBags (one (Group args) t) (one (Finish args) (one (Partial args) t))

-- a Top in two steps gives the same bags
abbrev pub IsSplitTopKept : Type 0
IsSplitTopKept = (args : TopArgs) (t : Expression) → SameBags (one (Top args) t) (one (LastTop args) (one (LocalTop args) t))
