-- Expressions as trees, and as forms over the numbers of groups.
pub use Rattle.rules_space.specs.declared.kind.Kind.{Kind}
pub use Rattle.rules_space.specs.declared.kind.Kind.TheVariants.{Node, Join, Partial, Finish}
pub use Rattle.rules_space.specs.declared.kind.Form.{Form}
pub use Rattle.rules_space.specs.declared.kind.Form.TheVariants.{Leaf as at_leaf, One as at_one, Two as at_two}

pub data Tree : Type 0 where
  leaf : Kind → Tree
  one : Kind → Tree → Tree
  two : Kind → Tree → Tree → Tree
