-- A whole tree has the children of its kinds.
use Rattle.std.proofs.Common.{◌≡◌, true, refl}
use Rattle.logical_trees.specs.declared.args.GroupArgs.{GroupArgs}
use Rattle.logical_trees.specs.declared.args.TopArgs.{TopArgs}
use Rattle.logical_trees.specs.declared.logic_op.LogicOp.TheVariants.{Scan, Ref, Filter, Project, Join, Group, Process, Reduce, Combine, Top, Partial, Finish, LocalTop, LastTop}
use Rattle.logical_trees.specs.Tree.{Expression, leaf, one, two}
use Rattle.logical_trees.specs.Formed.{IsWhole, IsPartialOf, IsLocalTopOf, has_children}

mutual
  pub whole_children : (t : Expression) → IsWhole t → has_children t ≡ true
  whole_children (leaf (Scan scan cols)) w = refl
  whole_children (leaf (Ref shared cols)) w = refl
  whole_children (leaf op) w = absurd w
  whole_children (one (Filter e) t) w = whole_children t w
  whole_children (one (Project items cols) t) w = whole_children t w
  whole_children (one (Group args) t) w = whole_children t w
  whole_children (one (Process call) t) w = whole_children t w
  whole_children (one (Reduce call on presort) t) w = whole_children t w
  whole_children (one (Top args) t) w = whole_children t w
  whole_children (one (Finish args) t) w = partial_children args t w
  whole_children (one (LastTop args) t) w = local_children args t w
  whole_children (one op t) w = absurd w
  whole_children (two (Join on) t u) w = rw (whole_children t w.0, whole_children u w.1) refl
  whole_children (two (Combine call on left right) t u) w = rw (whole_children t w.0, whole_children u w.1) refl
  whole_children (two op t u) w = absurd w

  partial_children : (args : GroupArgs) (t : Expression) → IsPartialOf args t → has_children t ≡ true
  partial_children args (leaf op) w = absurd w
  partial_children args (one (Partial more) t) w = whole_children t w.1
  partial_children args (one op t) w = absurd w
  partial_children args (two op t u) w = absurd w

  local_children : (args : TopArgs) (t : Expression) → IsLocalTopOf args t → has_children t ≡ true
  local_children args (leaf op) w = absurd w
  local_children args (one (LocalTop more) t) w = whole_children t w.1
  local_children args (one op t) w = absurd w
  local_children args (two op t u) w = absurd w
