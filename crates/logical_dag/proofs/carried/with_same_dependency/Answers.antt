use Rattle.std.proofs.Common.{◌≡◌, ◌<◌, ℕ, List, [], true, false, subst, sym, length, rules, slice_set}
use Rattle.col_sets.specs.Sets.{has, with_column}
use Rattle.list_lemmas.specs.Reading.{read_at}
use Rattle.logical_dag.proofs.Carrying.{same_added, same_none}
use Rattle.logical_dag.proofs.carried.with_same_dependency.Goals as goal

pub returns-then-has-clause-dependencies : goal.returns-then-has-clause-dependencies
returns-then-has-clause-dependencies c =
    let there : has c.args.from.now.determined c.args.b ≡ true = search rules in
    let room : c.args.b < length c.args.into.by = search rules in
    let places : c.args.b < length c.args.from.now.by = search rules in
    same_added c.args.from.now c.args.into c.with_dependency.result c.args.b c.index-from-b.result c.requires.column room
    (subst (λ (s : List ℕ). c.with_dependency.result ≡ record c.args.into { determined = with_column c.args.into.determined c.args.b; by = slice_set c.args.into.by c.args.b s }) (sym c.index-from-b.is) c.with_dependency.ensures.value)
    (sym (read_at c.args.from.now.by c.args.b c.index-from-b.result [] places c.index-from-b.is)) there (c.requires.free there)

pub returns-else-has-clause-dependencies : goal.returns-else-has-clause-dependencies
returns-else-has-clause-dependencies c =
    let none : has c.args.from.now.determined c.args.b ≡ false = search rules in
    same_none c.args.from.now c.args.into c.args.b none
