use Rattle.std.proofs.Common.{◌≡◌, ◌<◌, ℕ, List, true, sym, subst, length, rules, Some}
use Rattle.col_sets.specs.Sets.{has}
use Rattle.fd_closure.specs.Known.{by_of}
use Rattle.logical_dag.specs.Facts.{IsRenamedSet}
use Rattle.logical_dag.specs.Known.{name_of}
use Rattle.list_lemmas.specs.Reading.{read_at}
use Rattle.logical_dag.proofs.Carrying.{dependency_added}
use Rattle.logical_dag.proofs.carried.with_dependency_of.Goals as goal

pub returns-in-Some-renamed_set-clause-dependencies : goal.returns-in-Some-renamed_set-clause-dependencies
returns-in-Some-renamed_set-clause-dependencies c =
    let there : has c.args.from.now.determined c.args.b ≡ true = search rules in
    let named : name_of c.args.names.now c.args.b ≡ Some c.in-Some.c = c.in-Some.is in
    let below : c.in-Some.c < 128 = c.requires.naming.below c.args.b c.in-Some.c named in
    let room : c.in-Some.c < length c.args.into.by = search rules in
    let places : c.args.b < length c.args.from.now.by = search rules in
    let by : by_of c.args.from.now c.args.b ≡ c.index-from-b.result = read_at c.args.from.now.by c.args.b c.index-from-b.result _ places c.index-from-b.is in
    let set : IsRenamedSet (name_of c.args.names.now) c.index-from-b.result c.in-Some-renamed_set.set =
    subst (λ (s : List ℕ). IsRenamedSet (name_of c.args.names.now) s c.in-Some-renamed_set.set) (sym c.index-from-b.is) (c.in-Some-renamed_set.ensures) in
    dependency_added c.args.from.now c.args.into c.with_dependency.result (name_of c.args.names.now) c.args.b c.in-Some.c c.in-Some-renamed_set.set below room c.requires.column
    c.with_dependency.ensures.value there named (subst (λ (s : List ℕ). IsRenamedSet (name_of c.args.names.now) s c.in-Some-renamed_set.set) (sym by) set) (c.requires.free c.in-Some.c named)
