use Rattle.std.proofs.Common.{◌≡◌, length, sym, rules}
use Rattle.scope_shipped.specs.SameTypesLemmas.{other_length}
use Rattle.scope_shipped.proofs.same_types.has_same_types.Goals as goal

pub returns-then-a-b : goal.returns-then-a-b
returns-then-a-b c =
    let other : length c.args.a.now ≡ length c.args.b.now → ⊥ = search rules in
    sym (other_length c.args.a.now c.args.b.now other)
