use Rattle.std.proofs.Common.{◌∙◌, sym, rules}
use Rattle.scope_shipped.specs.SameTypesLemmas.{too_few, joined-then, joined-else}
use Rattle.scope_shipped.proofs.same_types.has_types_of_both.Goals as goal

pub returns-then-both-first : goal.returns-then-both-first
returns-then-both-first c = too_few c.args.first.now c.args.second.now c.args.both.now (search rules)

pub returns-then-has_same_types : goal.returns-then-has_same_types
returns-then-has_same_types c =
    joined-then c.args.first.now c.args.second.now c.args.both.now c.split_at.result.0.now c.split_at.result.1.now _
    c.split_at.ensures.front
    c.split_at.ensures.back
    c.if-both-first.false
    (sym c.has_same_types.ensures ∙ c.if-has_same_types.true)
    c.has_same_types-then-has_same_types.ensures

pub returns-else-has_same_types : goal.returns-else-has_same_types
returns-else-has_same_types c =
    c.if-has_same_types.false
    ∙ joined-else c.args.first.now c.args.second.now c.args.both.now c.split_at.result.0.now
    c.split_at.ensures.front
    c.if-both-first.false
    (sym c.has_same_types.ensures ∙ c.if-has_same_types.false)
