use Rattle.std.proofs.Common.{◌≡◌, ◌∙◌, [], subst}
use Rattle.std.specs.Option.{option_map_or}
use Rattle.names_in_sight.proofs.OperatorLemmas.{whole}
use Rattle.names_in_sight.proofs.finding.fixed_of.Goals as goal

-- the object in the box is the one that is lent
pub returns : goal.returns
returns g c =
    c.from_vec.ensures
    ∙ subst (λ op. c.fixed.new.out.items ≡ option_map_or (λ cs. cs) ((goal.Extractor-dyn g op).told_extractor op.1).fixed_columns [])
    c.deref_box-1.ensures.1
    (whole _ _ _ _ c.in_ok-fixed.ensures.0 c.new-columns.ensures.items)
