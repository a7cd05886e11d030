use Rattle.std.proofs.Common.{◌≡◌, ◌∙◌, List, IfOk, sym, subst}
use Rattle.scope_value.specs.declared.schema.Column.{Column}
use Rattle.user_ops.specs.contracts.op_set.OpSetTells.TheImpl as impl
use Rattle.names_in_sight.proofs.OperatorLemmas.{inline_at}
use Rattle.names_in_sight.proofs.finding.OpSetFinds.columns_inline.Goals as goal

pub returns-in-Some : goal.returns-in-Some
returns-in-Some g c =
    subst (λ (cs : List Column). IfOk c.fixed_of.result (λ columns. columns ≡ cs))
    (inline_at ((impl.ghosts g.dyn-1 g.dyn-2 g.dyn-3 g.dyn-4).tells c.args.self.now) c.args.name.now c.in-Some.place _
    (sym c.in-Some.is ∙ c.find_extractor.ensures.is) c.extractor_at.ensures)
    c.fixed_of.ensures
