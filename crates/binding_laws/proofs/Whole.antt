-- What holds of the statements of a script that binds.
use Rattle.std.proofs.Common.{List, sym, subst}
use Rattle.std.specs.List.{All}
use Rattle.user_ops.specs.Told.{Operators}
use Rattle.user_ops.specs.Lawful.{AreLawful}
use Rattle.placed_trees.specs.declared.statement.Statement.{Statement}
use Rattle.binding_causes.specs.Resolution.{start}
use Rattle.script_meaning.specs.Laws.{FitsColumns}
use Rattle.resolution_laws.specs.Laws.{GivesCauseless}
use Rattle.resolution_laws.specs.LimitLaws.{AreAllFixed, GivesWithin}
use Rattle.resolution_laws.specs.PlaceLaws.{GivesPlaced}
use Rattle.binding_laws.specs.There.{IsCommandThere}
use Rattle.binding_laws.specs.Laws.{GivesBound}
use Rattle.binding_laws.proofs.NamedThere.{all_named}
use Rattle.binding_laws.proofs.Counts.{fits}

-- the law of the trait
are_fixed : (ops : Operators) → AreLawful ops → AreAllFixed ops
are_fixed ops lawful k d l = (lawful.extractors k d l).fixed

pub gives_bound : GivesCauseless → GivesPlaced → GivesWithin → GivesBound
gives_bound causeless places limits ops script statements lawful right h =
    let b = causeless ops script statements h in
    record {
      placed = places ops script statements right h;
      within = limits ops script statements (are_fixed ops lawful) right h;
      fits = subst FitsColumns (sym b.resolved) (fits ops script.statements b.causeless right);
      there =
          subst (λ (ss : List Statement). All (λ (s : Statement). IsCommandThere ops s.command) ss) (sym b.resolved)
          (all_named ops lawful.named (start script.statements) script.statements b.causeless);
    }
