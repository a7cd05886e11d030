use Rattle.scope_syntax.specs.Terminals.{lexemes}
use Rattle.scope_syntax.proofs.WrittenLemmas.{written_right}
use Rattle.scope_app.proofs.binding.bound.Goals as goal

pub bind-requires : goal.bind-requires
bind-requires g c = written_right c.args.script.now (lexemes c.args.bytes.now c.requires.tokens, c.requires.spelled)
