-- The tokens of a text stand in it, and are fewer than its bytes.
use Rattle.scope_syntax.proofs.Counts.{terminals_few}
use Rattle.scope_syntax.proofs.parsing.parse.Goals as goal

pub strings-requires : goal.strings-requires
strings-requires c = c.tokens_stand.ensures.each c.args.text.now c.args.tokens.now c.requires

pub terminals_of-requires-clause-stand : goal.terminals_of-requires-clause-stand
terminals_of-requires-clause-stand c = c.tokens_stand.ensures.each c.args.text.now c.args.tokens.now c.requires

pub script_of-requires : goal.script_of-requires
script_of-requires c =
    terminals_few c.args.text.now c.args.tokens.now c.in_ok-terminals.terminals.items c.deref-2.result.now c.requires
    (c.tokens_stand.ensures.order c.args.text.now c.args.tokens.now c.requires) c.in_ok-terminals.ensures c.deref-2.ensures.value
