use Rattle.scope_lexer.proofs.Alone.{number_one}
use Rattle.scope_lexer.proofs.value.number_value.Goals as goal

pub value_of-requires : goal.value_of-requires
value_of-requires c = (number_one c.args.text.now c.requires).0

pub unwrap-requires : goal.unwrap-requires
unwrap-requires c = let small = (number_one c.args.text.now c.requires).1 in rw c.value_of.ensures small
