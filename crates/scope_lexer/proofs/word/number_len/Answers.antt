use Rattle.std.specs.Char.{is_ascii_digit}
use Rattle.scope_lexer.proofs.Digits.{front_passes}
use Rattle.scope_lexer.proofs.word.number_len.Goals as goal

pub value_of-requires : goal.value_of-requires
value_of-requires c = rw c.digits_len-len.ensures.len (front_passes is_ascii_digit c.args.text.now)
