use Rattle.std.proofs.Common.{refl}
use Rattle.scope_lexer.specs.Begins.{begins}
use Rattle.script_tests.proofs.tokens.tokens_have_values.Goals as goal

pub number_value-requires : goal.number_value-requires
unfolding begins
number_value-requires g c = rw c.as_slice-digits.ensures refl

pub string_value-requires : goal.string_value-requires
unfolding begins
string_value-requires g c = rw c.as_slice-quoted.ensures refl
