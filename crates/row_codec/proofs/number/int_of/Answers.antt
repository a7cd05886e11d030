use Rattle.std.proofs.Common.{◌∙◌, ◌^◌, ap}
use Rattle.std.specs.Int.{w32}
use Rattle.row_codec.specs.Numbers.{signed_number}
use Rattle.row_codec.proofs.Parsed.{signed_read, no_signed}
use Rattle.row_codec.proofs.number.int_of.Goals as goal

pub returns-in-Ok : goal.returns-in-Ok
returns-in-Ok c =
    c.ok.ensures.value
    ∙ signed_read w32 c.in-Ok.number.now _ c.parse.ensures.value.0
    ∙ ap (signed_number (2 ^ 31)) c.in-Ok.ensures.cases.0

pub returns-in-Err : goal.returns-in-Err
returns-in-Err c = no_signed (2 ^ 31) c.args.text.now c.in-Err.ensures.cases.0
