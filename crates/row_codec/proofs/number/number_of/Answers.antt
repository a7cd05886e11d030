use Rattle.std.proofs.Common.{◌≡◌, ◌∙◌, ◌^◌, true, ap, sym}
use Rattle.std.specs.Char.{is_ascii_digit}
use Rattle.std.specs.List.{list_all}
use Rattle.row_codec.specs.Numbers.{number_below}
use Rattle.row_codec.proofs.Parsed.{digits_are_text, digits_read}
use Rattle.row_codec.proofs.number.number_of.Goals as goal

pub returns-in-Ok : goal.returns-in-Ok
returns-in-Ok c =
    let same = c.in-Ok.ensures.cases.0 in
    c.ok.ensures.value
    ∙ digits_read c.in-Ok.digits.now _ c.parse.ensures.value.0 (ap (list_all is_ascii_digit) same ∙ sym c.are_digits.ensures ∙ c.if-not-are_digits.false)
    ∙ ap (number_below (2 ^ 64)) same

pub returns-in-Err : goal.returns-in-Err
returns-in-Err c =
    absurd (c.in-Err.ensures.cases.0 (digits_are_text c.args.text.now (sym c.are_digits.ensures ∙ c.if-not-are_digits.false)))
