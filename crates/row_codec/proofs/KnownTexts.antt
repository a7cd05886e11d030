-- The worked texts, each by computing it.
use Rattle.std.proofs.Common.{refl}
use Rattle.csv.proofs.OnLiterals.{csv_on_literals}
use Rattle.csv.specs.Writing.{escaped, fields_text, is_blank}
use Rattle.row_codec.specs.OnTexts as spec
use Rattle.row_codec.specs.Fields.{field_value}
use Rattle.row_codec.specs.Records.{records_of}

pub known_records : spec.KnownRecords
unfolding csv_on_literals records_of
known_records = record {
  nothing = refl;
  empty_lines = refl;
  empty_between = refl;
  no_last_end = refl;
  crlf = refl;
  lone_cr = refl;
  one_empty_field = refl;
  comma_alone = refl;
  space_line = refl;
  comma_in_quotes = refl;
  doubled = refl;
  quote_inside = refl;
  after_quote = refl;
  line_in_quotes = refl;
  open_quote = refl;
  null_quoted = refl;
  first_mark = refl;
  mark_alone = refl;
  second_mark = refl;
  later_mark = refl;
  bytes = refl;
  by_tab = refl;
}

pub known_rows : spec.KnownRows
unfolding csv_on_literals records_of field_value
known_rows = record {
  two = refl;
  empty_number = refl;
  empty_string = refl;
  second = refl;
  not_counted = refl;
  few_fields = refl;
  many_fields = refl;
  least = refl;
  below_least = refl;
}

pub known_texts : spec.KnownTexts
unfolding escaped fields_text is_blank
known_texts = record {
  plain = refl;
  no_value = refl;
  empty_string = refl;
  empty_strings = refl;
  with_comma = refl;
  with_quote = refl;
  with_cr = refl;
  with_lf = refl;
  null_string = refl;
  by_tab = refl;
  first_mark = refl;
}
