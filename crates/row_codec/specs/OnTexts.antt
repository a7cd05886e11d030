-- Texts and their records, records and their rows, rows and their texts.
use Rattle.std.specs.Prelude.{◌≡◌, ◌++◌, ℕ, List, [], ◌∷◌, Result, Ok, Err, true, false, pos, negsuc, codes}
use Rattle.scope_value.specs.declared.value.Value.{Value}
use Rattle.scope_value.specs.declared.value.Value.TheVariants as value
use Rattle.scope_value.specs.declared.schema.ColType.{ColType}
use Rattle.scope_value.specs.declared.schema.ColType.TheVariants as kind
use Rattle.scope_value.specs.declared.schema.Column.{Column}
use Rattle.row_codec.specs.Records.{Record, records_of}
use Rattle.row_codec.specs.Rows.{rows_from, text_extracts}
use Rattle.row_codec.specs.Texts.{line_text}

-- the records of a text whose fields stand between commas
abbrev pub comma_records : List ℕ → List Record
comma_records text = records_of 44 text

-- the bytes of a byte order mark
abbrev pub mark : List ℕ
mark = 0xEF ∷ 0xBB ∷ 0xBF ∷ []

-- texts and their records
pub record KnownRecords : Type 0 where
  pub nothing : comma_records [] ≡ []
  pub empty_lines : comma_records (codes "\n\n\r\n\r") ≡ []
  pub empty_between : comma_records (codes "a\n\nb\n") ≡ (codes "a" ∷ []) ∷ (codes "b" ∷ []) ∷ []
  pub no_last_end : comma_records (codes "a,b\nc") ≡ (codes "a" ∷ codes "b" ∷ []) ∷ (codes "c" ∷ []) ∷ []
  pub crlf : comma_records (codes "a\r\nb\r\n") ≡ (codes "a" ∷ []) ∷ (codes "b" ∷ []) ∷ []
  pub lone_cr : comma_records (codes "a\rb\r") ≡ (codes "a" ∷ []) ∷ (codes "b" ∷ []) ∷ []
  pub one_empty_field : comma_records (codes "\"\"\n") ≡ ([] ∷ []) ∷ []
  pub comma_alone : comma_records (codes ",\n") ≡ ([] ∷ [] ∷ []) ∷ []
  pub space_line : comma_records (codes " \n") ≡ (codes " " ∷ []) ∷ []
  pub comma_in_quotes : comma_records (codes "\"a,b\",c\n") ≡ (codes "a,b" ∷ codes "c" ∷ []) ∷ []
  pub doubled : comma_records (codes "\"a\"\"b\"\n") ≡ (codes "a\"b" ∷ []) ∷ []
  pub quote_inside : comma_records (codes "a\"b,c\n") ≡ (codes "a\"b" ∷ codes "c" ∷ []) ∷ []
  pub after_quote : comma_records (codes "\"a\"b,c\n") ≡ (codes "ab" ∷ codes "c" ∷ []) ∷ []
  pub line_in_quotes : comma_records (codes "\"a\r\nb\",c\n") ≡ (codes "a\r\nb" ∷ codes "c" ∷ []) ∷ []
  pub open_quote : comma_records (codes "\"a,b\nc") ≡ (codes "a,b\nc" ∷ []) ∷ []
  pub null_quoted : comma_records (codes "\\N,\"\\N\"\n") ≡ (codes "\\N" ∷ codes "\\N" ∷ []) ∷ []
  pub first_mark : comma_records (mark ++ codes "a\n") ≡ (codes "a" ∷ []) ∷ []
  pub mark_alone : comma_records mark ≡ []
  pub second_mark : comma_records (mark ++ mark ++ codes "\n") ≡ (mark ∷ []) ∷ []
  pub later_mark : comma_records (codes "a\n" ++ mark) ≡ (codes "a" ∷ []) ∷ (mark ∷ []) ∷ []
  pub bytes : comma_records (255 ∷ 0 ∷ 44 ∷ 200 ∷ 10 ∷ []) ≡ ((255 ∷ 0 ∷ []) ∷ (200 ∷ []) ∷ []) ∷ []
  pub by_tab : records_of 9 (codes "a,b\tc\n") ≡ (codes "a,b" ∷ codes "c" ∷ []) ∷ []

-- a column of this type, whose name plays no part
abbrev pub of : ColType → Column
of k = record { name = codes "c"; kind = k }

-- the rows of a text in columns of these types
abbrev pub rows_in : List Column → List ℕ → Result (List (List Value)) ℕ
rows_in columns text = rows_from (text_extracts columns) 1 (comma_records text)

-- texts and their rows, or their first refused record
pub record KnownRows : Type 0 where
  pub two : rows_in (of kind.Int ∷ of kind.Text ∷ []) (codes "1,x\n2,y\n") ≡ Ok ((value.Int (pos 1) ∷ value.Bytes (codes "x") ∷ []) ∷ (value.Int (pos 2) ∷ value.Bytes (codes "y") ∷ []) ∷ [])
  pub empty_number : rows_in (of kind.Int ∷ of kind.Text ∷ []) (codes ",x\n") ≡ Ok ((value.Null ∷ value.Bytes (codes "x") ∷ []) ∷ [])
  pub empty_string : rows_in (of kind.Text ∷ of kind.Text ∷ []) (codes ",\\N\n") ≡ Ok ((value.Bytes [] ∷ value.Null ∷ []) ∷ [])
  pub second : rows_in (of kind.Int ∷ of kind.Text ∷ []) (codes "1,x\nq,y\n") ≡ Err 2
  pub not_counted : rows_in (of kind.Int ∷ []) (codes "5\n\n\n2147483648\n") ≡ Err 2
  pub few_fields : rows_in (of kind.Int ∷ of kind.Int ∷ []) (codes "1,2\n3\n") ≡ Err 2
  pub many_fields : rows_in (of kind.Int ∷ []) (codes "1,2\n3\n") ≡ Err 1
  pub least : rows_in (of kind.Int ∷ of kind.Bool ∷ []) (codes "-2147483648,TrUe\n") ≡ Ok ((value.Int (negsuc 2147483647) ∷ value.Bool true ∷ []) ∷ [])
  pub below_least : rows_in (of kind.Int ∷ []) (codes "-2147483649\n") ≡ Err 1

-- the written row of these values, with commas
abbrev pub comma_line : List Value → List ℕ
comma_line row = line_text 44 row

-- rows and their texts
pub record KnownTexts : Type 0 where
  pub plain : comma_line (value.Bool true ∷ value.Bool false ∷ value.Null ∷ value.Bytes (codes "b c") ∷ []) ≡ codes "true,false,\\N,b c\n"
  pub no_value : comma_line [] ≡ codes "\"\"\n"
  pub empty_string : comma_line (value.Bytes [] ∷ []) ≡ codes "\"\"\n"
  pub empty_strings : comma_line (value.Bytes [] ∷ value.Bytes [] ∷ []) ≡ codes ",\n"
  pub with_comma : comma_line (value.Bytes (codes "a,b") ∷ []) ≡ codes "\"a,b\"\n"
  pub with_quote : comma_line (value.Bytes (codes "a\"b") ∷ []) ≡ codes "\"a\"\"b\"\n"
  pub with_cr : comma_line (value.Bytes (codes "a\rb") ∷ []) ≡ codes "\"a\rb\"\n"
  pub with_lf : comma_line (value.Bytes (codes "a\nb") ∷ []) ≡ codes "\"a\nb\"\n"
  pub null_string : comma_line (value.Bytes (codes "\\N") ∷ []) ≡ comma_line (value.Null ∷ [])
  pub by_tab : line_text 9 (value.Bytes (codes "a,b") ∷ value.Bytes (codes "c\td") ∷ []) ≡ codes "a,b\t\"c\td\"\n"
  pub first_mark : comma_line (value.Bytes mark ∷ []) ≡ mark ++ codes "\n"
