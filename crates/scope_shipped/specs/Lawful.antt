-- The law of each operator: the rows that it gives fit.
use Rattle.std.proofs.Common.{◌≡◌, ◌≢◌, ℕ, codes, Bool, List, [], ◌∷◌, ◌++◌, true, false, ◌&&◌, ◌==◌, ◌-◌, arith, unwrap_or, is_some, get_or, length, nat_le, Option, Some, None, if◌then◌else◌}
use Rattle.std.specs.List.{flat_map}
use Rattle.std.proofs.lemmas.List.Elements.{All-nil, All-cons, All-head, All-tail, All-append, All-take, All-weaker, All-map, All-from_recursion}
use Rattle.std.proofs.lemmas.List.Kept.{AllPairs-cons}
use Rattle.std.specs.Prelude.{All, IfSome, slice_get}
use Rattle.std.specs.Option.{option_and_then}
use Rattle.scope_value.specs.declared.schema.ColType.{ColType}
use Rattle.scope_value.specs.declared.schema.ColType.TheVariants as kind
use Rattle.scope_value.specs.declared.schema.Column.{Column}
use Rattle.scope_value.specs.declared.value.Value.{Value}
use Rattle.scope_value.specs.declared.value.Value.TheVariants as value
use Rattle.scope_value.specs.Fits.{Fits, RowFits}
use Rattle.row_codec.specs.Fields.{field_value}
use Rattle.row_codec.specs.Rows.{with_value, text_extracts}
use Rattle.row_codec.specs.Fitting.{field_fits, row_fits}
use Rattle.user_ops.specs.Appends.{AllFit, GivesFitting, GroupGivesFitting, PairGivesFitting}
use Rattle.user_ops.specs.Extracts.{ReadsFitting, RowOfOutput, AreFixedColumns}
use Rattle.user_ops.specs.Lawful.{IsLawfulExtractor, IsLawfulProcessor, IsLawfulReducer, IsLawfulCombiner}
use Rattle.scope_shipped.specs.Arguments.{has_none}
use Rattle.scope_shipped.specs.InnerPairs.{inner_pairs, pairs_of}
use Rattle.scope_shipped.specs.LogExtractor.{log_extractor, log_columns, log_value, log_values, log_place}
use Rattle.scope_shipped.specs.MultiSetDifference.{multi_set_difference, last_copies, copies}
use Rattle.scope_shipped.specs.SameTypes.{same_type, same_types}
use Rattle.scope_shipped.specs.SplitWords.{split_words, rows_of_words, is_one_text, begins_with_text}
use Rattle.scope_shipped.specs.TextExtractor.{text_extractor}
use Rattle.scope_shipped.specs.TopQueries.{row_count, top_queries}
use Rattle.scope_shipped.specs.Words.{words}
use Rattle.scope_shipped.specs.SameTypesLemmas.{and-first, and-second, RowFits-same, RowFits-append}

-- the first rows of a group
pub top_queries-fit : (args : List (List ℕ)) (rows : List (List Value)) → GroupGivesFitting top_queries args rows
top_queries-fit args rows = record {
  fit = λ input output taken fits.
      All-take (RowFits output) (unwrap_or (row_count args) 0) rows
      (All-weaker (RowFits input) (RowFits output) (λ r f. RowFits-same r input output (and-first (same_types input output) (is_some (row_count args)) taken) f) rows fits);
}

word-fits : (w : List ℕ) (output : List Column) → is_one_text output ≡ true → RowFits output (value.Bytes w ∷ [])
word-fits w [] h = absurd (cc)
word-fits w (c ∷ (_ ∷ _)) h = absurd (cc)
word-fits w (c ∷ []) h = (text-fits c.kind h, tt)
  where
    text-fits : (k : ColType) → same_type k kind.Text ≡ true → Fits k (value.Bytes w)
    text-fits kind.Int e = absurd (cc)
    text-fits kind.Long e = absurd (cc)
    text-fits kind.Text e = tt
    text-fits kind.Bool e = absurd (cc)

rows_of_words-fit : (row : List Value) (output : List Column) → is_one_text output ≡ true → AllFit output (rows_of_words row)
rows_of_words-fit [] output h = All-nil (RowFits output)
rows_of_words-fit (value.Null ∷ _) output h = All-nil (RowFits output)
rows_of_words-fit (value.Bool _ ∷ _) output h = All-nil (RowFits output)
rows_of_words-fit (value.Int _ ∷ _) output h = All-nil (RowFits output)
rows_of_words-fit (value.Wide _ ∷ _) output h = All-nil (RowFits output)
rows_of_words-fit (value.Bytes text ∷ _) output h =
    All-map (RowFits output) (λ w. value.Bytes w ∷ []) (words text) (λ k d lt. word-fits (get_or (words text) k d) output h)

-- the words of a text
pub split_words-fit : (args : List (List ℕ)) (row : List Value) → GivesFitting split_words args row
split_words-fit args row = record {
  fit = λ input output taken fits.
      rows_of_words-fit row output
      (and-second (begins_with_text input) (is_one_text output) (and-second (has_none args) (begins_with_text input && is_one_text output) taken));
}

-- what all rows have, the rows that are kept have
last_copies-all : (P : List Value → Type 0) (left right rows : List (List Value)) → All P rows → All P (last_copies left right rows)
last_copies-all P left right [] h = All-nil P
last_copies-all P left right (row ∷ rest) h =
    pick (nat_le (copies row (row ∷ rest)) (copies row left - copies row right)) (All-head P row rest h) (last_copies-all P left right rest (All-tail P row rest h))
  where
    pick : (b : Bool) → P row → All P (last_copies left right rest) → All P (if b then row ∷ last_copies left right rest else last_copies left right rest)
    pick true first others = All-cons P row (last_copies left right rest) first others
    pick false first others = others

-- the left rows that are kept
pub multi_set_difference-fit : (args : List (List ℕ)) (left right : List (List Value)) → PairGivesFitting multi_set_difference args left right
multi_set_difference-fit args left right = record {
  fit = λ left_schema right_schema output taken left_fits right_fits.
      let same : same_types left_schema output ≡ true =
      and-second (same_types left_schema right_schema) (same_types left_schema output)
      (and-second (has_none args) (same_types left_schema right_schema && same_types left_schema output) taken) in
      last_copies-all (RowFits output) left right left
      (All-weaker (RowFits left_schema) (RowFits output) (λ r f. RowFits-same r left_schema output same f) left left_fits);
}

-- pairs of rows that fit each side
pairs-fit : (left_schema right_schema output : List Column) → same_types (left_schema ++ right_schema) output ≡ true
    → (left right : List (List Value)) → AllFit left_schema left → AllFit right_schema right → AllFit output (flat_map (pairs_of right) left)
pairs-fit left_schema right_schema output same [] right f g = All-nil (RowFits output)
pairs-fit left_schema right_schema output same (l ∷ ls) right f g =
    All-append (RowFits output) (pairs_of right l) (flat_map (pairs_of right) ls)
    (All-map (RowFits output) (λ r. l ++ r) right
    (All-weaker (RowFits right_schema) (λ r. RowFits output (l ++ r))
    (λ r fit. RowFits-same (l ++ r) (left_schema ++ right_schema) output same (RowFits-append left_schema right_schema l r (All-head (RowFits left_schema) l ls f) fit))
    right g))
    (pairs-fit left_schema right_schema output same ls right (All-tail (RowFits left_schema) l ls f) g)

-- each left row followed by each right row
pub inner_pairs-fit : (args : List (List ℕ)) (left right : List (List Value)) → PairGivesFitting inner_pairs args left right
inner_pairs-fit args left right = record {
  fit = λ left_schema right_schema output taken left_fits right_fits.
      pairs-fit left_schema right_schema output
      (and-second (has_none args) (same_types (left_schema ++ right_schema) output) taken)
      left right left_fits right_fits;
}

row_of_output : (output : List Column) (o : Option (List Value)) → IfSome o (RowFits output) → RowOfOutput output o
row_of_output output None h = tt
row_of_output output (Some row) h = h

-- a row with a field for each column
pub text_extractor-fit : (args : List (List ℕ)) (output : List Column) (fields : List (List ℕ)) → ReadsFitting text_extractor args output fields
text_extractor-fit args output fields = record { fit = λ taken. row_of_output output (text_extracts output fields) (row_fits output fields) }

both_fit : (c : Column) (cs : List Column) (o : Option Value) (p : Option (List Value))
    → IfSome o (Fits c.kind) → IfSome p (RowFits cs) → IfSome (with_value o p) (RowFits (c ∷ cs))
both_fit c cs None None h k = tt
both_fit c cs None (Some vs) h k = tt
both_fit c cs (Some v) None h k = tt
both_fit c cs (Some v) (Some vs) h k = (h, k)

read-fits : (k : ColType) (field : Option (List ℕ)) → IfSome (option_and_then (field_value k) field) (Fits k)
read-fits k None = tt
read-fits k (Some f) = field_fits k f

log_values-fit : (fields : List (List ℕ)) (output : List Column) → IfSome (log_values fields output) (RowFits output)
log_values-fit fields [] = tt
log_values-fit fields (c ∷ cs) =
    both_fit c cs (log_value fields c) (log_values fields cs) (read-fits c.kind (option_and_then (slice_get fields) (log_place c.name))) (log_values-fit fields cs)

if-fits : (b : Bool) (output : List Column) (o : Option (List Value)) → IfSome o (RowFits output) → RowOfOutput output (if b then o else None)
if-fits true output o h = row_of_output output o h
if-fits false output o h = tt

-- a row of a log
pub log_extractor-fit : (args : List (List ℕ)) (output : List Column) (fields : List (List ℕ)) → ReadsFitting log_extractor args output fields
log_extractor-fit args output fields = record { fit = λ taken. if-fits (length fields == 3) output (log_values fields output) (log_values-fit fields output) }

-- ---- the laws

-- the fixed columns of a log have three names
log_columns-fixed : AreFixedColumns (Some log_columns)
log_columns-fixed = (
  omega arith,
  AllPairs-cons AreOther (codes "user") (codes "query" ∷ codes "clicks" ∷ [])
      (All-from_recursion (AreOther (codes "user")) (codes "query" ∷ codes "clicks" ∷ []) (user-query, (user-clicks, tt)))
      (AllPairs-cons AreOther (codes "query") (codes "clicks" ∷ [])
      (All-from_recursion (AreOther (codes "query")) (codes "clicks" ∷ []) (query-clicks, tt))
      (AllPairs-cons AreOther (codes "clicks") [] (All-nil (AreOther (codes "clicks"))) (λ i j d lt within. absurd (omega arith)))),
)
  where
    AreOther : List ℕ → List ℕ → Type 0
    AreOther a b = a ≢ b

    user-query : codes "user" ≢ codes "query"
    user-query e = absurd (cc)

    user-clicks : codes "user" ≢ codes "clicks"
    user-clicks e = absurd (cc)

    query-clicks : codes "query" ≢ codes "clicks"
    query-clicks e = absurd (cc)

pub top_queries-lawful : IsLawfulReducer top_queries
top_queries-lawful = record { gives = top_queries-fit }

pub split_words-lawful : IsLawfulProcessor split_words
split_words-lawful = record { gives = split_words-fit }

pub multi_set_difference-lawful : IsLawfulCombiner multi_set_difference
multi_set_difference-lawful = record { gives = multi_set_difference-fit }

pub inner_pairs-lawful : IsLawfulCombiner inner_pairs
inner_pairs-lawful = record { gives = inner_pairs-fit }

pub text_extractor-lawful : IsLawfulExtractor text_extractor
text_extractor-lawful = record { reads = text_extractor-fit; fixed = tt }

pub log_extractor-lawful : IsLawfulExtractor log_extractor
log_extractor-lawful = record { reads = log_extractor-fit; fixed = log_columns-fixed }
