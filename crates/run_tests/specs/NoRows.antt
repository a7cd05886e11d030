-- No rows fit every schema, and a refusal gives none.
use Rattle.std.proofs.Common.{ℕ, List, [], true, None}
use Rattle.std.proofs.lemmas.List.Elements.{All-nil}
use Rattle.scope_value.specs.declared.schema.Column.{Column}
use Rattle.scope_value.specs.declared.value.Value.{Value}
use Rattle.scope_value.specs.Fits.{RowFits}
use Rattle.user_ops.specs.Extracts.{ReadsFitting}
use Rattle.user_ops.specs.Appends.{GivesFitting, GroupGivesFitting, PairGivesFitting}
use Rattle.user_ops.specs.Lawful.{IsLawfulExtractor, IsLawfulProcessor, IsLawfulReducer, IsLawfulCombiner}

pub no_rows-extract : (delimiter : ℕ) (args : List (List ℕ)) (output : List Column) (fields : List (List ℕ)) → ReadsFitting (record { takes = λ _ _. true; extracts = λ _ _ _. None; fixed_columns = None; delimits = λ _. delimiter }) args output fields
no_rows-extract delimiter args output fields = record { fit = λ taken. tt }

pub no_rows-process : (args : List (List ℕ)) (row : List Value) → GivesFitting (record { takes = λ _ _ _. true; processes = λ _ _. [] }) args row
no_rows-process args row = record { fit = λ input output taken fits. All-nil (RowFits output) }

pub no_rows-reduce : (args : List (List ℕ)) (rows : List (List Value)) → GroupGivesFitting (record { takes = λ _ _ _. true; reduces = λ _ _. [] }) args rows
no_rows-reduce args rows = record { fit = λ input output taken fits. All-nil (RowFits output) }

pub no_rows-combine : (args : List (List ℕ)) (left right : List (List Value)) → PairGivesFitting (record { takes = λ _ _ _ _. true; combines = λ _ _ _. [] }) args left right
no_rows-combine args left right = record { fit = λ l r output taken left_fits right_fits. All-nil (RowFits output) }

pub no_rows-extractor : (delimiter : ℕ) → IsLawfulExtractor (record { takes = λ _ _. true; extracts = λ _ _ _. None; fixed_columns = None; delimits = λ _. delimiter })
no_rows-extractor delimiter = record { reads = no_rows-extract delimiter; fixed = tt }

pub no_rows-processor : IsLawfulProcessor (record { takes = λ _ _ _. true; processes = λ _ _. [] })
no_rows-processor = record { gives = no_rows-process }

pub no_rows-reducer : IsLawfulReducer (record { takes = λ _ _ _. true; reduces = λ _ _. [] })
no_rows-reducer = record { gives = no_rows-reduce }

pub no_rows-combiner : IsLawfulCombiner (record { takes = λ _ _ _ _. true; combines = λ _ _ _. [] })
no_rows-combiner = record { gives = no_rows-combine }

pub ruleset no_rows = (no_rows-extract, no_rows-process, no_rows-reduce, no_rows-combine)
