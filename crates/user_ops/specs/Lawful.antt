-- The law of an operator, over what it tells, and of all operators of a set.
use Rattle.std.specs.Prelude.{◌≡◌, ℕ, List, length, All}
use Rattle.scope_value.specs.declared.schema.Column.{Column}
use Rattle.scope_value.specs.declared.value.Value.{Value}
use Rattle.user_ops.specs.Told.{ToldExtractor, ToldProcessor, ToldReducer, ToldCombiner, Operators}
use Rattle.user_ops.specs.Appends.{GivesFitting, GroupGivesFitting, PairGivesFitting}
use Rattle.user_ops.specs.Extracts.{ReadsFitting, AreFixedColumns}

-- whatever the args, the output and the fields: the row that is read fits an output that is taken; and fixed columns, where there are any,
-- are at least one, and all of different names
pub record IsLawfulExtractor (told : ToldExtractor) : Type 0 where
  pub reads : (args : List (List ℕ)) (output : List Column) (fields : List (List ℕ)) → ReadsFitting told args output fields
  pub fixed : AreFixedColumns told.fixed_columns

-- whatever the args and the row: for all schemas that are taken, the rows given fit where the row does
pub record IsLawfulProcessor (told : ToldProcessor) : Type 0 where
  pub gives : (args : List (List ℕ)) (row : List Value) → GivesFitting told args row

-- the same of the rows of a group
pub record IsLawfulReducer (told : ToldReducer) : Type 0 where
  pub gives : (args : List (List ℕ)) (rows : List (List Value)) → GroupGivesFitting told args rows

-- the same of the rows of two groups
pub record IsLawfulCombiner (told : ToldCombiner) : Type 0 where
  pub gives : (args : List (List ℕ)) (left right : List (List Value)) → PairGivesFitting told args left right

-- of each kind there are as many names as operators
pub record AreNamed (ops : Operators) : Type 0 where
  pub extractors : length ops.extractor_names ≡ length ops.extractors
  pub processors : length ops.processor_names ≡ length ops.processors
  pub reducers : length ops.reducer_names ≡ length ops.reducers
  pub combiners : length ops.combiner_names ≡ length ops.combiners

-- each operator of a set is lawful, and has a name
pub record AreLawful (ops : Operators) : Type 0 where
  pub named : AreNamed ops
  pub extractors : All IsLawfulExtractor ops.extractors
  pub processors : All IsLawfulProcessor ops.processors
  pub reducers : All IsLawfulReducer ops.reducers
  pub combiners : All IsLawfulCombiner ops.combiners
