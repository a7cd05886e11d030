-- What `TopQueries` takes and gives.
use Rattle.std.specs.Prelude.{ℕ, ◌&&◌, is_some, unwrap_or, List, [], ◌∷◌, take, Option, None}
use Rattle.user_ops.specs.Told.{ToldReducer}
use Rattle.row_codec.specs.Numbers.{number_below}
use Rattle.scope_shipped.specs.SameTypes.{same_types}

-- how many rows the args ask for: one arg, decimal digits, at most a billion
abbrev pub row_count : List (List ℕ) → Option ℕ
row_count (arg ∷ []) = number_below 1000000001 arg
row_count _ = None

-- what `TopQueries` tells: the first so many rows of the group
abbrev pub top_queries : ToldReducer
top_queries = record {
  takes = λ input output args. same_types input output && is_some (row_count args);
  reduces = λ args rows. take (unwrap_or (row_count args) 0) rows;
}
