use Rattle.std.proofs.Common.{◌≡◌, ◌++◌, length, drop, take, option_map}
use Rattle.scope_shipped.specs.LogExtractor.{log_values}
use Rattle.scope_shipped.proofs.log_extractor.push_columns.Given as goal

abbrev pub invariant-loop-column : goal.invariant-loop-column
invariant-loop-column l = record {
  read : option_map (λ row. l.out.items ++ row) (log_values l.fields (drop l.column-index l.columns))
      ≡ option_map (λ row. l.initial.out.items ++ row) (log_values l.fields l.columns);
  kept : take (length l.initial.out.items) l.out.items ≡ l.initial.out.items;
}
