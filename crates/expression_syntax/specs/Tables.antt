-- The tables of the code, without their pointers.
use Rattle.std.specs.Prelude.{ℕ, List, map}
use Rattle.std.specs.Borrow.{Bor}
use Rattle.expression_syntax.specs.declared.keyword.Keyword.{Keyword}
use Rattle.expression_syntax.specs.declared.symbol.Symbol.{Symbol}

abbrev pub keyword_entries : List (Bor (List ℕ) × Keyword) → List (List ℕ × Keyword)
keyword_entries = map (λ e. (e.0.now, e.1))

abbrev pub symbol_entries : List (Bor (List ℕ) × Symbol) → List (List ℕ × Symbol)
symbol_entries = map (λ e. (e.0.now, e.1))
