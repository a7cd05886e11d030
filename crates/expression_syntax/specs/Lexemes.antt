-- What the grammar speaks of: tokens without their places, and without pointers.
use Rattle.std.specs.Prelude.{ℕ, ℤ, Bool, false, List, codes}
use Rattle.std.specs.Str.{str_eq_ignore_ascii_case}
use denote.Enum.Bare.{sameb}
use Rattle.expression_syntax.specs.contracts.keyword.Keyword as of_keyword
use Rattle.expression_syntax.specs.contracts.symbol.Symbol as of_symbol
use Rattle.expression_syntax.specs.declared.keyword.Keyword.{Keyword}
use Rattle.expression_syntax.specs.declared.symbol.Symbol.{Symbol}
use Rattle.expression_syntax.specs.declared.terminal.Terminal.{Terminal}
use Rattle.expression_syntax.specs.declared.terminal.Terminal.TheVariants as terminal
use Rattle.expression_syntax.specs.declared.weak_keyword.WeakKeyword.{WeakKeyword}
use Rattle.expression_syntax.specs.declared.weak_keyword.WeakKeyword.TheVariants as weak

-- one of a script: a number has its digits as written and its value, a string the bytes that it stands for
pub data Lexeme : Type 0 where
  keyword : Keyword → Lexeme
  symbol : Symbol → Lexeme
  name : List ℕ → Lexeme
  number : List ℕ → ℤ → Lexeme
  text : List ℕ → Lexeme

-- what a terminal is, without its pointers
abbrev pub lexeme_of : Terminal → Lexeme
lexeme_of (terminal.Keyword k) = keyword k
lexeme_of (terminal.Symbol s) = symbol s
lexeme_of (terminal.Name bytes) = name bytes.now
lexeme_of (terminal.Number digits value) = number digits.now value
lexeme_of (terminal.Text bytes) = text bytes.now

-- whether a lexeme is this symbol
abbrev pub is_symbol : Symbol → Lexeme → Bool
is_symbol s (symbol t) = sameb of_symbol.the_type t s
is_symbol s _ = false

-- whether a lexeme is this keyword
abbrev pub is_keyword : Keyword → Lexeme → Bool
is_keyword w (keyword k) = sameb of_keyword.the_type k w
is_keyword w _ = false

-- a word that is a keyword where the grammar asks for it, in upper case
abbrev pub weak_word : WeakKeyword → List ℕ
weak_word weak.Stored = codes "STORED"
weak_word weak.Hash = codes "HASH"
weak_word weak.Sorted = codes "SORTED"
weak_word weak.Left = codes "LEFT"
weak_word weak.Right = codes "RIGHT"
weak_word weak.Full = codes "FULL"
weak_word weak.Outer = codes "OUTER"

-- whether a name is this word, in any ASCII case
abbrev pub is_written : WeakKeyword → List ℕ → Bool
is_written w bytes = str_eq_ignore_ascii_case bytes (weak_word w)

-- whether a lexeme is this word: it is a name elsewhere
abbrev pub is_weak : WeakKeyword → Lexeme → Bool
is_weak w (name bytes) = is_written w bytes
is_weak w _ = false
