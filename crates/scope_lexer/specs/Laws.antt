-- What holds of every text: it has one reading, and its tokens stand in it.
use Rattle.std.specs.Prelude.{◌≡◌, ◌⊎◌, ℕ, List}
use Rattle.scope_lexer.specs.Tokens.{IsFault, IsLexed}
use Rattle.scope_lexer.specs.declared.token.Token.{Token}

-- a text has no two lists of tokens, no two places at fault, and not one of each
pub record HasNoTwoReadings (text : List ℕ) : Type 0 where
  pub tokens : (a b : List Token) → IsLexed text a → IsLexed text b → a ≡ b
  pub faults : (m n : ℕ) → IsFault text m → IsFault text n → m ≡ n
  pub apart : (a : List Token) (m : ℕ) → IsLexed text a → IsFault text m → ⊥

-- a text has tokens or a place at fault
abbrev pub HasReading : List ℕ → Type 0
HasReading text = ((a : List Token) × IsLexed text a) ⊎ ((m : ℕ) × IsFault text m)
