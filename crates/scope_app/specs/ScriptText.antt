-- Which script a text is, or where it leaves the language.
use Rattle.std.specs.Prelude.{List, ℕ, IsUtf8}
use Rattle.scope_lexer.specs.Tokens.{IsLexed, IsFault}
use Rattle.scope_lexer.specs.declared.token.Token.{Token}
use Rattle.scope_syntax.specs.Statements.{SpellsScript, IsFirstFault}
use Rattle.scope_syntax.specs.Terminals.{lexemes}
use Rattle.script_trees.specs.declared.script.Script.{Script}
use Rattle.scope_app.specs.declared.status.ScriptPlace.{ScriptPlace}
use Rattle.scope_app.specs.declared.status.ScriptPlace.TheVariants.{Lex, Syntax}

-- the bytes are text, and its tokens spell the script
pub record IsScriptText (bytes : List ℕ) (script : Script) : Type 0 where
  pub utf8 : IsUtf8 bytes
  pub tokens : List Token
  pub lexed : IsLexed bytes tokens
  pub spelled : SpellsScript (lexemes bytes tokens) script

-- the bytes are text, and its tokens spell no script: this statement is the first outside the grammar
pub record IsOutside (bytes : List ℕ) (statement : ℕ) : Type 0 where
  pub utf8 : IsUtf8 bytes
  pub tokens : List Token
  pub lexed : IsLexed bytes tokens
  pub first : IsFirstFault (lexemes bytes tokens) statement

-- the bytes are text that leaves the language at this place
abbrev pub IsFaultAt : List ℕ → ScriptPlace → Type 0
IsFaultAt bytes (Lex f) = IsUtf8 bytes × IsFault bytes f.at
IsFaultAt bytes (Syntax f) = IsOutside bytes f.statement
