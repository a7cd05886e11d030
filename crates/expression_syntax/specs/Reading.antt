-- Reading as a function: what each method of the parser answers. The grammar doesn't rest on it; that it answers by
-- the grammar is proved.
use Rattle.std.specs.Prelude.{◌≡◌, ℕ, Bool, true, false, List, [], ◌∷◌, drop, Option, Some, None, Result, Ok, Err, if◌then◌else◌}
use Rattle.script_trees.specs.declared.raw_agg.RawAgg.{RawAgg}
use Rattle.expression_syntax.specs.declared.refusal.Refusal.{Refusal}
use Rattle.expression_syntax.specs.declared.refusal.Refusal.TheVariants.{Memory, Grammar}
use Rattle.expression_syntax.specs.Lexemes.{Lexeme, name}

-- how far the reading has come: the lexemes still to be read, and the aggregates so far
pub record Cursor : Type 0 where
  pub rest : List Lexeme
  pub aggs : List RawAgg

-- before the first lexeme
abbrev pub start : List Lexeme → Cursor
start ts = record { rest = ts; aggs = [] }

-- what a production finds, and where it ends
abbrev pub Parser : Type 0 → Type 0
Parser A = Cursor → Option (A × Cursor)

-- where something was found, what comes of it
abbrev pub and_then : {A B : Type 0} → Option (A × Cursor) → (A → Parser B) → Option (B × Cursor)
and_then None f = None
and_then (Some p) f = f p.0 p.1

-- one production and then another
infixl 10 ◌>>=◌
abbrev pub ◌>>=◌ : {A B : Type 0} → Parser A → (A → Parser B) → Parser B
p >>= f = λ c. and_then (p c) f

-- the same, where nothing is kept of the first
infixl 10 ◌>>◌
abbrev pub ◌>>◌ : {A B : Type 0} → Parser A → Parser B → Parser B
p >> q = p >>= (λ _. q)

-- nothing is read
abbrev pub pure : {A : Type 0} → A → Parser A
pure a = λ c. Some (a, c)

-- nothing is found
abbrev pub refuse : {A : Type 0} → Parser A
refuse = λ c. None

-- the cursor behind the first lexeme
abbrev pub past : Cursor → Cursor
past c = record c { rest = drop 1 c.rest }

-- the next lexeme, which is taken
abbrev pub take_from : List Lexeme → List RawAgg → Option (Lexeme × Cursor)
take_from [] gs = None
take_from (t ∷ ts) gs = Some (t, record { rest = ts; aggs = gs })

unfoldable pub take_one : Parser Lexeme
take_one c = take_from c.rest c.aggs

-- whether the first lexeme passes a test
abbrev pub begins : (Lexeme → Bool) → List Lexeme → Bool
begins p [] = false
begins p (t ∷ ts) = p t

-- takes the first lexeme if it passes a test, and says whether it did
unfoldable pub eat : (Lexeme → Bool) → Parser Bool
eat p c = if begins p c.rest then Some (true, past c) else Some (false, c)

-- takes the first lexeme, which has to pass a test
unfoldable pub expect : (Lexeme → Bool) → Parser (Unit {0})
expect p c = if begins p c.rest then Some (tt, past c) else None

-- takes a name
abbrev pub name_from : Lexeme → Parser (List ℕ)
name_from (name bytes) = pure bytes
name_from _ = refuse

unfoldable pub take_name : Parser (List ℕ)
take_name = take_one >>= name_from

-- what a method of the parser answers is what reading gives, unless memory runs out
abbrev pub Fails : {A : Type 0} → Option (A × Cursor) → Refusal → Type 0
Fails outcome Memory = Unit {0}
Fails outcome Grammar = outcome ≡ None

abbrev pub Reads : {A : Type 0} → Option (A × Cursor) → Result A Refusal → Cursor → Type 0
Reads outcome (Ok a) new = outcome ≡ Some (a, new)
Reads outcome (Err e) new = Fails outcome e
