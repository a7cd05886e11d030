-- What may stand behind the parts of a command: nothing, or a lexeme that goes on none of them.
use Rattle.std.proofs.Common.{◌≡◌, ◌<◌, Bool, true, false, List, [], ◌∷◌, ◌++◌, Option, Some, None, refl, ap, ◌∙◌, arith, append_assoc}
use Rattle.expression_syntax.specs.declared.keyword.Keyword.{Keyword}
use Rattle.expression_syntax.specs.declared.keyword.Keyword.TheVariants as word
use Rattle.expression_syntax.specs.declared.symbol.Symbol.{Symbol}
use Rattle.expression_syntax.specs.declared.symbol.Symbol.TheVariants as mark
use Rattle.expression_syntax.specs.Lexemes.{Lexeme, keyword, symbol, name, number, text, is_keyword, is_symbol}
use Rattle.expression_syntax.specs.Reading.{begins}
use Rattle.expression_syntax.specs.Parts.{SpellsAfter, SpellsAfterTwo, SpellsList, SpellsOptional, is_and, is_comma}
use Rattle.expression_syntax.proofs.Follow.{bound}

-- the lexemes that can go on some part
abbrev pub goes_on : Lexeme → Bool
goes_on (symbol s) = true
goes_on (keyword word.As) = true
goes_on (keyword word.Asc) = true
goes_on (keyword word.Desc) = true
goes_on (keyword word.And) = true
goes_on (keyword word.Or) = true
goes_on _ = false

-- nothing goes on the part before
abbrev pub Closed : List Lexeme → Type 0
Closed rest = begins goes_on rest ≡ false

pub closed_symbol : (s : Symbol) (rest : List Lexeme) → Closed rest → begins (is_symbol s) rest ≡ false
closed_symbol s [] h = refl
closed_symbol s (symbol t ∷ ts) h = absurd (cc)
closed_symbol s (keyword k ∷ ts) h = refl
closed_symbol s (name b ∷ ts) h = refl
closed_symbol s (number b n ∷ ts) h = refl
closed_symbol s (text b ∷ ts) h = refl

pub closed_bound : (rest : List Lexeme) → Closed rest → bound rest ≡ 0
closed_bound [] h = refl
closed_bound (symbol t ∷ ts) h = absurd (cc)
closed_bound (keyword word.And ∷ ts) h = absurd (cc)
closed_bound (keyword word.Or ∷ ts) h = absurd (cc)
closed_bound (t ∷ ts) h = refl

pub closed_as : (rest : List Lexeme) → Closed rest → begins (is_keyword word.As) rest ≡ false
closed_as [] h = refl
closed_as (keyword word.As ∷ ts) h = absurd (cc)
closed_as (t ∷ ts) h = refl

pub closed_asc : (rest : List Lexeme) → Closed rest → begins (is_keyword word.Asc) rest ≡ false
closed_asc [] h = refl
closed_asc (keyword word.Asc ∷ ts) h = absurd (cc)
closed_asc (t ∷ ts) h = refl

pub closed_desc : (rest : List Lexeme) → Closed rest → begins (is_keyword word.Desc) rest ≡ false
closed_desc [] h = refl
closed_desc (keyword word.Desc ∷ ts) h = absurd (cc)
closed_desc (t ∷ ts) h = refl

pub closed_comma : (rest : List Lexeme) → Closed rest → begins is_comma rest ≡ false
closed_comma [] h = refl
closed_comma (symbol t ∷ ts) h = absurd (cc)
closed_comma (t ∷ ts) h = refl

pub closed_and : (rest : List Lexeme) → Closed rest → begins is_and rest ≡ false
closed_and [] h = refl
closed_and (symbol t ∷ ts) h = absurd (cc)
closed_and (keyword word.And ∷ ts) h = absurd (cc)
closed_and (t ∷ ts) h = refl

pub comma_is : (o : Lexeme) → is_comma o ≡ true → o ≡ symbol mark.Comma
comma_is (symbol mark.Comma) h = refl
comma_is t h = absurd (cc)

pub and_bound : (o : Lexeme) (ts : List Lexeme) → is_and o ≡ true → bound (o ∷ ts) < 8
and_bound (keyword word.And) ts h = omega arith
and_bound (symbol mark.Both) ts h = omega arith
and_bound t ts h = absurd (cc)

-- ---- the first lexeme of parts

-- what comes first isn't of a kind, whatever follows
abbrev pub NotFirst : (Lexeme → Bool) → List Lexeme → Type 0
NotFirst q ts = (rest : List Lexeme) → begins q (ts ++ rest) ≡ false

module _ {A : Type 0} (q : Lexeme → Bool) (P : List Lexeme → A → Type 0) where
  -- behind an optional part stands its word or what follows
  pub option_first : (w : Keyword) (ts : List Lexeme) (o : Option A) → q (keyword w) ≡ false → SpellsOptional (SpellsAfter w P) ts o
      → (rest : List Lexeme) → begins q rest ≡ false → begins q (ts ++ rest) ≡ false
  option_first w ts None f h rest e = rw h e
  option_first w ts (Some x) f h rest e = rw h.1 f

  pub option_first_two : (v w : Keyword) (ts : List Lexeme) (o : Option A) → q (keyword v) ≡ false → SpellsOptional (SpellsAfterTwo v w P) ts o
      → (rest : List Lexeme) → begins q rest ≡ false → begins q (ts ++ rest) ≡ false
  option_first_two v w ts None f h rest e = rw h e
  option_first_two v w ts (Some x) f h rest e = rw h.1 f

  -- a list begins as its first item
  pub list_first : (separates : Lexeme → Bool) (ts : List Lexeme) (xs : List A) → ((a : List Lexeme) (x : A) → P a x → NotFirst q a)
      → SpellsList separates P ts xs → NotFirst q ts
  list_first separates ts [] f h rest = absurd h
  list_first separates ts (x ∷ []) f h rest = f ts x h rest
  list_first separates ts (x ∷ y ∷ more) f (a, b, o, e, s, h, l) rest =
      ap (λ z. begins q (z ++ rest)) e ∙ ap (begins q) (append_assoc a (o ∷ b) rest) ∙ f a x h (o ∷ (b ++ rest))
