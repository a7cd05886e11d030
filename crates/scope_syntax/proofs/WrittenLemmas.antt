-- What the grammar gives every script that it spells.
use Rattle.std.proofs.Common.{◌≡◌, subst, sym, Bool, List, [], ◌∷◌, Option, Some, None, inl, inr, arith}
use Rattle.std.specs.List.{All}
use Rattle.std.proofs.lemmas.List.Elements.{All-nil, All-cons}
use Rattle.script_trees.specs.declared.item.Items.{Items}
use Rattle.script_trees.specs.declared.item.Items.TheVariants as listing
use Rattle.expression_syntax.specs.declared.keyword.Keyword.{Keyword}
use Rattle.script_trees.specs.declared.raw_agg.RawAgg.{RawAgg}
use Rattle.expression_syntax.specs.declared.weak_keyword.WeakKeyword.{WeakKeyword}
use Rattle.expression_syntax.specs.declared.weak_keyword.WeakKeyword.TheVariants as weak
use Rattle.expression_syntax.specs.Lexemes.{Lexeme}
use Rattle.expression_syntax.specs.Expressions.{SpellsRef}
use Rattle.expression_syntax.specs.Parts.{SpellsAfter, SpellsAfterTwo, SpellsAfterWeak, SpellsKey, SpellsList, SpellsItems, SpellsOptional, is_comma}
use Rattle.script_trees.specs.declared.command.Command.{Command}
use Rattle.script_trees.specs.declared.command.Command.TheVariants.{Extract, Select, Process, Reduce, Combine, Output}
use Rattle.script_trees.specs.declared.script.Script.{Script}
use Rattle.script_trees.specs.declared.script.Statement.{Statement}
use Rattle.script_trees.specs.declared.select.Joined.{Joined}
use Rattle.script_trees.specs.declared.side.JoinSide.TheVariants as side
use Rattle.script_trees.specs.declared.stored.RawStored.{RawStored}
use Rattle.scope_syntax.specs.Statements.{SpellsBracketed, SpellsCommand, SpellsEach, SpellsFrom, SpellsInners, SpellsJoined, SpellsStatement, SpellsStored, SpellsTied, pieces, can_be_named}
use Rattle.scope_syntax.specs.Statements as g
use Rattle.scope_syntax.specs.Written.{IsWritten, HasSome, HasSomeIf, HasItems, AreSides, AreJoined, HasKeysIf, HasParts, IsRight}

-- a list has something
list_some : {A : Type 0} (separates : Lexeme → Bool) (P : List Lexeme → A → Type 0) (ts : List Lexeme) (xs : List A) → SpellsList separates P ts xs → HasSome xs
list_some separates P ts [] h = absurd h
list_some separates P ts (x ∷ []) h = omega arith
list_some separates P ts (x ∷ y ∷ more) h = omega arith

-- so has one behind a word, or two, where it is given
after_some : {A : Type 0} (w : Keyword) (separates : Lexeme → Bool) (P : List Lexeme → A → Type 0) (ts : List Lexeme) (o : Option (List A)) → SpellsOptional (SpellsAfter w (SpellsList separates P)) ts o → HasSomeIf o
after_some w separates P ts None h = tt
after_some w separates P ts (Some xs) h = list_some separates P h.0 xs h.2

after_two_some : {A : Type 0} (v w : Keyword) (separates : Lexeme → Bool) (P : List Lexeme → A → Type 0) (ts : List Lexeme) (o : Option (List A)) → SpellsOptional (SpellsAfterTwo v w (SpellsList separates P)) ts o → HasSomeIf o
after_two_some v w separates P ts None h = tt
after_two_some v w separates P ts (Some xs) h = list_some separates P h.0 xs h.2

listed_some : (ts : List Lexeme) (xs : Items) (gs : List RawAgg) → SpellsItems ts xs gs → HasItems xs
listed_some ts listing.All gs h = tt
listed_some ts (listing.Listed []) gs h = absurd h
listed_some ts (listing.Listed (x ∷ xs)) gs h = omega arith

tied_some : (ts : List Lexeme) (j : Joined) → SpellsTied ts j → HasSome j.on
tied_some ts j h = list_some _ _ h.1 j.on h.4

inners_some : (ts : List Lexeme) (js : List Joined) → SpellsInners ts js → All (λ j. HasSome j.on) js
inners_some ts [] h = All-nil (λ j. HasSome j.on)
inners_some ts (j ∷ js) (a, b, q, (p, r, e, d, n, t), m) = All-cons (λ j. HasSome j.on) j js (tied_some r j t) (inners_some b js m)

joined_some : (ts : List Lexeme) (js : List Joined) → SpellsJoined ts js → All (λ j. HasSome j.on) js
joined_some ts js (inl h) = inners_some ts js h
joined_some ts js (inr (j, q, (t, a, b, e, s, o, k))) =
    subst (λ z. All (λ (x : Joined). HasSome x.on) z) (sym q) (All-cons (λ x. HasSome x.on) j [] (tied_some b j k) (All-nil (λ x. HasSome x.on)))

inners_inner : (ts : List Lexeme) (js : List Joined) → SpellsInners ts js → All (λ j. j.side ≡ side.Inner) js
inners_inner ts [] h = All-nil (λ j. j.side ≡ side.Inner)
inners_inner ts (j ∷ js) (a, b, q, (p, r, e, d, n, t), m) = All-cons (λ j. j.side ≡ side.Inner) j js d (inners_inner b js m)

joined_sides : (ts : List Lexeme) (js : List Joined) → SpellsJoined ts js → AreSides js
joined_sides ts [] h = All-nil (λ j. j.side ≡ side.Inner)
joined_sides ts (j ∷ []) h = tt
joined_sides ts (j ∷ k ∷ js) (inl h) = inners_inner ts (j ∷ k ∷ js) h
joined_sides ts (j ∷ k ∷ js) (inr (i, q, o)) = absurd (cc)

from_joined : (ts : List Lexeme) (js : List Joined) → SpellsFrom ts js → AreJoined js
from_joined ts [] h = tt
from_joined ts (first ∷ more) (inner, none, (a, b, q, s, m)) = (inner, (none, (joined_sides b more m, joined_some b more m)))

-- the lists of a declaration
bracketed_some : {A : Type 0} (separates : Lexeme → Bool) (P : List Lexeme → A → Type 0) (w : WeakKeyword) (ts : List Lexeme) (xs : List A)
    → SpellsAfterWeak w (SpellsBracketed (SpellsList separates P)) ts xs → HasSome xs
bracketed_some separates P w ts xs (t, a, q, s, (b, r, l)) = list_some separates P b xs l

bracketed_some_if : {A : Type 0} (separates : Lexeme → Bool) (P : List Lexeme → A → Type 0) (w : WeakKeyword) (ts : List Lexeme) (o : Option (List A))
    → SpellsOptional (SpellsAfterWeak w (SpellsBracketed (SpellsList separates P))) ts o → HasSomeIf o
bracketed_some_if separates P w ts None h = tt
bracketed_some_if separates P w ts (Some xs) h = bracketed_some separates P w ts xs h

stored_keys : (ts : List Lexeme) (o : Option RawStored) → SpellsStored ts o → HasKeysIf o
stored_keys ts None h = tt
stored_keys ts (Some x) (t, a, q, s, (b, c, r, hash, sorted)) = (bracketed_some is_comma SpellsRef weak.Hash b x.hash hash, bracketed_some_if is_comma SpellsKey weak.Sorted c x.sorted sorted)

command_parts : (ts : List Lexeme) (c : Command) → SpellsCommand ts c → HasParts c
command_parts ts (Extract cols stream call stored) h = (list_some _ _ h.0 cols h.4, stored_keys h.2 stored h.6)
command_parts ts (Select s) h = (
  listed_some h.items_part s.items s.aggs h.items,
  (from_joined h.from_part s.sources h.sources, (after_two_some _ _ _ _ h.group_part s.group h.group, after_two_some _ _ _ _ h.order_part s.order h.order)),
)
command_parts ts (Process source call cols) h = list_some _ _ h.4.1 cols h.4.4
command_parts ts (Reduce source presort on call cols) h = (after_some _ _ _ h.1 presort h.6, (list_some _ _ h.2 on h.7, list_some _ _ h.8.1 cols h.8.4))
command_parts ts (Combine left left_presort right right_presort on call cols) h = (
  after_some _ _ _ h.5.1 left_presort h.5.4,
  (after_some _ _ _ h.6.1 right_presort h.6.4, (list_some _ _ h.2 on h.7, list_some _ _ h.8.1 cols h.8.4)),
)
command_parts ts (Output source stream outputter stored) h = stored_keys h.2 stored h.6

statement_right : (ts : List Lexeme) (t : Statement) → SpellsStatement ts t → IsRight t
statement_right ts t (g.unnamed {c = c} h) = (command_parts _ c h, λ e. absurd (cc))
statement_right ts t (g.named {c = c} can h) = (command_parts _ c h, λ e. can)

each_right : (ps : List (List Lexeme)) (ss : List Statement) → SpellsEach ps ss → All IsRight ss
each_right [] [] h = All-nil IsRight
each_right [] (s ∷ ss) h = absurd h
each_right (p ∷ ps) [] h = absurd h
each_right (p ∷ ps) (s ∷ ss) h = All-cons IsRight s ss (statement_right p s h.0) (each_right ps ss h.1)

pub written_right : (s : Script) → IsWritten s → All IsRight s.statements
written_right s h = each_right (pieces h.0) s.statements h.1
