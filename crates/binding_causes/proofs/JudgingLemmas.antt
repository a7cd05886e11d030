-- Tests by their parts, and the steps of a script.
use Rattle.std.proofs.Common.{◌≡◌, ℕ, ◌+◌, ◌<◌, Bool, List, [], ◌∷◌, ◌++◌, length, get_or, take, drop, Some, None, Ok, Err, Result, OnOk, refl, sym, ap, ◌∙◌, append_assoc}
use Rattle.std.proofs.lemmas.List.{take_more}
use Rattle.scope_value.specs.declared.schema.Column.{Column}
use Rattle.script_trees.specs.declared.script.Script.{Script}
use Rattle.script_trees.specs.declared.script.Statement.{Statement}
use Rattle.placed_trees.specs.declared.statement.Statement as placed
use Rattle.user_ops.specs.Told.{Operators}
use Rattle.names_in_sight.specs.Inputs.{before_of}
use Rattle.name_resolution.specs.Resolved.{resolved_statement}
use Rattle.binding_causes.specs.declared.cause.BindCause.{BindCause}
use Rattle.binding_causes.specs.declared.found.Found.{Found}
use Rattle.binding_causes.specs.declared.judging.Tests.{Tests}
use Rattle.binding_causes.specs.declared.progress.Progress.{Progress}
use Rattle.binding_causes.specs.Limits.{mentions, mentions_in}
use Rattle.binding_causes.specs.Progress.{place_of}
use Rattle.binding_causes.specs.Resolution.{Place, first_cause, next, resolved_from, start}
use Rattle.binding_causes.proofs.RepeatLemmas.{next_of}

pub same_tests : (a b : Tests) → a.found ≡ b.found → a.has_unknown_name ≡ b.has_unknown_name → a.is_duplicate ≡ b.is_duplicate → a.is_star_double ≡ b.is_star_double
    → a.is_top_alone ≡ b.is_top_alone → a.has_many_columns ≡ b.has_many_columns → a.has_many_inputs ≡ b.has_many_inputs → a.has_many_shared ≡ b.has_many_shared
    → record a { has_many_statements = b.has_many_statements } ≡ b
same_tests a b f u d s t c i h =
    ap (λ (x : Found). record a { found = x; has_many_statements = b.has_many_statements }) f
    ∙ ap (λ (x : Bool). record a { found = b.found; has_unknown_name = x; has_many_statements = b.has_many_statements }) u
    ∙ ap (λ (x : Bool). record a { found = b.found; has_unknown_name = b.has_unknown_name; is_duplicate = x; has_many_statements = b.has_many_statements }) d
    ∙ ap (λ (x : Bool). record b { is_star_double = x; is_top_alone = a.is_top_alone; has_many_columns = a.has_many_columns; has_many_inputs = a.has_many_inputs; has_many_shared = a.has_many_shared }) s
    ∙ ap (λ (x : Bool). record b { is_top_alone = x; has_many_columns = a.has_many_columns; has_many_inputs = a.has_many_inputs; has_many_shared = a.has_many_shared }) t
    ∙ ap (λ (x : Bool). record b { has_many_columns = x; has_many_inputs = a.has_many_inputs; has_many_shared = a.has_many_shared }) c
    ∙ ap (λ (x : Bool). record b { has_many_inputs = x; has_many_shared = a.has_many_shared }) i
    ∙ ap (λ (x : Bool). record b { has_many_shared = x }) h

-- the mentions of one statement more
pub mentions_more : (front : List ℕ) (statements : List Statement) (i : ℕ) (s : Statement) → i < length statements → s ≡ get_or statements i s
    → (front ++ mentions_in (take i statements) s.command) ++ mentions (take (i + 1) statements) (drop (i + 1) statements) ≡ front ++ mentions (take i statements) (drop i statements)
mentions_more front statements i s lt is =
    let more : take (i + 1) statements ≡ take i statements ++ s ∷ [] = take_more statements i s lt ∙ ap (λ (d : Statement). take i statements ++ d ∷ []) (sym is) in
    rw (next_of statements i s lt is, more) (append_assoc front (mentions_in (take i statements) s.command) (mentions (take i statements ++ s ∷ []) (drop (i + 1) statements)))

pub on_ok : {T E : Type 0} (r : Result T E) {P : Type 0} → P → OnOk r P
on_ok (Ok x) p = p
on_ok (Err e) p = tt

-- ---- the script

-- a statement without a cause
pub resolved_more : (ops : Operators) (p q : Place) (done more : List placed.Statement) (statements : List Statement) (i : ℕ) (s : Statement)
    → i < length statements → s ≡ get_or statements i s → first_cause ops p s ≡ None → q ≡ next ops p s → more ≡ done ++ resolved_statement ops p.before s ∷ []
    → resolved_from ops q more (drop (i + 1) statements) ≡ resolved_from ops p done (drop i statements)
resolved_more ops p q done more statements i s lt is none following added = rw (next_of statements i s lt is, none, following, added) refl

-- one with a cause
pub resolved_stop : (ops : Operators) (p : Place) (done : List placed.Statement) (statements : List Statement) (i : ℕ) (s : Statement) (cause : BindCause)
    → i < length statements → s ≡ get_or statements i s → first_cause ops p s ≡ Some cause → length p.before.statements ≡ i
    → resolved_from ops p done (drop i statements) ≡ Err (record { statement = i + 1; cause = cause })
resolved_stop ops p done statements i s cause lt is some count = rw (next_of statements i s lt is, some, count) refl

-- the place of the first statement
pub place_start : (script : Script) (all : List ℕ) (p : Progress) → all ≡ mentions [] script.statements → p.near.items ≡ [] → p.headings ≡ [] → p.counts.items ≡ []
    → place_of all [] p ≡ start script.statements
place_start script all p a n h c =
    ap (λ (x : List ℕ). record (place_of all [] p) { all = x }) a
    ∙ ap (λ (x : List ℕ). record (place_of all [] p) { all = mentions [] script.statements; near = x }) n
    ∙ ap (λ (x : List (List Column)). record (start script.statements) { before = before_of [] x; counts = p.counts.items }) h
    ∙ ap (λ (x : List ℕ). record (start script.statements) { counts = x }) c
