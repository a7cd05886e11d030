-- What is found list by list is what the tests say of the whole lists.
use Rattle.std.proofs.Common.{◌≡◌, ℕ, ◌+◌, ◌<◌, Bool, false, not, ◌||◌, nat_lt, List, [], ◌∷◌, ◌++◌, length, get_or, take, map, refl, sym, ap, ◌∙◌, arith}
use Rattle.std.specs.List.{list_any, flat_map}
use Rattle.std.proofs.lemmas.List.{take_more}
use Rattle.std.proofs.lemmas.List.Folds.{list_any-append}
use Rattle.std.proofs.Math.Bool.{or-false}
use Rattle.script_trees.specs.declared.command.Command.{Command}
use Rattle.user_ops.specs.Told.{Operators}
use Rattle.names_in_sight.specs.Inputs.{Before}
use Rattle.binding_causes.specs.declared.found.Found.{Found}
use Rattle.binding_causes.specs.Asked.{Asked, asked_by}
use Rattle.binding_causes.specs.Columns.{has_double_key, names_unknown, names_ambiguous, has_mismatch}
use Rattle.binding_causes.specs.Found.{none, either, any_of, in_expr, in_test, in_agg, in_keys, in_on, in_asked, tests_of, in_call, in_command, all_tests}
use Rattle.binding_causes.specs.Limits.{own_calls, has_many_keys}
use Rattle.binding_causes.specs.Operators.{inline_calls, is_own_missing, own_taken}

pub same_found : {a b : Found} → a.is_twice ≡ b.is_twice → a.is_unknown ≡ b.is_unknown → a.is_ambiguous ≡ b.is_ambiguous → a.is_mismatched ≡ b.is_mismatched
    → a.is_missing ≡ b.is_missing → a.is_refused ≡ b.is_refused → a.has_many_keys ≡ b.has_many_keys → a.has_many_args ≡ b.has_many_args → a ≡ b
same_found {a} {b} e f g h m r k l =
    ap (λ (t : Bool). record a { is_twice = t }) e
    ∙ ap (λ (t : Bool). record a { is_twice = b.is_twice; is_unknown = t }) f
    ∙ ap (λ (t : Bool). record a { is_twice = b.is_twice; is_unknown = b.is_unknown; is_ambiguous = t }) g
    ∙ ap (λ (t : Bool). record b { is_mismatched = t; is_missing = a.is_missing; is_refused = a.is_refused; has_many_keys = a.has_many_keys; has_many_args = a.has_many_args }) h
    ∙ ap (λ (t : Bool). record b { is_missing = t; is_refused = a.is_refused; has_many_keys = a.has_many_keys; has_many_args = a.has_many_args }) m
    ∙ ap (λ (t : Bool). record b { is_refused = t; has_many_keys = a.has_many_keys; has_many_args = a.has_many_args }) r
    ∙ ap (λ (t : Bool). record b { has_many_keys = t; has_many_args = a.has_many_args }) k
    ∙ ap (λ (t : Bool). record b { has_many_args = t }) l

or_assoc : (a b c : Bool) → ((a || b) || c) ≡ (a || (b || c))
or_assoc a b c = grind arith

pub either_none : (a : Found) → either a none ≡ a
either_none a =
    same_found (or-false a.is_twice) (or-false a.is_unknown) (or-false a.is_ambiguous) (or-false a.is_mismatched) (or-false a.is_missing) (or-false a.is_refused)
    (or-false a.has_many_keys) (or-false a.has_many_args)

pub either_assoc : (a b c : Found) → either (either a b) c ≡ either a (either b c)
either_assoc a b c =
    same_found (or_assoc a.is_twice b.is_twice c.is_twice) (or_assoc a.is_unknown b.is_unknown c.is_unknown) (or_assoc a.is_ambiguous b.is_ambiguous c.is_ambiguous)
    (or_assoc a.is_mismatched b.is_mismatched c.is_mismatched) (or_assoc a.is_missing b.is_missing c.is_missing) (or_assoc a.is_refused b.is_refused c.is_refused)
    (or_assoc a.has_many_keys b.has_many_keys c.has_many_keys) (or_assoc a.has_many_args b.has_many_args c.has_many_args)

pub any_of_one : {X : Type 0} (f : X → Found) (x : X) → any_of f (x ∷ []) ≡ f x
any_of_one f x = either_none (f x)

pub any_of_append : {X : Type 0} (f : X → Found) (xs ys : List X) → any_of f (xs ++ ys) ≡ either (any_of f xs) (any_of f ys)
any_of_append f [] ys = refl
any_of_append f (x ∷ xs) ys = ap (either (f x)) (any_of_append f xs ys) ∙ sym (either_assoc (f x) (any_of f xs) (any_of f ys))

pub any_of_map : {X Y : Type 0} (f : Y → Found) (g : X → Y) (xs : List X) → any_of f (map g xs) ≡ any_of (λ x. f (g x)) xs
any_of_map f g [] = refl
any_of_map f g (x ∷ xs) = ap (either (f (g x))) (any_of_map f g xs)

pub any_of_flat_map : {X Y : Type 0} (f : Y → Found) (g : X → List Y) (xs : List X) → any_of f (flat_map g xs) ≡ any_of (λ x. any_of f (g x)) xs
any_of_flat_map f g [] = refl
any_of_flat_map f g (x ∷ xs) = any_of_append f (g x) (flat_map g xs) ∙ ap (either (any_of f (g x))) (any_of_flat_map f g xs)

-- one more, as at a step of a loop
pub any_of_more : {X : Type 0} (f : X → Found) (xs : List X) (i : ℕ) (x : X) → i < length xs → x ≡ get_or xs i x → any_of f (take (i + 1) xs) ≡ either (any_of f (take i xs)) (f x)
any_of_more {X} f xs i x lt is =
    let front : take (i + 1) xs ≡ take i xs ++ x ∷ [] = take_more xs i x lt ∙ ap (λ (d : X). take i xs ++ d ∷ []) (sym is) in
    ap (any_of f) front ∙ any_of_append f (take i xs) (x ∷ []) ∙ ap (either (any_of f (take i xs))) (any_of_one f x)

-- ---- the fields

twice_of : {X : Type 0} (f : X → Found) (xs : List X) → (any_of f xs).is_twice ≡ list_any (λ x. (f x).is_twice) xs
twice_of f [] = refl
twice_of f (x ∷ xs) = ap (λ b. (f x).is_twice || b) (twice_of f xs)

unknown_of : {X : Type 0} (f : X → Found) (xs : List X) → (any_of f xs).is_unknown ≡ list_any (λ x. (f x).is_unknown) xs
unknown_of f [] = refl
unknown_of f (x ∷ xs) = ap (λ b. (f x).is_unknown || b) (unknown_of f xs)

ambiguous_of : {X : Type 0} (f : X → Found) (xs : List X) → (any_of f xs).is_ambiguous ≡ list_any (λ x. (f x).is_ambiguous) xs
ambiguous_of f [] = refl
ambiguous_of f (x ∷ xs) = ap (λ b. (f x).is_ambiguous || b) (ambiguous_of f xs)

mismatched_of : {X : Type 0} (f : X → Found) (xs : List X) → (any_of f xs).is_mismatched ≡ list_any (λ x. (f x).is_mismatched) xs
mismatched_of f [] = refl
mismatched_of f (x ∷ xs) = ap (λ b. (f x).is_mismatched || b) (mismatched_of f xs)

pub missing_of : {X : Type 0} (f : X → Found) (xs : List X) → (any_of f xs).is_missing ≡ list_any (λ x. (f x).is_missing) xs
missing_of f [] = refl
missing_of f (x ∷ xs) = ap (λ b. (f x).is_missing || b) (missing_of f xs)

pub refused_of : {X : Type 0} (f : X → Found) (xs : List X) → (any_of f xs).is_refused ≡ list_any (λ x. (f x).is_refused) xs
refused_of f [] = refl
refused_of f (x ∷ xs) = ap (λ b. (f x).is_refused || b) (refused_of f xs)

pub many_keys_of : {X : Type 0} (f : X → Found) (xs : List X) → (any_of f xs).has_many_keys ≡ list_any (λ x. (f x).has_many_keys) xs
many_keys_of f [] = refl
many_keys_of f (x ∷ xs) = ap (λ b. (f x).has_many_keys || b) (many_keys_of f xs)

pub many_args_of : {X : Type 0} (f : X → Found) (xs : List X) → (any_of f xs).has_many_args ≡ list_any (λ x. (f x).has_many_args) xs
many_args_of f [] = refl
many_args_of f (x ∷ xs) = ap (λ b. (f x).has_many_args || b) (many_args_of f xs)

never : {X : Type 0} (xs : List X) → list_any (λ x. false) xs ≡ false
never [] = refl
never (x ∷ xs) = never xs

-- ---- the whole

all_false : {a b c d e : Bool} → a ≡ false → b ≡ false → c ≡ false → d ≡ false → e ≡ false → (a || (b || (c || (d || e)))) ≡ false
all_false a b c d e = rw (a, b, c, d, e) refl

-- nothing is found of operators in what is named of columns
found_is : (a : Asked) → in_asked a ≡ tests_of a
found_is a = same_found
    (rw (twice_of in_expr a.exprs, twice_of in_test a.tests, twice_of in_agg a.aggs, twice_of in_on a.ons, never a.exprs, never a.tests, never a.aggs, never a.ons) (twice_of in_keys a.keys))
    (rw (unknown_of in_expr a.exprs, unknown_of in_test a.tests, unknown_of in_agg a.aggs, unknown_of in_on a.ons, unknown_of in_keys a.keys, never a.tests, never a.aggs) (grind arith))
    (rw (ambiguous_of in_expr a.exprs, ambiguous_of in_test a.tests, ambiguous_of in_agg a.aggs, ambiguous_of in_on a.ons, ambiguous_of in_keys a.keys, never a.tests, never a.aggs) (grind arith))
    (rw (mismatched_of in_expr a.exprs, mismatched_of in_test a.tests, mismatched_of in_agg a.aggs, mismatched_of in_on a.ons, mismatched_of in_keys a.keys, never a.keys, or-false) refl)
    (all_false (missing_of in_expr a.exprs ∙ never a.exprs) (missing_of in_test a.tests ∙ never a.tests) (missing_of in_agg a.aggs ∙ never a.aggs) (missing_of in_on a.ons ∙ never a.ons) (missing_of in_keys a.keys ∙ never a.keys))
    (all_false (refused_of in_expr a.exprs ∙ never a.exprs) (refused_of in_test a.tests ∙ never a.tests) (refused_of in_agg a.aggs ∙ never a.aggs) (refused_of in_on a.ons ∙ never a.ons) (refused_of in_keys a.keys ∙ never a.keys))
    (rw (many_keys_of in_expr a.exprs, many_keys_of in_test a.tests, many_keys_of in_agg a.aggs, many_keys_of in_on a.ons, many_keys_of in_keys a.keys, never a.exprs, never a.tests, never a.aggs) (grind arith))
    (all_false (many_args_of in_expr a.exprs ∙ never a.exprs) (many_args_of in_test a.tests ∙ never a.tests) (many_args_of in_agg a.aggs ∙ never a.aggs) (many_args_of in_on a.ons ∙ never a.ons) (many_args_of in_keys a.keys ∙ never a.keys))

-- a test that nothing else adds to
alone : (a b x : Bool) → a ≡ b → x ≡ false → ((a || false) || x) ≡ b
alone a b x e none = rw (none, or-false (a || false), or-false a) e

or_swap : (a b : Bool) → (a || b) ≡ (b || a)
or_swap a b = grind arith

-- one that calls alone answer
behind : (a own x b : Bool) → a ≡ false → x ≡ b → ((a || own) || x) ≡ (b || own)
behind a own x b none e = rw (none, e) (or_swap own b)

pub tests_are : (ops : Operators) (before : Before) (c : Command) → in_command ops before c ≡ all_tests ops before c
tests_are ops before c =
    let a = asked_by ops before c in
    let calls = inline_calls c in
    let asked : in_asked a ≡ tests_of a = found_is a in
    let inline = any_of (in_call ops) calls in
    same_found
    (alone (in_asked a).is_twice (has_double_key a) inline.is_twice (ap (λ (f : Found). f.is_twice) asked) (twice_of (in_call ops) calls ∙ never calls))
    (alone (in_asked a).is_unknown (names_unknown a) inline.is_unknown (ap (λ (f : Found). f.is_unknown) asked) (unknown_of (in_call ops) calls ∙ never calls))
    (alone (in_asked a).is_ambiguous (names_ambiguous a) inline.is_ambiguous (ap (λ (f : Found). f.is_ambiguous) asked) (ambiguous_of (in_call ops) calls ∙ never calls))
    (alone (in_asked a).is_mismatched (has_mismatch a) inline.is_mismatched (ap (λ (f : Found). f.is_mismatched) asked) (mismatched_of (in_call ops) calls ∙ never calls))
    (behind (in_asked a).is_missing (is_own_missing ops c) inline.is_missing _ (ap (λ (f : Found). f.is_missing) asked) (missing_of (in_call ops) calls))
    (behind (in_asked a).is_refused (not (own_taken ops before c)) inline.is_refused _ (ap (λ (f : Found). f.is_refused) asked) (refused_of (in_call ops) calls))
    (alone (in_asked a).has_many_keys (has_many_keys a) inline.has_many_keys (ap (λ (f : Found). f.has_many_keys) asked) (many_keys_of (in_call ops) calls ∙ never calls))
    (behind (in_asked a).has_many_args (list_any (λ call. nat_lt 16 (length call.args)) (own_calls c)) inline.has_many_args _ (ap (λ (f : Found). f.has_many_args) asked) (many_args_of (in_call ops) calls)
    ∙ sym (list_any-append (λ call. nat_lt 16 (length call.args)) calls (own_calls c)))
