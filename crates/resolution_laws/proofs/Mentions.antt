-- The mentions of results in a script are those in the statements that its names resolve to.
use Rattle.std.proofs.Common.{◌≡◌, ℕ, zero, suc, ◌+◌, ◌-◌, not, cond, nat_lt, List, [], ◌∷◌, ◌++◌, flat_map, length, refl, ap, ap₂, ◌∙◌, append-nil, Option, Some, None, slice_get}
use Rattle.std.specs.List.{position_or_len}
use Rattle.script_trees.specs.declared.command.Command as raw_command
use Rattle.script_trees.specs.declared.command.Command.TheVariants.{Extract, Select, Process, Reduce, Combine, Output}
use Rattle.script_trees.specs.declared.script.Statement as raw_statement
use Rattle.script_trees.specs.declared.select.Joined as raw_joined
use Rattle.script_trees.specs.declared.source.Source as raw_source
use Rattle.script_trees.specs.declared.source.Origin.{Origin}
use Rattle.script_trees.specs.declared.source.Origin.TheVariants.{Named, Stream}
use Rattle.user_ops.specs.Told.{Operators}
use Rattle.outer_joins.specs.declared.side.Side.{Side}
use Rattle.placed_trees.specs.declared.statement.Statement.{Statement}
use Rattle.placed_trees.specs.Inputs as there
use Rattle.names_in_sight.specs.declared.input.Input.{Input}
use Rattle.names_in_sight.specs.Inputs.{Before, is_named, named, gives, result_of, input_at, input_of}
use Rattle.names_in_sight.specs.Views.{outer_side}
use Rattle.name_resolution.specs.Queries.{resolved_origin, first_source, joins_from, beside_one, beside_of}
use Rattle.name_resolution.specs.Resolved.{source_of, resolved, resolved_statement, after}
use Rattle.binding_causes.specs.Names.{origin_inputs, source_inputs, from_inputs, inputs}
use Rattle.binding_causes.specs.Limits.{one_or_none, mentions_in, mentions}
use Rattle.script_meaning.specs.Bound as bound
use Rattle.resolution_laws.specs.Causeless.{resolved_all}

-- ---- the inputs of a command

pub origin_same : (ops : Operators) (o : Origin) → origin_inputs o ≡ bound.source_inputs (resolved_origin ops o)
origin_same ops (Named n) = refl
origin_same ops (Stream name call) = refl

pub source_same : (ops : Operators) (o : Option raw_source.Source) → source_inputs o ≡ bound.source_inputs (source_of ops o)
source_same ops None = refl
source_same ops (Some s) = origin_same ops s.origin

pub joins_same : (ops : Operators) (before : Before) (done : List Input) (js : List raw_joined.Joined)
    → flat_map (λ j. origin_inputs j.source.origin) js ≡ flat_map (λ j. bound.source_inputs j.source) (joins_from ops before done js)
joins_same ops before done [] = refl
joins_same ops before done (j ∷ more) = ap₂ (λ a b. a ++ b) (origin_same ops j.source.origin) (joins_same ops before (done ++ input_of ops before j.source ∷ []) more)

pub from_same : (ops : Operators) (before : Before) (js : List raw_joined.Joined)
    → from_inputs js ≡ bound.source_inputs (first_source ops js) ++ bound.beside_inputs (beside_of ops before js)
from_same ops before [] = refl
from_same ops before (j ∷ []) = ap (λ a. a ++ []) (origin_same ops j.source.origin)
from_same ops before (j ∷ (k ∷ [])) = go (outer_side k.side)
  where
    go : (o : Option Side) → origin_inputs j.source.origin ++ (origin_inputs k.source.origin ++ [])
        ≡ bound.source_inputs (resolved_origin ops j.source.origin) ++ bound.beside_inputs (beside_one ops before (input_of ops before j.source) k o)
    go None = ap₂ (λ a b. a ++ (b ++ [])) (origin_same ops j.source.origin) (origin_same ops k.source.origin)
    go (Some side) = ap₂ (λ a b. a ++ b) (origin_same ops j.source.origin) (append-nil (origin_inputs k.source.origin) ∙ origin_same ops k.source.origin)
from_same ops before (j ∷ (k ∷ (l ∷ more))) =
    ap₂ (λ a b. a ++ b) (origin_same ops j.source.origin) (joins_same ops before (input_of ops before j.source ∷ []) (k ∷ (l ∷ more)))

-- a command names the inputs that the resolved one has
pub inputs_same : (ops : Operators) (before : Before) (c : raw_command.Command) → inputs c ≡ bound.inputs (resolved ops before c)
inputs_same ops before (Extract cols stream call stored) = refl
inputs_same ops before (Select s) = from_same ops before s.sources
inputs_same ops before (Process source call cols) = source_same ops source
inputs_same ops before (Reduce source presort on call cols) = source_same ops source
inputs_same ops before (Combine left left_presort right right_presort on call cols) =
    ap₂ (λ a b. a ++ b) (origin_same ops left.origin) (origin_same ops right.origin)
inputs_same ops before (Output source stream outputter stored) = refl

pub gives_same : (ops : Operators) (before : Before) (c : raw_command.Command) → gives c ≡ there.gives (resolved ops before c)
gives_same ops before (Extract cols stream call stored) = refl
gives_same ops before (Select s) = refl
gives_same ops before (Process source call cols) = refl
gives_same ops before (Reduce source presort on call cols) = refl
gives_same ops before (Combine left left_presort right right_presort on call cols) = refl
gives_same ops before (Output source stream outputter stored) = refl

-- ---- which statement an input is the result of

-- statement by statement the name is the same, and whether there is a result
abbrev pub AreAlike : List raw_statement.Statement → List Statement → Type 0
AreAlike [] [] = Unit {0}
AreAlike (s ∷ xs) (t ∷ ys) = (s.name ≡ t.name) × (gives s.command ≡ there.gives t.command) × AreAlike xs ys
AreAlike xs ys = ⊥

pub alike_resolved : (ops : Operators) (before : Before) (xs : List raw_statement.Statement) → AreAlike xs (resolved_all ops before xs)
alike_resolved ops before [] = tt
alike_resolved ops before (s ∷ xs) = (refl, gives_same ops before s.command, alike_resolved ops (after ops before s) xs)

pub alike_more : (ops : Operators) (before : Before) (xs : List raw_statement.Statement) (ys : List Statement) (s : raw_statement.Statement)
    → AreAlike xs ys → AreAlike (xs ++ s ∷ []) (ys ++ resolved_statement ops before s ∷ [])
alike_more ops before [] [] s h = (refl, gives_same ops before s.command, tt)
alike_more ops before [] (t ∷ ys) s h = absurd h
alike_more ops before (x ∷ xs) [] s h = absurd h
alike_more ops before (x ∷ xs) (t ∷ ys) s h = (h.0, h.1, alike_more ops before xs ys s h.2)

pub alike_length : (xs : List raw_statement.Statement) (ys : List Statement) → AreAlike xs ys → length xs ≡ length ys
alike_length [] [] h = refl
alike_length [] (t ∷ ys) h = absurd h
alike_length (x ∷ xs) [] h = absurd h
alike_length (x ∷ xs) (t ∷ ys) h = ap suc (alike_length xs ys h.2)

named_same : (o : Option (List ℕ)) (n : List ℕ) → named o n ≡ there.named o n
named_same None n = refl
named_same (Some m) n = refl

alike_position : (n : List ℕ) (xs : List raw_statement.Statement) (ys : List Statement) → AreAlike xs ys
    → position_or_len (is_named n) xs ≡ position_or_len (there.is_named n) ys
alike_position n [] [] h = refl
alike_position n [] (t ∷ ys) h = absurd h
alike_position n (x ∷ xs) [] h = absurd h
alike_position n (x ∷ xs) (t ∷ ys) h =
    ap₂ (λ b k. cond {A = ℕ} (not b) (1 + k) 0) (named_same x.name n ∙ ap (λ o. there.named o n) h.0) (alike_position n xs ys h.2)

alike_result : (xs : List raw_statement.Statement) (ys : List Statement) (k n : ℕ) → AreAlike xs ys
    → result_of (slice_get xs k) n ≡ there.result_of (slice_get ys k) n
alike_result [] [] k n h = refl
alike_result [] (t ∷ ys) k n h = absurd h
alike_result (x ∷ xs) [] k n h = absurd h
alike_result (x ∷ xs) (t ∷ ys) zero n h = ap (λ b. cond b (Some n) None) h.1
alike_result (x ∷ xs) (t ∷ ys) (suc k) n h = alike_result xs ys k n h.2

pub alike_input : (xs : List raw_statement.Statement) (ys : List Statement) (i : Option (List ℕ)) → AreAlike xs ys → input_at xs i ≡ there.input_at ys i
alike_input xs ys (Some n) h = ap₂ (λ k m. cond (nat_lt k m) (Some k) None) (alike_position n xs ys h) (alike_length xs ys h)
alike_input xs ys None h =
    alike_result xs ys (length xs - 1) (length xs - 1) h ∙ ap (λ m. there.result_of (slice_get ys (m - 1)) (m - 1)) (alike_length xs ys h)

-- an input is the result of the statement that it is of among the resolved ones
pub input_same : (ops : Operators) (before : Before) (earlier : List raw_statement.Statement) (i : Option (List ℕ))
    → input_at earlier i ≡ there.input_at (resolved_all ops before earlier) i
input_same ops before earlier i = alike_input earlier (resolved_all ops before earlier) i (alike_resolved ops before earlier)

-- ---- mentions

one_same : (o p : Option ℕ) → o ≡ p → one_or_none o ≡ bound.one_or_none p
one_same None None h = refl
one_same None (Some k) h = absurd (cc)
one_same (Some j) None h = absurd (cc)
one_same (Some j) (Some k) h = let same : j ≡ k = cc in ap (λ m. m ∷ []) same

mentioned_same : (xs : List raw_statement.Statement) (ys : List Statement) → AreAlike xs ys → (is : List (Option (List ℕ)))
    → flat_map (λ i. one_or_none (input_at xs i)) is ≡ flat_map (λ i. bound.one_or_none (there.input_at ys i)) is
mentioned_same xs ys h [] = refl
mentioned_same xs ys h (i ∷ is) = ap₂ (λ a b. a ++ b) (one_same (input_at xs i) (there.input_at ys i) (alike_input xs ys i h)) (mentioned_same xs ys h is)

-- those of one command
pub mentions_in_same : (ops : Operators) (before : Before) (xs : List raw_statement.Statement) (ys : List Statement) (c : raw_command.Command) → AreAlike xs ys
    → mentions_in xs c ≡ flat_map (λ i. bound.one_or_none (there.input_at ys i)) (bound.inputs (resolved ops before c))
mentions_in_same ops before xs ys c h =
    mentioned_same xs ys h (inputs c) ∙ ap (λ is. flat_map (λ i. bound.one_or_none (there.input_at ys i)) is) (inputs_same ops before c)

-- those of the statements behind some
pub mentions_alike : (ops : Operators) (before : Before) (xs : List raw_statement.Statement) (ys : List Statement) (rest : List raw_statement.Statement) → AreAlike xs ys
    → mentions xs rest ≡ bound.mentions ys (resolved_all ops before rest)
mentions_alike ops before xs ys [] h = refl
mentions_alike ops before xs ys (s ∷ rest) h =
    ap₂ (λ a b. a ++ b) (mentions_in_same ops before xs ys s.command h)
    (mentions_alike ops (after ops before s) (xs ++ s ∷ []) (ys ++ resolved_statement ops before s ∷ []) rest (alike_more ops before xs ys s h))

pub mentions_same : (ops : Operators) (before : Before) (rest : List raw_statement.Statement) → mentions [] rest ≡ bound.mentions [] (resolved_all ops before rest)
mentions_same ops before rest = mentions_alike ops before [] [] rest tt
