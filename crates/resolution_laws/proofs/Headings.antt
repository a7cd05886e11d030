-- An input has as many columns as the part that stands for it.
use Rattle.std.proofs.Common.{◌≡◌, ℕ, zero, suc, ◌-◌, ◌+◌, ◌<◌, Bool, true, false, cond, not, List, [], ◌∷◌, ◌++◌, length, get_or, append-nil, refl, sym, ap, ◌∙◌, subst, arith, Option, Some, None, slice_get}
use Rattle.std.specs.Prelude.{is_some, IsSomeAnd}
use Rattle.std.specs.Option.{option_map_or, option_and_then}
use Rattle.std.specs.List.{All, list_any}
use Rattle.std.proofs.lemmas.List.FromFn.{length-range_with_len}
use Rattle.std.proofs.lemmas.List.Quantifiers.{position-Some}
use Rattle.std.proofs.lemmas.Option.{slice_get_within, slice_get-get_or}
use Rattle.scope_value.specs.declared.schema.Column.{Column}
use Rattle.script_trees.specs.declared.command.Command as raw_command
use Rattle.script_trees.specs.declared.command.Command.TheVariants.{Extract, Select, Process, Reduce, Combine, Output}
use Rattle.script_trees.specs.declared.script.Statement as raw_statement
use Rattle.script_trees.specs.declared.source.Source as raw_source
use Rattle.script_trees.specs.declared.source.Origin.{Origin}
use Rattle.script_trees.specs.declared.source.Origin.TheVariants.{Named, Stream}
use Rattle.scope_syntax.specs.Statements.{can_be_named}
use Rattle.scope_syntax.specs.Written.{IsRight}
use Rattle.user_ops.specs.Told.{Operators}
use Rattle.placed_trees.specs.declared.statement.Statement.{Statement}
use Rattle.placed_trees.specs.Inputs as there
use Rattle.names_in_sight.specs.declared.input.Input.{Input}
use Rattle.names_in_sight.specs.Operators.{inline_columns}
use Rattle.names_in_sight.specs.Inputs.{Before, is_named, named, gives, result_of, input_at, heading_at, columns_of, columns_of_all, input_of_opt}
use Rattle.names_in_sight.specs.Sight.{sight_of}
use Rattle.names_in_sight.specs.Views.{view_of}
use Rattle.name_resolution.specs.Queries.{resolved_origin, first_source, beside_of, query_of}
use Rattle.name_resolution.specs.Resolved.{source_of, resolved, heading_of}
use Rattle.binding_causes.specs.Names.{origin_inputs, source_inputs}
use Rattle.script_meaning.specs.Part.{Part}
use Rattle.script_meaning.specs.Bound.{is_shared, stands, found, placed, source_part, beside_part, bound}
use Rattle.script_meaning.specs.Dag.{or_nothing, part_at}
use Rattle.script_meaning.specs.Placed.{IsInputThere, IsSourceThere}
use Rattle.resolution_laws.proofs.Mentions.{AreAlike, alike_input}
use Rattle.resolution_laws.proofs.SightPlaces.{neither, known, IsSightBelow, sight_below}
use Rattle.resolution_laws.proofs.ViewPlaces.{query_wide, length_heading, length_exprs}

-- ---- statements, headings and parts side by side

-- the heading of a statement that gives a result is as wide as its part
abbrev pub AreWide : List raw_statement.Statement → List (List Column) → List Part → Type 0
AreWide [] [] [] = Unit {0}
AreWide [] [] (b ∷ env) = ⊥
AreWide [] (h ∷ headings) env = ⊥
AreWide (s ∷ xs) [] env = ⊥
AreWide (s ∷ xs) (h ∷ headings) [] = ⊥
AreWide (s ∷ xs) (h ∷ headings) (b ∷ env) = (gives s.command ≡ true → length h ≡ length b.cols) × AreWide xs headings env

pub wide_more : (xs : List raw_statement.Statement) (headings : List (List Column)) (env : List Part) (s : raw_statement.Statement) (h : List Column) (b : Part)
    → AreWide xs headings env → (gives s.command ≡ true → length h ≡ length b.cols) → AreWide (xs ++ s ∷ []) (headings ++ h ∷ []) (env ++ b ∷ [])
wide_more [] [] [] s h b w new = (new, tt)
wide_more [] [] (c ∷ env) s h b w new = absurd w
wide_more [] (g ∷ headings) env s h b w new = absurd w
wide_more (x ∷ xs) [] env s h b w new = absurd w
wide_more (x ∷ xs) (g ∷ headings) [] s h b w new = absurd w
wide_more (x ∷ xs) (g ∷ headings) (c ∷ env) s h b w new = (w.0, wide_more xs headings env s h b w.1 new)

pub wide_length : (xs : List raw_statement.Statement) (headings : List (List Column)) (env : List Part) → AreWide xs headings env → length xs ≡ length env
wide_length [] [] [] w = refl
wide_length [] [] (c ∷ env) w = absurd w
wide_length [] (g ∷ headings) env w = absurd w
wide_length (x ∷ xs) [] env w = absurd w
wide_length (x ∷ xs) (g ∷ headings) [] w = absurd w
wide_length (x ∷ xs) (g ∷ headings) (c ∷ env) w = ap suc (wide_length xs headings env w.1)

-- statement k gives a result
pub record GivesAt (xs : List raw_statement.Statement) (k : ℕ) : Type 0 where
  pub statement : raw_statement.Statement
  pub here : slice_get xs k ≡ Some statement
  pub result : gives statement.command ≡ true

wide_at : (xs : List raw_statement.Statement) (headings : List (List Column)) (env : List Part) → AreWide xs headings env → (k : ℕ) (s : raw_statement.Statement)
    → slice_get xs k ≡ Some s → gives s.command ≡ true → length (option_map_or (λ cs. cs) (slice_get headings k) []) ≡ length (part_at env k).cols
wide_at [] headings env w k s e g = absurd (cc)
wide_at (x ∷ xs) [] env w k s e g = absurd w
wide_at (x ∷ xs) (h ∷ headings) [] w k s e g = absurd w
wide_at (x ∷ xs) (h ∷ headings) (b ∷ env) w zero s e g =
    let f : Some x ≡ Some s = e in
    let same : x ≡ s = cc in
    w.0 (subst (λ (y : raw_statement.Statement). gives y.command ≡ true) (sym same) g)
wide_at (x ∷ xs) (h ∷ headings) (b ∷ env) w (suc k) s e g = wide_at xs headings env w.1 k s e g

-- ---- an input is the number of a statement that gives a result

nameable_gives : (c : raw_command.Command) → can_be_named c ≡ true → gives c ≡ true
nameable_gives (Extract cols stream call stored) h = refl
nameable_gives (Select s) h = refl
nameable_gives (Process source call cols) h = refl
nameable_gives (Reduce source presort on call cols) h = refl
nameable_gives (Combine left left_presort right right_presort on call cols) h = refl
nameable_gives (Output source stream outputter stored) h = absurd (cc)

has_name : (o : Option (List ℕ)) (n : List ℕ) → named o n ≡ true → is_some o ≡ true
has_name None n h = absurd (cc)
has_name (Some m) n h = refl

an_output : raw_statement.Statement
an_output = record { name = None; command = Output None [] None None }

result_gives : (xs : List raw_statement.Statement) (j k : ℕ) (o : Option raw_statement.Statement) → slice_get xs j ≡ o → result_of o j ≡ Some k → GivesAt xs k
result_gives xs j k None e h = absurd (cc)
result_gives xs j k (Some s) e h = go (gives s.command) refl h
  where
    go : (b : Bool) → gives s.command ≡ b → cond b (Some j) None ≡ Some k → GivesAt xs k
    go true g f = let same : j ≡ k = cc in record { statement = s; here = subst (λ (n : ℕ). slice_get xs n ≡ Some s) same e; result = g }
    go false g f = absurd (cc)

pub input_gives : (xs : List raw_statement.Statement) → All IsRight xs → (i : Option (List ℕ)) (k : ℕ) → input_at xs i ≡ Some k → GivesAt xs k
input_gives xs right None k e = result_gives xs (length xs - 1) k (slice_get xs (length xs - 1)) refl e
input_gives xs right (Some n) k e =
    let at = position-Some (is_named n) xs k an_output e in
    let s = get_or xs k an_output in
    record {
      statement = s;
      here = slice_get-get_or xs k an_output at.0;
      result = nameable_gives s.command ((right k an_output at.0).1 (has_name s.name n at.1));
    }

-- ---- parts of inputs

stands_wide : (s : Bool) (k : ℕ) (b : Part) → length (stands s k b).cols ≡ length b.cols
stands_wide true k b = length-range_with_len 0 (length b.cols)
stands_wide false k b = refl

pub found_wide : (all : List ℕ) (k : ℕ) (o : Option Part) → length (found all k o).cols ≡ length (or_nothing o).cols
found_wide all k None = refl
found_wide all k (Some b) = stands_wide (is_shared all k) k b

-- what stands before a statement, resolved and in parts
pub record IsBefore (before : Before) (earlier : List Statement) (env : List Part) : Type 0 where
  pub right : All IsRight before.statements
  pub alike : AreAlike before.statements earlier
  pub wide : AreWide before.statements before.headings env

-- an input is the result of no earlier statement
abbrev pub is_missing : List raw_statement.Statement → Option (List ℕ) → Bool
is_missing xs i = not (is_some (input_at xs i))

pub one_input : (i : Input) → length (columns_of_all (i ∷ [])) ≡ length i.columns
one_input i = ap length (append-nil i.columns)

module _ (ops : Operators) (all : List ℕ) (before : Before) (earlier : List Statement) (env : List Part) (is : IsBefore before earlier env) where
  pub input_wide : (i : Option (List ℕ)) → length (heading_at before i) ≡ length (placed all env (there.input_at earlier i)).cols
  input_wide i = go (input_at before.statements i) refl ∙ ap (λ o. length (placed all env o).cols) (alike_input before.statements earlier i is.alike)
    where
      go : (o : Option ℕ) → input_at before.statements i ≡ o
          → length (option_map_or (λ (cs : List Column). cs) (option_and_then (λ k. slice_get before.headings k) o) []) ≡ length (placed all env o).cols
      go None e = refl
      go (Some k) e =
          let r = input_gives before.statements is.right i k e in
          wide_at before.statements before.headings env is.wide k r.statement r.here r.result ∙ sym (found_wide all k (slice_get env k))

  pub input_there : (i : Option (List ℕ)) → is_missing before.statements i ≡ false → IsInputThere earlier env i
  input_there i h =
      subst (λ (o : Option ℕ). IsSomeAnd o (λ k. k < length env)) (alike_input before.statements earlier i is.alike)
      (go (input_at before.statements i) refl (known (is_some (input_at before.statements i)) h))
    where
      go : (o : Option ℕ) → input_at before.statements i ≡ o → is_some o ≡ true → IsSomeAnd o (λ k. k < length env)
      go None e s = absurd (cc)
      go (Some k) e s =
          let r = input_gives before.statements is.right i k e in
          let within : k < length before.statements = slice_get_within before.statements k r.statement r.here in
          let long : length before.statements ≡ length env = wide_length before.statements before.headings env is.wide in
          omega arith

  pub origin_wide : (o : Origin) → length (columns_of ops before o) ≡ length (source_part all earlier env (resolved_origin ops o)).cols
  origin_wide (Named n) = input_wide (Some n)
  origin_wide (Stream name call) = sym (length-range_with_len 0 (length (inline_columns ops call.op)))

  pub source_wide : (o : Option raw_source.Source) → length (input_of_opt ops before o).columns ≡ length (source_part all earlier env (source_of ops o)).cols
  source_wide None = input_wide None
  source_wide (Some s) = origin_wide s.origin

  pub origin_there : (o : Origin) → list_any (is_missing before.statements) (origin_inputs o) ≡ false → IsSourceThere earlier env (resolved_origin ops o)
  origin_there (Named n) h = input_there (Some n) (neither (is_missing before.statements (Some n)) false h).0
  origin_there (Stream name call) h = tt

  pub source_there : (o : Option raw_source.Source) → list_any (is_missing before.statements) (source_inputs o) ≡ false → IsSourceThere earlier env (source_of ops o)
  source_there None h = input_there None (neither (is_missing before.statements None) false h).0
  source_there (Some s) h = origin_there s.origin h

  -- the columns of one input, as names see them
  pub one_below : (i : Input) (b : Part) → length i.columns ≡ length b.cols → IsSightBelow (length b.cols) (sight_of (i ∷ []))
  one_below i b wide = subst (λ (n : ℕ). IsSightBelow n (sight_of (i ∷ []))) (one_input i ∙ wide) (sight_below (i ∷ []))

  -- ---- the part of a command

  pub command_wide : (c : raw_command.Command) → gives c ≡ true → length (heading_of ops before c) ≡ length (bound all earlier env (resolved ops before c)).cols
  command_wide (Extract cols stream call stored) g = sym (length-range_with_len 0 (length cols))
  command_wide (Select s) g =
      length_heading (view_of ops before s).outputs
      ∙ sym (length_exprs (view_of ops before s).outputs)
      ∙ sym (query_wide (query_of ops before s (view_of ops before s)) (beside_part all earlier env (source_part all earlier env (first_source ops s.sources)) (beside_of ops before s.sources)))
  command_wide (Process source call cols) g = sym (length-range_with_len (source_part all earlier env (source_of ops source)).count (length cols))
  command_wide (Reduce source presort on call cols) g = sym (length-range_with_len (source_part all earlier env (source_of ops source)).count (length cols))
  command_wide (Combine left left_presort right right_presort on call cols) g =
      sym (length-range_with_len ((source_part all earlier env (resolved_origin ops left.origin)).count + (source_part all earlier env (resolved_origin ops right.origin)).count) (length cols))
  command_wide (Output source stream outputter stored) g = absurd (cc)
