use Rattle.std.proofs.Common.{◌≡◌, ◌||◌, ℕ, Bool, Option, not, is_some, length, nat_lt, ap, ap₂, ◌∙◌}
use Rattle.std.specs.List.{list_any}
use Rattle.names_in_sight.specs.Inputs.{Before, before_of, input_at}
use Rattle.user_ops.specs.Told.{Operators}
use Rattle.binding_causes.specs.declared.cause.BindCause.{BindCause}
use Rattle.binding_causes.specs.declared.judging.Tests.{Tests}
use Rattle.binding_causes.specs.declared.seen.Seen.{Seen}
use Rattle.binding_causes.specs.Columns.{has_double_star}
use Rattle.binding_causes.specs.Found.{all_tests}
use Rattle.binding_causes.specs.Judging.{causes_by}
use Rattle.binding_causes.specs.Limits.{shared_among, count_of, has_many_inputs}
use Rattle.binding_causes.specs.Names.{inputs, has_unknown_name, is_taken, has_double_alias, declares_twice, is_written_before}
use Rattle.binding_causes.specs.Resolution.{first_true, is_top_alone}
use Rattle.binding_causes.proofs.JudgingLemmas.{same_tests}
use Rattle.binding_causes.proofs.RepeatLemmas.{any_of_map}
use Rattle.binding_causes.proofs.judging.judge.Goals as goal

pub returns : goal.returns
returns g c =
    let told : Operators = g.O.Tells.tells c.args.ops.now in
    let at = c.args.at.now in
    let before : Before = before_of at.statements.now at.headings.now in
    let s = c.args.statement.now in
    let seen = c.in_ok-seen.seen in
    let duplicate : Bool → Bool = λ twice.
    is_taken at.statements.now s.name || (has_double_alias s.command || (declares_twice s.command || (twice || is_written_before at.statements.now s.command))) in
    let tests : Tests = record {
      found = seen.found;
      has_unknown_name = c.is_one_missing.result;
      is_duplicate = c.in_ok-is_duplicate.is_duplicate;
      is_star_double = seen.is_star_double;
      is_top_alone = c.is_top_alone.result;
      has_many_statements = nat_lt 63 (length at.statements.now);
      has_many_columns = nat_lt 128 seen.count;
      has_many_inputs = c.has_many_inputs.result;
      has_many_shared = nat_lt 4 c.shared_among.result;
    } in
    let wanted : Tests = record {
      found = all_tests told before s.command;
      has_unknown_name = has_unknown_name at.statements.now s.command;
      is_duplicate = duplicate (all_tests told before s.command).is_twice;
      is_star_double = has_double_star told before s.command;
      is_top_alone = is_top_alone s.command;
      has_many_statements = nat_lt 63 (length at.statements.now);
      has_many_columns = nat_lt 128 (count_of told at.all.now before at.counts.now s.command);
      has_many_inputs = has_many_inputs s.command;
      has_many_shared = nat_lt 4 (shared_among c.args.near.now (length at.statements.now));
    } in
    let same : tests ≡ wanted = same_tests tests wanted
    (ap (λ (v : Seen). v.found) c.in_ok-seen.ensures)
    (c.is_one_missing.ensures ∙ ap (list_any (λ (n : Option ℕ). not (is_some n))) c.requires ∙ any_of_map (λ (n : Option ℕ). not (is_some n)) (input_at at.statements.now) (inputs s.command))
    (c.in_ok-is_duplicate.ensures ∙ ap (λ (v : Seen). duplicate v.found.is_twice) c.in_ok-seen.ensures)
    (ap (λ (v : Seen). v.is_star_double) c.in_ok-seen.ensures)
    c.is_top_alone.ensures
    (ap (λ (v : Seen). nat_lt 128 v.count) c.in_ok-seen.ensures)
    c.has_many_inputs.ensures
    (ap (nat_lt 4) c.shared_among.ensures) in
    ap₂ (λ (cause : Option BindCause) (n : ℕ). record { cause = cause; count = n }) (c.pick.ensures ∙ ap (λ (t : Tests). first_true (causes_by t)) same)
    (ap (λ (v : Seen). v.count) c.in_ok-seen.ensures)
