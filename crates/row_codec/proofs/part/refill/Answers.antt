use Rattle.std.proofs.Common.{◌≡◌, ◌∙◌, ◌++◌, ◌<◌, ℕ, List, [], ◌∷◌, Some, rules, ap₂, length, sym, true}
use Rattle.std.specs.Result.{is_ok}
use Rattle.std.proofs.lemmas.List.{take_more}
use Rattle.csv.specs.Records.{field_at, fields_of}
use Rattle.csv.proofs.RecordFacts.{field-get, field-there}
use Rattle.row_codec.proofs.part.refill.Goals as goal

pub unreachable-requires : goal.unreachable-requires
unreachable-requires c = field-there (fields_of c.args.line.now) c.loop-at.at (search rules) (search rules)

pub loop-at-preserved : goal.loop-at-preserved
loop-at-preserved c =
    let at : field_at (fields_of c.args.line.now) c.loop-at.at ≡ Some c.in-Some.field.now = search rules in
    let is = field-get (fields_of c.args.line.now) c.loop-at.at _ at in
    let good : is_ok c.push.result ≡ true = search rules in
    let items = rw good at c.push.ensures.items in
    let text : c.in_ok-from_slice.field-0 ≡ c.in-Some.field.now = search rules in
    let lt : c.loop-at.at < length (fields_of c.args.line.now) = search rules in
    rw (items, take_more (fields_of c.args.line.now) c.loop-at.at [] lt)
    (ap₂ (λ (a : List (List ℕ)) (b : List ℕ). a ++ b ∷ []) c.loop-at.invariant (text ∙ sym is))
