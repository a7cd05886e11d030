use Rattle.std.proofs.Common.{◌≡◌, Some, rules, sym}
use Rattle.csv.specs.Records.{field_at, fields_of}
use Rattle.csv.proofs.RecordFacts.{field-get, field-there}
use Rattle.size_model.proofs.declaration.field.Goals as goal

pub unreachable-requires : goal.unreachable-requires
unreachable-requires c = field-there (fields_of c.args.line.now) c.args.at (search rules) (search rules)

pub returns : goal.returns
returns c =
    let found : field_at (fields_of c.args.line.now) c.args.at ≡ Some c.in-Some.field.now = search rules in
    sym (field-get (fields_of c.args.line.now) c.args.at _ found)
