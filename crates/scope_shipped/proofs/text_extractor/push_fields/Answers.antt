use Rattle.std.proofs.Common.{◌≡◌, length, rules}
use Rattle.scope_shipped.proofs.TextExtracts.{refused-count}
use Rattle.scope_shipped.proofs.text_extractor.push_fields.Goals as goal

pub returns-then-fields-columns-clause-read : goal.returns-then-fields-columns-clause-read
returns-then-fields-columns-clause-read c =
    let other : length c.args.fields.now ≡ length c.args.columns.now → ⊥ = search rules in
    refused-count c.args.out.now.items c.args.columns.now c.args.fields.now other
