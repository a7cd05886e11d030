use Rattle.std.proofs.Common.{◌≡◌, ◌++◌, length, rules}
use Rattle.names_in_sight.specs.Sight.{sight_of, seen_from}
use Rattle.names_in_sight.proofs.SightLemmas.{beyond}
use Rattle.names_in_sight.proofs.sight.sight_beyond.Goals as goal

pub returns : goal.returns
returns c =
    let old : c.in_ok-names.names ≡ sight_of c.args.done.now = search rules in
    let new : c.see.new.entries ≡ c.in_ok-names.names.entries ++ seen_from c.args.input.now.alias (length c.in_ok-names.names.entries) c.args.input.now.columns = search rules in
    beyond c.args.done.now c.args.input.now c.in_ok-names.names c.see.new.entries old new
