use Rattle.std.proofs.Common.{◌≡◌, ◌∙◌, Some, cond, ap}
use Rattle.std.specs.Str.{bytes_eq}
use Rattle.std.specs.Vec.{vec_items}
use Rattle.size_model.specs.Answers.{under}
use Rattle.size_model.proofs.TableLemmas.{under_after}
use Rattle.size_model.proofs.sizes.put.Goals as goal

pub returns : goal.returns
returns g c = λ n.
    let key : c.in_ok-key.key.items ≡ c.args.name.now = c.in_ok-key.ensures.items in
    under_after vec_items c.args.table.now c.insert.new.self c.in_ok-key.key.items (Some c.args.value) c.in_ok-insert.ensures.updates n
    ∙ ap (λ z. cond (bytes_eq z n) (Some c.args.value) (under vec_items c.args.table.now n)) key
