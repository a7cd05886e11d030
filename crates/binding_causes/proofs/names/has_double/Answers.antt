use Rattle.std.proofs.Common.{◌∙◌, ap}
use Rattle.std.specs.Str.{bytes_eq}
use Rattle.std.proofs.lemmas.List.{map-id}
use Rattle.binding_causes.specs.Columns.{repeats}
use Rattle.binding_causes.proofs.names.has_double.Goals as goal

pub returns : goal.returns
returns c = c.has_double_name.ensures ∙ ap (repeats bytes_eq) (map-id c.args.names.now)
