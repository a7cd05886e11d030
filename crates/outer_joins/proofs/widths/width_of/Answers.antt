use Rattle.std.proofs.Common.{decimal, sym, subst, IsUtf8}
use Rattle.std.proofs.lemmas.Fmt.{IsAscii-decimal}
use Rattle.std.proofs.lemmas.Str.{IsUtf8-from_ascii}
use Rattle.outer_joins.proofs.WidthLemmas.{no_width}
use Rattle.outer_joins.proofs.widths.width_of.Goals as goal

pub returns-in-Err : goal.returns-in-Err
returns-in-Err c =
    sym (no_width c.args.arg.now (λ n small is.
    c.in-Err.ensures.cases.0 (subst IsUtf8 (sym is) (IsUtf8-from_ascii (decimal n) (IsAscii-decimal n small)))))
