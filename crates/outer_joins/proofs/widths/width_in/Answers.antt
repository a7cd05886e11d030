use Rattle.std.proofs.Common.{◌≡◌, ◌<◌, ◌^◌, true, decimal, sym, rules, arith}
use Rattle.std.proofs.lemmas.Fmt.{parse-decimal}
use Rattle.outer_joins.proofs.WidthLemmas.{width-named, no_width}
use Rattle.outer_joins.proofs.widths.width_in.Goals as goal

pub returns-then-eq : goal.returns-then-eq
returns-then-eq c =
    let fits : c.in-Ok.number < 2 ^ 64 = omega (arith, c.in-Ok.ensures.value.0) in
    let text : c.args.text.now ≡ decimal c.in-Ok.number = search rules in
    sym (width-named c.args.text.now c.in-Ok.number fits text)

pub returns-else-eq : goal.returns-else-eq
returns-else-eq c =
    sym (no_width c.args.text.now (λ n small is.
    let read = parse-decimal 64 n _ _ small small is c.parse.ensures.value.0 in
    let text : c.format.result.now ≡ c.args.text.now = cc is in
    let same : c.eq.result ≡ true = search rules in
    let other = c.if-eq.false in cc))

pub returns-in-Err : goal.returns-in-Err
returns-in-Err c =
    sym (no_width c.args.text.now (λ n small is. cc (parse-decimal 64 n _ _ small small is c.parse.ensures.value.0)))
