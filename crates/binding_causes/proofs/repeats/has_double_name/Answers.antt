use Rattle.std.proofs.Common.{◌≡◌, ◌+◌, true, false, List, ℕ, drop, sym, subst, ◌∙◌, arith}
use Rattle.std.specs.List.{list_any}
use Rattle.std.specs.Str.{bytes_eq}
use Rattle.binding_causes.proofs.RepeatLemmas.{repeats_more, repeats_found}
use Rattle.binding_causes.proofs.repeats.has_double_name.Goals as goal

pub loop-at-preserved : goal.loop-at-preserved
loop-at-preserved g c =
    let none : list_any (λ y. bytes_eq (g.T.Named.named c.index-items-at.result) (g.T.Named.named y)) (drop (c.loop-at.at + 1) c.args.items.now) ≡ false
    = subst (λ (n : List ℕ). list_any (λ y. bytes_eq n (g.T.Named.named y)) (drop (c.loop-at.at + 1) c.args.items.now) ≡ false) c.name.ensures (sym c.if-has_name_from.ensures) in
    c.loop-at.invariant ∙ repeats_more bytes_eq g.T.Named.named c.args.items.now c.loop-at.at c.index-items-at.result (omega arith) c.index-items-at.is none

pub returns-then-has_name_from : goal.returns-then-has_name_from
returns-then-has_name_from g c =
    let found : list_any (λ y. bytes_eq (g.T.Named.named c.index-items-at.result) (g.T.Named.named y)) (drop (c.loop-at.at + 1) c.args.items.now) ≡ true
    = subst (λ (n : List ℕ). list_any (λ y. bytes_eq n (g.T.Named.named y)) (drop (c.loop-at.at + 1) c.args.items.now) ≡ true) c.name.ensures (sym c.if-has_name_from.ensures) in
    sym (c.loop-at.invariant ∙ repeats_found bytes_eq g.T.Named.named c.args.items.now c.loop-at.at c.index-items-at.result (omega arith) c.index-items-at.is found)
