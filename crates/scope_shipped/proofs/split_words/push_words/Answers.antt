use Rattle.std.proofs.Common.{◌∙◌, ◌==◌, sym, length, [], ◌∷◌, rules, tests}
use Rattle.std.specs.List.{slice_split}
use Rattle.std.proofs.lemmas.Iterator.Consumers.{YieldsList-turn, YieldsList-end}
use Rattle.std.proofs.lemmas.Iterator.Splits.{YieldsList-from_slice_split}
use Rattle.std.proofs.lemmas.List.{length_push}
use Rattle.scope_value.specs.declared.value.Value.TheVariants.{Bytes}
use Rattle.user_ops.specs.Adding.{IsAdding-more, IsAdding-left, AddsSome-from_adding, adding-whole}
use Rattle.scope_shipped.proofs.Exits.{on_err}
use Rattle.scope_shipped.proofs.WordSteps.{part-with_bytes, part-without, parts-end}
use Rattle.scope_shipped.proofs.split_words.push_words.Goals as goal

pub loop-part-preserved-in-Continue-1 : goal.loop-part-preserved-in-Continue-1
loop-part-preserved-in-Continue-1 c =
    let turn = YieldsList-turn (YieldsList-from_slice_split _ (λ b. b == 32) c.args.text.now (cc) (cc) (cc) (λ x b q k. search (rules, tests)))
    c.loop-part.yielded _ c.loop-part.yielded_by _ _ c.in-Some.part c.in-Some.is c.next.ensures.steps in
    IsAdding-more _ _ _ _ _ ((Bytes c.in-Some.part.now ∷ []) ∷ [])
    (IsAdding-left _ _ _ _ _ c.loop-part.invariant
    (part-with_bytes (slice_split (λ b. b == 32) c.args.text.now) (length c.loop-part.yielded) c.in-Some.part.now turn.0 turn.1
    _ (length_push c.loop-part.yielded c.in-Some.part) (sym c.is_empty.ensures ∙ c.if-not-is_empty.true)))
    c.in_ok-push_word.ensures.ok

pub returns-in_err-push_word-clause-err : goal.returns-in_err-push_word-clause-err
returns-in_err-push_word-clause-err c =
    rw c.in_err-push_word.ensures.err (on_err _ _ (AddsSome-from_adding _ _ _ _ c.loop-part.invariant))

pub loop-part-preserved : goal.loop-part-preserved
loop-part-preserved c =
    let turn = YieldsList-turn (YieldsList-from_slice_split _ (λ b. b == 32) c.args.text.now (cc) (cc) (cc) (λ x b q k. search (rules, tests)))
    c.loop-part.yielded _ c.loop-part.yielded_by _ _ c.in-Some.part c.in-Some.is c.next.ensures.steps in
    IsAdding-left _ _ _ _ _ c.loop-part.invariant
    (part-without (slice_split (λ b. b == 32) c.args.text.now) (length c.loop-part.yielded) c.in-Some.part.now turn.0 turn.1
    _ (length_push c.loop-part.yielded c.in-Some.part) (sym c.is_empty.ensures ∙ c.if-not-is_empty.false))

pub returns-clause-ok : goal.returns-clause-ok
returns-clause-ok c =
    let end = YieldsList-end (YieldsList-from_slice_split _ (λ b. b == 32) c.args.text.now (cc) (cc) (cc) (λ x b q k. search (rules, tests)))
    c.loop-part.yielded _ c.loop-part.yielded_by _ _ c.in-None.is c.next.ensures.steps in
    adding-whole _ _ _ (IsAdding-left _ _ _ _ _ c.loop-part.invariant
    (parts-end (slice_split (λ b. b == 32) c.args.text.now) (length c.loop-part.yielded) end.1))
