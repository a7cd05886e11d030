use Rattle.std.proofs.Common.{drop, length, filter, nat_lt, ◌==◌}
use Rattle.std.specs.List.{slice_split}
use Rattle.user_ops.specs.Adding.{IsAdding}
use Rattle.scope_shipped.specs.Words.{words}
use Rattle.scope_shipped.specs.SplitWords.{word_rows}
use Rattle.scope_shipped.proofs.split_words.push_words.Given as goal

abbrev pub invariant-loop-part : goal.invariant-loop-part
invariant-loop-part l =
    IsAdding
    l.initial.out.items
    l.out.items
    (word_rows (filter (λ part. nat_lt 0 (length part)) (drop (length l.yielded) (slice_split (λ b. b == 32) l.text))))
    (word_rows (words l.text))
