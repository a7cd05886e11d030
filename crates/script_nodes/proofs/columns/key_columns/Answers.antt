use Rattle.std.proofs.Common.{◌<◌, length, sym, ap, ◌∙◌, arith}
use Rattle.script_nodes.proofs.Places.{keys_taken, keys_left}
use Rattle.script_nodes.proofs.columns.key_columns.Goals as goal
use Rattle.script_nodes.proofs.columns.key_columns.Goals.{then-is_named+in_ok-push, else-is_named}

pub loop-place-preserved : goal.loop-place-preserved
loop-place-preserved c =
    let lt : c.loop-place.place < length c.args.cols.now = omega arith in
    elim c.if-is_named.branch [
      | then-is_named+in_ok-push w ↦
          ap (λ v. v.items) w.keys-is
          ∙ keys_taken c.args.cols.now c.args.written.now c.loop-place.place c.loop-place.keys.items _ lt (sym c.is_named.ensures ∙ w.if-is_named.true) c.loop-place.invariant w.in_ok-push.ensures.items
      | else-is_named w ↦
          ap (λ v. v.items) w.keys-is
          ∙ keys_left c.args.cols.now c.args.written.now c.loop-place.place c.loop-place.keys.items (sym c.is_named.ensures ∙ w.if-is_named.false) c.loop-place.invariant
    ]
