use Rattle.std.proofs.Common.{◌≡◌, sym, ◌∙◌, subst, All}
use Rattle.std.proofs.lemmas.Result.{IfOk-at_ok}
use Rattle.col_sets.specs.Keys.{IsBelow}
use Rattle.script_meaning.specs.Bound.{parts_of}
use Rattle.script_meaning.specs.Dag.{part_at}
use Rattle.script_binder.proofs.Built.{rising_columns}
use Rattle.script_binder.proofs.Orders.{written_by, orders_there, stored_there, ordered_at, stored_in_columns, stream_there, delimiter_there}
use Rattle.script_binder.proofs.Outs.{output_within}
use Rattle.script_binder.proofs.written.output_of.Goals as goal

pub order_of-order-requires-clause-there : goal.order_of-order-requires-clause-there
order_of-order-requires-clause-there c =
    let script = c.args.script.now in
    let by = written_by c.stands_law.ensures.stands c.stands_law.ensures.right script c.requires.standing c.args.at c.written_at-written.result.now c.written_at-written.ensures in
    orders_there script c.requires.standing.placed c.args.at c.as_slice.result.now _ (output_within script c.args.at c.requires.output) (c.as_slice.ensures.value ∙ c.requires.cols) by.order

pub order_of-order-requires-clause-columns : goal.order_of-order-requires-clause-columns
order_of-order-requires-clause-columns c =
    subst (All IsBelow) (sym c.as_slice.ensures.value) (rising_columns c.args.made.next c.args.made.cols.items c.args.made.rises c.args.made.few)

pub stored_in-stored-requires-clause-there : goal.stored_in-stored-requires-clause-there
stored_in-stored-requires-clause-there c =
    let script = c.args.script.now in
    let by = written_by c.stands_law.ensures.stands c.stands_law.ensures.right script c.requires.standing c.args.at c.written_at-written.result.now c.written_at-written.ensures in
    stored_there script c.requires.standing.placed c.args.at c.as_slice-2.result.now _ (output_within script c.args.at c.requires.output) (c.as_slice-2.ensures.value ∙ c.requires.cols) by.stored

pub stored_in-stored-requires-clause-columns : goal.stored_in-stored-requires-clause-columns
stored_in-stored-requires-clause-columns c =
    subst (All IsBelow) (sym c.as_slice-2.ensures.value) (rising_columns c.args.made.next c.args.made.cols.items c.args.made.rises c.args.made.few)

pub returns : goal.returns
returns c =
    let script = c.args.script.now in
    let at = c.args.at in
    let w = c.written_at-written.result.now in
    let by = written_by c.stands_law.ensures.stands c.stands_law.ensures.right script c.requires.standing at w c.written_at-written.ensures in
    let a = part_at (parts_of script) at in
    let name : c.in_ok-tree.name ≡ w.stream = IfOk-at_ok (λ n. n ≡ w.stream) c.in_ok-tree.ensures.1 c.copy.ensures in
    record {
      says = record {
        name = name ∙ stream_there script at w c.written_at-written.ensures;
        delimiter = delimiter_there script at w c.written_at-written.ensures;
        order = c.order_of-order.ensures ∙ ordered_at a c.as_slice.result.now _ (c.as_slice.ensures.value ∙ c.requires.cols) by.order;
        stored = c.stored_in-stored.ensures ∙ stored_in_columns a c.as_slice-2.result.now _ (c.as_slice-2.ensures.value ∙ c.requires.cols) by.stored;
      };
      tree = c.in_ok-tree.ensures.0 ∙ c.tree_in.ensures;
    }
