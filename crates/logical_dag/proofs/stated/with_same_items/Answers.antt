use Rattle.std.proofs.Common.{◌<◌, ◌≤◌, arith, length, refl, rules}
use Rattle.list_lemmas.specs.Reading.{read_some}
use Rattle.logical_dag.proofs.ItemFacts.{items_first, items_step, items_done}
use Rattle.logical_dag.proofs.stated.with_same_items.Goals as goal

pub loop-j-init : goal.loop-j-init
loop-j-init c = record { rest = refl; classes = items_first c.args.into c.args.items.now c.args.cols c.requires.own }

pub loop-j-preserved : goal.loop-j-preserved
loop-j-preserved c = record {
  rest = search rules;
  classes =
      items_step c.args.into c.args.items.now c.args.cols c.requires.own c.loop-j.j c.loop-j.all c.with_same_item-all.result c.requires.set c.with_same_item-all.ensures.equal c.loop-j.invariant.classes;
}

pub with_same_item-all-requires : goal.with_same_item-all-requires
with_same_item-all-requires c =
    let within : c.loop-j.j < length c.args.items.now = omega arith in read_some c.args.items.now c.loop-j.j c.index-items-j.result within c.index-items-j.is

pub returns-clause-classes : goal.returns-clause-classes
returns-clause-classes c =
    let end : length c.args.items.now ≤ c.loop-j.j = omega arith in
    items_done c.args.into c.args.items.now c.args.cols c.requires.own c.loop-j.j c.loop-j.all end c.loop-j.invariant.classes
