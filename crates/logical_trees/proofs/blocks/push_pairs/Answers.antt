-- Each step adds the equality of one more pair.
use Rattle.std.proofs.Common.{◌++◌, map, take, length, refl, sym, ap, ◌∙◌, arith, append-nil}
use Rattle.std.proofs.lemmas.List.{take_all}
use Rattle.logical_trees.specs.Blocks.{equality}
use Rattle.logical_trees.proofs.BlockReading.{one_added, one_longer}
use Rattle.logical_trees.proofs.blocks.push_pairs.Goals as goal

pub loop-left-init : goal.loop-left-init
loop-left-init c = record { added = sym (append-nil c.args.equalities.now.items); room = omega arith }

pub push-requires : goal.push-requires
push-requires c = let r = c.loop-left.invariant.room in (omega arith, omega (arith, r))

pub loop-left-preserved : goal.loop-left-preserved
loop-left-preserved c =
    let before = c.loop-left.invariant in
    let i = c.loop-left.left-index in
    record {
      added = one_added c.args.node c.args.on.now i c.args.equalities.now.items c.loop-left.equalities.items c.push.new.self.items _ c.loop-left-test.true before.added c.push.ensures.items refl;
      room = one_longer (length c.args.equalities.now.items) i c.loop-left.equalities.items c.push.new.self.items _ before.room c.push.ensures.items;
    }

pub returns : goal.returns
returns c = c.loop-left.invariant.added ∙ ap (λ pairs. c.args.equalities.now.items ++ map (equality c.args.node) pairs) (take_all c.loop-left.left-index c.args.on.now c.loop-left-test.false)
