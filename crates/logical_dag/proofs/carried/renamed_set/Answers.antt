use Rattle.std.proofs.Common.{◌≡◌, ℕ, true, false, sym, ◌∙◌, subst, arith, refl, Option, Some}
use Rattle.std.specs.Prelude.{IsSome}
use Rattle.col_sets.specs.Sets.{has}
use Rattle.col_sets.specs.Columns.{has_below}
use Rattle.logical_dag.specs.Known.{name_of}
use Rattle.logical_dag.proofs.Carrying.{renamed_put, renamed_skip, named_more, renamed_all}
use Rattle.logical_dag.proofs.carried.renamed_set.Goals as goal
use Rattle.logical_dag.proofs.carried.renamed_set.Goals.{then-has+in-Some, else-has}

pub loop-c-preserved : goal.loop-c-preserved
loop-c-preserved c =
    elim c.if-has.branch [
      | then-has+in-Some w ↦
          let there : has c.args.set c.loop-c.c ≡ true = sym c.has.ensures ∙ w.if-has.true in
          let named : name_of c.args.names.now c.loop-c.c ≡ Some w.in-Some.d = w.in-Some.is in
          record {
            all = named_more (name_of c.args.names.now) c.args.set c.loop-c.c (λ h. subst (λ (o : Option ℕ). IsSome o) (sym named) refl) c.loop-c.invariant.all;
            just = rw (w.renamed-is, w.with-renamed.ensures)
                (renamed_put (name_of c.args.names.now) c.args.set c.loop-c.renamed c.loop-c.c w.in-Some.d (c.requires.below c.loop-c.c w.in-Some.d named) c.requires there named c.loop-c.invariant.just);
          }
      | else-has w ↦
          let gone : has c.args.set c.loop-c.c ≡ false = sym c.has.ensures ∙ w.if-has.false in
          record {
            all = named_more (name_of c.args.names.now) c.args.set c.loop-c.c (λ h. absurd (cc)) c.loop-c.invariant.all;
            just = rw w.renamed-is (renamed_skip (name_of c.args.names.now) c.args.set c.loop-c.renamed c.loop-c.c gone c.loop-c.invariant.just);
          }
    ]

pub returns : goal.returns
returns c =
    renamed_all (name_of c.args.names.now) c.args.set c.loop-c.renamed c.loop-c.c (λ b h. let l = has_below c.args.set c.count.ensures.columns b h in omega arith) c.loop-c.invariant.all c.loop-c.invariant.just
