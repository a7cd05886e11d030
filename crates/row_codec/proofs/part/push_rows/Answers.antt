use Rattle.std.proofs.Common.{◌≡◌, ◌∙◌, ◌+◌, ◌∷◌, rules, true, Some}
use Rattle.std.specs.Result.{is_ok}
use Rattle.std.proofs.lemmas.List.Elements.{All-push}
use Rattle.scope_value.specs.Fits.{RowFits}
use Rattle.row_codec.specs.Records.{left_of}
use Rattle.row_codec.proofs.Fronts.{row_more}
use Rattle.row_codec.proofs.part.push_rows.Goals as goal

pub loop-before-preserved : goal.loop-before-preserved
loop-before-preserved g c =
    let told = (goal.Extractor-dyn g c.args.op.now).told_extractor c.args.op.now.1 in
    let good : is_ok c.push.result ≡ true = search rules in
    let items = rw good at c.push.ensures.items in
    let fields = c.next_record.new.part.fields.items in
    let taken : told.extracts c.args.args.now c.args.output.now fields ≡ Some c.in-Some.row = search rules in
    let more : left_of c.loop-before.part.reader ≡ fields ∷ left_of c.next_record.new.part.reader = search rules in
    let step = row_more (told.extracts c.args.args.now c.args.output.now) (c.loop-before.before + 1) c.loop-before.rows.items c.in-Some.row fields (left_of c.next_record.new.part.reader) taken in
    let fit : told.takes c.args.output.now c.args.args.now ≡ true → RowFits c.args.output.now c.in-Some.row = rw c.in-Some.is at c.in_ok-row.ensures.fits in
    record {
      between = search rules;
      left = rw items (step ∙ rw more at c.loop-before.invariant.left);
      fits = λ takes. rw items (All-push (RowFits c.args.output.now) c.loop-before.rows.items c.in-Some.row (c.loop-before.invariant.fits takes) (fit takes));
    }
