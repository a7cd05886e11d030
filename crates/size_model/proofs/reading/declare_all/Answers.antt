use Rattle.std.proofs.Common.{◌≡◌, ◌∙◌, ◌∷◌, rules, sym, true}
use Rattle.std.specs.Option.{IfSome}
use Rattle.csv.specs.Records.{fields_of}
use Rattle.row_codec.specs.Records.{left_of}
use Rattle.size_model.specs.Declarations.{declaration_of}
use Rattle.size_model.specs.Answers.{Adds, is_taken}
use Rattle.size_model.proofs.ReadingLemmas.{none_read, one_more}
use Rattle.size_model.proofs.reading.declare_all.Goals as goal

pub loop-before-init : goal.loop-before-init
loop-before-init c = record { between = c.requires.between; so_far = none_read (left_of c.args.text.now.reader) c.args.sizes.now c.requires.streams c.requires.columns }

pub loop-before-preserved : goal.loop-before-preserved
loop-before-preserved c =
    let fields = fields_of c.read_line.new.line in
    let more : left_of c.loop-before.text.reader ≡ fields ∷ left_of c.read_line.new.reader = search rules in
    let is : c.in_ok-declare.field-0 ≡ true = search rules in
    let taken : is_taken (declaration_of fields) c.loop-before.sizes ≡ true = sym c.in_ok-declare.ensures.taken ∙ is in
    let adds : IfSome (declaration_of fields) (λ d. Adds d c.loop-before.sizes c.declare.new.sizes) = c.in_ok-declare.ensures.adds is in
    record {
      between = search rules;
      so_far = one_more (left_of c.args.text.now.reader) c.loop-before.before fields (left_of c.read_line.new.reader) c.loop-before.sizes c.declare.new.sizes
          (rw more at c.loop-before.invariant.so_far) taken adds;
    }
