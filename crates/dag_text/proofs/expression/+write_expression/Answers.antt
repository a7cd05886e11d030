use Rattle.std.proofs.Common.{◌≡◌, ◌++◌, List, ℕ, codes}
use Rattle.dag_text.specs.Pieces.{between_text, expression_text}
use Rattle.dag_text.proofs.TextLemmas.{also, closed, text_neg, text_not, text_pair}
use Rattle.dag_text.proofs.expression.+write_expression.Goals as goal

pub returns-in_ok-write_expression-in-Neg : goal.returns-in_ok-write_expression-in-Neg
returns-in_ok-write_expression-in-Neg t c =
    let out = c.args.out.now.items in
    let a = expression_text c.get.result.now in
    rw (c.in-Neg.is, text_neg, ← c.get.ensures)
    (closed c.extend_from_slice-in-Neg-2.result out c.write_expression.new.out.items c.extend_from_slice-in-Neg-2.new.self.items (codes "-(" ++ a) (codes ")")
    (also out c.extend_from_slice-in-Neg.new.self.items c.write_expression.new.out.items (codes "-(") a c.in_ok-extend_from_slice-in-Neg.ensures.items c.in_ok-write_expression-in-Neg.ensures)
    c.extend_from_slice-in-Neg-2.ensures.items)

pub returns-in_ok-write_expression-in-Not : goal.returns-in_ok-write_expression-in-Not
returns-in_ok-write_expression-in-Not t c =
    let out = c.args.out.now.items in
    let a = expression_text c.get-in-Not.result.now in
    rw (c.in-Not.is, text_not, ← c.get-in-Not.ensures)
    (closed c.extend_from_slice-in-Not-2.result out c.write_expression-in-Not.new.out.items c.extend_from_slice-in-Not-2.new.self.items (codes "!(" ++ a) (codes ")")
    (also out c.extend_from_slice-in-Not.new.self.items c.write_expression-in-Not.new.out.items (codes "!(") a c.in_ok-extend_from_slice-in-Not.ensures.items c.in_ok-write_expression-in-Not.ensures)
    c.extend_from_slice-in-Not-2.ensures.items)

pub returns-in_ok-write_expression-in-Pair-2 : goal.returns-in_ok-write_expression-in-Pair-2
returns-in_ok-write_expression-in-Pair-2 t c =
    let out = c.args.out.now.items in
    let a = expression_text c.get-in-Pair.result.now in
    let b = expression_text c.get-in-Pair-2.result.now in
    let op = between_text c.in-Pair.op in
    let first = c.extend_from_slice-in-Pair.new.self.items in
    let left = c.write_expression-in-Pair.new.out.items in
    let between = c.write_between.new.out.items in
    let right = c.write_expression-in-Pair-2.new.out.items in
    rw (c.in-Pair.is, text_pair, ← c.get-in-Pair.ensures, ← c.get-in-Pair-2.ensures)
    (closed c.extend_from_slice-in-Pair-2.result out right c.extend_from_slice-in-Pair-2.new.self.items (codes "(" ++ a ++ op ++ b) (codes ")")
    (also out between right (codes "(" ++ a ++ op) b
    (also out left between (codes "(" ++ a) op
    (also out first left (codes "(") a c.in_ok-extend_from_slice-in-Pair.ensures.items c.in_ok-write_expression-in-Pair.ensures)
    c.in_ok-write_between-in-Pair.ensures)
    c.in_ok-write_expression-in-Pair-2.ensures)
    c.extend_from_slice-in-Pair-2.ensures.items)
