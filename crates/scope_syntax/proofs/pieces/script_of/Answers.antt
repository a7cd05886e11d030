-- The lemmas of Progress, at the loop.
use Rattle.std.proofs.Common.{◌+◌, ◌<◌, ◌^◌, length, map, arith, sym, subst}
use Rattle.std.proofs.lemmas.List.{length-map}
use Rattle.expression_syntax.specs.Lexemes.{lexeme_of}
use Rattle.scope_syntax.specs.Statements.{IsFirstFault}
use Rattle.scope_syntax.proofs.Progress.{a_fault, left, number_fits, one_more}
use Rattle.scope_syntax.proofs.pieces.script_of.Goals as goal

pub overflow_cast-statement : goal.overflow_cast-statement
overflow_cast-statement c =
    let few : length (map lexeme_of c.args.terminals.now) < 2 ^ 31 = rw length-map c.requires in
    let refused = rw c.in-Err-Grammar.field-0-is at c.in-Err-Grammar.ensures in
    let fits = number_fits (map lexeme_of c.args.terminals.now) (left c.loop-rest.rest) (map lexeme_of c.cut.result.0.now) c.loop-rest.statements c.add.new.statements few c.loop-rest.invariant refused in
    let number = c.len.ensures in
    omega (arith, fits, number)

pub overflow_add-statement : goal.overflow_add-statement
overflow_add-statement c =
    let few : length (map lexeme_of c.args.terminals.now) < 2 ^ 31 = rw length-map c.requires in
    let refused = rw c.in-Err-Grammar.field-0-is at c.in-Err-Grammar.ensures in
    let fits = number_fits (map lexeme_of c.args.terminals.now) (left c.loop-rest.rest) (map lexeme_of c.cut.result.0.now) c.loop-rest.statements c.add.new.statements few c.loop-rest.invariant refused in
    let number = c.len.ensures in
    omega (arith, fits, number)

pub returns-in-Err-Grammar : goal.returns-in-Err-Grammar
returns-in-Err-Grammar c =
    let few : length (map lexeme_of c.args.terminals.now) < 2 ^ 31 = rw length-map c.requires in
    let refused = rw c.in-Err-Grammar.field-0-is at c.in-Err-Grammar.ensures in
    let fault = a_fault (map lexeme_of c.args.terminals.now) (map lexeme_of c.cut.result.0.now) c.loop-rest.rest c.in-Some.ahead c.cut.result.1 c.loop-rest.statements c.add.new.statements few
    c.loop-rest.invariant c.in-Some.is c.cut.ensures.pieces refused in
    subst (λ z. IsFirstFault (map lexeme_of c.args.terminals.now) (z + 1)) (sym c.len.ensures) fault

pub loop-rest-preserved : goal.loop-rest-preserved
loop-rest-preserved c =
    one_more (map lexeme_of c.args.terminals.now) (map lexeme_of c.cut.result.0.now) c.loop-rest.rest c.in-Some.ahead c.cut.result.1 c.loop-rest.statements c.add.new.statements
    c.loop-rest.invariant c.in-Some.is c.cut.ensures.pieces c.in-Ok.ensures
