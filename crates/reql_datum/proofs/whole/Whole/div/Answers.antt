use Rattle.std.proofs.Common.{◌≡◌, pos, arith, ◌∙◌}
use Rattle.std.proofs.lemmas.Int.{ints}
use Rattle.reql_datum.proofs.Arithmetic.{quotient_is}
use Rattle.reql_datum.proofs.whole.Whole.div.Goals as goal

pub returns-clause-value : goal.returns-clause-value
returns-clause-value c =
    let none : c.in_ok-left.left ≡ pos 0 = omega (arith, ints) in
    c.part.ensures ∙ quotient_is c.args.self c.args.other c.in_ok-left.left c.in_ok-left.ensures.divisor c.in_ok-left.ensures.value none
