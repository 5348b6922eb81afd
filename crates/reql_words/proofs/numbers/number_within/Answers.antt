use Rattle.std.proofs.Common.{arith, ◌≡◌, true}
use Rattle.std.proofs.lemmas.Grind.{common_steps}
use Rattle.reql_words.specs.Words.{is_numeral}
use Rattle.reql_words.proofs.Numerals.{unread}
use Rattle.reql_words.proofs.numbers.number_within.Goals as goal

pub returns-in_default-3-clause-told : goal.returns-in_default-3-clause-told
returns-in_default-3-clause-told c =
    let is : is_numeral c.args.word.now ≡ true = grind (arith, common_steps) in
    unread c.args.least c.args.most c.args.word.now c.in_default.field-0 is c.in_default.ensures.value.0 c.ranges.most.fits
