use Rattle.std.proofs.Common.{rules}
use Rattle.std.proofs.lemmas.Fmt.{length-decimal-le}
use Rattle.reql_spell.proofs.numbers.write_number.Goals as goal

pub write_digits-start-requires : goal.write_digits-start-requires
write_digits-start-requires c = search (rules, length-decimal-le 20)

pub append_item-requires : goal.append_item-requires
append_item-requires c = search (rules, length-decimal-le 20)
