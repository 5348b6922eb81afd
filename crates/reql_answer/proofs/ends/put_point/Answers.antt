use Rattle.std.proofs.Common.{◌≡◌, [], drop, rules, append_assoc}
use Rattle.std.proofs.lemmas.List.{drop_all}
use Rattle.std.proofs.lemmas.Fmt.{length-decimal-le}
use Rattle.reql_answer.proofs.ends.put_point.Goals as goal

pub write_digits-stamp-requires : goal.write_digits-stamp-requires
write_digits-stamp-requires c = search (rules, length-decimal-le 20)

pub put_byte-between-requires : goal.put_byte-between-requires
put_byte-between-requires c = search (rules, length-decimal-le 20)

pub write_digits-place-requires : goal.write_digits-place-requires
write_digits-place-requires c = search (rules, length-decimal-le 20)

pub put_byte-before-requires : goal.put_byte-before-requires
put_byte-before-requires c = search (rules, length-decimal-le 20)

pub write_digits-slot-requires : goal.write_digits-slot-requires
write_digits-slot-requires c = search (rules, length-decimal-le 20)

pub put_byte-requires : goal.put_byte-requires
put_byte-requires c = search (rules, length-decimal-le 20)

pub returns-clause-start : goal.returns-clause-start
returns-clause-start c = search (rules, length-decimal-le 20)

pub returns-clause-written : goal.returns-clause-written
returns-clause-written c =
    let none : drop 72 c.args.text.now ≡ [] = drop_all 72 c.args.text.now (search rules) in
    rw (c.put_byte.ensures.written, c.write_digits-slot.ensures.written, c.put_byte-before.ensures.written, c.write_digits-place.ensures.written, c.put_byte-between.ensures.written, c.write_digits-stamp.ensures.written, c.put_byte-after.ensures.written, none, c.from.ensures) (simp append_assoc)
