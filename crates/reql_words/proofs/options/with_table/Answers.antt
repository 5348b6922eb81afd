use Rattle.std.proofs.Common.{arith, ◌≡◌, Some, true, false, refl}
use Rattle.std.proofs.lemmas.Grind.{common_steps}
use Rattle.reql_words.specs.Words.{is_one_more, said_of, table_in}
use Rattle.reql_words.proofs.Going.{goes_in, no_more}
use Rattle.reql_words.proofs.options.with_table.Goals as goal

pub returns-then-not-is_one_more : goal.returns-then-not-is_one_more
returns-then-not-is_one_more c =
    let found : table_in c.args.value.now ≡ Some (c.in-Some.db.now, c.in-Some.table.now) = grind (arith, common_steps) in
    let none : is_one_more (c.in-Some.db.now, c.in-Some.table.now) c.args.said.now.tables.items ≡ false = grind (arith, common_steps) in
    no_more c.args.value.now (said_of c.args.said.now) (c.in-Some.db.now, c.in-Some.table.now) c.args.said.now.tables.items refl found none

pub returns : goal.returns
returns c =
    let found : table_in c.args.value.now ≡ Some (c.in-Some.db.now, c.in-Some.table.now) = grind (arith, common_steps) in
    let may : is_one_more (c.in-Some.db.now, c.in-Some.table.now) c.args.said.now.tables.items ≡ true = grind (arith, common_steps) in
    goes_in c.args.value.now (said_of c.args.said.now) (c.in-Some.db, c.in-Some.table) c.args.said.now.tables.items c.push.new.self.items refl found may c.push.ensures.items
