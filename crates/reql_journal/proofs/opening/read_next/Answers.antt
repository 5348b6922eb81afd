use Rattle.reql_journal.proofs.Reading.{next_body, next_none, goes_on, goes_wrong, fails}
use Rattle.reql_journal.proofs.opening.read_next.Goals as goal

pub returns-in-Ok-true-clause-reads : goal.returns-in-Ok-true-clause-reads
returns-in-Ok-true-clause-reads g c bodies past read is =
    let next = next_body bodies past c.next.new.self c.in-Ok-Some.field-0 c.in-Ok-Some.body c.in-Ok-Some.field-0-is (c.in-Ok-Some.ensures.reads bodies past read) in
    goes_on bodies past c.next.new.self c.in-Ok-Some.body.items c.deref.result.now (g.T.Restores.standing c.args.table.now) (g.T.Restores.standing c.apply_body.new.table) c.in-Ok-true.field-0
    next is c.deref.ensures.value c.in-Ok-true.field-0-test c.in-Ok-true.ensures

pub returns-in-Ok-false-clause-reads : goal.returns-in-Ok-false-clause-reads
returns-in-Ok-false-clause-reads g c bodies past read is =
    let next = next_body bodies past c.next.new.self c.in-Ok-Some.field-0 c.in-Ok-Some.body c.in-Ok-Some.field-0-is (c.in-Ok-Some.ensures.reads bodies past read) in
    goes_wrong bodies past c.args.reader.now c.next.new.self c.in-Ok-Some.body.items c.deref.result.now (g.T.Restores.standing c.args.table.now) (g.T.Restores.standing c.apply_body.new.table) c.in-Ok-false.field-0 c.place-at.result
    read c.place-at.ensures next is c.deref.ensures.value c.in-Ok-false.field-0-test c.in-Ok-false.ensures

pub returns-in-Ok-None-clause-reads : goal.returns-in-Ok-None-clause-reads
returns-in-Ok-None-clause-reads g c bodies past read is =
    next_none bodies past c.next.new.self (g.T.Restores.standing c.args.table.now) c.in-Ok-None.field-0 c.in-Ok-None.field-0-is is (c.in-Ok-None.ensures.reads bodies past read)

pub returns-clause-reads : goal.returns-clause-reads
returns-clause-reads g c bodies past read is = fails bodies past c.args.reader.now c.next.new.self c.in-Err.why read c.in-Err.ensures.past (c.in-Err.ensures.reads bodies past read)
