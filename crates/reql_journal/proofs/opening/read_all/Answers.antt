use Rattle.std.proofs.Common.{◌∙◌}
use Rattle.reql_journal.proofs.Reading.{one_read, all_read}
use Rattle.reql_journal.proofs.opening.read_all.Goals as goal

pub loop-why-preserved : goal.loop-why-preserved
loop-why-preserved g c = record {
  faults = c.in-Ok-true.ensures.counted.0 ∙ c.loop-why.invariant.faults;
  sound = c.in-Ok-true.ensures.counted.1 ∙ c.loop-why.invariant.sound;
  reads = λ bodies past read is. let s = c.loop-why.invariant.reads bodies past read is in
      one_read past c.read_next.new.reader (g.T.Restores.standing c.read_next.new.table) c.in-Ok-true.field-0 c.in-Ok-true.field-0-test (c.in-Ok-true.ensures.reads s.bodies past s.read s.stand);
}

pub returns-in-Ok-false-clause-reads : goal.returns-in-Ok-false-clause-reads
returns-in-Ok-false-clause-reads g c bodies past read is =
    let s = c.loop-why.invariant.reads bodies past read is in
    all_read past c.read_next.new.reader (g.T.Restores.standing c.read_next.new.table) c.in-Ok-false.field-0 c.in-Ok-false.field-0-test (c.in-Ok-false.ensures.reads s.bodies past s.read s.stand)

pub returns-in-Err-clause-reads : goal.returns-in-Err-clause-reads
returns-in-Err-clause-reads g c bodies past read is = let s = c.loop-why.invariant.reads bodies past read is in c.in-Err.ensures.reads s.bodies past s.read s.stand
