use Rattle.reql_term_analysis.proofs.answers.late.Goals as goal

pub returns-in-Err : goal.returns-in-Err
returns-in-Err c w a h = c.late_fault.ensures w a (rw c.in-Err.is at h)
