use Rattle.std.proofs.Common.{◌∙◌, ap, replicate}
use Rattle.reql_table_spec.specs.Machine.{unused}
use Rattle.reql_run.proofs.opening.begin.Goals as goal

pub returns-clause-engines : goal.returns-clause-engines
returns-clause-engines c = c.in_ok-engines.ensures ∙ ap (λ l. replicate l.slots (unused l.feeds l.tail)) c.usual-limits.ensures
