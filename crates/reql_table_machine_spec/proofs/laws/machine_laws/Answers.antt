use Rattle.reql_table_machine_spec.proofs.Reach.{refused_stays, docs_at_stamp, later_docs}
use Rattle.reql_table_machine_spec.proofs.Ending.{looks_tell_the_table}
use Rattle.reql_table_machine_spec.proofs.laws.machine_laws.Goals as goal

pub returns : goal.returns
returns g c = record { refused = refused_stays g.F.Meaning.feeding; docs = docs_at_stamp g.F.Meaning.feeding; later = later_docs g.F.Meaning.feeding; looks = looks_tell_the_table g.F.Meaning.feeding }
