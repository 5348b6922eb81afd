use Rattle.reql_read.proofs.Back.{reads_back}
use Rattle.reql_read.proofs.First.{first_fault}
use Rattle.reql_read.proofs.Whole.{held_on_bytes}
use Rattle.reql_read.proofs.laws.reading_laws.Goals as goal

pub returns : goal.returns
returns c = record { reads_back = reads_back; held = held_on_bytes; first_fault = first_fault }
