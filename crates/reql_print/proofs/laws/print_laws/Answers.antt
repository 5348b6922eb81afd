use Rattle.reql_print.proofs.Complete.{read_is_printed}
use Rattle.reql_print.proofs.Tested.{tells_held}
use Rattle.reql_print.proofs.Whole.{reads_printed}
use Rattle.reql_print.proofs.laws.print_laws.Goals as goal

pub returns : goal.returns
returns c = record { reads_back = reads_printed; complete = read_is_printed; held = tells_held }
