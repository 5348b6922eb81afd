-- The status that the program ends with, by what ended it.
use Rattle.std.specs.Prelude.{ℕ}
use Rattle.reql_client.specs.declared.fault.ClientFault.{ClientFault}
use Rattle.reql_client.specs.declared.fault.ClientFault.TheVariants as faults
use Rattle.reql_query.specs.declared.status.Loss.{Loss}
use Rattle.reql_query.specs.declared.status.Loss.TheVariants as losses

abbrev pub fault_status : ClientFault → ℕ
fault_status faults.ReadFault = 4
fault_status faults.WriteFault = 5
fault_status faults.Ended = 6
fault_status (faults.Refused why) = 7
fault_status faults.BadAnswer = 7
fault_status (faults.TooLong len) = 7
fault_status faults.Memory = 8
fault_status faults.Worn = 9

abbrev pub status_of : Loss → ℕ
status_of (losses.Client fault) = fault_status fault
status_of losses.Strange = 7
status_of losses.Unprinted = 5
status_of losses.Memory = 8
