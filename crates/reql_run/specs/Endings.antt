-- The status of a server whose one session ended so.
use Rattle.std.specs.Prelude.{ℕ}
use Rattle.reql_session_spec.specs.declared.end.End.{End}
use Rattle.reql_session_spec.specs.declared.end.End.TheVariants as ends

abbrev pub status_of : End → ℕ
status_of ends.Closed = 0
status_of ends.ReadFault = 4
status_of ends.WriteFault = 5
status_of (ends.Cut held) = 6
status_of (ends.Refused fault) = 7
status_of ends.Memory = 8
status_of (ends.TooLong len) = 9
status_of ends.Worn = 9
