-- What a link to a server tells of itself.
use Rattle.std.specs.Prelude.{◌≡◌, ◌≢◌, true, None}
use Rattle.reql_outside.specs.Tape.{Tape}
use Rattle.reql_outside.specs.declared.link.Recv.{Recv}
use Rattle.reql_outside.specs.declared.link.Recv.TheVariants as recv
use Rattle.reql_dial.specs.declared.link.DialedRecord.{DialedRecord}

-- its tape, which tells no byte
abbrev pub tape_of : DialedRecord → Tape
tape_of r = record {
  given = None;
  sent = None;
  idles = 0;
  over = r.over;
  faults_in = r.faults_in;
  faults_out = r.faults_out;
}

-- a recv isn't idle, and after the end there is only the end
abbrev pub IsAwake : Tape → Recv → Type 0
IsAwake old answer = (answer ≢ recv.Idle) × (old.over ≡ true → answer ≡ recv.End)
