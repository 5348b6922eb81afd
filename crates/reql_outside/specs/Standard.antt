use Rattle.std.specs.Prelude.{◌≡◌, ◌≢◌, ℕ, true, None}
use Rattle.reql_outside.specs.Tape.{Tape}
use Rattle.reql_outside.specs.declared.standard.StdRecord.{StdRecord}
use Rattle.reql_outside.specs.declared.link.Recv.{Recv}
use Rattle.reql_outside.specs.declared.link.Recv.TheVariants as recv
use Rattle.reql_outside.specs.declared.link.Sending.{Sending}
use Rattle.reql_outside.specs.declared.link.Sending.TheVariants as sending

abbrev pub tape_of : StdRecord → Tape
tape_of r = record {
  given = None;
  sent = None;
  idles = 0;
  over = r.over;
  faults_in = r.faults_in;
  faults_out = r.faults_out;
}

-- a recv isn't idle, and after the end there is only the end
abbrev pub IsAwake : Tape → Recv → Type 0
IsAwake old answer = (answer ≢ recv.Idle) × (old.over ≡ true → answer ≡ recv.End)

-- a send takes the whole piece or fails
abbrev pub SendsOut : ℕ → Sending → Type 0
SendsOut size (sending.Sent n) = n ≡ size
SendsOut size sending.Failed = Unit {0}
