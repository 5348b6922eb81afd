-- What the adapters over TCP tell of themselves.
use Rattle.std.specs.Prelude.{ℕ, ◌≤◌, None}
use Rattle.reql_outside.specs.Tape.{Tape}
use Rattle.reql_net.specs.declared.tcp.TcpRecord.{TcpRecord}
use Rattle.reql_net.specs.declared.tcp.Came.{Came}
use Rattle.reql_net.specs.declared.tcp.Came.TheVariants as came
use Rattle.reql_net.specs.declared.outbox.Put.{Put}
use Rattle.reql_net.specs.declared.outbox.Put.TheVariants as put

-- the tape of a link over TCP, which tells no byte
abbrev pub tape_of : TcpRecord → Tape
tape_of r = record {
  given = None;
  sent = None;
  idles = r.idles;
  over = r.over;
  faults_in = r.faults_in;
  faults_out = r.faults_out;
}

-- a read gave at most so many bytes
abbrev pub CameFits : Came → ℕ → Type 0
CameFits (came.Bytes n) room = n ≤ room
CameFits came.Nothing room = Unit {0}
CameFits came.Broken room = Unit {0}

-- a write took at least one byte and at most so many
abbrev pub PutFits : Put → ℕ → Type 0
PutFits (put.Bytes n) room = (1 ≤ n) × (n ≤ room)
PutFits put.Full room = Unit {0}
PutFits put.Failed room = Unit {0}
