use Rattle.std.specs.Prelude.{ℕ, List, [], Some, false}
use Rattle.reql_outside.specs.Tape.{Tape}
use Rattle.reql_outside.specs.Plays.{Play, plays_of}
use Rattle.reql_outside.specs.declared.script.LinkStep.{LinkStep}
use Rattle.reql_outside.specs.declared.memory.MemRecord.{MemRecord}

-- a link in memory: its tape, what is left of its script, how many sends there were, which fail,
-- and the most that one takes
pub record Played : Type 0 where
  pub tape : Tape
  pub left : List Play
  pub calls : ℕ
  pub send_fails : List ℕ
  pub most : ℕ

-- what a record keeps of the tape
abbrev pub tape_of : MemRecord → Tape
tape_of r = record {
  given = Some r.given.items;
  sent = Some r.sent.items;
  idles = r.idles;
  over = r.over;
  faults_in = r.faults_in;
  faults_out = r.faults_out;
}

-- the tape of a link that tells its bytes, before its first call
abbrev pub fresh : Tape
fresh = record {
  given = Some [];
  sent = Some [];
  idles = 0;
  over = false;
  faults_in = 0;
  faults_out = 0;
}

-- a link in memory before its first call
abbrev pub opening : List LinkStep → List ℕ → ℕ → Played
opening script fails most_bytes =
    record {
      tape = fresh;
      left = plays_of script;
      calls = 0;
      send_fails = fails;
      most = most_bytes;
    }
