-- The handshake of protocol version V0_4 with an authorization key (RethinkDB's guide on writing
-- drivers).
use Rattle.std.specs.Prelude.{◌≡◌, ℕ, ◌+◌, ◌-◌, ◌≤◌, nat_lt, ◌==◌, if◌then◌else◌, List, [], ◌∷◌, ◌++◌, length, take, drop, codes}
use Rattle.std.specs.Str.{bytes_eq}
use Rattle.reql_scram.specs.Faults.{refusal as login_refusal}
use Rattle.byteorder.specs.Endian.{little_bytes, little_number}
use Rattle.reql_wire.specs.declared.greeter.Greeting.{Greeting}
use Rattle.reql_wire.specs.declared.greeter.Greeting.TheVariants as greeting
use Rattle.reql_wire.specs.declared.greeter.GreetFault.{GreetFault}
use Rattle.reql_wire.specs.declared.greeter.GreetFault.TheVariants as fault

-- a field: a number in 4 bytes, little endian
unfoldable pub field : ℕ → List ℕ
field number = little_bytes 4 number

-- the number of the field at a place
unfoldable pub field_at : ℕ → List ℕ → ℕ
field_at place bytes = little_number 4 (drop place bytes)

-- version 0x400c2d20 and protocol 0x7e6970c7 (ql2.proto, VersionDummy: V0_4 and JSON)
abbrev pub version : ℕ
version = 1074539808

abbrev pub protocol : ℕ
protocol = 2120839367

-- version 0x34c2bdc3 (the same: V1_0), with which a login begins
abbrev pub login_version : ℕ
login_version = 885177795

-- the bytes of the longest key, and of the greeting with it
abbrev pub longest_key : ℕ
longest_key = 1024

abbrev pub longest_greeting : ℕ
longest_greeting = 1036

-- the greeting by a key
unfoldable pub greeting_by : List ℕ → List ℕ
greeting_by key = field version ++ (field (length key) ++ (key ++ field protocol))

-- What all the bytes of a session are as its greeting by a key, with the bytes that an accepted one
-- has. Each field is looked at where all its bytes are there, and none behind one that is refused:
-- `verdict_of` looks at the version, then `length_verdict` at the length of the key, then
-- `key_verdict` at a key of such a length, and `protocol_verdict` at the protocol behind it.
unfoldable pub protocol_verdict : ℕ → List ℕ → Greeting
protocol_verdict len bytes =
    if nat_lt (length bytes) (12 + len) then greeting.More
    else if field_at (8 + len) bytes == protocol then greeting.Accepted (12 + len)
    else greeting.Refused (fault.BadProtocol (field_at (8 + len) bytes))

unfoldable pub key_verdict : List ℕ → ℕ → List ℕ → Greeting
key_verdict key len bytes =
    if nat_lt (length bytes) (8 + len) then greeting.More
    else if bytes_eq (take len (drop 8 bytes)) key then protocol_verdict len bytes
    else greeting.Refused fault.BadKey

unfoldable pub length_verdict : List ℕ → List ℕ → Greeting
length_verdict key bytes =
    if nat_lt (length bytes) 8 then greeting.More
    else if nat_lt longest_key (field_at 4 bytes)
    then greeting.Refused (fault.KeyTooLong (field_at 4 bytes))
    else key_verdict key (field_at 4 bytes) bytes

unfoldable pub other_verdict : ℕ → Greeting
other_verdict got =
    if got == login_version then greeting.Login 4 else greeting.Refused (fault.BadVersion got)

unfoldable pub verdict_of : List ℕ → List ℕ → Greeting
verdict_of key bytes =
    if nat_lt (length bytes) 4 then greeting.More
    else if field_at 0 bytes == version then length_verdict key bytes
    else other_verdict (field_at 0 bytes)

abbrev pub Greets : List ℕ → List ℕ → Greeting → Type 0
Greets key bytes verdict = verdict_of key bytes ≡ verdict

-- an accepted greeting is the one by the key
abbrev pub Begins : List ℕ → List ℕ → Greeting → Type 0
Begins key bytes (greeting.Accepted used) =
    (used ≡ 12 + length key) × (bytes ≡ greeting_by key ++ drop used bytes)
Begins key bytes verdict = Unit {0}

-- an accepted greeting ends in a piece that came after some bytes, and has so many bytes of it
pub record EndsIn (key before piece : List ℕ) (used : ℕ) : Type 0 where
  pub accepted : Greets key (before ++ piece) (greeting.Accepted (12 + length key))
  pub taken : used ≡ 12 + length key - length before
  pub within : used ≤ length piece
  pub behind : Greets key before greeting.More → before ++ piece ≡ greeting_by key ++ drop used piece

-- the version of a login ends in a piece that came after some bytes, and has so many bytes of it
pub record CallsIn (key before piece : List ℕ) (used : ℕ) : Type 0 where
  pub called : Greets key (before ++ piece) (greeting.Login 4)
  pub taken : used ≡ 4 - length before
  pub within : used ≤ length piece
  pub behind : Greets key before greeting.More → drop 4 (before ++ piece) ≡ drop used piece

-- what a piece that came after some bytes makes of them
abbrev pub Answers : List ℕ → List ℕ → List ℕ → Greeting → Type 0
Answers key before piece (greeting.Accepted used) = EndsIn key before piece used
Answers key before piece (greeting.Login used) = CallsIn key before piece used
Answers key before piece answer = Greets key (before ++ piece) answer

-- the key that a greeter wants, and what it keeps of the bytes that it heard
pub record Listening : Type 0 where
  pub key : List ℕ
  pub heard : List ℕ

-- what it keeps of bytes: no more of them than the longest greeting has
unfoldable pub kept : List ℕ → List ℕ
kept bytes = take longest_greeting bytes

-- what is sent where the greeting is accepted: a text and a zero byte (the same guide, handshake)
abbrev pub accepted : List ℕ
accepted = codes "SUCCESS" ++ 0 ∷ []

-- what is sent where it is refused, likewise
abbrev pub refusal : GreetFault → List ℕ
refusal (fault.BadVersion got) = codes "ERROR: unsupported protocol version" ++ 0 ∷ []
refusal (fault.KeyTooLong len) = codes "ERROR: authorization key too long" ++ 0 ∷ []
refusal fault.BadKey = codes "ERROR: incorrect authorization key" ++ 0 ∷ []
refusal (fault.BadProtocol got) = codes "ERROR: unsupported wire protocol" ++ 0 ∷ []
refusal (fault.Login f) = login_refusal f
