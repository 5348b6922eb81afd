-- A login as its client does it (RethinkDB's guide on writing drivers, the handshake of version V1_0): where it stands, and what comes
-- next.
use Rattle.std.specs.Prelude.{◌≡◌, ◌≤◌, ◌+◌, ℕ, Bool, true, false, if◌then◌else◌, List, [], ◌∷◌, ◌++◌, length, bytes_eq, codes, flat_map, Option, Some, None, option_and_then, Result, Ok, Err, Vec}
use Rattle.std.specs.declared.alloc.Global.{Global}
use Rattle.serde_json.specs.Data.{Data}
use Rattle.serde_json.specs.Find.{as_bool, as_str, get}
use Rattle.reql_login.specs.Fields.{text_in}
use Rattle.reql_login.specs.Messages.{Message, escaped_byte, message_of}
use Rattle.reql_login.specs.Messages as messages
use Rattle.reql_outside.specs.Tape.{Tape, Moves, SendsAll, recv_failed}
use Rattle.reql_wire.specs.Greeting.{field, login_version}
use Rattle.reql_client.specs.Proving.{ServerFirst, Proof, first_bare, proof_of, server_first_of}
use Rattle.reql_client.specs.Reading.{json_of}
use Rattle.reql_client.specs.declared.fault.ClientFault.{ClientFault}
use Rattle.reql_client.specs.declared.fault.ClientFault.TheVariants as faults

-- ---- what the client says: the version, and two messages, each ended by a zero byte

abbrev pub call : List ℕ
call = field login_version

unfoldable pub first_message : List ℕ → List ℕ
first_message nonce =
    codes "{\"protocol_version\":0,\"authentication_method\":\"SCRAM-SHA-256\",\"authentication\":\"n,,"
    ++ (first_bare nonce ++ (codes "\"}" ++ 0 ∷ []))

unfoldable pub last_message : List ℕ → List ℕ
last_message text = codes "{\"authentication\":\"" ++ (flat_map escaped_byte text ++ (codes "\"}" ++ 0 ∷ []))

-- ---- what the server says

-- too little yet; `success` is true, with the text of SCRAM, where there is one, and the bytes behind the message; `success` is false,
-- with the text `error`; or none of these
pub data Word : Type 0 where
  Partial : Word
  Grants : Option (List ℕ) → List ℕ → Word
  Refuses : List ℕ → Word
  Strange : Word

abbrev pub refused_by : Option (List ℕ) → Word
refused_by None = Strange
refused_by (Some why) = Refuses why

abbrev pub judged : Data → List ℕ → Option Bool → Word
judged value rest None = Strange
judged value rest (Some true) = Grants (text_in value) rest
judged value rest (Some false) = refused_by (option_and_then as_str (get (codes "error") value))

abbrev pub word_in : List ℕ → Option Data → Word
word_in rest None = Strange
word_in rest (Some value) = judged value rest (option_and_then as_bool (get (codes "success") value))

-- of the message at the front of the bytes that are held
abbrev pub word_by : Message → Word
word_by messages.More = Partial
word_by messages.Oversize = Strange
word_by (messages.Whole message rest) = word_in rest (json_of message)

unfoldable pub word_of : List ℕ → Word
word_of held = word_by (message_of held)

-- ---- its turns

-- nothing is said yet; the version is said; the first message is said; the last message is said, and the server's last one has to
-- carry this text
pub data Stage : Type 0 where
  Begun : Stage
  Called : Stage
  Named : Stage
  Proved : List ℕ → Stage

-- more bytes are wanted; the client says these bytes, holds those, and stands there; it is let in, with these bytes behind the last
-- message; it is refused, by this text; or what came is no message of a login
pub data Turn : Type 0 where
  Waits : Turn
  Says : List ℕ → List ℕ → Stage → Turn
  Enters : List ℕ → Turn
  Refused : List ℕ → Turn
  Lost : Turn

abbrev pub called_turn : List ℕ → Word → Turn
called_turn nonce Partial = Waits
called_turn nonce (Grants text rest) = Says (first_message nonce) rest Named
called_turn nonce (Refuses why) = Refused why
called_turn nonce Strange = Lost

abbrev pub says_proof : List ℕ → Proof → Turn
says_proof rest proof = Says (last_message proof.said) rest (Proved proof.wanted)

abbrev pub proves : List ℕ → List ℕ → List ℕ → List ℕ → Option ServerFirst → Turn
proves password nonce text rest None = Lost
proves password nonce text rest (Some first) = says_proof rest (proof_of password nonce text first)

abbrev pub answers : List ℕ → List ℕ → List ℕ → Option (List ℕ) → Turn
answers password nonce rest None = Lost
answers password nonce rest (Some text) = proves password nonce text rest (server_first_of nonce text)

abbrev pub named_turn : List ℕ → List ℕ → Word → Turn
named_turn password nonce Partial = Waits
named_turn password nonce (Grants text rest) = answers password nonce rest text
named_turn password nonce (Refuses why) = Refused why
named_turn password nonce Strange = Lost

abbrev pub admits : List ℕ → List ℕ → Option (List ℕ) → Turn
admits wanted rest None = Lost
admits wanted rest (Some text) = if bytes_eq text wanted then Enters rest else Lost

abbrev pub proved_turn : List ℕ → Word → Turn
proved_turn wanted Partial = Waits
proved_turn wanted (Grants text rest) = admits wanted rest text
proved_turn wanted (Refuses why) = Refused why
proved_turn wanted Strange = Lost

-- by a password, the client's nonce, where the login stands, and the bytes that are held
unfoldable pub turn_of : List ℕ → List ℕ → Stage → List ℕ → Turn
turn_of password nonce Begun held = Says call held Called
turn_of password nonce Called held = called_turn nonce (word_of held)
turn_of password nonce Named held = named_turn password nonce (word_of held)
turn_of password nonce (Proved wanted) held = proved_turn wanted (word_of held)

-- ---- a login, step by step

-- from a tape on, in so many receives, to this tape, stage and held bytes
pub data Steps (password nonce : List ℕ) (old : Tape) : ℕ → Tape → Stage → List ℕ → Type 0 where
  begun : Steps password nonce old 0 old Begun []
  said : (calls : ℕ) (t u : Tape) (stage next : Stage) (held rest bytes : List ℕ) → Steps password nonce old calls t stage held
      → turn_of password nonce stage held ≡ Says bytes rest next → Moves t u [] bytes 0 t.over → Steps password nonce old calls u next rest
  idle : (calls : ℕ) (t u : Tape) (stage : Stage) (held : List ℕ) → Steps password nonce old calls t stage held
      → turn_of password nonce stage held ≡ Waits → Moves t u [] [] 1 t.over → Steps password nonce old (calls + 1) u stage held
  heard : (calls : ℕ) (t u : Tape) (stage : Stage) (held piece : List ℕ) → Steps password nonce old calls t stage held
      → turn_of password nonce stage held ≡ Waits → 1 ≤ length piece → Moves t u piece [] 0 t.over
      → Steps password nonce old (calls + 1) u stage (held ++ piece)

-- it came so far, in no more receives than may be, and this is its turn
pub record Stands (password nonce : List ℕ) (old new : Tape) (turns : ℕ) (turn : Turn) : Type 0 where
  pub calls : ℕ
  pub within : calls ≤ turns
  pub stage : Stage
  pub held : List ℕ
  pub steps : Steps password nonce old calls new stage held
  pub is : turn_of password nonce stage held ≡ turn

-- it came so far, and then the last call of the link was such a one
pub record Then (password nonce : List ℕ) (old : Tape) (turns : ℕ) (turn : Turn) (last : Tape → Type 0) : Type 0 where
  pub mid : Tape
  pub stands : Stands password nonce old mid turns turn
  pub ends : last mid

pub record Unsaid (password nonce : List ℕ) (old new : Tape) (turns : ℕ) : Type 0 where
  pub bytes : List ℕ
  pub rest : List ℕ
  pub next : Stage
  pub unsaid : Then password nonce old turns (Says bytes rest next) (λ mid. SendsAll mid new bytes false)

-- it waits, and as many receives were made as may be
pub record WornOut (password nonce : List ℕ) (old new : Tape) (turns : ℕ) : Type 0 where
  pub stage : Stage
  pub held : List ℕ
  pub steps : Steps password nonce old turns new stage held
  pub is : turn_of password nonce stage held ≡ Waits

-- how it fails
unfoldable pub Fails : List ℕ → List ℕ → Tape → Tape → ℕ → ClientFault → Type 0
Fails password nonce old new turns (faults.Refused why) = Stands password nonce old new turns (Refused why)
Fails password nonce old new turns faults.BadAnswer = Stands password nonce old new turns Lost
Fails password nonce old new turns (faults.TooLong len) = ⊥
Fails password nonce old new turns faults.Ended = Then password nonce old turns Waits (λ mid. Moves mid new [] [] 0 true)
Fails password nonce old new turns faults.ReadFault = Then password nonce old turns Waits (λ mid. Moves (recv_failed mid) new [] [] 0 mid.over)
Fails password nonce old new turns faults.WriteFault = Unsaid password nonce old new turns
Fails password nonce old new turns faults.Worn = WornOut password nonce old new turns
Fails password nonce old new turns faults.Memory = Unit {0}

-- how it ends: it is let in, with the bytes behind the last message, or it fails
abbrev pub Ends : List ℕ → List ℕ → Tape → Tape → ℕ → Result (Vec ℕ Global) ClientFault → Type 0
Ends password nonce old new turns (Ok held) = Stands password nonce old new turns (Enters held.items)
Ends password nonce old new turns (Err fault) = Fails password nonce old new turns fault
