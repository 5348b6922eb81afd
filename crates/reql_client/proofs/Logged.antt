-- A login, step by step.
use Rattle.std.proofs.Common.{◌≡◌, ℕ, ◌+◌, ◌<◌, ◌≤◌, List, [], ◌++◌, length, Bool, true, false, if◌then◌else◌, bytes_eq, Option, Some, None, sym, subst, arith}
use Rattle.reql_outside.specs.Tape.{Tape, Moves, SendsAll}
use Rattle.reql_client.specs.Login.{Word, Stage, Turn, Begun, Called, Named, Proved, Waits, Says, Enters, Refused, Lost, Steps, Stands, Then, Unsaid, WornOut, begun, said, idle, heard, turn_of, word_of, called_turn, named_turn, proved_turn, answers, proves, admits}
use Rattle.reql_client.specs.Login as logins
use Rattle.reql_client.specs.Proving.{ServerFirst, server_first_of}

-- how many messages of the client are left to be said
abbrev pub left : Stage → ℕ
left Begun = 3
left Called = 2
left Named = 1
left (Proved wanted) = 0

abbrev Falls : ℕ → Turn → Type 0
Falls n Waits = Unit {0}
Falls n (Says bytes rest next) = left next < n
Falls n (Enters rest) = Unit {0}
Falls n (Refused why) = Unit {0}
Falls n Lost = Unit {0}

called_falls : (nonce : List ℕ) (w : Word) → Falls 2 (called_turn nonce w)
called_falls nonce logins.Partial = tt
called_falls nonce (logins.Grants text rest) = omega arith
called_falls nonce (logins.Refuses why) = tt
called_falls nonce logins.Strange = tt

proves_falls : (password nonce text rest : List ℕ) (first : Option ServerFirst) → Falls 1 (proves password nonce text rest first)
proves_falls password nonce text rest None = tt
proves_falls password nonce text rest (Some first) = omega arith

answers_falls : (password nonce rest : List ℕ) (text : Option (List ℕ)) → Falls 1 (answers password nonce rest text)
answers_falls password nonce rest None = tt
answers_falls password nonce rest (Some text) = proves_falls password nonce text rest (server_first_of nonce text)

named_falls : (password nonce : List ℕ) (w : Word) → Falls 1 (named_turn password nonce w)
named_falls password nonce logins.Partial = tt
named_falls password nonce (logins.Grants text rest) = answers_falls password nonce rest text
named_falls password nonce (logins.Refuses why) = tt
named_falls password nonce logins.Strange = tt

let_in_or_not : (rest : List ℕ) (b : Bool) → Falls 0 (if b then Enters rest else Lost)
let_in_or_not rest true = tt
let_in_or_not rest false = tt

admits_falls : (wanted rest : List ℕ) (text : Option (List ℕ)) → Falls 0 (admits wanted rest text)
admits_falls wanted rest None = tt
admits_falls wanted rest (Some text) = let_in_or_not rest (bytes_eq text wanted)

proved_falls : (wanted : List ℕ) (w : Word) → Falls 0 (proved_turn wanted w)
proved_falls wanted logins.Partial = tt
proved_falls wanted (logins.Grants text rest) = admits_falls wanted rest text
proved_falls wanted (logins.Refuses why) = tt
proved_falls wanted logins.Strange = tt

turn_falls : (password nonce : List ℕ) (stage : Stage) (held : List ℕ) → Falls (left stage) (turn_of password nonce stage held)
unfolding turn_of
turn_falls password nonce Begun held = omega arith
turn_falls password nonce Called held = called_falls nonce (word_of held)
turn_falls password nonce Named held = named_falls password nonce (word_of held)
turn_falls password nonce (Proved wanted) held = proved_falls wanted (word_of held)

-- each thing said leaves fewer
pub fewer_left : (password nonce : List ℕ) (stage next : Stage) (held bytes rest : List ℕ) → turn_of password nonce stage held ≡ Says bytes rest next → left next < left stage
fewer_left password nonce stage next held bytes rest e = subst (λ t. Falls (left stage) t) e (turn_falls password nonce stage held)

pub seen_turn : (password nonce : List ℕ) (stage : Stage) (held seen : List ℕ) (t : Turn) → seen ≡ held → turn_of password nonce stage seen ≡ t → turn_of password nonce stage held ≡ t
seen_turn password nonce stage held seen t e is = subst (λ h. turn_of password nonce stage h ≡ t) e is

pub stands_at : (password nonce : List ℕ) (old new : Tape) (turns calls : ℕ) (stage : Stage) (held seen : List ℕ) (t : Turn) → Steps password nonce old calls new stage held → calls ≤ turns → seen ≡ held
    → turn_of password nonce stage seen ≡ t → Stands password nonce old new turns t
stands_at password nonce old new turns calls stage held seen t steps le e is = record { calls = calls; within = le; stage = stage; held = held; steps = steps; is = seen_turn password nonce stage held seen t e is }

pub then_at : (password nonce : List ℕ) (old mid : Tape) (turns calls : ℕ) (stage : Stage) (held seen : List ℕ) (t : Turn) (last : Tape → Type 0) → Steps password nonce old calls mid stage held → calls ≤ turns → seen ≡ held
    → turn_of password nonce stage seen ≡ t → last mid → Then password nonce old turns t last
then_at password nonce old mid turns calls stage held seen t last steps le e is ends = record { mid = mid; stands = stands_at password nonce old mid turns calls stage held seen t steps le e is; ends = ends }

pub worn_at : (password nonce : List ℕ) (old new : Tape) (turns calls : ℕ) (stage : Stage) (held seen : List ℕ) → Steps password nonce old calls new stage held → calls ≡ turns → seen ≡ held
    → turn_of password nonce stage seen ≡ Waits → WornOut password nonce old new turns
worn_at password nonce old new turns calls stage held seen steps le e is = record { stage = stage; held = held; steps = subst (λ n. Steps password nonce old n new stage held) le steps; is = seen_turn password nonce stage held seen Waits e is }

pub unsaid_at : (password nonce : List ℕ) (old mid new : Tape) (turns calls : ℕ) (stage next : Stage) (held seen bytes piece rest : List ℕ) → Steps password nonce old calls mid stage held → calls ≤ turns → seen ≡ held
    → turn_of password nonce stage seen ≡ Says bytes rest next → piece ≡ bytes → SendsAll mid new piece false → Unsaid password nonce old new turns
unsaid_at password nonce old mid new turns calls stage next held seen bytes piece rest steps le e is f sends = record {
  bytes = bytes;
  rest = rest;
  next = next;
  unsaid = then_at password nonce old mid turns calls stage held seen (Says bytes rest next) (λ m. SendsAll m new bytes false) steps le e is (subst (λ b. SendsAll mid new b false) f sends);
}

pub said_at : (password nonce : List ℕ) (old mid new : Tape) (calls : ℕ) (stage next : Stage) (held seen bytes piece rest : List ℕ) → Steps password nonce old calls mid stage held → seen ≡ held
    → turn_of password nonce stage seen ≡ Says bytes rest next → piece ≡ bytes → SendsAll mid new piece true → Steps password nonce old calls new next rest
said_at password nonce old mid new calls stage next held seen bytes piece rest steps e is f sends =
    said calls mid new stage next held rest bytes steps (seen_turn password nonce stage held seen (Says bytes rest next) e is) (subst (λ b. SendsAll mid new b true) f sends)

pub idle_at : (password nonce : List ℕ) (old mid new : Tape) (calls : ℕ) (stage : Stage) (held seen : List ℕ) → Steps password nonce old calls mid stage held → seen ≡ held
    → turn_of password nonce stage seen ≡ Waits → Moves mid new [] [] 1 mid.over → Steps password nonce old (calls + 1) new stage held
idle_at password nonce old mid new calls stage held seen steps e is moves = idle calls mid new stage held steps (seen_turn password nonce stage held seen Waits e is) moves

pub heard_at : (password nonce : List ℕ) (old mid new : Tape) (calls : ℕ) (stage : Stage) (held seen piece now : List ℕ) → Steps password nonce old calls mid stage held → seen ≡ held
    → turn_of password nonce stage seen ≡ Waits → 1 ≤ length piece → Moves mid new piece [] 0 mid.over → now ≡ held ++ piece → Steps password nonce old (calls + 1) new stage now
heard_at password nonce old mid new calls stage held seen piece now steps e is some moves f =
    subst (λ h. Steps password nonce old (calls + 1) new stage h) (sym f) (heard calls mid new stage held piece steps (seen_turn password nonce stage held seen Waits e is) some moves)
