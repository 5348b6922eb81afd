use Rattle.std.specs.Prelude.{◌≡◌, ℕ, ◌+◌, ◌-◌, ◌^◌, ◌<◌, ◌≤◌, zero, suc, Bool, true, false, List, [], ◌++◌, length, take, min, Option, Some, None}
use Rattle.reql_outside.specs.declared.link.Recv.{Recv}
use Rattle.reql_outside.specs.declared.link.Recv.TheVariants as recv
use Rattle.reql_outside.specs.declared.link.Sending.{Sending}
use Rattle.reql_outside.specs.declared.link.Sending.TheVariants as sending

-- what a link tells of itself: the bytes that it gave and was sent, where it tells them, how often
-- recv was idle, whether recv answered that no more comes, and its faults of recv and of send
pub record Tape : Type 0 where
  pub given : Option (List ℕ)
  pub sent : Option (List ℕ)
  pub idles : ℕ
  pub over : Bool
  pub faults_in : ℕ
  pub faults_out : ℕ

-- no byte is told
abbrev pub IsBlank : Option (List ℕ) → Type 0
IsBlank None = Unit {0}
IsBlank (Some bytes) = bytes ≡ []

-- a link before its first call
pub record IsFresh (tape : Tape) : Type 0 where
  pub given : IsBlank tape.given
  pub sent : IsBlank tape.sent
  pub idles : tape.idles ≡ 0
  pub over : tape.over ≡ false
  pub faults_in : tape.faults_in ≡ 0
  pub faults_out : tape.faults_out ≡ 0

-- the bytes so far, with a further piece, where they are told
abbrev pub grown : Option (List ℕ) → List ℕ → Option (List ℕ)
grown None piece = None
grown (Some bytes) piece = Some (bytes ++ piece)

-- a count that rises by so many, and stands still at the last value of a u64
abbrev pub counted : ℕ → ℕ → ℕ
counted old zero = old
counted old (suc n) = min (old + suc n) (2 ^ 64 - 1)

-- from old to new these bytes were heard and said, recv was idle so often, and no call failed;
-- afterwards it is over or not
pub record Moves (old new : Tape) (heard said : List ℕ) (idles : ℕ) (over : Bool) : Type 0 where
  pub given : new.given ≡ grown old.given heard
  pub sent : new.sent ≡ grown old.sent said
  pub idle : new.idles ≡ counted old.idles idles
  pub ended : new.over ≡ over
  pub faults_in : new.faults_in ≡ old.faults_in
  pub faults_out : new.faults_out ≡ old.faults_out

-- a link of which one more recv failed, or one more send
abbrev pub recv_failed : Tape → Tape
recv_failed tape = record tape { faults_in = counted tape.faults_in 1 }

abbrev pub send_failed : Tape → Tape
send_failed tape = record tape { faults_out = counted tape.faults_out 1 }

-- one recv, with the buffer after it
abbrev pub Receives : Tape → Tape → List ℕ → Recv → Type 0
Receives old new buf (recv.Got n) = Moves old new (take n buf) [] 0 old.over
Receives old new buf recv.Idle = Moves old new [] [] 1 old.over
Receives old new buf recv.End = Moves old new [] [] 0 true
Receives old new buf recv.Failed = Moves (recv_failed old) new [] [] 0 old.over

-- one send of a piece
abbrev pub Sends : Tape → Tape → List ℕ → Sending → Type 0
Sends old new piece (sending.Sent n) = Moves old new [] (take n piece) 0 old.over
Sends old new piece sending.Failed = Moves (send_failed old) new [] [] 0 old.over

-- a count of what was taken is at least 1 and at most what there is room for
abbrev pub RecvFits : Recv → ℕ → Type 0
RecvFits (recv.Got n) room = (1 ≤ n) × (n ≤ room)
RecvFits recv.Idle room = Unit {0}
RecvFits recv.End room = Unit {0}
RecvFits recv.Failed room = Unit {0}

abbrev pub SendFits : Sending → ℕ → Type 0
SendFits (sending.Sent n) room = (1 ≤ n) × (n ≤ room)
SendFits sending.Failed room = Unit {0}

-- the whole piece was said and no send failed, or one failed where something was left to be said
abbrev pub SendsAll : Tape → Tape → List ℕ → Bool → Type 0
SendsAll old new piece true = Moves old new [] piece 0 old.over
SendsAll old new piece false =
    (front : List ℕ) × (back : List ℕ) × (piece ≡ front ++ back) × (0 < length back)
    × Moves (send_failed old) new [] front 0 old.over
