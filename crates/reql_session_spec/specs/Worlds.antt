-- What functions of a session say of themselves: moves on the desk, whole steps, and ends.
use Rattle.std.specs.Prelude.{◌≡◌, ◌≢◌, ◌<◌, ◌||◌, ℕ, ℤ, Bool, true, false, List, [], ◌++◌, length, Option, Some, None}
use Rattle.reql_outside.specs.Tape.{Tape, Moves, recv_failed, send_failed, counted}
use Rattle.reql_wire.specs.Frames.{Over}
use Rattle.reql_shared.specs.Acts.{Act, Acts}
use Rattle.reql_shared.specs.Parts.{between}
use Rattle.reql_shared.specs.Plays.{Plays}
use Rattle.reql_shared.specs.Sight.{Sight}
use Rattle.reql_shared.specs.declared.engine.Snap.{Snap}
use Rattle.reql_catalog.specs.Machine.{catalogue_machine}
use Rattle.reql_catalog.specs.declared.catalog.Catalog.{Catalog}
use Rattle.reql_catalog.specs.declared.command.CatCmd.{CatCmd}
use Rattle.reql_hall.specs.Rooms.{Sitting, pass}
use Rattle.reql_hall.specs.Shares.{Grew}
use Rattle.reql_table_spec.specs.Machine.{State, Seen, machine}
use Rattle.reql_table_spec.specs.Replies.{Answered as Told}
use Rattle.reql_table_spec.specs.declared.command.Order.{Order}
use Rattle.reql_session_spec.specs.Requests.{Arm}
use Rattle.reql_session_spec.specs.Tasks.{Talk}
use Rattle.reql_session_spec.specs.Logins.{Stage, IsRefused}
use Rattle.reql_session_spec.specs.Session.{Event, Mach, Leaving, Run, heard, idles, turns, over, clocked, rolled, acts_on, acts_on_names}
use Rattle.reql_session_spec.specs.Explained.{DeskShare, Life, AreHonest, Explained}
use Rattle.reql_session_spec.specs.declared.end.End.{End}
use Rattle.reql_session_spec.specs.declared.end.End.TheVariants as ends

-- an act on a slot, and nothing on the others
abbrev pub OnSlot : (ℕ → Sight Order State) → (ℕ → Sight Order State) → ℕ → Act Order Told Snap Seen → Type 0
OnSlot old new slot act = Acts machine (old slot) (new slot) act × ((t : ℕ) → t ≢ slot → new t ≡ old t)

-- a desk, and what the session remembers; the output of `now` isn't looked at
pub record Place (PL : Type 0) : Type 0 where
  pub slots : ℕ → Sight Order State
  pub names : Sight CatCmd Catalog
  pub now : Mach PL

-- what a desk did from one place to another
abbrev pub share_of : {PL : Type 0} → Place PL → Place PL → DeskShare
share_of x y = record { names = between x.names y.names; slots = λ slot. between (x.slots slot) (y.slots slot) }

-- whether the engine of a slot is sound
abbrev pub sound_at : {PL : Type 0} → Place PL → ℕ → Bool
sound_at x slot = (x.slots slot).object.start.sound

-- at a desk of a hall, with some state or other where there is no slot
abbrev pub at_desk : {PL : Type 0} → State → Sitting Order State CatCmd Catalog → Mach PL → Place PL
at_desk some desk now = record { slots = pass some desk; names = desk.names; now = now }

abbrev pub with_out : {PL : Type 0} → List ℕ → Mach PL → Mach PL
with_out out m = record m { out = out }

-- a link of which one receive or one send failed, if that is the end
abbrev pub faulted : End → Tape → Tape
faulted ends.ReadFault tape = recv_failed tape
faulted ends.WriteFault tape = send_failed tape
faulted end tape = tape

-- how often a receive and a send failed, by that end
abbrev pub faults_in_at : End → ℕ
faults_in_at ends.ReadFault = 1
faults_in_at end = 0

abbrev pub faults_out_at : End → ℕ
faults_out_at ends.WriteFault = 1
faults_out_at end = 0

-- what a link tells, if it tells it
abbrev pub IsTold : Option (List ℕ) → List ℕ → Type 0
IsTold None bytes = Unit {0}
IsTold (Some told) bytes = told ≡ bytes

abbrev pub life_of : List ℕ → List ℕ → ℕ → Bool → List (Option ℤ) → List (Option (List ℕ)) → ℕ → End → Life
life_of given sent idle is_over moments rolls turns end = record {
  given = given;
  sent = sent;
  idles = idle;
  over = is_over;
  moments = moments;
  rolls = rolls;
  turns = turns;
  end = end;
}

module _ {PL : Type 0} where
  -- these events are all that was done on the desk
  pub record DeskPlays (x y : Place PL) (events : List Event) : Type 0 where
    pub slots : (slot : ℕ) → Plays machine (x.slots slot) (y.slots slot) (acts_on slot events)
    pub names : Plays catalogue_machine x.names y.names (acts_on_names events)
    pub honest : AreHonest (sound_at x) events

module _ {PL : Type 0} (k : Talk PL) where
  -- from x to y without the link, the clock and the dice, with what is to be sent for it
  pub record Does (x y : Place PL) (said : List ℕ) : Type 0 where
    pub events : List Event
    pub bytes : heard events ≡ []
    pub idle : idles events ≡ 0
    pub turn : turns events ≡ 0
    pub still : over events ≡ false
    pub clock : clocked events ≡ []
    pub dice : rolled events ≡ []
    pub run : (out : List ℕ) → Run k (with_out out x.now) events (with_out (out ++ said) y.now)
    pub plays : DeskPlays x y events

  -- from x to y, with n turns begun, and these answers of the clock and the dice
  pub record Goes (t u : Tape) (x y : Place PL) (moments : List (Option ℤ)) (rolls : List (Option (List ℕ))) (n : ℕ) : Type 0 where
    pub events : List Event
    pub said : List ℕ
    pub run : (out : List ℕ) → Run k (with_out out x.now) events (with_out (out ++ said) y.now)
    pub moves : Moves t u (heard events) said (idles events) t.over
    pub still : over events ≡ false
    pub clock : clocked events ≡ moments
    pub dice : rolled events ≡ rolls
    pub plays : DeskPlays x y events
    pub count : turns events ≡ n

  -- when each end comes, by how far its greeting or its login has come, what is held and whether the input is over; a fault is told
  -- by the link's record alone
  abbrev pub Why : End → Stage → List ℕ → Bool → Type 0
  Why ends.Closed stage held is_over = (is_over ≡ true) × (held ≡ [])
  Why (ends.Cut n) stage held is_over = (is_over ≡ true) × (n ≡ length held) × (0 < n)
  Why (ends.Refused fault) stage held is_over = IsRefused k fault stage held
  Why (ends.TooLong len) stage held is_over = Over k.limits.frame held len
  Why end stage held is_over = Unit {0}

  -- from x the session came to this end, with these arms still to be closed
  pub record Ended (t u : Tape) (x y : Place PL) (moments : List (Option ℤ)) (rolls : List (Option (List ℕ))) (end : End) (arms : List Arm) (n : ℕ) : Type 0 where
    pub events : List Event
    pub said : List ℕ
    pub run : (out : List ℕ) → Run k (with_out out x.now) events (with_out (out ++ said) y.now)
    pub left : y.now.doing ≡ Leaving arms end
    pub moves : Moves (faulted end t) u (heard events) said (idles events) u.over
    pub still : u.over ≡ (over events || t.over)
    pub clock : clocked events ≡ moments
    pub dice : rolled events ≡ rolls
    pub why : Why end y.now.greeted y.now.held u.over
    pub plays : DeskPlays x y events
    pub count : turns events ≡ n

  -- The clause of a whole session: from this desk to that one, with this record of its link, which was fresh, these moments
  -- and rolls, this end and so many turns.
  pub record IsExplained (x y : Place PL) (tape : Tape) (moments : List (Option ℤ)) (rolls : List (Option (List ℕ))) (end : End) (n : ℕ) : Type 0 where
    pub given : List ℕ
    pub sent : List ℕ
    pub idle : ℕ
    pub explained : Explained k (share_of x y) (life_of given sent idle tape.over moments rolls n end)
    pub given_told : IsTold tape.given given
    pub sent_told : IsTold tape.sent sent
    pub idles : tape.idles ≡ counted 0 idle
    pub faults_in : tape.faults_in ≡ faults_in_at end
    pub faults_out : tape.faults_out ≡ faults_out_at end
    pub slots : (slot : ℕ) → Grew (x.slots slot) (y.slots slot)
    pub names : Grew x.names y.names
