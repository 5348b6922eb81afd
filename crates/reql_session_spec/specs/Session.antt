-- The session machine: what a session remembers, and its events.
use Rattle.std.specs.Prelude.{◌≡◌, ◌⊎◌, ◌<◌, ◌≤◌, ℕ, ℤ, ◌+◌, nat_eq, if◌then◌else◌, Bool, true, false, List, [], ◌∷◌, ◌++◌, length, drop, flat_map, Option, Some, None}
use Rattle.reql_wire.specs.Frames.{Fits, NoFrame, HoldsFrame, Over, spelling, front}
use Rattle.reql_wire.specs.Frames as frames
use Rattle.reql_wire.specs.Greeting.{Greets, accepted, refusal}
use Rattle.reql_wire.specs.declared.frame.Frame.{Frame}
use Rattle.reql_wire.specs.declared.greeter.GreetFault.{GreetFault}
use Rattle.reql_wire.specs.declared.greeter.GreetFault.TheVariants as fault
use Rattle.reql_wire.specs.declared.greeter.Greeting.TheVariants as greeting
use Rattle.reql_scram.specs.declared.fault.LoginFault.{LoginFault}
use Rattle.reql_login.specs.Turns.{Gate, after_roll, turn_of}
use Rattle.reql_login.specs.Turns as gates
use Rattle.reql_shared.specs.Acts.{Act, Ran, Looked, Denied}
use Rattle.reql_shared.specs.declared.engine.Snap.{Snap}
use Rattle.reql_catalog.specs.Catalog.{Named}
use Rattle.reql_catalog.specs.declared.command.CatCmd.{CatCmd}
use Rattle.reql_catalog.specs.declared.command.CatReply.{CatReply}
use Rattle.reql_table_spec.specs.Machine.{Seen}
use Rattle.reql_table_spec.specs.Replies.{Answered as Told}
use Rattle.reql_table_spec.specs.declared.command.Order.{Order}
use Rattle.reql_table_spec.specs.declared.reply.Saved.{Saved}
use Rattle.reql_session_spec.specs.Requests.{Arm, Answered, Move, LookNames, TellTime, LookSlot, ChangeNames, Roll, Ends, Found, SawNames, Clocked, SawSlot, ChangedNames, Rolled, Answer}
use Rattle.reql_session_spec.specs.Books.{Books, no_books, all_arms, saw_names}
use Rattle.reql_session_spec.specs.Bodies.{body}
use Rattle.reql_session_spec.specs.Tasks.{Talk, Task, Planning, Telling, Next, batch_size, wanted, denied, told, visit, comes_to, takes_up, ran, found_more, Runs, Asks, close_order}
use Rattle.reql_session_spec.specs.Logins.{Stage, Waiting, At, Admitted, InLogin, account}
use Rattle.reql_session_spec.specs.declared.end.End.{End}
use Rattle.reql_session_spec.specs.declared.end.End.TheVariants as ends

-- An event: a turn or a visit begins; the greeting is accepted or refused, and its answer was sent whole or in part; likewise a
-- login says a message, or is refused; it rolls; a frame is taken, and its body is read, or not for want of memory; what a receive gave, with room for it or none; a header that is
-- too long; all turns are used up; there is no room to go on, before the greeting was answered or for a frame; what was done
-- on a slot, with whether it was kept on disk, on the catalogue, with the clock, or with the dice; a plan comes to its end; an
-- answer is sent, whole or in part; memory is wanted.
pub data Event : Type 0 where
  Turn : Event
  Visit : Event
  Greeted : Bool → Event
  Login : Bool → Event
  Cast : Option (List ℕ) → Event
  Begin : Frame → Bool → Event
  Heard : List ℕ → Event
  Lost : List ℕ → Event
  Quiet : Event
  Finish : Event
  Broken : Event
  Long : ℕ → Event
  Wear : Event
  Poor : Event
  On : ℕ → Act Order Told Snap Seen → Saved → Event
  OnNames : Act CatCmd CatReply Snap Named → Event
  Clock : Option ℤ → Event
  Dice : Option (List ℕ) → Event
  Come : Event
  Say : ℕ → Answer → Bool → Event
  Want : Event

-- What a session is doing: nothing, between turns; making the visits of a turn; busy with a task, after which come further
-- visits or the turn's end; or leaving, with arms that are still to be closed.
pub data Doing (PL : Type 0) : Type 0 where
  Rest : Doing PL
  Visits : List ℕ → Doing PL
  Busy : Option (List ℕ) → Task PL → Doing PL
  Leaving : List Arm → End → Doing PL

-- the bytes held, how far its greeting or its login has come, what is kept, what it is doing, and what was sent so far
pub record Mach (PL : Type 0) : Type 0 where
  pub held : List ℕ
  pub greeted : Stage
  pub books : Books
  pub doing : Doing PL
  pub out : List ℕ

-- with the bytes held, the end of the input closes the session or cuts it
abbrev pub end_of : List ℕ → End
end_of [] = ends.Closed
end_of (b ∷ bs) = ends.Cut (length (b ∷ bs))

-- what was sent of a piece: all of it, or a front, where something of it is left
abbrev pub Sent : Bool → List ℕ → List ℕ → Type 0
Sent true piece front = front ≡ piece
Sent false piece front = (back : List ℕ) × (piece ≡ front ++ back) × (0 < length back)

-- what one receive gives, which has room for 65536 bytes
pub record IsPiece (bytes : List ℕ) : Type 0 where
  pub some : 1 ≤ length bytes
  pub room : length bytes ≤ 65536

module _ {PL : Type 0} where
  abbrev pub fresh : Mach PL
  fresh = record { held = []; greeted = Waiting; books = no_books; doing = Rest; out = [] }

  abbrev pub back_to : Option (List ℕ) → Doing PL
  back_to None = Rest
  back_to (Some left) = Visits left

  abbrev pub doing_next : Option (List ℕ) → Option (Task PL) → Doing PL
  doing_next back None = back_to back
  doing_next back (Some t) = Busy back t

  -- going on with a task, or after it
  abbrev pub goes_on : Mach PL → Option (List ℕ) → Next PL → Mach PL
  goes_on m back x = record m { books = x.books; doing = doing_next back x.task }

  abbrev pub says : Mach PL → List ℕ → Mach PL
  says m bytes = record m { out = m.out ++ bytes }

  abbrev pub leaves : Mach PL → Books → End → Mach PL
  leaves m b end = record m { doing = Leaving (all_arms b) end }

  -- An answer to a token, sent whole or not. After one that wasn't, as after the answer to a greeting that wasn't, the machine
  -- leaves: it takes no more, and only the arms that are kept are closed.
  abbrev pub tells : Mach PL → Option (List ℕ) → ℕ → Books → Option (List Arm) → Bool → Mach PL
  tells m back token kept after true = goes_on m back (told token kept after)
  tells m back token kept after false = leaves m kept ends.WriteFault

  abbrev pub greets_back : Mach PL → ℕ → Bool → Mach PL
  greets_back m used true = record m { held = drop used m.held; greeted = Admitted; doing = Rest }
  greets_back m used false = record m { doing = Leaving [] ends.WriteFault }

  abbrev pub turns_away : Mach PL → GreetFault → Bool → Mach PL
  turns_away m why true = record m { doing = Leaving [] (ends.Refused why) }
  turns_away m why false = record m { doing = Leaving [] ends.WriteFault }

  -- A login goes on after a message that was sent whole, and after its last one frames follow.
  abbrev pub lets_on : Mach PL → List ℕ → Gate → Bool → Mach PL
  lets_on m rest gate true = record m { held = rest; greeted = At gate; doing = Rest }
  lets_on m rest gate false = record m { doing = Leaving [] ends.WriteFault }

  abbrev pub lets_in : Mach PL → List ℕ → Bool → Mach PL
  lets_in m rest true = record m { held = rest; greeted = Admitted; doing = Rest }
  lets_in m rest false = record m { doing = Leaving [] ends.WriteFault }

-- an answer as bytes
abbrev pub spoken : ℕ → Answer → List ℕ
spoken token a = spelling (record { token = token; body = body a })

module _ {PL : Type 0} (k : Talk PL) where
  -- the visits were made, and no whole greeting, message of a login or frame is held, so that recv is called
  abbrev pub Unread : Stage → List ℕ → Type 0
  Unread Waiting held = Greets k.key held greeting.More
  Unread (At gate) held = turn_of (account k) gate held ≡ gates.Waits
  Unread Admitted held = (front k.limits.frame held ≡ frames.More) × NoFrame k.limits.frame held

  abbrev pub IsReady : Mach PL → Type 0
  IsReady m = (m.doing ≡ Visits []) × Unread m.greeted m.held

  -- the body of a whole frame that is held, what the greeting is answered with, or the answer to a message of a login, may find no
  -- room
  abbrev pub MayStarve : Mach PL → Type 0
  MayStarve m = ((m.doing ≡ Visits []) × (m.greeted ≡ Admitted) × HoldsFrame k.limits.frame m.held)
      ⊎ (((m.doing ≡ Rest) × (m.greeted ≡ Admitted → ⊥))
      ⊎ ((m.doing ≡ Visits []) × (next : gates.Turn) × InLogin k m.greeted m.held next × (next ≡ gates.Waits → ⊥)))

  -- one act on a slot: by a task, or in leaving
  pub record TaskRuns (m : Mach PL) (slot : ℕ) (order : Order) (reply : Told) (saved : Saved) (n : Mach PL) : Type 0 where
    pub back : Option (List ℕ)
    pub task : Task PL
    pub doing : m.doing ≡ Busy back task
    pub runs : Runs k m.books task slot order
    pub goes : n ≡ goes_on m back (ran k m.books task slot order.cmd reply saved)

  pub record TaskDenied (m : Mach PL) (slot : ℕ) (n : Mach PL) : Type 0 where
    pub back : Option (List ℕ)
    pub task : Task PL
    pub order : Order
    pub doing : m.doing ≡ Busy back task
    pub runs : Runs k m.books task slot order
    pub goes : n ≡ goes_on m back (denied m.books task slot order.cmd)

  -- a plan looks, tells the clock, changes the catalogue, rolls, or comes to its end
  pub record Plans (m : Mach PL) (move : Move) (b : Books) (found : Found) (n : Mach PL) : Type 0 where
    pub back : Option (List ℕ)
    pub task : Task PL
    pub doing : m.doing ≡ Busy back task
    pub asks : Asks k task move
    pub goes : n ≡ goes_on m back (found_more k b task found)

  pub record PlanDenied (m : Mach PL) (move : Move) (n : Mach PL) : Type 0 where
    pub back : Option (List ℕ)
    pub task : Task PL
    pub doing : m.doing ≡ Busy back task
    pub asks : Asks k task move
    pub goes : n ≡ goes_on m back (wanted m.books task)

  pub record PlanEnds (m : Mach PL) (n : Mach PL) : Type 0 where
    pub back : Option (List ℕ)
    pub token : ℕ
    pub plan : PL
    pub noreply : Bool
    pub count : ℕ
    pub found : List Found
    pub arms : List Arm
    pub doing : m.doing ≡ Busy back (Planning token plan noreply count found arms)
    pub to : Answered
    pub ends : k.next plan noreply count found ≡ Ends to
    pub goes : n ≡ goes_on m back (comes_to k m.books token (batch_size k plan) found arms to)

  -- one Unsubscribe of a session that leaves, answered or refused
  pub record LeavesArm (m : Mach PL) (slot : ℕ) (arm : Arm) (n : Mach PL) : Type 0 where
    pub arms : List Arm
    pub end : End
    pub doing : m.doing ≡ Leaving (arm ∷ arms) end
    pub there : slot ≡ arm.slot
    pub goes : n ≡ record m { doing = Leaving arms end }

  -- an answer, of which this much was sent
  pub record Tells (m : Mach PL) (token : ℕ) (a : Answer) (whole : Bool) (n : Mach PL) : Type 0 where
    pub back : Option (List ℕ)
    pub kept : Books
    pub lose : Option (List Arm)
    pub after : Option (List Arm)
    pub front : List ℕ
    pub doing : m.doing ≡ Busy back (Telling token a kept lose after)
    pub sent : Sent whole (spoken token a) front
    pub goes : n ≡ says (tells m back token kept after whole) front

  pub record Wants (m : Mach PL) (n : Mach PL) : Type 0 where
    pub back : Option (List ℕ)
    pub task : Task PL
    pub doing : m.doing ≡ Busy back task
    pub goes : n ≡ goes_on m back (wanted m.books task)

  -- a message or the refusal of a login, of which this much was sent
  abbrev pub LoginStep : Mach PL → Bool → Mach PL → Type 0
  LoginStep m whole n = (m.doing ≡ Visits []) × (front : List ℕ)
      × (((bytes rest : List ℕ) × (next : Gate) × InLogin k m.greeted m.held (gates.Says bytes rest next) × Sent whole bytes front × (n ≡ says (lets_on m rest next whole) front))
      ⊎ (((bytes rest : List ℕ) × InLogin k m.greeted m.held (gates.Admits bytes rest) × Sent whole bytes front × (n ≡ says (lets_in m rest whole) front))
      ⊎ ((why : LoginFault) × InLogin k m.greeted m.held (gates.Refuses why) × Sent whole (refusal (fault.Login why)) front × (n ≡ says (turns_away m (fault.Login why) whole) front))))

  -- a roll of a login
  abbrev pub CastStep : Mach PL → Option (List ℕ) → Mach PL → Type 0
  CastStep m bytes n = (m.doing ≡ Visits []) × (x : InLogin k m.greeted m.held gates.Rolls) × (n ≡ record m { greeted = At (after_roll x.gate bytes); doing = Visits [] })

  abbrev pub GreetStep : Mach PL → Bool → Mach PL → Type 0
  GreetStep m whole n = (m.doing ≡ Visits []) × (m.greeted ≡ Waiting)
      × (((used : ℕ) × Greets k.key m.held (greeting.Accepted used) × (front : List ℕ) × Sent whole accepted front × (n ≡ says (greets_back m used whole) front))
      ⊎ ((why : GreetFault) × Greets k.key m.held (greeting.Refused why) × (front : List ℕ) × Sent whole (refusal why) front × (n ≡ says (turns_away m why whole) front)))

  abbrev pub Step : Mach PL → Event → Mach PL → Type 0
  Step m Turn n = (m.doing ≡ Rest) × (n ≡ record m { books = record m.books { waiting = [] }; doing = Visits m.books.waiting })
  Step m Visit n = (token : ℕ) × (left : List ℕ) × (m.doing ≡ Visits (token ∷ left)) × (n ≡ goes_on m (Some left) (visit k m.books token))
  Step m (Greeted whole) n = GreetStep m whole n
  Step m (Login whole) n = LoginStep m whole n
  Step m (Cast bytes) n = CastStep m bytes n
  Step m (Begin frame is_read) n = (rest : List ℕ) × (m.doing ≡ Visits []) × (m.greeted ≡ Admitted) × Fits k.limits.frame frame × (m.held ≡ spelling frame ++ rest)
      × (n ≡ goes_on (record m { held = rest }) None (takes_up k m.books frame.token frame.body is_read))
  Step m (Heard bytes) n = IsReady m × IsPiece bytes × (n ≡ record m { held = m.held ++ bytes; doing = Rest })
  Step m (Lost bytes) n = IsReady m × IsPiece bytes × (n ≡ leaves (record m { held = m.held ++ bytes }) m.books ends.Memory)
  Step m Quiet n = IsReady m × (n ≡ record m { doing = Rest })
  Step m Finish n = IsReady m × (n ≡ leaves m m.books (end_of m.held))
  Step m Broken n = IsReady m × (n ≡ leaves m m.books ends.ReadFault)
  Step m (Long len) n = (m.doing ≡ Visits []) × (m.greeted ≡ Admitted) × Over k.limits.frame m.held len × (n ≡ leaves m m.books (ends.TooLong len))
  Step m Wear n = (m.doing ≡ Rest) × (n ≡ leaves m m.books ends.Worn)
  Step m Poor n = MayStarve m × (n ≡ leaves m m.books ends.Memory)
  Step m (On slot (Ran place order reply) saved) n = TaskRuns m slot order reply saved n ⊎ ((arm : Arm) × (order ≡ close_order arm.feed) × LeavesArm m slot arm n)
  Step m (On slot (Looked place question look) saved) n = Plans m (LookSlot slot) m.books (SawSlot slot look) n
  Step m (On slot (Denied place) saved) n = TaskDenied m slot n ⊎ (PlanDenied m (LookSlot slot) n ⊎ ((arm : Arm) × LeavesArm m slot arm n))
  Step m (OnNames (Ran place cmd reply)) n = Plans m (ChangeNames cmd) (saw_names reply.place m.books) (ChangedNames reply.place reply) n
  Step m (OnNames (Looked place question names)) n = Plans m LookNames (saw_names place m.books) (SawNames place names) n
  Step m (OnNames (Denied place)) n = PlanDenied m LookNames n ⊎ ((cmd : CatCmd) × PlanDenied m (ChangeNames cmd) n)
  Step m (Clock moment) n = Plans m TellTime m.books (Clocked moment) n
  Step m (Dice bytes) n = Plans m Roll m.books (Rolled bytes) n
  Step m Come n = PlanEnds m n
  Step m (Say token a whole) n = Tells m token a whole n
  Step m Want n = Wants m n

  abbrev pub Run : Mach PL → List Event → Mach PL → Type 0
  Run m [] n = n ≡ m
  Run m (e ∷ es) n = (x : Mach PL) × Step m e x × Run x es n

-- what the events have of the input, of idle receives and turns, of frames, of the clock and the dice, and of one object
abbrev pub heard_of : Event → List ℕ
heard_of (Heard bytes) = bytes
heard_of (Lost bytes) = bytes
heard_of e = []

abbrev pub heard : List Event → List ℕ
heard es = flat_map heard_of es

abbrev pub idles_of : Event → ℕ
idles_of Quiet = 1
idles_of e = 0

abbrev pub idles : List Event → ℕ
idles [] = 0
idles (e ∷ es) = idles_of e + idles es

abbrev pub turns_of : Event → ℕ
turns_of Turn = 1
turns_of e = 0

abbrev pub turns : List Event → ℕ
turns [] = 0
turns (e ∷ es) = turns_of e + turns es

-- whether the input was over
abbrev pub over : List Event → Bool
over [] = false
over (Finish ∷ es) = true
over (e ∷ es) = over es

abbrev pub begun_of : Event → List Frame
begun_of (Begin frame is_read) = frame ∷ []
begun_of e = []

abbrev pub begun : List Event → List Frame
begun es = flat_map begun_of es

-- what each call of the clock and of the dice answered, in a login and for a plan: a moment that was told, bytes that were rolled, or
-- that it failed
abbrev pub clocked_of : Event → List (Option ℤ)
clocked_of (Clock moment) = moment ∷ []
clocked_of e = []

abbrev pub clocked : List Event → List (Option ℤ)
clocked es = flat_map clocked_of es

abbrev pub rolled_of : Event → List (Option (List ℕ))
rolled_of (Cast bytes) = bytes ∷ []
rolled_of (Dice bytes) = bytes ∷ []
rolled_of e = []

abbrev pub rolled : List Event → List (Option (List ℕ))
rolled es = flat_map rolled_of es

-- those of a login, and those for plans
abbrev pub cast_of : Event → List (Option (List ℕ))
cast_of (Cast bytes) = bytes ∷ []
cast_of e = []

abbrev pub casts : List Event → List (Option (List ℕ))
casts es = flat_map cast_of es

abbrev pub planned_of : Event → List (Option (List ℕ))
planned_of (Dice bytes) = bytes ∷ []
planned_of e = []

abbrev pub planned : List Event → List (Option (List ℕ))
planned es = flat_map planned_of es

abbrev pub acts_of : ℕ → Event → List (Act Order Told Snap Seen)
acts_of slot (On s act saved) = if nat_eq s slot then act ∷ [] else []
acts_of slot e = []

abbrev pub acts_on : ℕ → List Event → List (Act Order Told Snap Seen)
acts_on slot es = flat_map (acts_of slot) es

abbrev pub names_of : Event → List (Act CatCmd CatReply Snap Named)
names_of (OnNames act) = act ∷ []
names_of e = []

abbrev pub acts_on_names : List Event → List (Act CatCmd CatReply Snap Named)
acts_on_names es = flat_map names_of es
