-- What a seat is between two turns.
use Rattle.std.specs.Prelude.{◌≡◌, ◌<◌, ◌⊎◌, ℕ, ℤ, List, [], length, slice_index_or, All, Option, Some, None}
use Rattle.reql_outside.specs.Source.{Source}
use Rattle.reql_outside.specs.Tape.{Tape}
use Rattle.reql_net.specs.Doors.{DoorTold}
use Rattle.reql_hall.specs.Rooms.{Rooms}
use Rattle.reql_catalog.specs.declared.catalog.Catalog.{Catalog}
use Rattle.reql_table_spec.specs.Machine.{State}
use Rattle.reql_session_spec.specs.Books.{Books, no_books}
use Rattle.reql_session_spec.specs.Tasks.{Talk}
use Rattle.reql_session_spec.specs.declared.end.End.{End}
use Rattle.reql_session_api.specs.World.{AtWork, IsServed}
use Rattle.reql_turns.specs.Running.{IsOn, HasEnded}
use Rattle.reql_desk_moves.specs.Acting.{AtDesk}
use Rattle.reql_session.specs.Settling.{working}
use Rattle.reql_session.specs.declared.session.Bench.{Bench}
use Rattle.reql_serve.specs.Working.{Outside, outside, gave_more, left_by, SitsAt, WorkedSoFar, Worked, WorkedThere}
use Rattle.reql_serve.specs.declared.worker.Member.{Member}
use Rattle.reql_serve.specs.declared.worker.Worker.{Worker}
use Rattle.reql_serve.specs.declared.worker.WorkState.{WorkState}
use Rattle.reql_serve.specs.declared.worker.WorkState.TheVariants as state
use Rattle.reql_serve.specs.declared.seat.Asked.{Asked}
use Rattle.reql_serve.specs.declared.seat.Asked.TheVariants as asked
use Rattle.reql_serve.specs.declared.sitting.Received.{Received}
use Rattle.reql_serve.specs.declared.sitting.Received.TheVariants as received
use Rattle.reql_serve.specs.declared.sitting.Sitting.{Sitting}

-- what a worker had when it began: its desk, what it had from outside, and how many sessions it may serve
pub record Origin : Type 0 where
  pub desk : AtDesk
  pub from : Outside
  pub most : ℕ

abbrev pub origin : AtDesk → Outside → ℕ → Origin
origin desk from most = record { desk = desk; from = from; most = most }

-- an end before all of a share was served
abbrev pub IsStop : WorkState → Type 0
IsStop state.Ready = ⊥
IsStop state.Done = ⊥
IsStop end = Unit {0}

module _ {PL L : Type 0} (k : Talk PL) (heard : L → Tape) where
  -- what a door gave when it was asked, from what was told of it to what is told now: a session begins, or nobody was there, or
  -- no more are taken
  abbrev pub Receives : AtWork → DoorTold → DoorTold → Received L → Type 0
  Receives w old new (received.Client running) = (w.books ≡ no_books → IsOn k heard w w running) × (new ≡ gave_more 1 old)
  Receives w old new received.Nobody = new ≡ old
  Receives w old new (received.Over end) = IsStop end × (new ≡ left_by end old)

module _ {PL R : Type 0} (k : Talk PL) (some : State) (tape : R → Tape) (hall : Rooms State Catalog) where
  -- A client is there, for whom the door gave its last link, and of whose session this holds, by what was at work when it began:
  -- nothing was open then at the desk, where the worker had served these members before.
  pub record HasClient (o : Origin) (left : ℕ) (members : List (Member R)) (door : DoorTold) (so : AtWork → Type 0) : Type 0 where
    pub desk : AtDesk
    pub from : Outside
    pub so_far : WorkedSoFar k some tape hall o.desk desk o.from from o.most left members
    pub session : so (working some desk no_books from.clock from.dice)
    pub gave : door ≡ gave_more 1 from.door
    pub share : 0 < left

module _ {C D T V : Type 0} (told : T → Source ℤ) (rolled : D → Source (List ℕ)) where
  -- two benches are one to all that is told of them
  abbrev pub SameBench : Bench C D T V → Bench C D T V → Type 0
  SameBench b c = (c.desk ≡ b.desk) × (told c.clock ≡ told b.clock) × (rolled c.dice ≡ rolled b.dice)

module _ {PL C D T V L H : Type 0} (k : Talk PL) (some : State) (heard : L → Tape) (told : T → Source ℤ) (rolled : D → Source (List ℕ)) (work : H → AtWork) (fit : H → Type 0) where
  -- what a door gave that was asked for a client of a bench, from what was told of it to what is told now
  abbrev pub Asks : Bench C D T V → DoorTold → DoorTold → Asked (Sitting H L) C D T V → Type 0
  Asks b old new (asked.Client s) = fit s.handler × IsOn k heard (working some b.desk no_books (told b.clock) (rolled b.dice)) (work s.handler) s.running × (new ≡ gave_more 1 old)
  Asks b old new (asked.Nobody c) = SameBench told rolled b c × (new ≡ old)
  Asks b old new (asked.Over c end) = SameBench told rolled b c × IsStop end × (new ≡ left_by end old)

module _ {C G D T V L W R : Type 0} (door : G → DoorTold) where
  -- a worker stands so where it may serve somebody, and has served all of its share else
  pub record Stands (old new : Worker C G D T V L W R) (end : WorkState) : Type 0 where
    pub bench : new.bench ≡ old.bench
    pub left : new.left ≡ old.left
    pub ended : new.ended ≡ old.ended
    pub still : door new.door ≡ door old.door
    pub state : ((old.left ≡ 0) × (new.state ≡ state.Done)) ⊎ ((0 < old.left) × (new.state ≡ end))

  -- a worker that takes no more clients, for this reason
  pub record Stopped (old new : Worker C G D T V L W R) (end : WorkState) : Type 0 where
    pub bench : new.bench ≡ old.bench
    pub left : new.left ≡ old.left
    pub ended : new.ended ≡ old.ended
    pub still : door new.door ≡ door old.door
    pub state : new.state ≡ end

module _ {PL R C D T V : Type 0} (k : Talk PL) (some : State) (tape : R → Tape) (told : T → Source ℤ) (rolled : D → Source (List ℕ)) where
  -- a session that began there is over, and this is what it was, and its bench
  pub record IsServedSo (start : AtWork) (bench : Bench C D T V) (m : Member R) : Type 0 where
    pub books : Books
    pub served : IsServed k start (working some bench.desk books (told bench.clock) (rolled bench.dice)) (tape m.served.tape) m.served.end m.served.turns

module _ {PL C G D T V L W R H : Type 0} (k : Talk PL) (some : State) (tape : R → Tape) (heard : L → Tape) (told : T → Source ℤ) (rolled : D → Source (List ℕ)) (door : G → DoorTold) (work : H → AtWork) (fit : H → Type 0) (hall : Rooms State Catalog) where
  -- a worker at whose desk nobody is
  abbrev pub Waits : Origin → Worker C G D T V L W R → Bench C D T V → Type 0
  Waits o w b = WorkedSoFar k some tape hall o.desk b.desk o.from (outside (told b.clock) (rolled b.dice) (door w.door)) o.most w.left w.ended.items

  -- one at whose desk a client is, whose session holds so
  pub record Holds (o : Origin) (w : Worker C G D T V L W R) (so : AtWork → Type 0) : Type 0 where
    pub client : HasClient k some tape hall o w.left w.ended.items (door w.door) so
    pub room : length w.ended.items < w.ended.cap

  -- one that may go on
  abbrev pub GoesOnSo : Origin → Worker C G D T V L W R → Option (Bench C D T V) → Option (Sitting H L) → Type 0
  GoesOnSo o w None None = ⊥
  GoesOnSo o w None (Some s) = fit s.handler × Holds o w (λ start. IsOn k heard start (work s.handler) s.running)
  GoesOnSo o w (Some b) None = Waits o w b
  GoesOnSo o w (Some b) (Some s) = ⊥

  -- one that ended
  abbrev pub EndedSo : Origin → Worker C G D T V L W R → Option (Bench C D T V) → Type 0
  EndedSo o w None = ⊥
  EndedSo o w (Some b) = Worked k some tape hall o.desk b.desk o.from (outside (told b.clock) (rolled b.dice) (door w.door)) o.most w.left w.ended.items w.state

  abbrev pub StandsSo : Origin → Worker C G D T V L W R → WorkState → Option (Sitting H L) → Type 0
  StandsSo o w state.Ready sitting = GoesOnSo o w w.bench sitting
  StandsSo o w end sitting = EndedSo o w w.bench

  -- a seat between two turns, by what its worker had when it began
  unfoldable pub SeatSoFar : Origin → Worker C G D T V L W R → Option (Sitting H L) → Type 0
  SeatSoFar o w sitting = StandsSo o w w.state sitting

  -- what comes of a seat that may go on, whatever its worker had when it began
  unfoldable pub Serves : Worker C G D T V L W R → Option (Sitting H L) → Worker C G D T V L W R → Option (Sitting H L) → Type 0
  Serves old before new after = (o : Origin) → SeatSoFar o old before → SeatSoFar o new after

  -- what comes of a seat whose client leaves when its session has ended so
  unfoldable pub HasLeft : Worker C G D T V L W R → Sitting H L → End → Worker C G D T V L W R → Type 0
  HasLeft old s end new = (o : Origin) → Holds o old (λ start. HasEnded k heard start (work s.handler) s.running end) → SeatSoFar o new None

  -- a seat, whatever its worker had when it began
  unfoldable pub IsSeat : Worker C G D T V L W R → Option (Sitting H L) → Type 0
  IsSeat w sitting = (o : Origin) × SeatSoFar o w sitting

  -- all seats of a thread
  unfoldable pub AllSeats : List (Worker C G D T V L W R) → List (Option (Sitting H L)) → Type 0
  AllSeats ws sittings = (n : ℕ) (w : Worker C G D T V L W R) → n < length ws → IsSeat (slice_index_or ws n w) (slice_index_or sittings n None)

  -- what comes of them
  unfoldable pub ServesAll : List (Worker C G D T V L W R) → List (Option (Sitting H L)) → List (Worker C G D T V L W R) → List (Option (Sitting H L)) → Type 0
  ServesAll ws before vs after = (n : ℕ) (w : Worker C G D T V L W R) → n < length ws → Serves (slice_index_or ws n w) (slice_index_or before n None) (slice_index_or vs n w) (slice_index_or after n None)

module _ {C G D T V L W R : Type 0} where
  -- all of these workers sit at the hall, which has so many slots, and none of them has served anybody
  pub record MayBegin (hall : Rooms State Catalog) (slots : ℕ) (ws : List (Worker C G D T V L W R)) : Type 0 where
    pub of_this_hall : All (λ (w : Worker C G D T V L W R). SitsAt hall w.bench) ws
    pub slots_there : slots ≡ length hall.slots
    pub unused : All (λ (w : Worker C G D T V L W R). w.ended.items ≡ []) ws

module _ {PL C G D T V L W R : Type 0} (k : Talk PL) (some : State) (tape : R → Tape) (told : T → Source ℤ) (rolled : D → Source (List ℕ)) (door : G → DoorTold) where
  -- what each of them did
  unfoldable pub AllWorkedThere : Rooms State Catalog → List (Worker C G D T V L W R) → List (Worker C G D T V L W R) → Type 0
  AllWorkedThere hall olds news = (n : ℕ) (w : Worker C G D T V L W R) → n < length olds
      → WorkedThere k some tape told rolled hall (slice_index_or olds n w).bench (slice_index_or news n w).bench (door (slice_index_or olds n w).door) (door (slice_index_or news n w).door)
      (slice_index_or olds n w).left (slice_index_or news n w).left (slice_index_or news n w).ended.items (slice_index_or news n w).state
