-- What a worker did.
use Rattle.std.specs.Prelude.{◌≡◌, ◌<◌, ◌+◌, ℕ, ℤ, true, List, [], ◌∷◌, length, All, Option, Some, None}
use Rattle.reql_outside.specs.Source.{Source}
use Rattle.reql_outside.specs.Tape.{Tape, counted}
use Rattle.reql_net.specs.Doors.{DoorTold}
use Rattle.reql_hall.specs.Rooms.{Rooms, Sits}
use Rattle.reql_hall.specs.Shares.{Serves}
use Rattle.reql_catalog.specs.declared.catalog.Catalog.{Catalog}
use Rattle.reql_table_spec.specs.Machine.{State}
use Rattle.reql_session_spec.specs.Books.{Books, no_books}
use Rattle.reql_session_spec.specs.Tasks.{Talk}
use Rattle.reql_session_spec.specs.Explained.{Life, ExplainedBy}
use Rattle.reql_session_spec.specs.Worlds.{IsTold, faults_in_at, faults_out_at}
use Rattle.reql_session_api.specs.World.{Gave, IsServed}
use Rattle.reql_desk_moves.specs.Acting.{AtDesk}
use Rattle.reql_session.specs.Settling.{working}
use Rattle.reql_session.specs.declared.session.Bench.{Bench}
use Rattle.reql_serve.specs.declared.worker.Member.{Member}
use Rattle.reql_serve.specs.declared.worker.WorkState.{WorkState}
use Rattle.reql_serve.specs.declared.worker.WorkState.TheVariants as state

-- what a worker has from outside, as it tells of itself: a clock, dice, and a door
pub record Outside : Type 0 where
  pub clock : Source ℤ
  pub dice : Source (List ℕ)
  pub door : DoorTold

abbrev pub outside : Source ℤ → Source (List ℕ) → DoorTold → Outside
outside clock dice door = record { clock = clock; dice = dice; door = door }

-- a door that gave so many more links
abbrev pub gave_more : ℕ → DoorTold → DoorTold
gave_more n door = record door { gave = counted door.gave n }

-- a door as a worker left it, which ended so: it had answered that no more come, or that it failed, or was not asked
abbrev pub left_by : WorkState → DoorTold → DoorTold
left_by state.Over door = record door { over = true }
left_by state.Failed door = record door { over = true; broken = true; faults = counted door.faults 1 }
left_by end door = door

-- how many sessions a worker may still serve, which ended so: none where it has served all of its share, and else some; it
-- doesn't end where it may go on
abbrev pub StopsWith : WorkState → ℕ → Type 0
StopsWith state.Ready left = ⊥
StopsWith state.Done left = left ≡ 0
StopsWith end left = 0 < left

-- it is there, and so
abbrev pub IsThere : {A : Type 0} → Option A → (A → Type 0) → Type 0
IsThere None so = ⊥
IsThere (Some a) so = so a

-- both are there, and so
abbrev pub AreThere : {A : Type 0} → Option A → Option A → (A → A → Type 0) → Type 0
AreThere None new so = ⊥
AreThere (Some a) None so = ⊥
AreThere (Some a) (Some b) so = so a b

module _ {R : Type 0} (tape : R → Tape) where
  -- What is told of a member by the record of its link, its end and its turns, and by the clock and the dice before and after
  -- it: what these answered it, and that they failed only where they aren't sound.
  pub record IsLifeOf (old new : Outside) (m : Member R) (life : Life) : Type 0 where
    pub given : IsTold (tape m.served.tape).given life.given
    pub sent : IsTold (tape m.served.tape).sent life.sent
    pub idles : (tape m.served.tape).idles ≡ counted 0 life.idles
    pub over : life.over ≡ (tape m.served.tape).over
    pub faults_in : (tape m.served.tape).faults_in ≡ faults_in_at life.end
    pub faults_out : (tape m.served.tape).faults_out ≡ faults_out_at life.end
    pub end : life.end ≡ m.served.end
    pub turns : life.turns ≡ m.served.turns
    pub clock : Gave old.clock new.clock life.moments
    pub dice : Gave old.dice new.dice life.rolls

  -- these are the lives of the members, one after another, with one clock and one set of dice
  abbrev pub Follow : Outside → List (Member R) → List Life → Outside → Type 0
  Follow old [] [] new = (new.clock ≡ old.clock) × (new.dice ≡ old.dice)
  Follow old [] (life ∷ lives) new = ⊥
  Follow old (m ∷ ms) [] new = ⊥
  Follow old (m ∷ ms) (life ∷ lives) new = (mid : Outside) × IsLifeOf old mid m life × Follow mid ms lives new

module _ {PL R : Type 0} (k : Talk PL) (some : State) (tape : R → Tape) where
  -- one more member, that came by the door and was served at the desk
  pub record ServesNext (old new : AtDesk) (from to : Outside) (m : Member R) : Type 0 where
    pub desk : m.desk ≡ old.names.number
    pub books : Books
    pub served : IsServed k (working some old no_books from.clock from.dice) (working some new books to.clock to.dice) (tape m.served.tape) m.served.end m.served.turns
    pub door : to.door ≡ gave_more 1 from.door

  -- The turns of a worker so far, which had served nobody, and may serve so many: its members are all for whom its desk was
  -- used, each explained with its part of it, with nothing left; and there is one for each link that its door gave.
  pub record WorkedSoFar (hall : Rooms State Catalog) (old new : AtDesk) (from to : Outside) (most left : ℕ) (members : List (Member R)) : Type 0 where
    pub lives : List Life
    pub sits : Sits hall new
    pub serves : Serves some (ExplainedBy k) old new lives
    pub follow : Follow tape from members lives to
    pub numbers : All (λ (m : Member R). m.desk ≡ old.names.number) members
    pub door : to.door ≡ gave_more (length members) from.door
    pub counts : length members + left ≡ most

  -- All turns of a worker: the same, and it ended for this reason, with so many left.
  pub record Worked (hall : Rooms State Catalog) (old new : AtDesk) (from to : Outside) (most left : ℕ) (members : List (Member R)) (end : WorkState) : Type 0 where
    pub lives : List Life
    pub sits : Sits hall new
    pub serves : Serves some (ExplainedBy k) old new lives
    pub follow : Follow tape from members lives to
    pub numbers : All (λ (m : Member R). m.desk ≡ old.names.number) members
    pub door : to.door ≡ left_by end (gave_more (length members) from.door)
    pub counts : length members + left ≡ most
    pub stops : StopsWith end left

module _ {C D T V : Type 0} where
  -- the bench is there, and its desk is of this hall
  unfoldable pub SitsAt : Rooms State Catalog → Option (Bench C D T V) → Type 0
  SitsAt hall None = ⊥
  SitsAt hall (Some bench) = Sits hall bench.desk

module _ {PL R C D T V : Type 0} (k : Talk PL) (some : State) (tape : R → Tape) (told : T → Source ℤ) (rolled : D → Source (List ℕ)) where
  -- the bench is there, before and after all turns of the worker who has it, with this door and share
  unfoldable pub WorkedThere : Rooms State Catalog → Option (Bench C D T V) → Option (Bench C D T V) → DoorTold → DoorTold → ℕ → ℕ → List (Member R) → WorkState → Type 0
  WorkedThere hall None new was is most left members end = ⊥
  WorkedThere hall (Some a) None was is most left members end = ⊥
  WorkedThere hall (Some a) (Some b) was is most left members end =
      Worked k some tape hall a.desk b.desk (outside (told a.clock) (rolled a.dice) was) (outside (told b.clock) (rolled b.dice) is) most left members end
