-- The workers of a server of many sessions, as the program has them.
use Rattle.std.proofs.Common.{◌≡◌, ℕ, ℤ, ◌<◌, List, ◌++◌, length, map, All}
use Rattle.std.specs.Prelude.{⊤, slice_index_or}
use Rattle.std.specs.List.{AllZip, range_with_len}
use Rattle.reql_outside.specs.Source.{Source}
use Rattle.reql_outside.specs.Tape.{Tape}
use Rattle.reql_net.specs.Doors.{DoorTold}
use Rattle.reql_net.specs.declared.net.Post.{Post}
use Rattle.reql_shared.specs.Sight.{Object}
use Rattle.reql_catalog.specs.declared.catalog.Catalog.{Catalog}
use Rattle.reql_catalog.specs.declared.command.CatCmd.{CatCmd}
use Rattle.reql_hall.specs.Rooms.{Rooms, Closed, Sits, LearnsAll, rooms_of, histories_of, unused_desk}
use Rattle.reql_table_spec.specs.Machine.{State}
use Rattle.reql_table_spec.specs.declared.command.Order.{Order}
use Rattle.reql_session_spec.specs.Tasks.{Talk}
use Rattle.reql_desk_moves.specs.Acting.{AtDesk}
use Rattle.reql_session.specs.declared.session.Bench.{Bench}
use Rattle.reql_serve.specs.Working.{Outside, outside, IsThere, AreThere, SitsAt, Worked, WorkedThere}
use Rattle.reql_serve.specs.Serving.{IsLedTo}
use Rattle.reql_serve.specs.Many.{AtEnd, ServesMany, shares_of, at_end}
use Rattle.reql_serve.specs.declared.many.Left.{Left}
use Rattle.reql_serve.specs.declared.worker.Worker.{Worker}
use Rattle.reql_serve.proofs.InTurn.{of_both}
use Rattle.reql_serve.proofs.Seating.{zip_weaker, there_weaker}
use Rattle.reql_serve.proofs.Working.{sits_at, worked_there}
use Rattle.reql_serve.proofs.Gathering.{all_served, seats_sit, all_there, mids_sit}

module _ {G D T : Type 0} (told : T → Source ℤ) (rolled : D → Source (List ℕ)) (door : G → DoorTold) where
  abbrev pub post_of : Post G D T → Outside
  post_of p = outside (told p.clock) (rolled p.dice) (door p.door)

module _ {G L W R : Type 0} (door : G → DoorTold) where
  abbrev pub end_of : Left G L W R → AtEnd R
  end_of l = at_end (door l.door) l.ended.items l.left l.state

module _ {PL C G D T V L W R : Type 0} (k : Talk PL) (some : State) (tape : R → Tape) (told : T → Source ℤ) (rolled : D → Source (List ℕ)) (door : G → DoorTold) where
  -- what each did, by the word that threads are told it by
  abbrev pub AllWorked : Rooms State Catalog → List (Worker C G D T V L W R) → List (Worker C G D T V L W R) → Type 0
  AllWorked hall olds news = (n : ℕ) (w : Worker C G D T V L W R) → n < length olds
      → WorkedThere k some tape told rolled hall (slice_index_or olds n w).bench (slice_index_or news n w).bench (door (slice_index_or olds n w).door) (door (slice_index_or news n w).door)
      (slice_index_or olds n w).left (slice_index_or news n w).left (slice_index_or news n w).ended.items (slice_index_or news n w).state

  -- and what both parts of them did
  pub they_worked : (hall : Rooms State Catalog) (whole front back ends others : List (Worker C G D T V L W R)) → whole ≡ front ++ back → length ends ≡ length front
      → AllWorked hall front ends → AllWorked hall back others → AllWorked hall whole (ends ++ others)
  they_worked hall = of_both (λ (old new : Worker C G D T V L W R). WorkedThere k some tape told rolled hall old.bench new.bench (door old.door) (door new.door) old.left new.left new.ended.items new.state)

  abbrev WorkedOn : Rooms State Catalog → Worker C G D T V L W R → Worker C G D T V L W R → Type 0
  WorkedOn hall old new = AreThere old.bench new.bench (λ (a b : Bench C D T V). Worked k some tape hall a.desk b.desk (outside (told a.clock) (rolled a.dice) (door old.door)) (outside (told b.clock) (rolled b.dice) (door new.door)) old.left new.left new.ended.items new.state)

  all_on : (hall : Rooms State Catalog) (olds news : List (Worker C G D T V L W R)) → AllWorked hall olds news → (n : ℕ) (w : Worker C G D T V L W R) → n < length olds → WorkedOn hall (slice_index_or olds n w) (slice_index_or news n w)
  all_on hall olds news h n w lt =
      let old = slice_index_or olds n w in
      let new = slice_index_or news n w in
      worked_there k some tape told rolled hall old.bench new.bench (door old.door) (door new.door) old.left new.left new.ended.items new.state (h n w lt)

  -- they sit at the hall whose desks they were given
  pub they_sit : (hall : Rooms State Catalog) (desks : List AtDesk) (olds : List (Worker C G D T V L W R)) → All (Sits hall) desks
      → AllZip (λ (d : AtDesk) (w : Worker C G D T V L W R). IsThere w.bench (λ b. b.desk ≡ d)) desks olds → All (λ (w : Worker C G D T V L W R). SitsAt hall w.bench) olds
  they_sit hall desks olds sits z n w lt =
      sits_at hall (slice_index_or olds n w).bench
      (seats_sit k some tape (post_of told rolled door) (λ (w : Worker C G D T V L W R). w.bench) (λ (b : Bench C D T V). told b.clock) (λ (b : Bench C D T V). rolled b.dice) (λ (w : Worker C G D T V L W R). door w.door) (λ (b : Bench C D T V). b.desk) (λ (w : Worker C G D T V L W R). w.left) (λ (w : Worker C G D T V L W R). w.ended.items) (λ (w : Worker C G D T V L W R). w.state) (end_of {L = L} {W = W} door)
      hall desks olds sits z n w lt)

  -- and are whole when they have worked
  pub they_are_there : (hall : Rooms State Catalog) (olds news : List (Worker C G D T V L W R)) → AllWorked hall olds news → length news ≡ length olds → All (λ (w : Worker C G D T V L W R). IsThere w.bench (λ b. ⊤)) news
  they_are_there hall olds news h same =
      all_there k some tape (post_of told rolled door) (λ (w : Worker C G D T V L W R). w.bench) (λ (b : Bench C D T V). told b.clock) (λ (b : Bench C D T V). rolled b.dice) (λ (w : Worker C G D T V L W R). door w.door) (λ (b : Bench C D T V). b.desk) (λ (w : Worker C G D T V L W R). w.left) (λ (w : Worker C G D T V L W R). w.ended.items) (λ (w : Worker C G D T V L W R). w.state) (end_of {L = L} {W = W} door)
      hall olds news (all_on hall olds news h) same

  pub their_desks_sit : (hall : Rooms State Catalog) (olds news : List (Worker C G D T V L W R)) (mids : List AtDesk) → AllWorked hall olds news → length news ≡ length olds
      → AllZip (λ (w : Worker C G D T V L W R) (d : AtDesk). IsThere w.bench (λ b. d ≡ b.desk)) news mids → All (Sits hall) mids
  their_desks_sit hall olds news mids h same z =
      mids_sit k some tape (post_of told rolled door) (λ (w : Worker C G D T V L W R). w.bench) (λ (b : Bench C D T V). told b.clock) (λ (b : Bench C D T V). rolled b.dice) (λ (w : Worker C G D T V L W R). door w.door) (λ (b : Bench C D T V). b.desk) (λ (w : Worker C G D T V L W R). w.left) (λ (w : Worker C G D T V L W R). w.ended.items) (λ (w : Worker C G D T V L W R). w.state) (end_of {L = L} {W = W} door)
      hall olds news mids (all_on hall olds news h) same z

  -- a worker that was made for a post has it
  abbrev MadeFor : Post G D T → Worker C G D T V L W R → Type 0
  MadeFor p w = (w.door ≡ p.door) × IsThere w.bench (λ (b : Bench C D T V). (b.clock ≡ p.clock) × (b.dice ≡ p.dice))

  has_post : (p : Post G D T) (w : Worker C G D T V L W R) → MadeFor p w → IsThere w.bench (λ (b : Bench C D T V). outside (told b.clock) (rolled b.dice) (door w.door) ≡ post_of told rolled door p)
  has_post p w h = there_weaker (λ (b : Bench C D T V). (b.clock ≡ p.clock) × (b.dice ≡ p.dice)) (λ (b : Bench C D T V). outside (told b.clock) (rolled b.dice) (door w.door) ≡ post_of told rolled door p) w.bench
      (λ b e. λ i. outside (told (e.0 i)) (rolled (e.1 i)) (door (h.0 i))) h.1

  abbrev PartedAs : Worker C G D T V L W R → Left G L W R → Type 0
  PartedAs w l = (l.door ≡ w.door) × (l.ended ≡ w.ended) × (l.left ≡ w.left) × (l.state ≡ w.state)

  leaves_so : (w : Worker C G D T V L W R) (l : Left G L W R) → PartedAs w l → end_of door l ≡ at_end (door w.door) w.ended.items w.left w.state
  leaves_so w l h = λ i. at_end (door (h.0 i)) (h.1 i).items (h.2 i) (h.3 i)

  -- all that such a server promises
  pub they_serve : {E NE : Type 0} (state : E → State) (known : NE → Catalog) (names : Catalog) (engines : List State) (hall : Rooms State Catalog) (closed : Closed E Order State NE CatCmd Catalog) (sessions count : ℕ)
      (posts : List (Post G D T)) (desks mids : List AtDesk) (olds news : List (Worker C G D T V L W R)) (lefts : List (Left G L W R))
      → hall.names.start ≡ names → map (λ (o : Object State). o.start) hall.slots ≡ engines → hall.names.passes ≡ count → All (λ (o : Object State). o.passes ≡ count) hall.slots
      → desks ≡ map (unused_desk hall) (range_with_len 0 count) → count ≡ length posts
      → AllZip MadeFor posts olds → AllZip (λ (d : AtDesk) (w : Worker C G D T V L W R). IsThere w.bench (λ b. b.desk ≡ d)) desks olds → map (λ (w : Worker C G D T V L W R). w.left) olds ≡ shares_of sessions (length posts)
      → AllWorked hall olds news → length news ≡ length olds
      → AllZip PartedAs news lefts → AllZip (λ (w : Worker C G D T V L W R) (d : AtDesk). IsThere w.bench (λ b. d ≡ b.desk)) news mids → AllZip (λ (old new : AtDesk). LearnsAll old new (histories_of closed)) mids closed.desks
      → rooms_of closed ≡ hall → All (Sits (rooms_of closed)) closed.desks → IsLedTo state known closed
      → ServesMany k some tape state known names engines (map (post_of told rolled door) posts) sessions (map (end_of door) lefts) closed
  they_serve state known names engines hall closed sessions count posts desks mids olds news lefts start slots passes of_slots made many made_for at_seats shares h same parted leave_desks learns rooms sits led =
      all_served k some tape (post_of told rolled door) (λ (w : Worker C G D T V L W R). w.bench) (λ (b : Bench C D T V). told b.clock) (λ (b : Bench C D T V). rolled b.dice) (λ (w : Worker C G D T V L W R). door w.door) (λ (b : Bench C D T V). b.desk) (λ (w : Worker C G D T V L W R). w.left) (λ (w : Worker C G D T V L W R). w.ended.items) (λ (w : Worker C G D T V L W R). w.state) (end_of {L = L} {W = W} door)
      state known names engines hall closed sessions count posts desks mids olds news lefts start slots passes of_slots made many
      (zip_weaker MadeFor (λ (p : Post G D T) (w : Worker C G D T V L W R). IsThere w.bench (λ (b : Bench C D T V). outside (told b.clock) (rolled b.dice) (door w.door) ≡ post_of told rolled door p)) has_post posts olds made_for)
      at_seats shares (all_on hall olds news h) same
      (zip_weaker PartedAs (λ (w : Worker C G D T V L W R) (l : Left G L W R). end_of door l ≡ at_end (door w.door) w.ended.items w.left w.state) leaves_so news lefts parted)
      leave_desks learns rooms sits led
