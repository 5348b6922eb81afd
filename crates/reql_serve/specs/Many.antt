-- What a server of many sessions promises.
use Rattle.std.specs.Prelude.{◌≡◌, ◌<◌, ◌+◌, ◌/◌, ◌%◌, ℕ, ℤ, List, map, length, cond, nat_lt, slice_index_or, All}
use Rattle.std.specs.List.{range_with_len, sum}
use Rattle.reql_outside.specs.Source.{Source}
use Rattle.reql_outside.specs.Tape.{Tape}
use Rattle.reql_net.specs.Doors.{DoorTold}
use Rattle.reql_shared.specs.Sight.{Object}
use Rattle.reql_hall.specs.Rooms.{Rooms, Closed, Histories, pass, history_at, rooms_of, histories_of, unused_desk}
use Rattle.reql_catalog.specs.declared.catalog.Catalog.{Catalog}
use Rattle.reql_catalog.specs.declared.command.CatCmd.{CatCmd}
use Rattle.reql_table_spec.specs.Machine.{State}
use Rattle.reql_table_spec.specs.declared.command.Order.{Order}
use Rattle.reql_session_spec.specs.Tasks.{Talk}
use Rattle.reql_desk_moves.specs.Acting.{AtDesk}
use Rattle.reql_serve.specs.Serving.{IsLedTo}
use Rattle.reql_serve.specs.Working.{Outside, outside, Worked}
use Rattle.reql_serve.specs.declared.worker.Member.{Member}
use Rattle.reql_serve.specs.declared.worker.WorkState.{WorkState}

-- the share of the worker of this number in so many sessions: all workers have as many, and the first ones have one more, where
-- some are left over
abbrev pub share_of : ℕ → ℕ → ℕ → ℕ
share_of sessions workers number = sessions / workers + cond (nat_lt number (sessions % workers)) 1 0

-- the shares of all workers, of which there are so many
abbrev pub shares_of : ℕ → ℕ → List ℕ
shares_of sessions workers = map (share_of sessions workers) (range_with_len 0 workers)

-- where there is a worker, each session is in one of the shares
abbrev pub SharesAddUp : Type 0
SharesAddUp = (sessions workers : ℕ) → 0 < workers → sum (shares_of sessions workers) ≡ sessions

-- a hall with these names and these engines, of which nobody has used anything, and with so many desks
pub record OpensFor (desks : ℕ) (known : Catalog) (engines : List State) (hall : Rooms State Catalog) : Type 0 where
  pub names : hall.names.start ≡ known
  pub slots : map (λ (o : Object State). o.start) hall.slots ≡ engines
  pub names_of_desks : hall.names.passes ≡ desks
  pub of_desks : All (λ (o : Object State). o.passes ≡ desks) hall.slots

-- a worker as it ended: what its door tells, the sessions that it served, in their order, how many of its share it did not serve,
-- and why it ended
pub record AtEnd (R : Type 0) : Type 0 where
  pub door : DoorTold
  pub ended : List (Member R)
  pub left : ℕ
  pub state : WorkState

abbrev pub at_end : {R : Type 0} → DoorTold → List (Member R) → ℕ → WorkState → AtEnd R
at_end door ended left state = record { door = door; ended = ended; left = left; state = state }

module _ (some : State) where
  -- the desk has seen the whole histories
  pub record HasSeen (all : Histories Order CatCmd) (desk : AtDesk) : Type 0 where
    pub names : desk.names.seen ≡ all.names
    pub slots : (t : ℕ) → (pass some desk t).seen ≡ history_at all t

module _ {PL R : Type 0} (k : Talk PL) (some : State) (tape : R → Tape) where
  -- The worker of this number, one of so many: it had this clock, these dice and this door, its share of so many sessions, and
  -- the desk of its number, which nobody had used. All that was done at that desk it did for its sessions, and it ended so.
  pub record WorksAt (hall : Rooms State Catalog) (sessions workers number : ℕ) (post : Outside) (desk : AtDesk) (w : AtEnd R) : Type 0 where
    pub clock : Source ℤ
    pub dice : Source (List ℕ)
    pub worked : Worked k some tape hall (unused_desk hall number) desk post (outside clock dice w.door) (share_of sessions workers number) w.left w.ended w.state

module _ {PL R E NE : Type 0} (k : Talk PL) (some : State) (tape : R → Tape) (state : E → State) (known : NE → Catalog) where
  -- Workers at a hall that is opened with a desk for each of these posts: each has a post, the desk of its number, and its share
  -- of so many sessions, and does what a worker does. At the end each desk has seen the whole histories of the hall, whose names
  -- and engines are where these lead, and in which nobody else has an entry.
  pub record ServesMany (names : Catalog) (engines : List State) (posts : List Outside) (sessions : ℕ) (workers : List (AtEnd R)) (left : Closed E Order State NE CatCmd Catalog) : Type 0 where
    pub hall : Rooms State Catalog
    pub opens : OpensFor (length posts) names engines hall
    pub closed : rooms_of left ≡ hall
    pub one_each : length workers ≡ length posts
    pub desks : length left.desks ≡ length posts
    pub works : (n : ℕ) (post : Outside) (desk : AtDesk) (w : AtEnd R) → n < length posts
        → WorksAt k some tape hall sessions (length posts) n (slice_index_or posts n post) (slice_index_or left.desks n desk) (slice_index_or workers n w)
    pub seen : All (HasSeen some (histories_of left)) left.desks
    pub led : IsLedTo state known left
