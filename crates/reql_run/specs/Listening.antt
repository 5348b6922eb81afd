-- What the server promises of the sessions that come to a port, by the words and the net that it is handed.
use Rattle.std.specs.Prelude.{◌≡◌, ◌⊎◌, ℕ, Bool, true, List, [], ◌∷◌, length, map, replicate, All, cond, nat_lt}
use Rattle.reql_outside.specs.Tape.{Tape}
use Rattle.reql_net.specs.Doors.{untouched}
use Rattle.reql_net.specs.Nets as nets
use Rattle.reql_net.specs.Nets.{NetTold}
use Rattle.reql_net.specs.declared.net.NetFault.{NetFault}
use Rattle.reql_net.specs.declared.net.NetFault.TheVariants as fault
use Rattle.reql_hall.specs.Rooms.{Closed}
use Rattle.reql_catalog.specs.Machine.{opening}
use Rattle.reql_catalog.specs.declared.catalog.Catalog.{Catalog}
use Rattle.reql_catalog.specs.declared.command.CatCmd.{CatCmd}
use Rattle.reql_table_spec.specs.Limits.{usual_limits}
use Rattle.reql_table_spec.specs.Machine.{State, unused}
use Rattle.reql_table_spec.specs.declared.command.Order.{Order}
use Rattle.reql_session_spec.specs.Tasks.{Keys}
use Rattle.reql_query_session_spec.specs.Told.{keys_by, talk}
use Rattle.reql_serve.specs.Working.{Outside}
use Rattle.reql_serve.specs.Many.{AtEnd, ServesMany}
use Rattle.reql_serve.specs.declared.worker.WorkState.{WorkState}
use Rattle.reql_serve.specs.declared.worker.WorkState.TheVariants as state
use Rattle.reql_words.specs.Words.{Asks, Listen}

-- the status where no session of a port was served: its net failed, or memory was wanted
abbrev pub status_of_fault : NetFault → ℕ
status_of_fault fault.Failed = 3
status_of_fault fault.Memory = 8

-- the status of a worker that ended so: memory was wanted for one more session, its door failed, or neither
abbrev pub status_of_worker : WorkState → ℕ
status_of_worker state.Memory = 8
status_of_worker state.Failed = 3
status_of_worker end = 0

abbrev pub greater : ℕ → ℕ → ℕ
greater a b = cond (nat_lt a b) b a

-- the greatest status of some workers, and of those before them
abbrev pub greatest_from : ℕ → List WorkState → ℕ
greatest_from so [] = so
greatest_from so (end ∷ ends) = greatest_from (greater so (status_of_worker end)) ends

abbrev pub status_of_workers : List WorkState → ℕ
status_of_workers ends = greatest_from 0 ends

-- the door was not asked; and the clock and the dice never fail
abbrev pub IsFreshPost : Outside → Type 0
IsFreshPost post = post.door ≡ untouched

abbrev pub IsSoundPost : Outside → Type 0
IsSoundPost post = (post.dice.sound ≡ true) × (post.clock.sound ≡ true)

-- So many sessions of these posts, told of plans in ReQL, at a hall that knows these tables and whose engines are unused, of the usual limits.
abbrev pub AreServed : {E NE R : Type 0} → (E → State) → (NE → Catalog) → (R → Tape) → Keys → List (List ℕ × List ℕ) → List Outside → ℕ → List (AtEnd R) → Closed E Order State NE CatCmd Catalog → Type 0
AreServed state known tape keys tables posts sessions workers hall =
    ServesMany (talk keys usual_limits) (unused 0 0) tape state known (opening tables usual_limits.slots)
    (replicate usual_limits.slots (unused usual_limits.feeds usual_limits.tail)) posts sessions workers hall

-- The sessions that came to a port of a net. It is asked once, for this port and for so many posts, and gives them; nobody has used
-- them, and their clocks and dice never fail where it is sound. Each of them has a seat.
pub record ComesTo {E NE R : Type 0} (state : E → State) (known : NE → Catalog) (tape : R → Tape) (port many sessions : ℕ) (keys : Keys) (tables : List (List ℕ × List ℕ)) (old new : NetTold) (seats : List (AtEnd R)) (hall : Closed E Order State NE CatCmd Catalog) : Type 0 where
  pub net : new ≡ nets.asks old port many many 0
  pub posts : List Outside
  pub one_each : length posts ≡ many
  pub fresh : All IsFreshPost posts
  pub sound : old.sound ≡ true → All IsSoundPost posts
  pub served : AreServed state known tape keys tables posts sessions seats hall

-- The words ask for a port, for so many workers, for so many clients at once and for so many sessions in all, which came; the status is
-- the greatest of the seats'.
pub record Listens {E NE R : Type 0} (state : E → State) (known : NE → Catalog) (tape : R → Tape) (asked : Asks) (old new : NetTold) (status : ℕ) (seats : List (AtEnd R)) (hall : Closed E Order State NE CatCmd Catalog) : Type 0 where
  pub port : ℕ
  pub workers : ℕ
  pub many : ℕ
  pub sessions : ℕ
  pub key : List ℕ
  pub password : List ℕ
  pub quiet : Bool
  pub tables : List (List ℕ × List ℕ)
  pub asks : asked ≡ Listen port workers many sessions key password quiet tables
  pub came : ComesTo state known tape port many sessions (keys_by key password) tables old new seats hall
  pub ends : status ≡ status_of_workers (map (λ (w : AtEnd R). w.state) seats)

-- No session of a port is told of, and so many posts are handed back: its net is asked once, and fails, or memory is wanted, and all
-- that it gave are handed back.
abbrev pub ComesToNone : NetTold → NetTold → ℕ → ℕ → ℕ → NetFault → Type 0
ComesToNone old new port many back fault.Failed = (back ≡ 0) × (new ≡ nets.asks old port many 0 1)
ComesToNone old new port many back fault.Memory = new ≡ nets.asks old port many back 0

-- No session is told of, and so many posts are handed back: the words ask for no port, and the net isn't asked; or it is asked once,
-- and fails, or memory is wanted, and all that it gave are handed back.
abbrev pub Unheard : Asks → NetTold → NetTold → ℕ → ℕ → Type 0
Unheard (Listen port workers many sessions key password quiet tables) old new status back =
    ((status ≡ 3) × (back ≡ 0) × (new ≡ nets.asks old port many 0 1)) ⊎ ((status ≡ 8) × (new ≡ nets.asks old port many back 0))
Unheard asked old new status back = (status ≡ 2) × (back ≡ 0) × (new ≡ old)
