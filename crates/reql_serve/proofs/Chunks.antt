-- What a thread is told of its part of the workers, and tells.
use Rattle.std.proofs.Common.{◌≡◌, ℕ, ℤ, ◌+◌, ◌<◌, List, [], length, All, sym, subst, arith}
use Rattle.std.specs.Prelude.{slice_index_or}
use Rattle.std.specs.Fork.{IsChunk}
use Rattle.reql_outside.specs.Source.{Source}
use Rattle.reql_outside.specs.Tape.{Tape}
use Rattle.reql_net.specs.Doors.{DoorTold}
use Rattle.reql_hall.specs.Rooms.{Rooms}
use Rattle.reql_catalog.specs.declared.catalog.Catalog.{Catalog}
use Rattle.reql_table_spec.specs.Machine.{State}
use Rattle.reql_session_spec.specs.Tasks.{Talk}
use Rattle.reql_serve.specs.Working.{SitsAt, WorkedThere}
use Rattle.reql_serve.specs.Seats.{AllWorkedThere, MayBegin}
use Rattle.reql_serve.specs.declared.worker.Worker.{Worker}

module _ {A : Type 0} (P : A → Type 0) where
  -- what holds of all holds of those in a part
  part_of : (xs : List A) (size start : ℕ) (ys : List A) → IsChunk xs size start ys → All P xs → All P ys
  part_of xs size start ys c h n d lt = subst P (sym (c.elements n d lt)) (h (start + n) d (omega (arith, lt, c.in_bounds)))

module _ {C G D T V L W R : Type 0} where
  -- and so do they of a part of the workers
  pub may_begin : (hall : Rooms State Catalog) (slots : ℕ) (ws : List (Worker C G D T V L W R)) (size start : ℕ) (part : List (Worker C G D T V L W R)) → IsChunk ws size start part
      → All (λ (w : Worker C G D T V L W R). SitsAt hall w.bench) ws → slots ≡ length hall.slots → All (λ (w : Worker C G D T V L W R). w.ended.items ≡ []) ws → MayBegin hall slots part
  may_begin hall slots ws size start part c sits enough unused = record {
    of_this_hall = part_of (λ (w : Worker C G D T V L W R). SitsAt hall w.bench) ws size start part c sits;
    slots_there = enough;
    unused = part_of (λ (w : Worker C G D T V L W R). w.ended.items ≡ []) ws size start part c unused;
  }

module _ {PL C G D T V L W R : Type 0} (k : Talk PL) (some : State) (tape : R → Tape) (told : T → Source ℤ) (rolled : D → Source (List ℕ)) (door : G → DoorTold) where
  -- what is told of a part is told of each worker in it
  pub worked_in : (hall : Rooms State Catalog) (ws vs : List (Worker C G D T V L W R)) (part after : List (Worker C G D T V L W R)) (n offset : ℕ) (w : Worker C G D T V L W R)
      → AllWorkedThere k some tape told rolled door hall part after → offset < length part → slice_index_or part offset w ≡ slice_index_or ws n w → slice_index_or after offset w ≡ slice_index_or vs n w
      → WorkedThere k some tape told rolled hall (slice_index_or ws n w).bench (slice_index_or vs n w).bench (door (slice_index_or ws n w).door) (door (slice_index_or vs n w).door)
      (slice_index_or ws n w).left (slice_index_or vs n w).left (slice_index_or vs n w).ended.items (slice_index_or vs n w).state
  unfolding AllWorkedThere
  worked_in hall ws vs part after n offset w h lt old new =
      subst (λ (z : Worker C G D T V L W R × Worker C G D T V L W R). WorkedThere k some tape told rolled hall z.0.bench z.1.bench (door z.0.door) (door z.1.door) z.0.left z.1.left z.1.ended.items z.1.state)
      (λ i. (old i, new i)) (h offset w lt)
