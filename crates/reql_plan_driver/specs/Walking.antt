-- From one point of a task to another, by moves at a desk, with a clock and with dice.
use Rattle.std.specs.Prelude.{◌≡◌, ℕ, ℤ, List, [], cond, Option, Some, None, Result, Ok, Err}
use Rattle.reql_memory.specs.declared.memory.Memory.{Memory}
use Rattle.reql_outside.specs.Source.{Source}
use Rattle.reql_outside.specs.Tape.{Tape}
use Rattle.reql_hall.specs.Rooms.{pass}
use Rattle.reql_table_spec.specs.Machine.{State}
use Rattle.reql_session_spec.specs.Requests.{Ends, Internal, points_from}
use Rattle.reql_session_spec.specs.Books.{Books, no_books, saw_names}
use Rattle.reql_session_spec.specs.Tasks.{Talk, Next, Planning, Settled, at, close}
use Rattle.reql_session_spec.specs.Session.{Mach, goes_on}
use Rattle.reql_session_api.specs.Meant.{Course, next_of, arms_of, move_of, answered_of}
use Rattle.reql_session_api.specs.World.{AtWork, Runs, world_of}
use Rattle.reql_session_api.specs.declared.moves.Move.{Move}
use Rattle.reql_desk_moves.specs.Acting.{AtDesk}
use Rattle.reql_desk_moves.specs.Steps.{put_points}
use Rattle.reql_plan_driver.specs.declared.met.Met.{Met}
use Rattle.reql_plan_driver.specs.declared.following.Reached.{Reached}
use Rattle.reql_plan_driver.specs.declared.following.Reached.TheVariants as reached
use Rattle.reql_plan_driver.specs.declared.following.After.{After}
use Rattle.reql_plan_driver.specs.declared.following.After.TheVariants as after

-- what the next move leads to
abbrev pub IsNext : Result Move Memory → After → Type 0
IsNext (Ok move) (after.On next) = next ≡ move
IsNext (Err memory) after.Denied = Unit {0}
IsNext next step = ⊥

-- what a course works with
pub record Tools : Type 0 where
  pub desk : AtDesk
  pub clock : Source ℤ
  pub dice : Source (List ℕ)

abbrev pub tools : AtDesk → Source ℤ → Source (List ℕ) → Tools
tools desk clock dice = record { desk = desk; clock = clock; dice = dice }

abbrev pub at_work : State → Tools → AtWork
at_work some w = record { slots = pass some w.desk; names = w.desk.names; books = no_books; clock = w.clock; dice = w.dice }

module _ {PL : Type 0} where
  -- a course that has met so much, for a token
  abbrev pub stage : Books → ℕ → Course PL → Met → Next PL
  stage b token c m = at (saw_names m.names b) (Planning token c.plan c.noreply c.count c.found (arms_of m.opened.items))

  -- for which memory was wanted
  abbrev pub given_up : Books → ℕ → Course PL → Met → Next PL
  given_up b token c m = close (saw_names m.names b) token (arms_of m.opened.items) Settled (cond c.noreply None (Some Internal))

  -- the same request: its plan, and whether an answer is wanted
  abbrev pub IsSame : Course PL → Course PL → Type 0
  IsSame c d = (d.plan ≡ c.plan) × (d.noreply ≡ c.noreply)

  -- the points that it met are those of what it found
  abbrev pub IsMet : Course PL → Met → Type 0
  IsMet c m = points_from [] c.found ≡ put_points [] m.points.items

module _ {PL : Type 0} (k : Talk PL) (some : State) where
  -- whatever else the session holds
  abbrev pub Walks : Tools → Tools → Next PL → Next PL → Type 0
  Walks w v x y = (t : Tape) (m : Mach PL) (back : Option (List ℕ)) → Runs k (world_of t (at_work some w) (goes_on m back x)) (world_of t (at_work some v) (goes_on m back y)) 0

  -- one move, whose next one is this; or a course came to its end, or memory was wanted
  abbrev pub StepsTo : Tools → Tools → Course PL → Course PL → Met → Met → After → Type 0
  StepsTo w v c d m n (after.On move) = ((b : Books) (token : ℕ) → Walks w v (stage b token c m) (stage b token d n)) × (next_of k d ≡ move_of move) × (IsMet c m → IsMet d n)
  StepsTo w v c d m n (after.Ends a) = (next_of k c ≡ Ends (answered_of a)) × (v ≡ w) × (d ≡ c) × (n ≡ m)
  StepsTo w v c d m n after.Denied = (b : Books) (token : ℕ) → Walks w v (stage b token c m) (given_up b token d n)

  -- a course from its beginning
  abbrev pub Follows : Tools → Tools → Course PL → Course PL → Met → Met → Reached → Type 0
  Follows w v c d m n (reached.Ends a) = ((b : Books) (token : ℕ) → Walks w v (stage b token c m) (stage b token d n)) × (next_of k d ≡ Ends (answered_of a)) × IsMet d n
  Follows w v c d m n reached.Denied = (b : Books) (token : ℕ) → Walks w v (stage b token c m) (given_up b token d n)
