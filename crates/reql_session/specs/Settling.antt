-- From a point of a task to the end of the task, or of the session.
use Rattle.std.specs.Prelude.{◌⊎◌, ℕ, ℤ, List, Bool, true, false, Option, Some, None}
use Rattle.reql_outside.specs.Source.{Source}
use Rattle.reql_outside.specs.Tape.{Tape}
use Rattle.reql_hall.specs.Rooms.{pass}
use Rattle.reql_table_spec.specs.Machine.{State}
use Rattle.reql_session_spec.specs.Books.{Books}
use Rattle.reql_session_spec.specs.Requests.{Internal}
use Rattle.reql_session_spec.specs.Tasks.{Talk, Next, only_tell}
use Rattle.reql_session_spec.specs.Logins.{Stage}
use Rattle.reql_session_spec.specs.Session.{Mach, Rest, back_to, goes_on}
use Rattle.reql_session_spec.specs.declared.end.End.{End}
use Rattle.reql_session_spec.specs.declared.end.End.TheVariants as ends
use Rattle.reql_session_api.specs.World.{AtWork, Runs, Outcome, mach_at, world_of}
use Rattle.reql_desk_moves.specs.Acting.{AtDesk}

-- a desk, books, a clock and dice
abbrev pub working : State → AtDesk → Books → Source ℤ → Source (List ℕ) → AtWork
working some desk b clock dice = record { slots = pass some desk; names = desk.names; books = b; clock = clock; dice = dice }

-- how it goes on after an answer was sent whole or not
abbrev pub ended_by : Bool → Option End
ended_by true = None
ended_by false = Some ends.WriteFault

module _ {PL : Type 0} (k : Talk PL) where
  -- from one point of a task to another, whatever else the session holds
  abbrev pub Leads : Tape → Tape → AtWork → AtWork → Next PL → Next PL → Type 0
  Leads t u w v x y = (m : Mach PL) (back : Option (List ℕ)) → Runs k (world_of t w (goes_on m back x)) (world_of u v (goes_on m back y)) 0

  -- from a point of a task to its end, with the books that are at work then, or to the end of the session
  abbrev pub Settles : Tape → Tape → AtWork → AtWork → Next PL → Option End → Type 0
  Settles t u w v x end = (held : List ℕ) (stage : Stage) (back : Option (List ℕ)) → Outcome k (world_of t w (goes_on (mach_at w held stage Rest) back x)) u v held stage (back_to back) 0 end

  -- from this point, or from the want of memory in its place
  abbrev pub SettlesOrWants : Tape → Tape → AtWork → AtWork → ℕ → Next PL → Option End → Type 0
  SettlesOrWants t u w v token x end = Settles t u w v x end ⊎ Settles t u w v (only_tell w.books token Internal) end
