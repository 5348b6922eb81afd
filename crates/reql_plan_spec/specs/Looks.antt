-- The looks of a plan at slots, by what it hears: at those that its term reads, rising, each once, and at no others; and that the term goes on over
-- the tables that were seen, each at the look at its own slot.
use Rattle.std.specs.Prelude.{◌≡◌, ℕ, ℤ, nat_eq, nat_lt, List, [], ◌∷◌, ◌++◌, ◌⊎◌, map, min, Option, Some, None, is_some, Bool, true, false, not, ◌&&◌, ◌||◌, cond, Ok, Err}
use Rattle.reql_datum.specs.Answer.{Answer, ◌>>=◌, op_failed}
use Rattle.reql_datum.specs.Members.{find}
use Rattle.reql_datum.specs.declared.point.Point.{Point}
use Rattle.reql_term.specs.Form.{Form, operation, Forms}
use Rattle.reql_term.specs.Table.{task_of}
use Rattle.reql_term.specs.Views.{Document}
use Rattle.reql_term.specs.declared.role.Task.{Task}
use Rattle.reql_term.specs.declared.role.Task.TheVariants as task
use Rattle.reql_catalog.specs.Catalog.{Named, names_at}
use Rattle.reql_naming.specs.Named.{resolved}
use Rattle.reql_value_spec.specs.Index.{plain_view}
use Rattle.reql_value_spec.specs.Meaning.{value}
use Rattle.reql_value_spec.specs.Shown as values
use Rattle.reql_value_spec.specs.Shown.{Shown}
use Rattle.reql_value_spec.specs.World.{World, View}
use Rattle.reql_table_spec.specs.Indexes.{Indexes}
use Rattle.reql_table_spec.specs.Machine.{Seen}
use Rattle.reql_plan_spec.specs.declared.parts.Plan.{Plan}
use Rattle.reql_plan_spec.specs.declared.parts.Setting.{Setting}
use Rattle.reql_plan_spec.specs.Asked.{clock, is_clocked}
use Rattle.reql_plan_spec.specs.Course.{any_command, carried, fits_in, plan_next, sent}
use Rattle.reql_plan_spec.specs.Held.{Held, key_of, names_of, number_in}
use Rattle.reql_plan_spec.specs.Move.{look, Heard, names, looked, fault, Outcome, atom, grouped, sequence, stop, unsent}
use Rattle.reql_plan_spec.specs.Opens.{at_time}
use Rattle.reql_plan_spec.specs.Reads.{has_now, leaks, reads, read_slots}
use Rattle.reql_plan_spec.specs.Request.{request, Next, answered, moves, next}
use Rattle.reql_plan_spec.specs.Texts.{dropped_text, too_many_cursors}

-- ---- the looks, each with its answer, if it has one
abbrev pub look_in : Next → Option Heard → List (ℕ × Option Heard)
look_in (moves (look n)) h = (n, h) ∷ []
look_in x h = []

abbrev pub looks_along : (List Heard → Next) → List Heard → List (ℕ × Option Heard)
looks_along next [] = look_in (next []) None
looks_along next (h ∷ hs) = look_in (next []) (Some h) ++ looks_along (λ gs. next (h ∷ gs)) hs

abbrev pub looks_of : Plan → Setting → List Heard → List (ℕ × Option Heard)
looks_of p s hs = looks_along (plan_next p s) hs

-- ---- the slots that a term reads
abbrev pub has_slot : ℕ → List ℕ → Bool
has_slot n [] = false
has_slot n (k ∷ ks) = nat_eq n k || has_slot n ks

abbrev pub is_rising : List ℕ → Bool
is_rising [] = true
is_rising (n ∷ []) = true
is_rising (n ∷ k ∷ ks) = nat_lt n k && is_rising (k ∷ ks)

-- rising, so each once, and all of them
pub record AreReadBy (f : Form) (slots : List ℕ) : Type 0 where
  pub rising : is_rising slots ≡ true
  pub all : (n : ℕ) → has_slot n slots ≡ has_slot n (reads f)

abbrev pub ReadSlotsRise : Type 0
ReadSlotsRise = (f : Form) → AreReadBy f (read_slots f)

-- ---- a plan that looks at them: it heard the names, and the moment that its term asks for, and so has the term that it carries out
pub record Reading (p : Plan) (hs : List Heard) : Type 0 where
  pub known : Named
  pub moment : Option ℤ
  pub rest : List Heard
  pub heard : hs ≡ names known ∷ (clock moment ++ rest)
  pub term : Form
  pub looked_up : resolved known p.db p.term ≡ Ok term
  pub free : leaks false term ≡ false
  pub clocked : is_clocked (has_now term) moment ≡ true
  pub carried : Form
  pub at_moment : at_time moment term ≡ Ok carried

-- one after another, each once there was a table at the one before it
abbrev pub has_table : Heard → Bool
has_table (looked at) = is_some at.view
has_table h = false

abbrev pub in_turn : List ℕ → List Heard → List (ℕ × Option Heard)
in_turn [] hs = []
in_turn (n ∷ slots) [] = (n, None) ∷ []
in_turn (n ∷ slots) (h ∷ hs) = (n, Some h) ∷ cond (has_table h) (in_turn slots hs) []

abbrev pub ReadSlotsAreLookedAt : Type 0
ReadSlotsAreLookedAt = (p : Plan) (s : Setting) (hs : List Heard) (r : Reading p hs) → looks_of p s hs ≡ in_turn (read_slots r.carried) r.rest

-- and no plan looks at others, whatever it hears
abbrev pub NoOthersAreLookedAt : Type 0
NoOthersAreLookedAt = (p : Plan) (s : Setting) (hs : List Heard) → (looks_of p s hs ≡ []) ⊎ Reading p hs

-- ---- a plan that has seen a table at each of them
pub record Sight : Type 0 where
  pub slot : ℕ
  pub at : Seen
  pub found : List Document × Indexes
  pub there : at.view ≡ Some found

pub record HasRead (p : Plan) (hs : List Heard) : Type 0 where
  pub reading : Reading p hs
  pub sights : List Sight
  pub slots : map (λ (x : Sight). x.slot) sights ≡ read_slots reading.carried
  pub replies : List Heard
  pub heard : reading.rest ≡ map (λ (x : Sight). looked x.at) sights ++ replies

-- each was seen at the look at its own slot, and these were all looks
abbrev pub EachIsSeenAtItsSlot : Type 0
EachIsSeenAtItsSlot = (p : Plan) (s : Setting) (hs : List Heard) (r : HasRead p hs) → looks_of p s hs ≡ map (λ (x : Sight). (x.slot, Some (looked x.at))) r.sights

-- what its term goes on in: for each slot the table that was seen there, and no other tables
abbrev pub table_at : Named → Sight → ℕ × View
table_at ns x = (x.slot, plain_view (names_of ns x.slot).0 (number_in (find (names_of ns x.slot).0 ns.dbs)) (names_of ns x.slot).1 (key_of ns x.slot) x.found.0 x.found.1)

abbrev pub world_at : Named → ℕ → List Sight → World
world_at ns limit sights = record { tables = map (table_at ns) sights; databases = map (λ d. (d.0, d.1.number)) ns.dbs; array_limit = limit }

abbrev pub point_at : Sight → Point
point_at x = record { slot = x.slot; place = x.at.place; stamp = x.at.stamp }

abbrev pub held_of : (p : Plan) (s : Setting) (hs : List Heard) → HasRead p hs → Held
held_of p s hs r = record {
  names = r.reading.known;
  db = p.db;
  world = world_at r.reading.known p.array_limit r.sights;
  points = map point_at r.sights;
  setting = s;
  batch = min p.batch s.batch;
}

abbrev pub TermsGoOnInWhatWasSeen : Type 0
TermsGoOnInWhatWasSeen = (p : Plan) (s : Setting) (hs : List Heard) (r : HasRead p hs)
    → plan_next p s hs ≡ sent s (next (request (carried (held_of p s hs r) r.reading.carried)) r.replies)

-- ---- a plan that has seen tables at the first of the slots that its term reads, and none at the next
pub record Misses (p : Plan) (hs : List Heard) : Type 0 where
  pub reading : Reading p hs
  pub sights : List Sight
  pub slot : ℕ
  pub unseen : List ℕ
  pub slots : map (λ (x : Sight). x.slot) sights ++ slot ∷ unseen ≡ read_slots reading.carried
  pub db : List ℕ
  pub table : List ℕ
  pub named : names_at slot reading.known ≡ Some (db, table)
  pub at : Seen
  pub none : at.view ≡ None
  pub replies : List Heard
  pub heard : reading.rest ≡ map (λ (x : Sight). looked x.at) sights ++ looked at ∷ replies

-- Whatever its term is, it makes no further move, and its answer, where one is wanted, is that the table of this slot was dropped, by the names that were heard.
-- Rules out a term that goes on without it, and a fault that names another table. The table that a command is on, and that of a feed without a limit, is not read;
-- of commands whose own table was dropped this says nothing.
abbrev pub DroppedTablesAreTold : Type 0
DroppedTablesAreTold = (p : Plan) (s : Setting) (hs : List Heard) (r : Misses p hs) → plan_next p s hs ≡ answered (cond s.noreply unsent (stop (fault (op_failed (dropped_text r.db r.table)))))

-- ---- where the term reads alone (it is no command, no CHANGES, and no BRANCH with a command in an arm), its value there is the answer, or why it has none;
-- or that too many cursors are open, where it is a sequence longer than a batch
abbrev pub reads_by : Task → Forms → Bool
reads_by task.Value fs = true
reads_by task.Branch fs = not (any_command fs)
reads_by t fs = false

abbrev pub is_reading : Form → Bool
is_reading (operation o fs ms) = reads_by (task_of o) fs
is_reading f = true

abbrev pub told_as : Held → Answer Shown → Outcome
told_as e (Err why) = stop (fault why)
told_as e (Ok (values.atom d)) = atom d
told_as e (Ok (values.groups gs)) = grouped gs
told_as e (Ok (values.sequence ds)) = cond (fits_in e ds) (sequence ds) (stop (fault too_many_cursors))

abbrev pub shown_in : World → Form → Answer Shown
shown_in w f = value f w [] >>= values.shown w

abbrev pub ValuesAreOfWhatWasSeen : Type 0
ValuesAreOfWhatWasSeen = (p : Plan) (s : Setting) (hs : List Heard) (r : HasRead p hs) → is_reading r.reading.carried ≡ true → s.noreply ≡ false
    → plan_next p s hs ≡ answered (told_as (held_of p s hs r) (shown_in (held_of p s hs r).world r.reading.carried))
