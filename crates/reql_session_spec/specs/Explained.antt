-- When a hall explains a session, and what its feeds were sent.
use Rattle.std.specs.Prelude.{◌≡◌, ◌≤◌, ℕ, ℤ, nat_eq, Bool, true, false, ◌&&◌, cond, List, [], ◌∷◌, ◌++◌, flat_map, Option}
use Rattle.std.specs.List.{AllByRecursion}
use Rattle.reql_datum.specs.Plain.{Plain}
use Rattle.reql_shared.specs.Acts.{Ran}
use Rattle.reql_shared.specs.Parts.{IsPart}
use Rattle.reql_catalog.specs.Machine.{catalogue_machine}
use Rattle.reql_catalog.specs.declared.catalog.Catalog.{Catalog}
use Rattle.reql_catalog.specs.declared.command.CatCmd.{CatCmd}
use Rattle.reql_feed_spec.specs.Shown.{skip_item}
use Rattle.reql_hall.specs.Shares.{Share, Seen, LiesIn}
use Rattle.reql_table_machine_spec.specs.Fed.{Taking}
use Rattle.reql_table_machine_spec.specs.declared.command.Said.{Said}
use Rattle.reql_table_machine_spec.specs.declared.command.Said.TheVariants as said
use Rattle.reql_write_spec.specs.declared.command.Summary.{Summary}
use Rattle.reql_table_spec.specs.Machine.{State, machine}
use Rattle.reql_table_spec.specs.declared.command.Order.{Order}
use Rattle.reql_table_spec.specs.declared.reply.Saved.TheVariants as saved
use Rattle.reql_session_spec.specs.Requests.{Sort, Skip, Change, Shown, Answer, Batch}
use Rattle.reql_session_spec.specs.Tasks.{Talk}
use Rattle.reql_session_spec.specs.Session.{Event, On, Say, Mach, Leaving, fresh, Run, heard, idles, turns, over, clocked, rolled, acts_on, acts_on_names}
use Rattle.reql_session_spec.specs.declared.end.End.{End}
use Rattle.reql_session_spec.specs.declared.end.End.TheVariants as ends

-- a session's part of a desk, and what a desk has seen
abbrev pub DeskShare : Type 0
DeskShare = Share Order State CatCmd Catalog

abbrev pub DeskSeen : Type 0
DeskSeen = Seen Order CatCmd

-- What is told of a session: its input and its output, how often a receive was idle, whether its input was over, what its
-- clock and its dice answered it, a moment or bytes or that they failed, its turns, and its end.
pub record Life : Type 0 where
  pub given : List ℕ
  pub sent : List ℕ
  pub idles : ℕ
  pub over : Bool
  pub moments : List (Option ℤ)
  pub rolls : List (Option (List ℕ))
  pub turns : ℕ
  pub end : End

-- a session has no more turns than its limit, and is worn where it has used them up
pub record Wears (most : ℕ) (turns : ℕ) (end : End) : Type 0 where
  pub within : turns ≤ most
  pub worn : end ≡ ends.Worn → turns ≡ most

-- a command is answered that it was not kept on disk only where the engine of its slot isn't sound
abbrev pub IsHonest : (ℕ → Bool) → Event → Type 0
IsHonest sound (On slot (Ran place order reply) saved.Failed) = sound slot ≡ false
IsHonest sound e = Unit {0}

abbrev pub AreHonest : (ℕ → Bool) → List Event → Type 0
AreHonest sound es = AllByRecursion (IsHonest sound) es

-- whether the engines of the slots are sound, as they are from their making on
abbrev pub is_sound : DeskShare → ℕ → Bool
is_sound share slot = (share.slots slot).start.sound

module _ {PL : Type 0} (k : Talk PL) where
  -- A session is explained by its part of a desk: there is a run of the session machine with this input, this output, so many
  -- idle receives and turns, these moments, these rolls and this end, whose acts on each slot and on the catalogue are its
  -- part there.
  pub record Explained (share : DeskShare) (life : Life) : Type 0 where
    pub events : List Event
    pub final : Mach PL
    pub run : Run k fresh events final
    pub ended : final.doing ≡ Leaving [] life.end
    pub input : heard events ≡ life.given
    pub output : life.sent ≡ final.out
    pub idled : idles events ≡ life.idles
    pub closed : over events ≡ life.over
    pub clock : clocked events ≡ life.moments
    pub dice : rolled events ≡ life.rolls
    pub turned : turns events ≡ life.turns
    pub wears : Wears k.limits.turns life.turns life.end
    pub slots : (slot : ℕ) → IsPart machine (share.slots slot) (acts_on slot events)
    pub named : IsPart catalogue_machine share.names (acts_on_names events)
    pub honest : AreHonest (is_sound share) events

  -- a hall with these histories explains it
  pub record ExplainedBy (seen : DeskSeen) (share : DeskShare) (life : Life) : Type 0 where
    pub lies : LiesIn share seen
    pub explained : Explained share life

-- the changes that a client was sent of one arm, with their stamps
abbrev pub if_change : Sort → List (ℕ × Plain) → List (ℕ × Plain)
if_change Change l = l
if_change other l = []

abbrev pub change_of : ℕ → ℕ → Shown → List (ℕ × Plain)
change_of slot feed x = if_change x.sort (cond (nat_eq x.arm.slot slot && nat_eq x.arm.feed feed) ((x.stamp, x.item) ∷ []) [])

abbrev pub changes_in : ℕ → ℕ → List Shown → List (ℕ × Plain)
changes_in slot feed xs = flat_map (change_of slot feed) xs

abbrev pub sent_in : ℕ → ℕ → Answer → List (ℕ × Plain)
sent_in slot feed (Batch notes xs s) = changes_in slot feed xs
sent_in slot feed other = []

abbrev pub sent_by : ℕ → ℕ → Event → List (ℕ × Plain)
sent_by slot feed (Say token a true) = sent_in slot feed a
sent_by slot feed e = []

abbrev pub sent_of : ℕ → ℕ → List Event → List (ℕ × Plain)
sent_of slot feed es = flat_map (sent_by slot feed) es

-- ---- with what it was told of skipped ones, where `skips` is true
abbrev pub if_told : Bool → Sort → List (ℕ × Plain) → List (ℕ × Plain)
if_told skips Change l = l
if_told skips Skip l = cond skips l []
if_told skips other l = []

abbrev pub told_item : ℕ → ℕ → Bool → Shown → List (ℕ × Plain)
told_item slot feed skips x = if_told skips x.sort (cond (nat_eq x.arm.slot slot && nat_eq x.arm.feed feed) ((x.stamp, x.item) ∷ []) [])

abbrev pub told_items : ℕ → ℕ → Bool → List Shown → List (ℕ × Plain)
told_items slot feed skips xs = flat_map (told_item slot feed skips) xs

abbrev pub told_in : ℕ → ℕ → Bool → Answer → List (ℕ × Plain)
told_in slot feed skips (Batch notes xs s) = told_items slot feed skips xs
told_in slot feed skips other = []

abbrev pub told_by : ℕ → ℕ → Bool → Event → List (ℕ × Plain)
told_by slot feed skips (Say token a true) = told_in slot feed skips a
told_by slot feed skips e = []

abbrev pub all_told : ℕ → ℕ → Bool → List Event → List (ℕ × Plain)
all_told slot feed skips es = flat_map (told_by slot feed skips) es

-- and what the answers of Takes give: before the items of a batch, where it tells that some were skipped, the item that says how many, with the stamp of
-- the last of them
abbrev pub skip_taken : Bool → ℕ → ℕ → List (ℕ × Plain)
skip_taken skips skipped last = cond skips (cond (nat_eq skipped 0) [] ((last, skip_item skipped) ∷ [])) []

abbrev pub taken_in : Bool → Said Summary Plain → List (ℕ × Plain)
taken_in skips (said.Batch skipped last items) = skip_taken skips skipped last ++ items
taken_in skips other = []

abbrev pub all_taken : Bool → List (Taking Summary Plain) → List (ℕ × Plain)
all_taken skips ts = flat_map (λ (t : Taking Summary Plain). taken_in skips t.said) ts
