-- What the values of the code stand for, and the steps that it takes.
use Rattle.std.specs.Prelude.{◌≡◌, ◌↔◌, IsTrue, ℕ, ◌+◌, ◌-◌, List, [], ◌∷◌, ◌++◌, length, map, flat_map, take, drop, Option, Some, None, Bool, true, false, not, ◌&&◌, cond, codes}
use Rattle.reql_datum.specs.Plain.{Plain}
use Rattle.reql_datum.specs.View.{plain}
use Rattle.reql_datum.specs.declared.datum.Datum.{Datum}
use Rattle.reql_bag.specs.Bag.{in_order}
use Rattle.reql_term.specs.Views.{Document}
use Rattle.reql_shared.specs.Machine.{replay}
use Rattle.reql_table_machine_spec.specs.Fed.{changes_at}
use Rattle.reql_feed_spec.specs.Feeds.{bare, changed_by}
use Rattle.reql_feed_spec.specs.Shown.{member_at}
use Rattle.reql_feed_spec.specs.declared.kind.FeedKind.{FeedKind}
use Rattle.reql_table_spec.specs.Laws.{changes}
use Rattle.reql_table_spec.specs.Machine.{State, machine, entry_of, known_cmd}
use Rattle.reql_table_spec.specs.Table.{Held, feeding, at_key, is_limit}
use Rattle.reql_table_spec.specs.declared.command.Cmd.{Cmd}
use Rattle.reql_table_spec.specs.declared.command.Entry.{Entry}
use Rattle.reql_load.specs.Folded.{folded}
use Rattle.reql_tally.specs.Past.{OpenedFeed, Sent, sent_to, skips, latest}
use Rattle.reql_tally.specs.Tallied.{value_of, IsCount}
use Rattle.reql_table.specs.Seen.{documents_of, indexes_of}
use Rattle.reql_tally.specs.declared.hearing.Batch.{Batch}
use Rattle.reql_tally.specs.declared.replica.SeenTable.{SeenTable}

abbrev pub listed : {A : Type 0} → Option A → List A
listed None = []
listed (Some x) = x ∷ []

abbrev pub stamped : ℕ × Datum → ℕ × Plain
stamped i = (i.0, plain i.1)

abbrev pub given : Batch → Sent
given b = record { owner = b.owner; number = b.number; skips = b.skips; items = map stamped b.items }

-- the changes of a command, and of a history
abbrev pub made_by : State → ℕ → Cmd → List (Plain × Option Plain)
made_by s by cmd = map at_key (changes_at (feeding s.most) s.table by (known_cmd cmd))

abbrev pub made : State → List Entry → List (Plain × Option Plain)
made s es = map at_key (changes s (map entry_of es))

-- what opening items tell
abbrev pub told_in : Plain → List Plain
told_in i = listed (member_at (codes "new_val") i)

abbrev pub told : List Plain → List Plain
told opening = flat_map told_in opening

-- elements of the first of an order are in its order only where items tell places
abbrev pub as_kept : FeedKind → Bool → List Plain → List Plain
as_kept kind offsets vs = cond (is_limit kind && not offsets) (in_order vs) vs

-- the documents after the changes from one place to another
abbrev pub docs_after : List Document → List (Plain × Option Plain) → ℕ → ℕ → List Document
docs_after docs cs from to = changed_by docs (take (to - from) (drop from cs))

-- a feed that was opened over some documents at a stamp folds, of a history that makes these changes and sends these batches
pub record FoldsOver (kept : Option Held) (docs : List Document) (cs : List (Plain × Option Plain)) (bs : List Sent) (owner number stamp : ℕ) : Type 0 where
  pub whole : skips owner number bs ≡ false
  pub folds : folded (value_of kept docs) (bare (sent_to owner number bs)) ≡ Some (value_of kept (docs_after docs cs stamp (latest stamp (sent_to owner number bs))))

-- the table in a state, if it wasn't dropped
pub record IsTable (s : State) (v : SeenTable) : Type 0 where
  pub stamp : v.stamp ≡ s.table.stamp
  pub docs : documents_of v.table ≡ s.table.docs
  pub indexes : indexes_of v.table ≡ s.table.indexes

abbrev pub IsSeen : State → Option SeenTable → Type 0
IsSeen s None = s.table.shut ≡ true
IsSeen s (Some v) = IsTable s v

-- where a history leads a state on: what is past, and what is to come
pub record LeadsOn (start : State) (all : List Entry) (now : State) (rest : List Entry) : Type 0 where
  pub past : List Entry
  pub parts : all ≡ past ++ rest
  pub state : now ≡ replay machine start (map entry_of past)

-- an entry opened this feed at a stamp, over these documents, and it folds or it doesn't
pub record HasOpened (docs : List Document) (cs : List (Plain × Option Plain)) (bs : List Sent) (stamp : ℕ) (fs : List OpenedFeed) (goes : Bool) : Type 0 where
  pub owner : ℕ
  pub number : ℕ
  pub kept : Option Held
  pub one : fs ≡ record { owner = owner; number = number; kept = kept; opened = stamp } ∷ []
  pub folds : IsTrue goes ↔ FoldsOver kept docs cs bs owner number stamp

abbrev pub IsTold : List Document → List (Plain × Option Plain) → List Sent → ℕ → List OpenedFeed → Option Bool → Type 0
IsTold docs cs bs stamp fs None = fs ≡ []
IsTold docs cs bs stamp fs (Some goes) = HasOpened docs cs bs stamp fs goes

-- what that adds to the feeds, and to those that fold
abbrev pub one_fed : Option Bool → ℕ
one_fed None = 0
one_fed (Some goes) = 1

abbrev pub one_folds : Option Bool → ℕ
one_folds None = 0
one_folds (Some goes) = cond goes 1 0

-- so many feeds were counted, and so many of them that are so, and others are left
pub record IsCounted (P : OpenedFeed → Type 0) (all rest : List OpenedFeed) (counted so : ℕ) : Type 0 where
  pub feeds : length all ≡ counted + length rest
  pub folds : (n : ℕ) → IsCount P rest n → IsCount P all (so + n)
