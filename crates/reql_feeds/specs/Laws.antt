-- What the calls on open feeds are to the machine of tables.
use Rattle.std.specs.Prelude.{◌≡◌, ℕ, suc, nat_lt, List, [], ◌∷◌, ◌++◌, map, length, true, Some}
use Rattle.reql_datum.specs.Order.{order}
use Rattle.reql_datum.specs.Plain.{Plain}
use Rattle.reql_memory.specs.Sorted.{AreRisingBy, find_by}
use Rattle.reql_term.specs.Views.{Document}
use Rattle.reql_table_spec.specs.Table.{Held, DocumentTable, feeding, held}
use Rattle.reql_table_spec.specs.declared.command.FeedSpec.{FeedSpec}
use Rattle.reql_table_machine_spec.specs.Feeds.{Feed, after_change, after_changes, effect, says, find_feed, has_something}
use Rattle.reql_table_machine_spec.specs.declared.command.Cmd.TheVariants as cmds
use Rattle.reql_write_spec.specs.Treated.{Changed}
use Rattle.reql_feeds.specs.Record.{fresh, given, after_take, closed}
use Rattle.reql_feeds.specs.Told.{noticed}
use Rattle.reql_feeds.specs.Turn.{done, undone, Leads}

-- a change that finds its old document leads to the documents after it, from those before it
abbrev pub ChangesLead : Type 0
ChangesLead = (x : Changed) (docs : List Document) → AreRisingBy order docs → find_by order x.key docs ≡ x.old → Leads x (done x docs) × (undone x (done x docs) ≡ docs)

-- the feeds after a change of a table are those that were told of it
abbrev pub OneChangeIsTold : Type 0
OneChangeIsTold = (most : ℕ) (t : DocumentTable) (x : Changed) (after : List Document) → undone x after ≡ t.docs
    → (after_change (feeding most) t x).feeds ≡ map (noticed t.stamp x after) t.feeds

-- changes go on one at a time
abbrev pub ChangesGoOn : Type 0
ChangesGoOn = (most : ℕ) (t : DocumentTable) (xs : List Changed) (x : Changed) → after_changes (feeding most) t (xs ++ x ∷ []) ≡ after_change (feeding most) (after_changes (feeding most) t xs) x

-- where there is room for one more, the feeds after a Subscribe have a new one at their end
abbrev pub SubscribesOpen : Type 0
SubscribesOpen = (most : ℕ) (t : DocumentTable) (by : ℕ) (spec : FeedSpec) (h : Held) → held t.indexes spec ≡ Some h → nat_lt (length t.feeds) most ≡ true
    → (effect (feeding most) t by (cmds.Subscribe spec)).feeds ≡ t.feeds ++ fresh by (suc t.place) t.stamp h ∷ []

-- a Take leaves the feeds as they are left, and is answered what is given of a feed that has something
abbrev pub TakesLeave : Type 0
TakesLeave = (most : ℕ) (t : DocumentTable) (by feed max : ℕ) → (effect (feeding most) t by (cmds.Take feed max)).feeds ≡ after_take by feed max t.feeds

abbrev pub TakesGive : Type 0
TakesGive = (most : ℕ) (t : DocumentTable) (by feed max : ℕ) (f : Feed Held Plain) → find_feed by feed t.feeds ≡ Some f → has_something f ≡ true → says (feeding most) t by (cmds.Take feed max) ≡ given max f

-- an Unsubscribe closes the feed
abbrev pub UnsubscribesClose : Type 0
UnsubscribesClose = (most : ℕ) (t : DocumentTable) (by feed : ℕ) → (effect (feeding most) t by (cmds.Unsubscribe feed)).feeds ≡ closed by feed t.feeds
