-- What feeds and a table are after the changes of a write.
use Rattle.std.specs.Prelude.{ℕ, ◌+◌, List, false}
use Rattle.reql_datum.specs.Plain.{Plain}
use Rattle.reql_term.specs.Views.{Document}
use Rattle.reql_table.specs.Seen.{Standing, documents_of, indexes_of}
use Rattle.reql_table_machine_spec.specs.Feeds.{Feed}
use Rattle.reql_table_spec.specs.Table.{Held, DocumentTable}
use Rattle.reql_feeds.specs.Ahead.{Pending, all_ahead, IsDraft}
use Rattle.reql_feeds.specs.Record.{kept_in, AllFit}
use Rattle.reql_core.specs.Live.{Live}

-- the machine's table of these feeds
abbrev pub with_feeds : Standing → ℕ → List (Feed Held Plain) → DocumentTable
with_feeds t stamp feeds = record { docs = documents_of t; indexes = indexes_of t; feeds = feeds; shut = false; place = 0; stamp = stamp }

module _ {F : Type 0} (held : F → Held) (fits : F → List Document → Type 0) (reads : F → Standing → Type 0) where
  -- the feeds, as they will be by a draft of them, are at a table
  pub record AreAt (feeds : List (Feed F Plain)) (table : Standing) (draft : List (Pending F)) : Type 0 where
    pub draft_of : IsDraft held feeds draft
    pub fit : AllFit fits (documents_of table) (kept_in (all_ahead held feeds draft))
    pub read : AllFit reads table (kept_in (all_ahead held feeds draft))

module _ {F : Type 0} (held : F → Held) where
  -- the table with its feeds when a draft of them is committed, and one entry more
  abbrev pub landed : Live F → Standing → ℕ → List (Pending F) → Live F
  landed l table stamp draft = record l { moment = record { table = table; place = l.moment.place + 1; stamp = stamp }; feeds = all_ahead held l.feeds draft }

-- the table with its feeds after one change, and one entry more
abbrev pub landed_one : {F : Type 0} → Live F → Standing → List (Feed F Plain) → Live F
landed_one l table feeds = record l { moment = record { table = table; place = l.moment.place + 1; stamp = l.moment.stamp + 1 }; feeds = feeds }
