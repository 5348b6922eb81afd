-- A table with its open feeds, as a program keeps it, and as the machine of tables knows it.
use Rattle.std.specs.Prelude.{◌≡◌, ◌<◌, ◌^◌, ◌+◌, ℕ, suc, List, Bool, true, false}
use Rattle.reql_datum.specs.Plain.{Plain}
use Rattle.reql_term.specs.Views.{Document}
use Rattle.reql_table.specs.Seen.{Standing, documents_of, indexes_of}
use Rattle.reql_table_machine_spec.specs.Feeds.{Feed, answer, after_cmd}
use Rattle.reql_table_machine_spec.specs.declared.command.Cmd.{Cmd as Known}
use Rattle.reql_write_spec.specs.declared.command.WriteCmd.{WriteCmd}
use Rattle.reql_table_spec.specs.Indexes.{IndexCmd}
use Rattle.reql_table_spec.specs.Machine.{State}
use Rattle.reql_table_spec.specs.Replies.{said_of}
use Rattle.reql_table_spec.specs.Table.{Held, DocumentTable, feeding}
use Rattle.reql_table_spec.specs.declared.command.FeedSpec.{FeedSpec}
use Rattle.reql_table_spec.specs.declared.reply.Said.{Said}
use Rattle.reql_feeds.specs.Record.{records, kept_in, AreBelow, AllFit}
use Rattle.reql_core.specs.declared.moment.Moment.{Moment}

pub record Live (F : Type 0) : Type 0 where
  pub moment : Moment
  pub feeds : List (Feed F Plain)
  pub shut : Bool
  pub most : ℕ

-- one entry more
abbrev pub moved : {F : Type 0} → Live F → Live F
moved l = record l { moment = record l.moment { place = l.moment.place + 1 } }

-- the same entry, on another table
abbrev pub gone_on : {F : Type 0} → Standing → Live F → Live F
gone_on table l = record l { moment = record { table = table; place = l.moment.place + 1; stamp = l.moment.stamp } }

abbrev pub Asked : Type 0
Asked = Known WriteCmd IndexCmd FeedSpec

module _ {F : Type 0} where
  module _ (held : F → Held) where
    abbrev pub table_of : Live F → DocumentTable
    table_of l = record { docs = documents_of l.moment.table; indexes = indexes_of l.moment.table; feeds = records held l.feeds; shut = l.shut; place = l.moment.place; stamp = l.moment.stamp }

    -- what contracts see of the engine of the table, which keeps so many entries of its history and has no disk
    abbrev pub live_state : ℕ → Live F → State
    live_state keeps l = record { table = table_of l; most = l.most; keeps = keeps; sound = true; journaled = false }

    -- a command was answered so, and left this
    pub record Does (by : ℕ) (cmd : Asked) (old new : Live F) (said : Said) : Type 0 where
      pub says : said_of said ≡ answer (feeding old.most) (table_of old) by cmd
      pub leaves : table_of new ≡ after_cmd (feeding old.most) (table_of old) by cmd
      pub most : new.most ≡ old.most

  -- what it keeps: each feed is at its documents and finds what it looks for, numbers are below the next entry's, and all are numbers of a u64
  pub record Lives (fits : F → List Document → Type 0) (reads : F → Standing → Type 0) (l : Live F) : Type 0 where
    pub fit : AllFit fits (documents_of l.moment.table) (kept_in l.feeds)
    pub read : AllFit reads l.moment.table (kept_in l.feeds)
    pub below : AreBelow (suc l.moment.place) l.feeds
    pub place : l.moment.place < 2 ^ 64
    pub stamp : l.moment.stamp < 2 ^ 64
