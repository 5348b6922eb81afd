-- A change of one document, as feeds meet it.
use Rattle.std.specs.Prelude.{◌≡◌, List, option_map}
use Rattle.reql_datum.specs.Order.{order}
use Rattle.reql_datum.specs.Plain.{Plain}
use Rattle.reql_datum.specs.View.{plain}
use Rattle.reql_memory.specs.Sorted.{AreRisingBy, find_by}
use Rattle.reql_term.specs.Views.{Document}
use Rattle.reql_feed_spec.specs.Feeds.{queued}
use Rattle.reql_feed_spec.specs.Value.{changed}
use Rattle.reql_table_spec.specs.Table.{Held, feed_of, at_key}
use Rattle.reql_write_spec.specs.Treated.{Changed}
use Rattle.reql_write_spec.specs.declared.command.Change.{Change}

-- a change as definitions speak of it
abbrev pub told : Change → Changed
told c = record { key = plain c.key; old = option_map plain c.old; new = option_map plain c.new }

-- the documents after a change
abbrev pub done : Changed → List Document → List Document
done x docs = changed x.key x.new docs

-- the documents before a change, from those after it: its old document is back at its key
abbrev pub undone : Changed → List Document → List Document
undone x after = changed x.key x.old after

-- a change led to these documents: those before it rise by key, it found its old document there, and it made these of them
pub record Leads (x : Changed) (after : List Document) : Type 0 where
  pub rising : AreRisingBy order (undone x after)
  pub found : find_by order x.key (undone x after) ≡ x.old
  pub leads : done x (undone x after) ≡ after

-- what a feed is queued at a change that led to these documents
abbrev pub due : Held → Changed → List Document → List Plain
due h x after = queued (feed_of h) (undone x after) (at_key x)
