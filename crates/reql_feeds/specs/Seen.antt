-- What entries are seen as.
use Rattle.std.specs.Prelude.{List, map}
use Rattle.reql_datum.specs.Plain.{Plain}
use Rattle.reql_datum.specs.View.{plain}
use Rattle.reql_queue.specs.Record.{all_shown}
use Rattle.reql_table_machine_spec.specs.Feeds.{Feed}
use Rattle.reql_feeds.specs.Keeps.{Sized}
use Rattle.reql_feeds.specs.declared.entry.Entry.{Entry}

module _ {F : Type 0} where
  abbrev pub seen : Entry F → Feed F Plain
  seen e = record { owner = e.owner; number = e.number; kept = e.kept; opened = e.opened; queue = all_shown plain e.queue.items; skipped = e.queue.skipped; last = e.queue.last }

  abbrev pub sized : Entry F → Sized F
  sized e = (seen e, e.queue.size)

  abbrev pub all_sized : List (Entry F) → List (Sized F)
  all_sized = map sized
