-- Where a table's documents and indexes stand, and where entries lead them.
use Rattle.std.specs.Prelude.{ℕ, [], false}
use Rattle.reql_table.specs.Seen.{Standing, documents_of, indexes_of}
use Rattle.reql_table_machine_spec.specs.Feeds.{effect, one_more}
use Rattle.reql_table_spec.specs.Machine.{known_cmd}
use Rattle.reql_table_spec.specs.Table.{DocumentTable, feeding}
use Rattle.reql_table_spec.specs.declared.command.Entry.{Entry}

-- a table without its feeds, and as if it were open
abbrev pub bare : DocumentTable → DocumentTable
bare t = record t { feeds = []; shut = false }

abbrev pub stand : Standing → ℕ → ℕ → DocumentTable
stand table place stamp = record { docs = documents_of table; indexes = indexes_of table; feeds = []; shut = false; place = place; stamp = stamp }

-- what an entry makes of it: every entry of a history was recorded
abbrev pub led_by : DocumentTable → Entry → DocumentTable
led_by t e = bare (one_more (feeding 0) (effect (feeding 0) t e.by (known_cmd e.order.cmd)))
