-- A table as it is restored.
use Rattle.reql_table.specs.Seen.{documents_of, indexes_of}
use Rattle.reql_table_records.specs.Standing.{Standing}
use Rattle.reql_restore.specs.declared.table.Recovered.{Recovered}

abbrev pub standing_of : Recovered → Standing
standing_of r = record { docs = documents_of r.table; indexes = indexes_of r.table; shut = r.shut }
