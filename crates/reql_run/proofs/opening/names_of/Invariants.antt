use Rattle.std.proofs.Common.{◌≡◌, map, take}
use Rattle.reql_words.specs.Words.{named}
use Rattle.reql_run.proofs.opening.names_of.Given as goal

abbrev pub invariant-loop-db : goal.invariant-loop-db
invariant-loop-db l = l.names.items ≡ map named (take l.db-index l.tables)
