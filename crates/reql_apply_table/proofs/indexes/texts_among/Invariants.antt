use Rattle.std.proofs.Common.{◌≡◌, ◌++◌, drop, map}
use Rattle.reql_datum.specs.View.{plain}
use Rattle.reql_apply_table.specs.Indexes.{texts_in}
use Rattle.reql_apply_table.proofs.indexes.texts_among.Given as goal

abbrev pub invariant-loop-d : goal.invariant-loop-d
invariant-loop-d l = l.names.items ++ texts_in (map plain (drop l.d-index l.list)) ≡ texts_in (map plain l.list)
