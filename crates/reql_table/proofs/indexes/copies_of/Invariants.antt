use Rattle.std.proofs.Common.{◌≡◌, take}
use Rattle.reql_table.proofs.indexes.copies_of.Given as goal

abbrev pub invariant-loop-index : goal.invariant-loop-index
invariant-loop-index l = l.copies.items ≡ take l.index-index l.indexes
