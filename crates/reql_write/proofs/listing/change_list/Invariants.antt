use Rattle.std.proofs.Common.{◌≡◌, ◌++◌, drop, map}
use Rattle.reql_rules.specs.Lists.{joined}
use Rattle.reql_write_spec.specs.Treated.{changes_of}
use Rattle.reql_table.specs.Edits.{told}
use Rattle.reql_write.specs.Seen.{seen}
use Rattle.reql_write.proofs.listing.change_list.Given as goal

abbrev pub invariant-loop-one : goal.invariant-loop-one
invariant-loop-one l = map told l.changes.items ++ joined (map changes_of (map seen (drop l.one-index l.treated))) ≡ joined (map changes_of (map seen l.treated))
