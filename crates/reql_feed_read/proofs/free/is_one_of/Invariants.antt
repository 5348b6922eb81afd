use Rattle.std.proofs.Common.{◌≡◌, nat_eq, drop}
use Rattle.std.specs.List.{list_any}
use Rattle.reql_feed_read.proofs.free.is_one_of.Given as goal

abbrev pub invariant-loop-other : goal.invariant-loop-other
invariant-loop-other l = list_any (nat_eq l.id) (drop l.other-index l.ids) ≡ list_any (nat_eq l.id) l.ids
