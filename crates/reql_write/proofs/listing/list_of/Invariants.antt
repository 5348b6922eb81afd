use Rattle.std.proofs.Common.{◌≡◌, ◌++◌, drop, map}
use Rattle.std.specs.List.{filter}
use Rattle.reql_write_spec.specs.Treated.{shown}
use Rattle.reql_write.specs.Listing.{AreNamed, is_wanted}
use Rattle.reql_write.specs.Seen.{seen}
use Rattle.reql_write.proofs.listing.list_of.Given as goal

abbrev pub invariant-loop-one : goal.invariant-loop-one
invariant-loop-one l =
    (l.list ++ map shown (filter (is_wanted l.all) (map seen (drop l.one-index l.treated))) ≡ map shown (filter (is_wanted l.all) (map seen l.treated)))
    × AreNamed l.labels
