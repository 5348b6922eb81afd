use Rattle.std.proofs.Common.{◌≡◌, ◌++◌, ◌-◌, drop, length, map}
use Rattle.reql_rules.specs.Lists.{joined}
use Rattle.reql_write_spec.specs.Treated.{changed_by, changes_of}
use Rattle.reql_write_spec.specs.Treating.{treat_all}
use Rattle.reql_write.specs.Acting.{treating}
use Rattle.reql_write.specs.Seen.{seen}
use Rattle.reql_write.proofs.treating.treat_more.Given as goal

abbrev pub decreases-loop-item : goal.decreases-loop-item
decreases-loop-item l = length l.items - l.place

abbrev pub invariant-loop-item : goal.invariant-loop-item
invariant-loop-item l =
    (map seen l.all.items ++ treat_all (treating l.field l.act) l.documents (drop l.place l.items) ≡ treat_all (treating l.field l.act) l.start l.items)
    × (l.documents ≡ changed_by l.start (joined (map changes_of (map seen l.all.items))))
