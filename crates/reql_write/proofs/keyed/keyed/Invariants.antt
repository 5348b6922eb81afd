use Rattle.std.proofs.Common.{◌≡◌, ◌++◌, ◌-◌, drop, length}
use Rattle.reql_write_spec.specs.Treating.{keyed}
use Rattle.reql_write.proofs.keyed.keyed.Given as goal

abbrev pub decreases-loop-document : goal.decreases-loop-document
decreases-loop-document l = length l.documents - l.place

abbrev pub invariant-loop-document : goal.invariant-loop-document
invariant-loop-document l = l.all ++ keyed l.field (drop l.next l.made) (drop l.place l.documents) ≡ keyed l.field l.made l.documents
