use Rattle.std.proofs.Common.{◌≡◌, ◌++◌, ◌-◌, drop, length, map}
use Rattle.reql_write_spec.specs.Selecting.{key_in}
use Rattle.reql_write.proofs.selection.keys_in.Given as goal

abbrev pub decreases-loop-document : goal.decreases-loop-document
decreases-loop-document l = length l.documents - l.place

abbrev pub invariant-loop-document : goal.invariant-loop-document
invariant-loop-document l = l.keys ++ map (key_in l.field) (drop l.place l.documents) ≡ map (key_in l.field) l.documents
