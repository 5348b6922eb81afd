use Rattle.std.proofs.Common.{ℕ, List, [], length}
use Rattle.json.specs.Token.{Token}
use Rattle.reql_read.specs.Quick.{ReadsIds}
use Rattle.reql_read.proofs.quick_params.read_ids.Given as goal

abbrev pub invariant-ids : goal.invariant-ids
invariant-ids l = (depth : ℕ) (all : List ℕ) (r : List Token) → ReadsIds depth l.reader l.ids all r → ReadsIds depth l.initial.reader [] all r

abbrev pub decreases-ids : goal.decreases-ids
decreases-ids l = length l.reader
