use Rattle.std.proofs.Common.{refl}
use Rattle.reql_datum.specs.Plain.{Plain}
use Rattle.reql_datum.proofs.Members.{rising_nil}
use Rattle.reql_datum.proofs.datum.Fields.with_room.Goals as goal

pub invariant_of-result : goal.invariant_of-result
invariant_of-result c = rw c.in_ok-held.ensures (record { rising = rising_nil Plain; shaped = refl })
