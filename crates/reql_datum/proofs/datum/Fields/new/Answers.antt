use Rattle.std.proofs.Common.{refl}
use Rattle.reql_datum.specs.Plain.{Plain}
use Rattle.reql_datum.proofs.Members.{rising_nil}
use Rattle.reql_datum.proofs.datum.Fields.new.Goals as goal

pub invariant_of-result : goal.invariant_of-result
invariant_of-result c = record { rising = rising_nil Plain; shaped = refl }
