use Rattle.reql_term.specs.Form.{Form}
use Rattle.reql_datum.proofs.Members.{rising_nil}
use Rattle.reql_term.proofs.term.TermFields.with_room.Goals as goal

pub invariant_of-result : goal.invariant_of-result
invariant_of-result c = rw c.in_ok-held.ensures (rising_nil Form)
