use Rattle.reql_term.specs.Form.{Form}
use Rattle.reql_datum.proofs.Members.{rising_nil}
use Rattle.reql_term.proofs.term.TermFields.new.Goals as goal

pub invariant_of-result : goal.invariant_of-result
invariant_of-result c = rising_nil Form
