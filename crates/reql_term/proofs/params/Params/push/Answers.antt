use Rattle.reql_term.proofs.Distinct.{distinct_after}
use Rattle.reql_term.proofs.params.Params.push.Goals as goal

pub invariant_of-self : goal.invariant_of-self
invariant_of-self c = distinct_after _ _ _ c.args.id c.self.invariant (rw (← c.self.view_is) at c.requires.new) c.push_on.ensures.items
