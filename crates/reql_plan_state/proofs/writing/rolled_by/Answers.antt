use Rattle.reql_plan_state.proofs.writing.rolled_by.Goals as goal

pub returns-in-Some : goal.returns-in-Some
returns-in-Some g c = rw c.in-Some.is c.rolled_key.ensures
