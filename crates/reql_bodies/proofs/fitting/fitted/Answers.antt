use Rattle.std.proofs.Common.{◌≡◌, true, cond, IfOk, sym, subst, ◌∙◌}
use Rattle.reql_session_spec.specs.Bodies.{body}
use Rattle.reql_session_spec.specs.Tasks as tasks
use Rattle.reql_bodies.proofs.fitting.fitted.Goals as goal

pub returns-then-is_long : goal.returns-then-is_long
returns-then-is_long g c k a limits is stamp =
    let long : tasks.is_long k a ≡ true = sym (c.is_long.ensures k a limits (c.as_slice.ensures.value ∙ is)) ∙ c.if-is_long.true in
    subst (λ b. IfOk c.cut_to.result (λ v. v.items ≡ body (cond b (tasks.cut_to k a) a))) (sym long) (c.cut_to.ensures k a limits stamp)
