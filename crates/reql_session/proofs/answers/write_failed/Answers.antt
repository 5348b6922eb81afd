use Rattle.std.proofs.Common.{◌≡◌, Some, IfOk, refl, subst, ◌∙◌}
use Rattle.reql_session_spec.specs.Requests.{Failed, stamped}
use Rattle.reql_session_spec.specs.Bodies.{body}
use Rattle.reql_session_spec.specs.Tasks.{fitted}
use Rattle.reql_session.proofs.answers.write_failed.Goals as goal

pub returns : goal.returns
returns g c = λ k l.
    subst (λ z. IfOk c.fitted.result (λ b. b.items ≡ body (fitted k (Failed c.args.error c.args.why.now (Some (stamped c.args.names z)))))) (c.as_slice.ensures.value ∙ c.in_ok-points.ensures)
    (c.fitted.ensures k (Failed c.args.error c.args.why.now (Some (stamped c.args.names c.as_slice.result.now))) l (rw c.as_str.ensures at c.in_ok-body.ensures) refl)
