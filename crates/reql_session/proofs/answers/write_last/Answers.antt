use Rattle.std.proofs.Common.{◌≡◌, Some, IfOk, map, refl, subst, ◌∙◌}
use Rattle.reql_datum.specs.View.{plain}
use Rattle.reql_session_spec.specs.Requests.{Last, stamped}
use Rattle.reql_session_spec.specs.Bodies.{body}
use Rattle.reql_session_spec.specs.Tasks.{fitted}
use Rattle.reql_session.proofs.answers.write_last.Goals as goal

pub returns : goal.returns
returns g c = λ k l.
    subst (λ z. IfOk c.fitted.result (λ b. b.items ≡ body (fitted k (Last (map plain c.args.documents.now) (Some (stamped c.args.names z)))))) (c.as_slice.ensures.value ∙ c.in_ok-points.ensures)
    (c.fitted.ensures k (Last (map plain c.args.documents.now) (Some (stamped c.args.names c.as_slice.result.now))) l c.in_ok-body.ensures refl)
