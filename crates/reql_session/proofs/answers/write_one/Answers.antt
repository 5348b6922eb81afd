use Rattle.std.proofs.Common.{◌≡◌, IfOk, refl, subst, ◌∙◌}
use Rattle.reql_datum.specs.View.{plain}
use Rattle.reql_session_spec.specs.Requests.{Atom, stamped}
use Rattle.reql_session_spec.specs.Bodies.{body}
use Rattle.reql_session_spec.specs.Tasks.{fitted}
use Rattle.reql_session.proofs.answers.write_one.Goals as goal

pub returns : goal.returns
returns g c = λ k l.
    subst (λ z. IfOk c.fitted.result (λ b. b.items ≡ body (fitted k (Atom (plain c.args.document.now) (stamped c.args.names z))))) (c.as_slice.ensures.value ∙ c.in_ok-points.ensures)
    (c.fitted.ensures k (Atom (plain c.args.document.now) (stamped c.args.names c.as_slice.result.now)) l c.in_ok-body.ensures refl)
