-- A request stays the same on its way.
use Rattle.std.proofs.Common.{◌≡◌, List, refl, ap, ◌∙◌}
use Rattle.reql_session_spec.specs.Requests.{Found}
use Rattle.reql_session_api.specs.Meant.{Course}
use Rattle.reql_plan_driver.specs.Walking.{IsSame}

module _ {PL : Type 0} where
  pub same_as : (c d : Course PL) → d ≡ c → IsSame c d
  same_as c d e = (ap (λ (z : Course PL). z.plan) e, ap (λ (z : Course PL). z.noreply) e)

  pub same_found : (c d : Course PL) (found : List Found) → d ≡ record c { found = found } → IsSame c d
  same_found c d found e = (ap (λ (z : Course PL). z.plan) e, ap (λ (z : Course PL). z.noreply) e)

  pub same_on : (b c d : Course PL) → IsSame b c → IsSame c d → IsSame b d
  same_on b c d p q = (q.0 ∙ p.0, q.1 ∙ p.1)
