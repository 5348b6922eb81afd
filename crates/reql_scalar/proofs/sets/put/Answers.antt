use Rattle.std.proofs.Common.{[], ◌∷◌, ◌++◌, subst}
use Rattle.reql_datum.specs.View.{plain}
use Rattle.reql_scalar.specs.Among.{Holds}
use Rattle.reql_scalar.proofs.Among.{holds_more}
use Rattle.reql_scalar.proofs.sets.put.Goals as goal

pub returns-clause-more : goal.returns-clause-more
returns-clause-more c = λ vs h.
    subst (λ d. Holds c.insert.new.self (vs ++ plain d ∷ [])) c.in_ok-copied.ensures
    (holds_more c.args.seen.now c.insert.new.self c.in_ok-copied.copied vs c.in_ok-new.ensures.updates.0 h)
