-- The worked rows, by computing.
use Rattle.std.specs.Prelude.{refl}
use Rattle.std.specs.Fmt.{digits}
use Rattle.serde_json.proofs.OnLiterals.{serde_json_on_literals}
use Rattle.reql_session_spec.specs.Bodies.{body}
use Rattle.reql_session_spec.specs.Worked.{Opening, Lost, Waiting, Visited, United, Dropped, Streamed, Spoken}

pub opening : Opening
opening = (refl, refl, refl, refl)

pub lost : Lost
lost = (refl, refl, refl, refl)

pub waiting : Waiting
waiting = (refl, refl, refl, refl, refl, refl, refl)

pub visited : Visited
visited = (refl, refl, refl, refl)

pub united : United
united = (refl, refl, refl)

pub dropped : Dropped
dropped = (refl, refl, refl, refl)

pub streamed : Streamed
streamed = (refl, refl, refl)

pub spoken : Spoken
unfolding body serde_json_on_literals digits
spoken = (refl, refl, refl, refl, refl, refl, refl, refl, refl, refl, refl, refl, refl, refl)
