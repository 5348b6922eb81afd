-- One element of a sequence.
use Rattle.std.specs.Prelude.{ℕ, slice_get, Option, Ok}
use Rattle.reql_datum.specs.Answer.{Answer, ◌>>=◌}
use Rattle.reql_datum.specs.Plain.{Plain}
use Rattle.reql_value_spec.specs.Meant.{Meant}
use Rattle.reql_value_spec.specs.Wanted.{to_sequence}
use Rattle.reql_value_spec.specs.World.{World}

-- the element at a place
abbrev pub element : World → ℕ → Meant → Answer (Option Plain)
element w place m = to_sequence w m >>= λ ds. Ok (slice_get ds place)
