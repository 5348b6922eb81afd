-- Groups whose data a called function gives.
use Rattle.std.specs.Prelude.{Ok}
use Rattle.reql_datum.specs.Answer.{Answer, ◌>>=◌}
use Rattle.reql_datum.specs.Plain.{Plain}

-- a group with what m gives of its datum
abbrev pub with_datum : (Plain → Answer Plain) → Plain × Plain → Answer (Plain × Plain)
with_datum m g = do
  d ← m g.1
  Ok (g.0, d)
