-- The place up to which SLICE takes elements, and what it gives of a part.
use Rattle.std.specs.Prelude.{ℕ, ℤ, pos, List, length, Option, Some, None, Ok}
use Rattle.reql_datum.specs.Answer.{Answer, ◌>>=◌}
use Rattle.reql_datum.specs.Plain.{Plain}
use Rattle.reql_value_spec.specs.Meant.{Meant, Given, meant_of}
use Rattle.reql_value_spec.specs.Sequenced.{alike}

-- one that is given, or that after all of so many
abbrev pub end_from : ℕ → Option ℤ → ℤ
end_from size None = pos size
end_from size (Some at) = at

abbrev pub end_among : List Plain → Option ℤ → ℤ
end_among ds end = end_from (length ds) end

-- an answer as a part of the first argument
abbrev pub alike_any : Given → Answer (List Plain) → Answer Meant
alike_any g a = a >>= λ ds. Ok (alike (meant_of g) ds)
