-- How many elements pass, and whether some do, after so many.
use Rattle.std.specs.Prelude.{ℕ, ◌+◌, length, List, Bool, ◌||◌, ◌&&◌, Ok}
use Rattle.reql_datum.specs.Answer.{Answer, ◌>>=◌}
use Rattle.reql_datum.specs.Plain.{Plain}
use Rattle.reql_rules.specs.Places.{counted_as}
use Rattle.reql_value_spec.specs.Meant.{Meant, Given, meant_of}
use Rattle.reql_value_spec.specs.Sequenced.{like}

abbrev pub counting : Answer (List Plain) → Answer Plain
counting a = a >>= λ es. Ok (counted_as (length es))

abbrev pub count_on : ℕ → Answer (List Plain) → Answer Plain
count_on n a = a >>= λ es. Ok (counted_as (n + length es))

abbrev pub or_on : Bool → Answer Bool → Answer Bool
or_on b a = a >>= λ c. Ok (b || c)

abbrev pub and_on : Bool → Answer Bool → Answer Bool
and_on b a = a >>= λ c. Ok (b && c)

-- an answer as a sequence of the first argument's kind
abbrev pub like_any : Given → Answer (List Plain) → Answer Meant
like_any g a = a >>= λ ds. Ok (like (meant_of g) ds)
