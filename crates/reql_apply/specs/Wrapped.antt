-- What a rule gives as a value: a document, an array, a stream, groups, or a sequence of an argument's kind.
use Rattle.std.specs.Prelude.{List, Ok}
use Rattle.reql_datum.specs.Answer.{Answer, ◌>>=◌}
use Rattle.reql_datum.specs.Plain.{Plain}
use Rattle.reql_rules.specs.Lists.{array_of}
use Rattle.reql_value_spec.specs.Meant.{Meant, one, stream, grouped, Given, meant_of}
use Rattle.reql_value_spec.specs.Sequenced.{like}

abbrev pub of_datum : Answer Plain → Answer Meant
of_datum a = a >>= λ d. Ok (one d)

abbrev pub of_array : Answer (List Plain) → Answer Meant
of_array a = a >>= λ ds. Ok (one (array_of ds))

abbrev pub of_stream : Answer (List Plain) → Answer Meant
of_stream a = a >>= λ ds. Ok (stream ds)

abbrev pub of_groups : Answer (List (Plain × Plain)) → Answer Meant
of_groups a = a >>= λ gs. Ok (grouped gs)

abbrev pub of_like : Given → Answer (List Plain) → Answer Meant
of_like g a = a >>= λ ds. Ok (like (meant_of g) ds)
