-- What an insertion's answer tells: how many documents it inserted, and the first error of the others.
use Rattle.std.specs.Prelude.{◌≡◌, ℕ, List, codes, Option, Some, None, option_and_then, option_map, string_bytes}
use Rattle.serde_json.specs.Data.{Data}
use Rattle.serde_json.specs.Find.{as_str, get}
use Rattle.reql_query.specs.Answers.{number_in}
use Rattle.reql_query.specs.declared.tally.Tally.{Tally}

abbrev pub error_in : Data → Option (List ℕ)
error_in summary = option_and_then as_str (get (codes "first_error") summary)

-- by the number of the inserted in a summary: it is told with the first error, or the summary is none of an insertion
abbrev pub Counts : Data → Option ℕ → Option Tally → Type 0
Counts summary None None = Unit {0}
Counts summary None (Some tally) = ⊥
Counts summary (Some n) None = ⊥
Counts summary (Some n) (Some tally) = (tally.inserted ≡ n) × (option_map string_bytes tally.first_error ≡ error_in summary)

-- by the first of the results of an answer
abbrev pub Tells : Option Data → Option Tally → Type 0
Tells None None = Unit {0}
Tells None (Some tally) = ⊥
Tells (Some summary) tally = Counts summary (number_in (codes "inserted") summary) tally
