-- The members of an object of terms, in each world with one limit on arrays.
use Rattle.std.specs.Prelude.{◌≡◌, ℕ, List, ◌++◌, drop, Ok}
use Rattle.reql_datum.specs.Answer.{Answer, ◌>>=◌}
use Rattle.reql_datum.specs.Plain.{Plain}
use Rattle.reql_term.specs.Form.{Form}
use Rattle.reql_rules.specs.Lists.{Bytes, each}
use Rattle.reql_value_spec.specs.Meaning.{member_datum}
use Rattle.reql_value_spec.specs.Sense.{Sense, option, options}
use Rattle.reql_value_spec.specs.World.{World, Vars}
use Rattle.reql_term_analysis.specs.Bound.{optional}

-- the members of what these give
abbrev pub members_of : List (Bytes × Sense) → World → Vars → Answer (List (Bytes × Plain))
members_of os w vars = options option os w vars >>= each member_datum

-- these are the members of what terms by name give
unfoldable pub Made : ℕ → List (Bytes × Form) → Vars → List (Bytes × Plain) → Type 0
Made limit fs vars ms = (w : World) → w.array_limit ≡ limit → members_of (optional fs) w vars ≡ Ok ms

-- these are those of the terms before a place: all are these, and then those of the rest
unfoldable pub MadeBefore : ℕ → ℕ → List (Bytes × Form) → Vars → List (Bytes × Plain) → Type 0
MadeBefore place limit fs vars done = (w : World) → w.array_limit ≡ limit
    → members_of (optional fs) w vars ≡ (members_of (optional (drop place fs)) w vars >>= λ ms. Ok (done ++ ms))
