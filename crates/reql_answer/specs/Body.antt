-- The bodies of answers: compact JSON, with the names of an object in the order of their bytes (RethinkDB's guide on
-- writing drivers; `Response` of ql2.proto).
use Rattle.std.specs.Prelude.{ℕ, List, [], ◌∷◌, ◌++◌, map, Option, Some, None, option_map, codes}
use Rattle.serde_json.specs.Data as json
use Rattle.serde_json.specs.View as seen
use Rattle.serde_json.specs.Written.{compact_text}
use Rattle.reql_datum.specs.declared.point.Point.{Point}
use Rattle.reql_json.specs.Showing.{members_of}
use Rattle.reql_answer.specs.declared.stamp.Stamp.{Stamp}
use Rattle.reql_answer.specs.declared.error.ErrorType.{ErrorType}
use Rattle.reql_answer.specs.declared.error.ErrorType.TheVariants as errors

-- the members of an answer, by rising name
abbrev pub Answer : Type 0
Answer = List (List ℕ × json.Data)

abbrev pub whole : ℕ → json.Data
whole n = json.number (json.unsigned n)

abbrev pub array_of : List json.Data → json.Data
array_of ds = json.array (seen.items_of ds)

abbrev pub numbers : List ℕ → json.Data
numbers ns = array_of (map whole ns)

-- a member that is there only where it has a value
abbrev pub also : List ℕ → Option json.Data → Answer
also name None = []
also name (Some d) = (name, d) ∷ []

-- the points that an answer names: the catalogue's place, and a point of each slot, by rising slot
pub record Stamped : Type 0 where
  pub catalogue : ℕ
  pub points : List Point

abbrev pub stamped_by : Stamp → Stamped
stamped_by s = record { catalogue = s.catalogue; points = s.points.now }

abbrev pub point : Point → json.Data
point p = numbers (p.slot ∷ p.place ∷ p.stamp ∷ [])

abbrev pub stamp_value : Stamped → json.Data
stamp_value s = json.object (members_of ((codes "c", whole s.catalogue) ∷ (codes "t", array_of (map point s.points)) ∷ []))

-- types 1 to 5: results, with the notes of a feed and the stamps of its items
abbrev pub results : ℕ → List ℕ → Option (List ℕ) → List json.Data → Option Stamped → Answer
results kind notes stamps rs stamp =
    also (codes "f") (option_map numbers stamps)
    ++ ((codes "n", numbers notes) ∷ (codes "r", array_of rs) ∷ [])
    ++ also (codes "s") (option_map stamp_value stamp)
    ++ ((codes "t", whole kind) ∷ [])

-- types 16, a fault of the client, and 17, a fault of compiling
abbrev pub refusal : ℕ → List ℕ → Answer
refusal kind why = (codes "b", array_of []) ∷ (codes "r", array_of (json.string why ∷ [])) ∷ (codes "t", whole kind) ∷ []

-- the numbers of `ErrorType`
abbrev pub code_of : ErrorType → ℕ
code_of errors.Internal = 1000000
code_of errors.ResourceLimit = 2000000
code_of errors.QueryLogic = 3000000
code_of errors.NonExistence = 3100000
code_of errors.OpFailed = 4100000
code_of errors.User = 5000000

-- type 18, a fault of running
abbrev pub fault : ErrorType → List ℕ → Option Stamped → Answer
fault error why stamp =
    ((codes "b", array_of []) ∷ (codes "e", whole (code_of error)) ∷ (codes "r", array_of (json.string why ∷ [])) ∷ [])
    ++ also (codes "s") (option_map stamp_value stamp)
    ++ ((codes "t", whole 18) ∷ [])

-- type 18 for want of memory
abbrev pub internal : Answer
internal = fault errors.Internal (codes "Out of memory.") None

abbrev pub body : Answer → List ℕ
body answer = compact_text (json.object (members_of answer))
