-- AND, OR, BRANCH and DEFAULT, which evaluate only what they need (ReQL API reference: and, or, branch, default).
use Rattle.std.specs.Prelude.{List, [], ◌∷◌, Bool, not, if◌then◌else◌, Ok, Err}
use Rattle.reql_datum.specs.Answer.{Answer, ◌>>=◌, non_existence, no_text}
use Rattle.reql_datum.specs.Plain.{Plain, boolean, null, text}
use Rattle.reql_rules.specs.Faults.{misplaced}
use Rattle.reql_rules.specs.Types.{truth}
use Rattle.reql_value_spec.specs.Meant.{Meant, one, is_nothing}
use Rattle.reql_value_spec.specs.Sense.{Sense, func, value}
use Rattle.reql_value_spec.specs.Sequenced.{on_groups, sized}
use Rattle.reql_value_spec.specs.Wanted.{to_datum}
use Rattle.reql_value_spec.specs.World.{World, Vars}

-- what a term gives, by what its first argument gave
abbrev pub Tail : Type 0
Tail = World → Vars → Meant → Answer Meant

-- by groups, and within the limits
abbrev pub by_first : Tail → Sense → World → Vars → Answer Meant
by_first f s w vars = do
  m ← value s w vars
  on_groups (λ n. f w vars n >>= sized w.array_limit) m

-- AND stops at the first false, OR at the first true; the last is taken as it is
abbrev pub stops : Bool → Plain → Bool
stops at d = if at then truth d else not (truth d)

abbrev pub chain : Bool → List Sense → Tail
chain at [] w vars m = Ok m
chain at (s ∷ ss) w vars m = do
  d ← to_datum m
  if stops at d then Ok m else (value s w vars >>= chain at ss w vars)

abbrev pub chained : Bool → List Sense → World → Vars → Answer Meant
chained at [] w vars = Ok (one (boolean (not at)))
chained at (s ∷ ss) w vars = by_first (chain at ss) s w vars

-- the first arm whose test is true, else the last
abbrev mutual
  pub branches : List Sense → World → Vars → Answer Meant
  branches [] w vars = Err misplaced
  branches (s ∷ []) w vars = value s w vars
  branches (s ∷ t ∷ ss) w vars = value s w vars >>= branch_on (t ∷ ss) w vars

  pub branch_on : List Sense → Tail
  branch_on [] w vars m = Err misplaced
  branch_on (t ∷ ss) w vars m = do
    d ← to_datum m
    if truth d then value t w vars else branches ss w vars

abbrev pub branch : List Sense → World → Vars → Answer Meant
branch [] w vars = Err misplaced
branch (s ∷ ss) w vars = by_first (branch_on ss) s w vars

-- the second argument, a function getting what is told of the first
abbrev pub told : Sense → World → Vars → Plain → Answer Meant
told (func makes_object f) w vars d = f w vars (d ∷ [])
told s w vars d = value s w vars

-- an ERROR without text ends it with what was there
abbrev pub or_caught : Answer Meant → Answer Meant → Answer Meant
or_caught caught (Err no_text) = caught
or_caught caught a = a

abbrev pub unless_nothing : Sense → Tail
unless_nothing s w vars m = if is_nothing m then or_caught (Ok (one null)) (told s w vars null) else Ok m

abbrev pub default_to : Sense → World → Vars → Answer Meant → Answer Meant
default_to s w vars (Ok m) = on_groups (λ n. unless_nothing s w vars n >>= sized w.array_limit) m
default_to s w vars (Err (non_existence why)) = or_caught (Err (non_existence why)) (told s w vars (text why)) >>= sized w.array_limit
default_to s w vars (Err e) = Err e

abbrev pub default : List Sense → World → Vars → Answer Meant
default (s ∷ t ∷ []) w vars = default_to t w vars (value s w vars)
default ss w vars = Err misplaced
