-- What a term denotes, and how its arguments are evaluated: from left to right, then the optional ones by rising name; the first fault counts.
use Rattle.std.specs.Prelude.{ℕ, suc, List, [], ◌∷◌, slice_get, Bool, Option, Some, None, Ok, Err}
use Rattle.reql_datum.specs.Answer.{Answer, ◌>>=◌}
use Rattle.reql_datum.specs.Plain.{Plain}
use Rattle.reql_rules.specs.Faults.{misplaced, misplaced_order}
use Rattle.reql_rules.specs.Lists.{Bytes}
use Rattle.reql_value_spec.specs.Meant.{Meant, callable, Given, given, callee, directed, late, Calls, Options, Rule}
use Rattle.reql_value_spec.specs.Sequenced.{by_groups, at_once}
use Rattle.reql_value_spec.specs.World.{World, Vars}

-- a value; a function, by whether its body is an object; ASC or DESC of a key, which only ORDER_BY takes; an ERROR, with a text or without one, which FILTER's `default` takes unraised
pub data Sense : Type 0 where
  plain : (World → Vars → Answer Meant) → Sense
  func : Bool → (World → Vars → List Plain → Answer Meant) → Sense
  sorter : Bool → Sense → Sense
  raiser : Bool → (World → Vars → Answer Meant) → Sense

-- in a value position
abbrev pub value : Sense → World → Vars → Answer Meant
value (plain f) w vars = f w vars
value (func makes_object f) w vars = Ok callable
value (sorter down s) w vars = value s w vars >>= λ m. Err misplaced_order
value (raiser texted f) w vars = f w vars

-- as the argument at a place
abbrev pub argument : ℕ → Sense → World → Vars → Answer Given
argument at (func makes_object f) w vars = Ok (callee makes_object at)
argument at s w vars = value s w vars >>= λ m. Ok (given m)

-- as a key of ORDER_BY
abbrev pub key_argument : ℕ → Sense → World → Vars → Answer Given
key_argument at (sorter down s) w vars = argument at s w vars >>= λ g. Ok (directed down g)
key_argument at s w vars = argument at s w vars

abbrev pub arguments : (ℕ → Sense → World → Vars → Answer Given) → ℕ → List Sense → World → Vars → Answer (List Given)
arguments take at [] w vars = Ok []
arguments take at (s ∷ ss) w vars = do
  g ← take at s w vars
  gs ← arguments take (suc at) ss w vars
  Ok (g ∷ gs)

-- as an optional argument; of ORDER_BY, `index`; of FILTER, `default`
abbrev pub option : Sense → World → Vars → Answer Given
option s w vars = value s w vars >>= λ m. Ok (given m)

abbrev pub index_option : Sense → World → Vars → Answer Given
index_option (sorter down s) w vars = option s w vars >>= λ g. Ok (directed down g)
index_option s w vars = option s w vars

abbrev pub default_option : Sense → World → Vars → Answer Given
default_option (raiser texted f) w vars = Ok (late texted (f w vars))
default_option s w vars = option s w vars

abbrev pub options : (Sense → World → Vars → Answer Given) → List (Bytes × Sense) → World → Vars → Answer Options
options take [] w vars = Ok []
options take (o ∷ os) w vars = do
  g ← take o.1 w vars
  gs ← options take os w vars
  Ok ((o.0, g) ∷ gs)

-- a function called; nothing else is
abbrev pub call_of : Sense → World → Vars → List Plain → Answer Meant
call_of (func makes_object f) w vars ds = f w vars ds
call_of (sorter down s) w vars ds = call_of s w vars ds
call_of s w vars ds = Err misplaced

abbrev pub call : Option Sense → World → Vars → List Plain → Answer Meant
call None w vars ds = Err misplaced
call (Some s) w vars ds = call_of s w vars ds

abbrev pub calls_of : List Sense → World → Vars → Calls
calls_of ss w vars at ds = call (slice_get ss at) w vars ds

-- the arguments of ORDER_BY: a sequence, and keys
abbrev pub key_arguments : List Sense → World → Vars → Answer (List Given)
key_arguments [] w vars = Ok []
key_arguments (s ∷ ss) w vars = do
  g ← argument 0 s w vars
  gs ← arguments key_argument 1 ss w vars
  Ok (g ∷ gs)

-- a rule over its arguments, taken one way, and its options, taken one way, then applied one way
abbrev pub Arguments : Type 0
Arguments = List Sense → World → Vars → Answer (List Given)

abbrev pub Optional : Type 0
Optional = Sense → World → Vars → Answer Given

abbrev pub Application : Type 0
Application = ℕ → (List Given → Answer Meant) → List Given → Answer Meant

abbrev pub taking : Arguments → Optional → Application → Rule → List Sense → List (Bytes × Sense) → World → Vars → Answer Meant
taking args opt applied rule ss os w vars = do
  gs ← args ss w vars
  opts ← options opt os w vars
  applied w.array_limit (λ hs. rule w (calls_of ss w vars) hs opts) gs

-- most operators; ORDER_BY; FILTER; and UNGROUP, which takes the groups themselves
abbrev pub strict : Rule → List Sense → List (Bytes × Sense) → World → Vars → Answer Meant
strict = taking (arguments argument 0) option by_groups

abbrev pub sorting : Rule → List Sense → List (Bytes × Sense) → World → Vars → Answer Meant
sorting = taking key_arguments index_option by_groups

abbrev pub filtering : Rule → List Sense → List (Bytes × Sense) → World → Vars → Answer Meant
filtering = taking (arguments argument 0) default_option by_groups

abbrev pub ungrouping : Rule → List Sense → List (Bytes × Sense) → World → Vars → Answer Meant
ungrouping = taking (arguments argument 0) option at_once
