-- How an operator takes its arguments, and what the parts of the evaluator mean.
use Rattle.std.specs.Prelude.{ℕ, nat_eq, List, [], ◌∷◌, Bool, true, false, not, if◌then◌else◌, Ok, Err}
use Rattle.reql_datum.specs.Answer.{Answer, ◌>>=◌, non_existence}
use Rattle.reql_datum.specs.Plain.{Plain, boolean, text}
use Rattle.reql_term.specs.declared.role.Way.{Way}
use Rattle.reql_term.specs.declared.role.Way.TheVariants as way
use Rattle.reql_rules.specs.Faults.{misplaced}
use Rattle.reql_rules.specs.Lists.{Bytes, each, object_of}
use Rattle.reql_rules.specs.Types.{truth}
use Rattle.reql_value_spec.specs.Lazy.{Tail, chain, branch_on, default_to, or_caught, stops, told}
use Rattle.reql_value_spec.specs.Meaning.{member_datum}
use Rattle.reql_value_spec.specs.Meant.{Meant, one, Given, Options}
use Rattle.reql_value_spec.specs.Sense.{Sense, value, argument, key_argument, arguments, option, index_option, default_option, options}
use Rattle.reql_value_spec.specs.Sequenced.{sized, on_groups}
use Rattle.reql_value_spec.specs.Wanted.{to_datum}
use Rattle.reql_value_spec.specs.World.{World, Vars}

-- whether the argument at a place may be a key with its direction
abbrev pub takes_key : Way → ℕ → Bool
takes_key way.Sorting at = not (nat_eq at 0)
takes_key way at = false

-- an argument, where it may be such a key and where it may not
abbrev pub taken : Bool → ℕ → Sense → World → Vars → Answer Given
taken keyed at s w vars = if keyed then key_argument at s w vars else argument at s w vars

abbrev pub taken_by : Way → ℕ → Sense → World → Vars → Answer Given
taken_by how at s w vars = taken (takes_key how at) at s w vars

-- an optional argument
abbrev pub chosen : Way → Sense → World → Vars → Answer Given
chosen way.Sorting s w vars = index_option s w vars
chosen way.Filtering s w vars = default_option s w vars
chosen how s w vars = option s w vars

-- an operator over groups as they are, or over the members of each
abbrev pub is_whole : Way → Bool
is_whole way.Whole = true
is_whole how = false

-- an operator that evaluates all its arguments
abbrev pub is_taking : Way → Bool
is_taking way.Strict = true
is_taking way.Sorting = true
is_taking way.Filtering = true
is_taking way.Whole = true
is_taking way.Raising = true
is_taking how = false

-- one that evaluates only what it needs
abbrev pub tail_by : Way → List Sense → Tail
tail_by way.UntilTrue ss w vars m = chain true ss w vars m
tail_by way.UntilFalse ss w vars m = chain false ss w vars m
tail_by way.Branching ss w vars m = branch_on ss w vars m
tail_by how ss w vars m = Err misplaced

unfoldable pub tail : Way → List Sense → World → Vars → Meant → Answer Meant
tail how ss w vars m = tail_by how ss w vars m >>= sized w.array_limit

-- AND, OR and BRANCH
abbrev pub of_nothing : Way → Answer Meant
of_nothing way.UntilTrue = Ok (one (boolean false))
of_nothing way.UntilFalse = Ok (one (boolean true))
of_nothing how = Err misplaced

abbrev pub lazy_first : Way → Sense → List Sense → World → Vars → Answer Meant
lazy_first how s ss w vars = value s w vars >>= on_groups (tail how ss w vars)

abbrev pub lazy : Way → List Sense → World → Vars → Answer Meant
lazy how [] w vars = of_nothing how
lazy how (s ∷ ss) w vars = lazy_first how s ss w vars

abbrev pub is_lazy : Way → Bool
is_lazy way.UntilTrue = true
is_lazy way.UntilFalse = true
is_lazy way.Branching = true
is_lazy how = false

abbrev pub stop_of : Bool → Meant → Answer Bool
stop_of at m = to_datum m >>= λ d. Ok (stops at d)

-- whether a value is true
abbrev pub truth_of : Meant → Answer Bool
truth_of m = to_datum m >>= λ d. Ok (truth d)

-- DEFAULT of two
abbrev pub either : Sense → Sense → World → Vars → Answer Meant
either s t w vars = default_to t w vars (value s w vars)

abbrev pub missing : Sense → World → Vars → Bytes → Answer Meant
missing s w vars why = or_caught (Err (non_existence why)) (told s w vars (text why)) >>= sized w.array_limit

-- the object of these members, within the limits
abbrev pub object_sized : ℕ → Answer (List (Bytes × Plain)) → Answer Meant
object_sized limit found = found >>= λ ms. sized limit (one (object_of ms))

-- the object of what terms gave
abbrev pub members_within : ℕ → Options → Answer Meant
members_within limit gs = object_sized limit (each member_datum gs)

abbrev pub members : World → Options → Answer Meant
members w gs = members_within w.array_limit gs

abbrev pub object_in : List (Bytes × Sense) → World → Vars → Answer Meant
object_in os w vars = options (chosen way.Strict) os w vars >>= members w
