-- The rule of an operator within the limits, and by groups, by names that stand alone in clauses.
use Rattle.std.specs.Prelude.{List, [], ◌∷◌, Bool, true, false, Ok}
use Rattle.reql_datum.specs.Answer.{Answer, ◌>>=◌}
use Rattle.reql_datum.specs.Plain.{Plain}
use Rattle.reql_rules.specs.Lists.{each}
use Rattle.reql_value_spec.specs.Meant.{Meant, grouped, Given, given, Calls, Options}
use Rattle.reql_value_spec.specs.Sequenced as sequenced
use Rattle.reql_value_spec.specs.World.{World}
use Rattle.reql_apply.specs.Kinds.{kind_rule}
use Rattle.reql_apply.specs.declared.kinds.Kind.{Kind}
use Rattle.reql_operand.specs.declared.value.Arg.{Arg}
use Rattle.reql_operand.specs.declared.value.Arg.TheVariants as a
use Rattle.reql_operand.specs.declared.value.Value.{Value}
use Rattle.reql_operand.specs.declared.value.Value.TheVariants as v

-- the rule within the limits
unfoldable pub ruled : Kind → World → Calls → Options → List Given → Answer Meant
ruled op w calls opts gs = sequenced.at_once w.array_limit (λ hs. kind_rule op w calls hs opts) gs

-- on one value in the place of the first argument
unfoldable pub ruled_on : Kind → World → Calls → Options → List Given → Meant → Answer Meant
ruled_on op w calls opts rest m = ruled op w calls opts (given m ∷ rest)

-- and by groups where the first argument is grouped
unfoldable pub in_groups : Kind → World → Calls → Options → List Given → Answer Meant
in_groups op w calls opts gs = sequenced.by_groups w.array_limit (λ hs. kind_rule op w calls hs opts) gs

-- the rule on the members of each group
unfoldable pub grouped_by : Kind → World → Calls → Options → List Given → List (Plain × Plain) → Answer Meant
grouped_by op w calls opts rest hs = each (sequenced.on_group (ruled_on op w calls opts rest)) hs >>= λ rs. Ok (grouped rs)

abbrev pub is_grouped : Meant → Bool
is_grouped (grouped gs) = true
is_grouped m = false

abbrev pub is_groups : Given → Bool
is_groups (given m) = is_grouped m
is_groups g = false

abbrev pub has_groups : List Given → Bool
has_groups [] = false
has_groups (g ∷ gs) = is_groups g

-- the same of what they stand for in code
abbrev pub holds_groups : Value → Bool
holds_groups (v.Grouped gs) = true
holds_groups v = false

abbrev pub gives_groups : Arg → Bool
gives_groups (a.Value v) = holds_groups v
gives_groups g = false

abbrev pub begins_with_groups : List Arg → Bool
begins_with_groups [] = false
begins_with_groups (g ∷ gs) = gives_groups g
