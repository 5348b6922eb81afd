-- Operators by how they take their arguments.
use Rattle.std.specs.Prelude.{List, [], ◌∷◌, Err}
use Rattle.reql_datum.specs.Answer.{Answer, ◌>>=◌}
use Rattle.reql_term.specs.declared.role.Way.{Way}
use Rattle.reql_rules.specs.Faults.{misplaced, misplaced_order}
use Rattle.reql_rules.specs.Lists.{Bytes}
use Rattle.reql_value_spec.specs.Meant.{Meant}
use Rattle.reql_value_spec.specs.Sense.{Sense, value, arguments, options, calls_of}
use Rattle.reql_value_spec.specs.World.{World, Vars}
use Rattle.reql_apply.specs.declared.kinds.Kind.{Kind}
use Rattle.reql_term_analysis.specs.Ways.{taken_by, chosen}
use Rattle.reql_argument_order.specs.Applied.{applied}

-- the rule on what the arguments and the optional ones gave
unfoldable pub taking : Way → Kind → List Sense → List (Bytes × Sense) → World → Vars → Answer Meant
taking how k ss os w vars = do
  gs ← arguments (taken_by how) 0 ss w vars
  opts ← options (chosen how) os w vars
  applied how k w (calls_of ss w vars) opts gs

-- a key with its direction is no value
abbrev pub out_of_order : Answer Meant → Answer Meant
out_of_order a = a >>= λ m. Err misplaced_order

abbrev pub key_value : List Sense → World → Vars → Answer Meant
key_value [] w vars = Err misplaced
key_value (s ∷ ss) w vars = out_of_order (value s w vars)
