-- What tells a term that denotes a function, a key with its direction or an ERROR from the rest.
use Rattle.std.specs.Prelude.{List, Bool, Option, Some, None}
use Rattle.std.specs.List.{list_all}
use Rattle.reql_datum.specs.Answer.{Answer}
use Rattle.reql_datum.specs.Plain.{Plain}
use Rattle.reql_term.specs.Table.{takes}
use Rattle.reql_term.specs.declared.op.Op.{Op}
use Rattle.reql_term.specs.declared.role.Way.{Way}
use Rattle.reql_rules.specs.Lists.{Bytes}
use Rattle.reql_value_spec.specs.Meaning.{sense_by}
use Rattle.reql_value_spec.specs.Meant.{Meant}
use Rattle.reql_value_spec.specs.Sense.{Sense, plain, func, sorter, raiser, value}
use Rattle.reql_value_spec.specs.Table.{rule_of}
use Rattle.reql_value_spec.specs.World.{World, Vars}

-- what a function gives
abbrev pub Body : Type 0
Body = World → Vars → List Plain → Answer Meant

abbrev pub body_of : Sense → Option Body
body_of (func shaped f) = Some f
body_of s = None

-- of a function, whether its body is an object
abbrev pub shape_of : Sense → Option Bool
shape_of (func shaped f) = Some shaped
shape_of s = None

-- whether it is down, and its key
abbrev pub direction_of : Sense → Option (Bool × Sense)
direction_of (sorter down s) = Some (down, s)
direction_of s = None

-- the function that a term is, under any directions
abbrev pub callee_of : Sense → Option Body
callee_of (func shaped f) = Some f
callee_of (sorter down s) = callee_of s
callee_of s = None

-- whether an ERROR has a text
abbrev pub raising_of : Sense → Option Bool
raising_of (raiser texted f) = Some texted
raising_of s = None

-- a function called with these values, else the value
abbrev pub given_to : Sense → World → Vars → List Plain → Answer Meant
given_to (func shaped f) w vars ds = f w vars ds
given_to s w vars ds = value s w vars

-- what an operator denotes whose counts are right
abbrev pub sense_in : Way → Op → List Sense → List (Bytes × Sense) → Sense
sense_in way op ss os = sense_by way (rule_of op) ss os

abbrev pub all_taken : Op → List (Bytes × Sense) → Bool
all_taken op os = list_all (λ o. takes op o.0) os
