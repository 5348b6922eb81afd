-- The value of a term, by one rule a row of the table of operators (ql2.proto, Term; ReQL API reference).
use Rattle.std.specs.Prelude.{ℕ, List, [], ◌∷◌, length, nat_eq, Bool, true, false, not, ◌&&◌, if◌then◌else◌, Ok, Err}
use Rattle.std.specs.List.{list_all}
use Rattle.reql_datum.specs.Answer.{Answer, ◌>>=◌, no_text}
use Rattle.reql_datum.specs.Plain.{Plain, object}
use Rattle.reql_term.specs.Form.{Form, literal, several, keyed, variable, implicit, function, slot, operation, Forms, no_forms, form, NamedForms, no_named, named}
use Rattle.reql_term.specs.Table.{fits, takes, way_of}
use Rattle.reql_term.specs.declared.op.Op.{Op}
use Rattle.reql_term.specs.declared.role.Way.{Way}
use Rattle.reql_term.specs.declared.role.Way.TheVariants as way
use Rattle.reql_rules.specs.Faults.{misplaced, empty_error}
use Rattle.reql_rules.specs.Lists.{Bytes, each, object_of}
use Rattle.reql_value_spec.specs.Lazy.{chained, branch, default}
use Rattle.reql_value_spec.specs.Meant.{Meant, one, table, Given, Rule}
use Rattle.reql_value_spec.specs.Scalars.{make_array}
use Rattle.reql_value_spec.specs.Sense as senses
use Rattle.reql_value_spec.specs.Sense.{Sense, plain, func, sorter, raiser, option, options, strict, sorting, filtering, ungrouping}
use Rattle.reql_value_spec.specs.Sequenced.{array, sized}
use Rattle.reql_value_spec.specs.Table.{rule_of}
use Rattle.reql_value_spec.specs.Wanted.{as_datum}
use Rattle.reql_value_spec.specs.World.{World, Vars, variable_at, implicit_at, view_at, bind}

-- an object of what its terms give, evaluated before any is looked at
abbrev pub member_datum : Bytes × Given → Answer (Bytes × Plain)
member_datum o = as_datum o.1 >>= λ d. Ok (o.0, d)

abbrev pub make_object : List (Bytes × Sense) → World → Vars → Answer Meant
make_object os w vars = do
  gs ← options option os w vars
  ms ← each member_datum gs
  sized w.array_limit (one (object_of ms))

-- the value of a variable
abbrev pub bound : (Vars → Answer Plain) → World → Vars → Answer Meant
bound find w vars = find vars >>= λ d. sized w.array_limit (one d)

abbrev pub table_of : ℕ → World → Vars → Answer Meant
table_of n w vars = view_at w n >>= λ v. Ok (table n)

-- ASC and DESC of one key
abbrev pub ordered : Bool → List Sense → Sense
ordered down [] = plain (λ w vars. Err misplaced)
ordered down (s ∷ ss) = sorter down s

abbrev pub sense_by : Way → Rule → List Sense → List (Bytes × Sense) → Sense
sense_by way.Strict rule ss os = plain (strict rule ss os)
sense_by way.Sorting rule ss os = plain (sorting rule ss os)
sense_by way.Filtering rule ss os = plain (filtering rule ss os)
sense_by way.Whole rule ss os = plain (ungrouping rule ss os)
sense_by way.UntilTrue rule ss os = plain (chained true ss)
sense_by way.UntilFalse rule ss os = plain (chained false ss)
sense_by way.Branching rule ss os = plain (branch ss)
sense_by way.Defaulting rule ss os = plain (default ss)
sense_by way.Rising rule ss os = ordered false ss
sense_by way.Falling rule ss os = ordered true ss
sense_by way.Raising rule ss os = raiser (not (nat_eq (length ss) 0)) (strict rule ss os)

-- a count of arguments, or an option, that the row of the operator doesn't have
abbrev pub is_fit : Op → List Sense → List (Bytes × Sense) → Bool
is_fit op ss os = fits op (length ss) && list_all (λ o. takes op o.0) os

abbrev pub sense_of : Op → List Sense → List (Bytes × Sense) → Sense
sense_of op ss os = if is_fit op ss os then sense_by (way_of op) (rule_of op) ss os else plain (λ w vars. Err misplaced)

-- a body called with as many values as there are parameters
abbrev pub called : List ℕ → Sense → World → Vars → List Plain → Answer Meant
called ids body w vars ds = do
  inner ← bind ids ds vars
  senses.value body w inner

-- an object of terms, or a constant one, as the body of a function
abbrev pub makes_object : Form → Bool
makes_object (literal (object ms)) = true
makes_object (keyed ms) = true
makes_object f = false

-- what a term denotes
abbrev mutual
  pub sense : Form → Sense
  sense (literal d) = plain (λ w vars. Ok (one d))
  sense (several fs) = plain (strict (array make_array) (form_senses fs) [])
  sense (keyed ms) = plain (make_object (named_senses ms))
  sense (variable id) = plain (bound (variable_at id))
  sense implicit = plain (bound implicit_at)
  sense (function ids body) = func (makes_object body) (called ids (sense body))
  sense (slot n) = plain (table_of n)
  sense (operation op fs ms) = sense_of op (form_senses fs) (named_senses ms)

  pub form_senses : Forms → List Sense
  form_senses no_forms = []
  form_senses (form f fs) = sense f ∷ form_senses fs

  pub named_senses : NamedForms → List (Bytes × Sense)
  named_senses no_named = []
  named_senses (named k f ms) = (k, sense f) ∷ named_senses ms

-- an ERROR without text that no DEFAULT around it took
abbrev pub settled : Answer Meant → Answer Meant
settled (Err no_text) = Err empty_error
settled a = a

-- the result of a term, or the first fault
abbrev pub value : Form → World → Vars → Answer Meant
value f w vars = settled (senses.value (sense f) w vars)

-- what a term gives as a function of these values, outside of any request; a term that is no function is constant
abbrev pub applied : Sense → World → List Plain → Answer Meant
applied (func shaped f) w ds = f w [] ds
applied s w ds = senses.value s w []

abbrev pub function_value : Form → World → List Plain → Answer Meant
function_value f w ds = settled (applied (sense f) w ds)
