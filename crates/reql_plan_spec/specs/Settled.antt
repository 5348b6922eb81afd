-- Arguments that are evaluated on the snapshots before a command: what is no function gives its datum in its place.
use Rattle.std.specs.Prelude.{ℕ, List, [], ◌∷◌, Option, Some, None, Bool, true, false, option_and_then, Ok, Err, codes}
use Rattle.reql_datum.specs.Answer.{Answer, ◌>>=◌}
use Rattle.reql_datum.specs.Plain.{Plain, boolean}
use Rattle.reql_term.specs.Form.{Form, literal, function, slot, operation, Forms, no_forms, form, NamedForms, no_named, named, forms_of, named_of}
use Rattle.reql_term.specs.Table.{way_of}
use Rattle.reql_term.specs.declared.op.Op.{Op}
use Rattle.reql_term.specs.declared.role.Way.{Way}
use Rattle.reql_term.specs.declared.role.Way.TheVariants as way
use Rattle.reql_rules.specs.Faults.{misplaced}
use Rattle.reql_rules.specs.Lists.{Bytes}
use Rattle.reql_value_spec.specs.Meaning.{value}
use Rattle.reql_value_spec.specs.Meant.{Meant, table, Given, given, Options}
use Rattle.reql_value_spec.specs.Wanted.{wrong, to_datum, to_sequence, accepted, seen}
use Rattle.reql_value_spec.specs.World.{World}
use Rattle.reql_datum.specs.Members.{find}

abbrev pub there : Option Form → Answer Form
there None = Err misplaced
there (Some f) = Ok f

abbrev pub meant_of : World → Form → Answer Meant
meant_of w f = value f w []

abbrev pub datum_of : World → Form → Answer Plain
datum_of w f = meant_of w f >>= to_datum

abbrev pub sequence_of : World → Form → Answer (List Plain)
sequence_of w f = meant_of w f >>= to_sequence w

abbrev pub evaluated : World → Form → Answer Form
evaluated w f = datum_of w f >>= λ d. Ok (literal d)

-- what is no value where it stands, and keeps its operator: ASC and DESC under ORDER_BY, and an ERROR as the default of FILTER
abbrev pub is_direction : Way → Bool
is_direction way.Rising = true
is_direction way.Falling = true
is_direction w = false

abbrev pub is_error : Way → Bool
is_error way.Raising = true
is_error w = false

abbrev pub keeps_argument : Way → Op → Bool
keeps_argument way.Sorting o = is_direction (way_of o)
keeps_argument w o = false

abbrev pub keeps_option : Way → Op → Bool
keeps_option way.Sorting o = is_direction (way_of o)
keeps_option way.Filtering o = is_error (way_of o)
keeps_option w o = false

abbrev pub nothing_kept : Op → Bool
nothing_kept o = false

abbrev pub kept_or : Bool → Answer Form → Answer Form → Answer Form
kept_or true kept other = kept
kept_or false kept other = other

abbrev mutual
  pub argument : (Op → Bool) → World → Form → Answer Form
  argument keeps w (function ids f) = Ok (function ids f)
  argument keeps w (operation o fs ms) = kept_or (keeps o) (arguments nothing_kept w fs >>= λ gs. Ok (operation o (forms_of gs) ms)) (evaluated w (operation o fs ms))
  argument keeps w f = evaluated w f

  pub arguments : (Op → Bool) → World → Forms → Answer (List Form)
  arguments keeps w no_forms = Ok []
  arguments keeps w (form f fs) = argument keeps w f >>= λ g. arguments keeps w fs >>= λ gs. Ok (g ∷ gs)

abbrev pub named_arguments : (Op → Bool) → World → NamedForms → Answer (List (Bytes × Form))
named_arguments keeps w no_named = Ok []
named_arguments keeps w (named k f ms) = argument keeps w f >>= λ g. named_arguments keeps w ms >>= λ ns. Ok ((k, g) ∷ ns)

-- a test of a term's arguments and optional arguments, as they are settled
abbrev pub Test : Type 0
Test = Op → List Form → List (Bytes × Form) → Answer (Unit {0})

abbrev pub no_test : Test
no_test o fs ms = Ok tt

-- terms one on another over a table, from the table on: the arguments of each, its optional ones, then its test
abbrev mutual
  pub settled : Test → World → Form → Answer Form
  settled test w (operation o fs ms) = first_settled test w (way_of o) fs >>= λ gs. named_arguments (keeps_option (way_of o)) w ms >>= λ ns. test o gs ns >>= λ _. Ok (operation o (forms_of gs) (named_of ns))
  settled test w f = Ok f

  pub first_settled : Test → World → Way → Forms → Answer (List Form)
  first_settled test w by no_forms = Ok []
  first_settled test w by (form f fs) = settled test w f >>= λ g. arguments (keeps_argument by) w fs >>= λ gs. Ok (g ∷ gs)

-- the optional arguments of a command, evaluated by rising name
abbrev pub options_given : World → NamedForms → Answer Options
options_given w no_named = Ok []
options_given w (named k f ms) = meant_of w f >>= λ m. options_given w ms >>= λ os. Ok ((k, given m) ∷ os)

abbrev pub truth_in : Plain → Option Bool
truth_in (boolean b) = Some b
truth_in d = None

abbrev pub or_false : Option Bool → Bool
or_false None = false
or_false (Some b) = b

abbrev pub truth_given : Bytes → Option Given → Answer Bool
truth_given name None = Ok false
truth_given name (Some g) = accepted name (option_and_then truth_in (seen g)) >>= λ b. Ok (or_false b)

abbrev pub truth_option : Bytes → Options → Answer Bool
truth_option name os = truth_given name (find name os)

-- the table that a command is run on: a TABLE term isn't looked at; any other is evaluated
abbrev pub target : World → Form → Answer Meant
target w (slot n) = Ok (table n)
target w f = meant_of w f

abbrev pub slot_in : Meant → Answer ℕ
slot_in (table n) = Ok n
slot_in m = Err (wrong (codes "TABLE") m)
