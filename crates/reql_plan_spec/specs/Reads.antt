-- Which tables a request reads before it is evaluated, which functions may name none, and whether it asks for the moment.
use Rattle.std.specs.Prelude.{ℕ, ℤ, pos, List, [], ◌∷◌, ◌++◌, drop, Option, Some, None, Bool, true, false, ◌&&◌, ◌||◌, if◌then◌else◌, nat_lt, nat_eq, Ok}
use Rattle.reql_datum.specs.Answer.{Answer, ◌>>=◌}
use Rattle.reql_datum.specs.Plain.{Plain, array, object, time}
use Rattle.reql_term.specs.Form.{Form, literal, several, keyed, variable, implicit, function, slot, operation, Forms, no_forms, form, NamedForms, no_named, named}
use Rattle.reql_term.specs.declared.op.Op.{Op}
use Rattle.reql_term.specs.declared.op.Op.TheVariants as op
use Rattle.reql_rewrite.specs.Rewrite.{Saying, rewritten}
use Rattle.reql_faults.specs.Faults.{is_bound, is_one}
use Rattle.reql_faults.specs.Shapes.{shape}
use Rattle.reql_faults.specs.declared.shape.Shape.{Shape}
use Rattle.reql_faults.specs.declared.shape.Shape.TheVariants as shapes
use Rattle.reql_write_spec.specs.Selecting.{is_chain, slots, slots_named}

-- ---- the snapshots

-- the target of a command is not read: the table of rows that a write selects, that of another command, and that of a feed
-- without a limit. It is the first table in the command's first argument.
abbrev pub is_slot : Form → Bool
is_slot (slot n) = true
is_slot f = false

abbrev pub args_of : Form → Forms
args_of (operation o fs ms) = fs
args_of f = no_forms

abbrev pub options_of : Form → NamedForms
options_of (operation o fs ms) = ms
options_of f = no_named

abbrev pub but_first : Bool → List ℕ → List ℕ
but_first true ns = drop 1 ns
but_first false ns = ns

abbrev pub arms_read : Forms → List ℕ
arms_read no_forms = []
arms_read (form f fs) = drop 1 (slots f) ++ arms_read fs

abbrev pub feed_reads : Option Shape → Form → List ℕ
feed_reads (Some shapes.Limit) f = slots f
feed_reads (Some shapes.United) f = arms_read (args_of f) ++ slots_named (options_of f)
feed_reads s f = drop 1 (slots f)

-- what the first argument of a term reads, by all the tables in it
abbrev pub first_reads : Op → Form → List ℕ → List ℕ
first_reads op.Update f ns = but_first (is_chain f) ns
first_reads op.Replace f ns = but_first (is_chain f) ns
first_reads op.Delete f ns = but_first (is_chain f) ns
first_reads op.Insert f ns = but_first (is_slot f) ns
first_reads op.IndexCreate f ns = but_first (is_slot f) ns
first_reads op.IndexDrop f ns = but_first (is_slot f) ns
first_reads op.IndexRename f ns = but_first (is_slot f) ns
first_reads op.Sync f ns = but_first (is_slot f) ns
first_reads op.Changes f ns = feed_reads (shape f) f
first_reads o f ns = ns

-- the slots that a term reads, in preorder
abbrev mutual
  pub reads : Form → List ℕ
  reads (slot n) = n ∷ []
  reads (several fs) = all_reads fs
  reads (keyed ms) = named_reads ms
  reads (function ids f) = reads f
  reads (operation o fs ms) = args_reads o fs ++ named_reads ms
  reads f = []

  pub args_reads : Op → Forms → List ℕ
  args_reads o no_forms = []
  args_reads o (form f fs) = first_reads o f (reads f) ++ all_reads fs

  pub all_reads : Forms → List ℕ
  all_reads no_forms = []
  all_reads (form f fs) = reads f ++ all_reads fs

  pub named_reads : NamedForms → List ℕ
  named_reads no_named = []
  named_reads (named k f ms) = reads f ++ named_reads ms

-- rising, each once: a slot is looked at once, whatever the order in which a request names it
abbrev pub with_slot : ℕ → List ℕ → List ℕ
with_slot n [] = n ∷ []
with_slot n (k ∷ ks) = if nat_lt n k then n ∷ k ∷ ks else (if nat_eq n k then k ∷ ks else k ∷ with_slot n ks)

abbrev pub rising : List ℕ → List ℕ
rising [] = []
rising (n ∷ ns) = with_slot n (rising ns)

abbrev pub read_slots : Form → List ℕ
read_slots f = rising (reads f)

-- ---- functions that may name no table: those inside a write, an index or a feed
abbrev pub is_any : List ℕ → Bool
is_any [] = false
is_any (n ∷ ns) = true

abbrev pub is_closed : Op → Bool
is_closed op.Insert = true
is_closed op.Update = true
is_closed op.Replace = true
is_closed op.Delete = true
is_closed op.IndexCreate = true
is_closed op.Changes = true
is_closed o = false

abbrev mutual
  pub leaks : Bool → Form → Bool
  leaks closed (several fs) = all_leak closed fs
  leaks closed (keyed ms) = named_leak closed ms
  leaks closed (function ids f) = (closed && is_any (slots f)) || leaks closed f
  leaks closed (operation o fs ms) = all_leak (closed || is_closed o) fs || named_leak (closed || is_closed o) ms
  leaks closed f = false

  pub all_leak : Bool → Forms → Bool
  all_leak closed no_forms = false
  all_leak closed (form f fs) = leaks closed f || all_leak closed fs

  pub named_leak : Bool → NamedForms → Bool
  named_leak closed no_named = false
  named_leak closed (named k f ms) = leaks closed f || named_leak closed ms

-- ---- NOW, which is one moment for the whole request
abbrev pub is_now : Op → Bool
is_now op.Now = true
is_now o = false

abbrev mutual
  pub has_now : Form → Bool
  has_now (several fs) = any_now fs
  has_now (keyed ms) = named_now ms
  has_now (function ids f) = has_now f
  has_now (operation o fs ms) = is_now o || (any_now fs || named_now ms)
  has_now f = false

  pub any_now : Forms → Bool
  any_now no_forms = false
  any_now (form f fs) = has_now f || any_now fs

  pub named_now : NamedForms → Bool
  named_now no_named = false
  named_now (named k f ms) = has_now f || named_now ms

abbrev pub at_now : Bool → ℤ → Option Form
at_now true moment = Some (literal (time (moment, pos 0)))
at_now false moment = None

abbrev pub now_rule : ℤ → Saying
now_rule moment (operation o fs ms) = Ok (at_now (is_now o) moment)
now_rule moment f = Ok None

-- ---- an element of a FOR_EACH in the place of its variable, and of the parameter of the nearest function of one
abbrev pub is_compound : Plain → Bool
is_compound (array ds) = true
is_compound (object ms) = true
is_compound d = false

-- An array or an object is what a function gives that gives its parameter, as the value of a variable is: so an array is held against the
-- array limit where it is evaluated, and an object is no constant, which FILTER would take for a pattern.
abbrev pub returned : Plain → Form
returned d = operation op.Funcall (form (function (0 ∷ []) (variable 0)) (form (literal d) no_forms)) no_named

abbrev pub element_by : Bool → Plain → Form
element_by true d = returned d
element_by false d = literal d

abbrev pub element_term : Plain → Form
element_term d = element_by (is_compound d) d

abbrev pub unless_bound : Bool → Form → Option Form
unless_bound true f = Some f
unless_bound false f = None

abbrev pub variable_rule : ℕ → Plain → Saying
variable_rule id d (variable n) = Ok (unless_bound (nat_eq n id) (element_term d))
variable_rule id d (function ids f) = Ok (unless_bound (is_bound id ids) (function ids f))
variable_rule id d f = Ok None

abbrev pub parameter_rule : Plain → Saying
parameter_rule d implicit = Ok (Some (element_term d))
parameter_rule d (function ids f) = Ok (unless_bound (is_one ids) (function ids f))
parameter_rule d f = Ok None

abbrev pub with_element : ℕ → Plain → Form → Answer Form
with_element id d f = rewritten (variable_rule id d) f >>= λ g. rewritten (parameter_rule d) g
