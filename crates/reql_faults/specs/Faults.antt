-- The faults of planning: all of them, in preorder, each with its rule.
use Rattle.std.specs.Prelude.{ℕ, ◌+◌, ◌%◌, List, [], ◌∷◌, ◌++◌, Option, Some, None, Bool, true, false, ◌&&◌, ◌||◌, nat_eq, is_some, codes}
use Rattle.reql_term.specs.Form.{Form, literal, several, keyed, variable, implicit, function, slot, operation, Forms, no_forms, form, NamedForms, no_named, named}
use Rattle.reql_term.specs.Table.{task_of, naming_of}
use Rattle.reql_term.specs.declared.op.Op.{Op}
use Rattle.reql_term.specs.declared.role.Naming.{Naming}
use Rattle.reql_term.specs.declared.role.Naming.TheVariants as naming
use Rattle.reql_term.specs.declared.role.Task.{Task}
use Rattle.reql_term.specs.declared.role.Task.TheVariants as task
use Rattle.reql_faults.specs.declared.fault.CompileFault.{CompileFault}
use Rattle.reql_faults.specs.declared.fault.CompileFault.TheVariants as fault
use Rattle.reql_faults.specs.declared.standing.Place.{Place}
use Rattle.reql_faults.specs.declared.standing.Place.TheVariants as place
use Rattle.reql_faults.specs.declared.shape.Shape.{Shape}
use Rattle.reql_faults.specs.declared.shape.Shape.TheVariants as shapes
use Rattle.reql_faults.specs.Places.{text_at, is_true_at, first, second, third, count, option}
use Rattle.reql_faults.specs.Shapes.{shape_at}

abbrev pub unless : Bool → CompileFault → List CompileFault
unless true e = []
unless false e = e ∷ []

-- Where a command may stand: at the root and in the arms of a BRANCH there; a write also as the body of the function of a FOR_EACH there,
-- alone or in an array.
abbrev pub is_outside : Place → Bool
is_outside place.Root = true
is_outside place.Arm = true
is_outside p = false

abbrev pub takes_writes : Place → Bool
takes_writes place.Body = true
takes_writes place.Member = true
takes_writes p = is_outside p

abbrev pub may_stand : Place → Task → Bool
may_stand p task.Write = takes_writes p
may_stand p task.ForEach = is_outside p
may_stand p task.Catalogue = is_outside p
may_stand p task.Index = is_outside p
may_stand p task.Sync = is_outside p
may_stand p t = true

-- FOR_EACH takes a function of one parameter whose body is a write or an array of writes.
abbrev pub is_write_task : Task → Bool
is_write_task task.Write = true
is_write_task t = false

abbrev pub is_write : Form → Bool
is_write (operation o fs ms) = is_write_task (task_of o)
is_write f = false

abbrev pub are_writes : Forms → Bool
are_writes no_forms = true
are_writes (form f fs) = is_write f && are_writes fs

abbrev pub is_body : Form → Bool
is_body (several fs) = are_writes fs
is_body f = is_write f

abbrev pub is_one : List ℕ → Bool
is_one [] = false
is_one (k ∷ []) = true
is_one (k ∷ l ∷ ls) = false

abbrev pub is_each : Form → Bool
is_each (function ids f) = is_one ids && is_body f
is_each f = false

abbrev pub is_each_at : Option Form → Bool
is_each_at None = false
is_each_at (Some f) = is_each f

abbrev pub fits_task : Task → Forms → Bool
fits_task task.ForEach fs = is_each_at (second fs)
fits_task t fs = true

-- Names are literal texts, and what names the database of a table is a DB term.
abbrev pub is_text_at : Option Form → Bool
is_text_at f = is_some (text_at f)

abbrev pub is_database_name : Naming → Bool
is_database_name naming.Database = true
is_database_name n = false

abbrev pub is_db : Form → Bool
is_db (operation o fs ms) = is_database_name (naming_of o)
is_db f = false

abbrev pub is_table_name : Forms → Bool
is_table_name no_forms = false
is_table_name (form f no_forms) = is_text_at (Some f)
is_table_name (form f (form g gs)) = is_db f && is_text_at (Some g)

abbrev pub is_db_or_none : Forms → Bool
is_db_or_none no_forms = true
is_db_or_none (form f fs) = is_db f

abbrev pub is_text_or_none : Option Form → Bool
is_text_or_none None = true
is_text_or_none (Some f) = is_text_at (Some f)

abbrev pub is_named : Naming → Forms → NamedForms → Bool
is_named naming.Nothing fs ms = true
is_named naming.Database fs ms = is_text_at (first fs)
is_named naming.Table fs ms = is_table_name fs
is_named naming.Databases fs ms = true
is_named naming.Tables fs ms = is_db_or_none fs
is_named naming.CommandDatabase fs ms = is_text_at (first fs)
is_named naming.CommandTable fs ms = is_table_name fs && is_text_or_none (option (codes "primary_key") ms)
is_named naming.Index fs ms = is_text_at (second fs)
is_named naming.TwoIndexes fs ms = is_text_at (second fs) && is_text_at (third fs)

-- CHANGES stands at the root, over what a feed may follow; offsets are of limit feeds alone.
abbrev pub offsets_fault : Shape → Bool → List CompileFault
offsets_fault shapes.Limit offsets = []
offsets_fault s true = fault.OffsetsNeedLimit ∷ []
offsets_fault s false = []

abbrev pub feed_faults : Option Shape → Bool → List CompileFault
feed_faults None offsets = fault.FeedShape ∷ []
feed_faults (Some s) offsets = offsets_fault s offsets

abbrev pub changes_faults : Place → Forms → NamedForms → List CompileFault
changes_faults place.Root fs ms = feed_faults (shape_at (first fs)) (is_true_at (option (codes "include_offsets") ms))
changes_faults p fs ms = fault.FeedShape ∷ []

abbrev pub task_faults : Place → Task → Forms → NamedForms → List CompileFault
task_faults p task.Feed fs ms = changes_faults p fs ms
task_faults p t fs ms = []

-- the faults of a term itself
unfoldable pub own : Place → Op → Forms → NamedForms → List CompileFault
own p o fs ms = unless (may_stand p (task_of o)) fault.WriteNested ++ (unless (fits_task (task_of o) fs) fault.WriteNested ++
    (unless (is_named (naming_of o) fs ms) fault.TableNotLiteral ++ task_faults p (task_of o) fs ms))

-- The places of the parts: the arms of a BRANCH at the root are at the odd places and at the last of n; a function's body and the
-- members of an array.
abbrev pub is_arm : ℕ → ℕ → Bool
is_arm i n = nat_eq (i % 2) 1 || nat_eq (i + 1) n

abbrev pub place_if : Place → Bool → Place
place_if p true = p
place_if p false = place.Inside

abbrev pub arm_at : Place → ℕ → ℕ → Place
arm_at place.Root i n = place_if place.Arm (is_arm i n)
arm_at p i n = place.Inside

abbrev pub place_at : Place → Task → ℕ → ℕ → Place
place_at p task.Branch i n = arm_at p i n
place_at p task.ForEach i n = place_if place.Each (is_outside p && nat_eq i 1)
place_at p t i n = place.Inside

abbrev pub body_of : Place → Place
body_of place.Each = place.Body
body_of p = place.Inside

abbrev pub member_of : Place → Place
member_of place.Body = place.Member
member_of p = place.Inside

-- what stands around a term: its place, the variables in scope, and whether a function of one parameter is among those around
pub record Around : Type 0 where
  pub place : Place
  pub ids : List ℕ
  pub row : Bool

abbrev pub around_root : Around
around_root = record { place = place.Root; ids = []; row = false }

abbrev pub at : Place → Around → Around
at p a = record { place = p; ids = a.ids; row = a.row }

abbrev pub around_body : Around → List ℕ → Around
around_body a ids = record { place = body_of a.place; ids = a.ids ++ ids; row = is_one ids || a.row }

abbrev pub is_bound : ℕ → List ℕ → Bool
is_bound n [] = false
is_bound n (k ∷ ks) = nat_eq k n || is_bound n ks

-- all faults of a term: its own, those of its arguments in order, and those of its optional arguments by name
abbrev mutual
  pub faults : Around → Form → List CompileFault
  faults a (literal d) = []
  faults a (several fs) = member_faults (at (member_of a.place) a) fs
  faults a (keyed ms) = named_faults (at place.Inside a) ms
  faults a (variable n) = unless (is_bound n a.ids) (fault.Unbound n)
  faults a implicit = unless a.row (fault.Unbound 0)
  faults a (function ids f) = faults (around_body a ids) f
  faults a (slot n) = []
  faults a (operation o fs ms) = own a.place o fs ms ++ (part_faults a (task_of o) (count fs) 0 fs ++ named_faults (at place.Inside a) ms)

  pub member_faults : Around → Forms → List CompileFault
  member_faults a no_forms = []
  member_faults a (form f fs) = faults a f ++ member_faults a fs

  pub part_faults : Around → Task → ℕ → ℕ → Forms → List CompileFault
  part_faults a t n i no_forms = []
  part_faults a t n i (form f fs) = faults (at (place_at a.place t i n) a) f ++ part_faults a t n (i + 1) fs

  pub named_faults : Around → NamedForms → List CompileFault
  named_faults a no_named = []
  named_faults a (named k f ms) = faults a f ++ named_faults a ms

-- a request's term has a plan where it has no fault; else the first one is told
abbrev pub first_fault : List CompileFault → Option CompileFault
first_fault [] = None
first_fault (e ∷ es) = Some e

abbrev pub plan_fault : Form → Option CompileFault
plan_fault f = first_fault (faults around_root f)
