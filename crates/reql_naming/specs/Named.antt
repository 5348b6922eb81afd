-- The names of databases and tables in the term of a request, as the catalogue has them at one look: each table becomes its slot, and what
-- is about names alone a list of literals.
use Rattle.std.specs.Prelude.{ℕ, List, [], map, Option, Some, None, Bool, true, false, Ok, Err, is_some}
use Rattle.std.specs.Map.{keys_of}
use Rattle.reql_datum.specs.Answer.{Answer, ◌>>=◌}
use Rattle.reql_datum.specs.Members.{find}
use Rattle.reql_datum.specs.Plain.{Plain, text}
use Rattle.reql_term.specs.Form.{Form, literal, several, keyed, slot, operation, Forms, no_forms, form, forms_of, NamedForms}
use Rattle.reql_term.specs.Table.{naming_of}
use Rattle.reql_term.specs.declared.op.Op.{Op}
use Rattle.reql_term.specs.declared.role.Naming.{Naming}
use Rattle.reql_term.specs.declared.role.Naming.TheVariants as naming
use Rattle.reql_rewrite.specs.Rewrite.{Saying, rewritten}
use Rattle.reql_faults.specs.Places.{text_in}
use Rattle.reql_catalog.specs.Catalog.{Named, is_name, slot_of, tables_of}
use Rattle.reql_naming.specs.Texts.{bad_name, no_db, no_table}

-- the names that stand in arguments; planning found that they are literal texts
abbrev pub text_or_empty : Option (List ℕ) → List ℕ
text_or_empty None = []
text_or_empty (Some s) = s

abbrev pub first_name : Forms → List ℕ
first_name no_forms = []
first_name (form f fs) = text_or_empty (text_in f)

abbrev pub name_of_db : Form → List ℕ
name_of_db (operation o fs ms) = first_name fs
name_of_db f = []

-- the database and the table, where a database may be left out
abbrev pub pair_of : List ℕ → Forms → List ℕ × List ℕ
pair_of db no_forms = (db, [])
pair_of db (form f no_forms) = (db, text_or_empty (text_in f))
pair_of db (form f (form g gs)) = (name_of_db f, text_or_empty (text_in g))

abbrev pub db_of : List ℕ → Forms → List ℕ
db_of db no_forms = db
db_of db (form f fs) = name_of_db f

-- a name keeps the rule of names, and is there
abbrev pub found : {A : Type 0} → Bool → Answer A → Answer A
found false answer = Err bad_name
found true answer = answer

abbrev pub there_or : List ℕ → Bool → Answer (Unit {0})
there_or db false = Err (no_db db)
there_or db true = Ok tt

abbrev pub checked_db : Named → List ℕ → Answer (Unit {0})
checked_db ns db = found (is_name db) (there_or db (is_some (find db ns.dbs)))

abbrev pub slot_or : List ℕ × List ℕ → Option ℕ → Answer (Option Form)
slot_or p None = Err (no_table p.0 p.1)
slot_or p (Some n) = Ok (Some (slot n))

-- a table's database before its own name
abbrev pub checked_table : Named → List ℕ × List ℕ → Answer (Option Form)
checked_table ns p = checked_db ns p.0 >>= λ _. found (is_name p.1) (slot_or p (slot_of p.0 p.1 ns))

-- The names as a term that gives their array, so that it is held to the size that arrays may have.
abbrev pub listed : List (List ℕ) → Answer (Option Form)
listed names = Ok (Some (several (forms_of (map literal (map text names)))))

abbrev pub tables_listed : Named → List ℕ → Answer (Option Form)
tables_listed ns db = checked_db ns db >>= λ _. listed (tables_of db ns)

-- what becomes of a term by what it names
abbrev pub by_naming : Named → List ℕ → Naming → Forms → Answer (Option Form)
by_naming ns db naming.Database fs = checked_db ns (first_name fs) >>= λ _. Ok None
by_naming ns db naming.Table fs = checked_table ns (pair_of db fs)
by_naming ns db naming.Databases fs = listed (keys_of ns.dbs)
by_naming ns db naming.Tables fs = tables_listed ns (db_of db fs)
by_naming ns db n fs = Ok None

abbrev pub value_rule : Named → List ℕ → Saying
value_rule ns db (operation o fs ms) = by_naming ns db (naming_of o) fs
value_rule ns db f = Ok None

-- a command on names leaves them as they are, since its reply tells of them; its options are looked at
abbrev pub is_command : Naming → Bool
is_command naming.CommandDatabase = true
is_command naming.CommandTable = true
is_command n = false

abbrev pub with_options : Op → Forms → Form → Form
with_options o fs (keyed ms) = operation o fs ms
with_options o fs f = f

abbrev pub command_answer : Named → List ℕ → Op → Forms → NamedForms → Answer (Option Form)
command_answer ns db o fs ms = rewritten (value_rule ns db) (keyed ms) >>= λ f. Ok (Some (with_options o fs f))

abbrev pub either : Bool → Answer (Option Form) → Answer (Option Form) → Answer (Option Form)
either true command value = command
either false command value = value

unfoldable pub op_rule : Named → List ℕ → Op → Forms → NamedForms → Answer (Option Form)
op_rule ns db o fs ms = either (is_command (naming_of o)) (command_answer ns db o fs ms) (by_naming ns db (naming_of o) fs)

abbrev pub names_rule : Named → List ℕ → Saying
names_rule ns db (operation o fs ms) = op_rule ns db o fs ms
names_rule ns db f = Ok None

-- the term with its tables as slots, or the fault of the first name in preorder
abbrev pub resolved : Named → List ℕ → Form → Answer Form
resolved ns db f = rewritten (names_rule ns db) f
