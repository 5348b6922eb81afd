-- What terms are evaluated in: tables as they are read, the limit of arrays, and the bound variables.
use Rattle.std.specs.Prelude.{ℕ, nat_eq, length, List, [], ◌∷◌, map, if◌then◌else◌, Option, Some, None, Ok, Err}
use Rattle.std.specs.List.{zip}
use Rattle.reql_datum.specs.Answer.{Answer}
use Rattle.reql_datum.specs.Plain.{Plain}
use Rattle.reql_term.specs.Views.{Document, Entry, Index, entries_of}
use Rattle.reql_rules.specs.Faults.{misplaced, wrong_count, no_index}
use Rattle.reql_rules.specs.Types.{same_text}
use Rattle.reql_rules.specs.Lists.{Bytes}

-- a table as it is read, with the names that it goes by
pub record View : Type 0 where
  pub db : Bytes
  pub db_number : ℕ
  pub name : Bytes
  pub key : Bytes
  pub documents : List Document
  pub indexes : List (Bytes × Index)
  pub entries : Bytes → List Entry

pub record World : Type 0 where
  pub tables : List (ℕ × View)
  pub databases : List (Bytes × ℕ)
  pub array_limit : ℕ

-- a command carries no globals, and its functions read no table
abbrev pub bare_world : World
bare_world = record { tables = []; databases = []; array_limit = 100000 }

abbrev pub view_in : ℕ → List (ℕ × View) → Answer View
view_in n [] = Err misplaced
view_in n (t ∷ ts) = if nat_eq n t.0 then Ok t.1 else view_in n ts

abbrev pub view_at : World → ℕ → Answer View
view_at w n = view_in n w.tables

abbrev pub documents_of : View → List Plain
documents_of v = map (λ m. m.1) v.documents

-- the key field names the primary order
abbrev pub index_name : View → Bytes → Option Bytes
index_name v name = if same_text name v.key then None else Some name

abbrev pub there : Bytes → Option (List Entry) → Answer (List Entry)
there name None = Err (no_index name)
there name (Some es) = Ok es

abbrev pub entries_named : View → Bytes → Answer (List Entry)
entries_named v name = there name (entries_of v.documents v.indexes v.entries (index_name v name))

-- the bound variables, a frame for each function around, the innermost first
abbrev pub Frame : Type 0
Frame = List (ℕ × Plain)

abbrev pub Vars : Type 0
Vars = List Frame

abbrev pub in_frame : ℕ → Frame → Option Plain
in_frame id [] = None
in_frame id (v ∷ vs) = if nat_eq id v.0 then Some v.1 else in_frame id vs

abbrev pub or_further : Option Plain → Answer Plain → Answer Plain
or_further None further = further
or_further (Some d) further = Ok d

abbrev pub variable_at : ℕ → Vars → Answer Plain
variable_at id [] = Err misplaced
variable_at id (f ∷ fs) = or_further (in_frame id f) (variable_at id fs)

-- the value of a frame of one variable
abbrev pub alone : ℕ × Plain → Frame → Option Plain
alone v [] = Some v.1
alone v (u ∷ vs) = None

abbrev pub only : Frame → Option Plain
only [] = None
only (v ∷ vs) = alone v vs

-- the parameter of the nearest function of one
abbrev pub implicit_at : Vars → Answer Plain
implicit_at [] = Err misplaced
implicit_at (f ∷ fs) = or_further (only f) (implicit_at fs)

-- the parameters bound to as many values
abbrev pub bind : List ℕ → List Plain → Vars → Answer Vars
bind ids ds vars = if nat_eq (length ids) (length ds) then Ok (zip ids ds ∷ vars) else Err (wrong_count (length ids) (length ds))
