-- Worked rows of planning's faults.
use Prim.Native.String.{String}
use Rattle.std.specs.Prelude.{◌≡◌, ℕ, List, [], ◌∷◌, map, true, false, Some, None, Option, pos, codes}
use Rattle.reql_datum.specs.Plain.{boolean, number, text}
use Rattle.reql_term.specs.Form.{Form, literal, several, keyed, variable, implicit, function, slot, operation, forms_of, named_of, no_named}
use Rattle.reql_term.specs.declared.op.Op.{Op}
use Rattle.reql_term.specs.declared.op.Op.TheVariants as op
use Rattle.reql_faults.specs.Faults.{plan_fault}
use Rattle.reql_faults.specs.Shapes.{shape}
use Rattle.reql_faults.specs.declared.fault.CompileFault.{CompileFault}
use Rattle.reql_faults.specs.declared.fault.CompileFault.TheVariants as fault
use Rattle.reql_faults.specs.declared.shape.Shape.{Shape}
use Rattle.reql_faults.specs.declared.shape.Shape.TheVariants as shapes

abbrev name : String → Form
name s = literal (text (codes s))

abbrev num : ℕ → Form
num n = literal (number (pos n))

abbrev call : Op → List Form → Form
call o fs = operation o (forms_of fs) no_named

abbrev with : Op → List Form → List (List ℕ × Form) → Form
with o fs ms = operation o (forms_of fs) (named_of ms)

abbrev array : List Form → Form
array fs = several (forms_of fs)

abbrev docs : Form
docs = call op.Table (name "docs" ∷ [])

abbrev computed : Form
computed = call op.Add (name "a" ∷ name "b" ∷ [])

abbrev insert : Form
insert = call op.Insert (docs ∷ keyed (named_of []) ∷ [])

abbrev delete : Form
delete = call op.Delete (docs ∷ [])

abbrev sync : Form
sync = call op.Sync (docs ∷ [])

abbrev each : Form → Form
each f = call op.ForEach (array [] ∷ function (7 ∷ []) f ∷ [])

abbrev branch : Form → Form
branch f = call op.Branch (literal (boolean true) ∷ f ∷ num 1 ∷ [])

abbrev by_n : List (List ℕ × Form)
by_n = (codes "index", name "n") ∷ []

abbrev down_n : List (List ℕ × Form)
down_n = (codes "index", call op.Desc (name "n" ∷ [])) ∷ []

abbrev ordered : Form → List (List ℕ × Form) → Form
ordered f ms = call op.Limit (with op.OrderBy (f ∷ []) ms ∷ num 2 ∷ [])

abbrev between : List (List ℕ × Form) → Form
between ms = with op.Between (docs ∷ num 0 ∷ num 9 ∷ []) ms

abbrev filtered : Form → Form
filtered f = call op.Filter (f ∷ keyed (named_of []) ∷ [])

abbrev changes : Form → Form
changes f = call op.Changes (f ∷ [])

abbrev with_offsets : Form → Form
with_offsets f = with op.Changes (f ∷ []) ((codes "include_offsets", literal (boolean true)) ∷ [])

abbrev first_faults : List Form → List (Option CompileFault)
first_faults fs = map plan_fault fs

-- variables: the ids in scope are those of every function around, and IMPLICIT_VAR needs one of a single parameter
abbrev pub Variables : Type 0
Variables = first_faults (
    variable 3 ∷
    function (3 ∷ []) (variable 3) ∷
    function (1 ∷ 2 ∷ []) (array (variable 2 ∷ variable 4 ∷ variable 5 ∷ [])) ∷
    function (1 ∷ []) (function (2 ∷ []) (call op.Add (variable 1 ∷ variable 2 ∷ []))) ∷
    array (function (1 ∷ []) (variable 1) ∷ variable 1 ∷ []) ∷
    implicit ∷
    function (1 ∷ 2 ∷ []) implicit ∷
    function (1 ∷ []) (function (2 ∷ 3 ∷ []) implicit) ∷
    call op.Branch (literal (boolean false) ∷ variable 9 ∷ num 1 ∷ []) ∷
    with op.Filter (docs ∷ variable 1 ∷ []) ((codes "default", variable 2) ∷ []) ∷ [])
    ≡ Some (fault.Unbound 3) ∷ None ∷ Some (fault.Unbound 4) ∷ None ∷ Some (fault.Unbound 1) ∷ Some (fault.Unbound 0) ∷ Some (fault.Unbound 0) ∷ None ∷
    Some (fault.Unbound 9) ∷ Some (fault.Unbound 1) ∷ []

-- writes and commands
abbrev pub Writes : Type 0
Writes = first_faults (
    insert ∷
    call op.Add (num 1 ∷ delete ∷ []) ∷
    branch insert ∷
    branch (branch insert) ∷
    call op.Branch (delete ∷ num 1 ∷ num 2 ∷ []) ∷
    call op.Branch (literal (boolean true) ∷ num 1 ∷ sync ∷ []) ∷
    each insert ∷
    each (array (insert ∷ delete ∷ [])) ∷
    each (array []) ∷
    branch (each insert) ∷
    each (num 1) ∷
    each sync ∷
    each (array (insert ∷ num 1 ∷ [])) ∷
    call op.ForEach (array [] ∷ function (1 ∷ 2 ∷ []) insert ∷ []) ∷
    call op.ForEach (delete ∷ function (1 ∷ []) insert ∷ []) ∷
    call op.Insert (docs ∷ insert ∷ []) ∷
    array (sync ∷ variable 1 ∷ []) ∷ [])
    ≡ None ∷ Some fault.WriteNested ∷ None ∷ Some fault.WriteNested ∷ Some fault.WriteNested ∷ None ∷ None ∷ None ∷ None ∷ None ∷
    Some fault.WriteNested ∷ Some fault.WriteNested ∷ Some fault.WriteNested ∷ Some fault.WriteNested ∷ Some fault.WriteNested ∷
    Some fault.WriteNested ∷ Some fault.WriteNested ∷ []

-- names
abbrev pub Names : Type 0
Names = first_faults (
    docs ∷
    call op.Table (call op.Db (name "test" ∷ []) ∷ name "docs" ∷ []) ∷
    call op.Table (computed ∷ []) ∷
    call op.Table (name "test" ∷ name "docs" ∷ []) ∷
    call op.Db (variable 1 ∷ []) ∷
    call op.TableList [] ∷
    call op.TableList (name "test" ∷ []) ∷
    with op.TableCreate (name "docs" ∷ []) ((codes "primary_key", computed) ∷ []) ∷
    with op.TableCreate (name "docs" ∷ []) ((codes "primary_key", name "k") ∷ []) ∷
    call op.IndexCreate (docs ∷ name "n" ∷ []) ∷
    call op.IndexRename (docs ∷ name "n" ∷ num 3 ∷ []) ∷
    call op.IndexStatus (docs ∷ computed ∷ []) ∷ [])
    ≡ None ∷ None ∷ Some fault.TableNotLiteral ∷ Some fault.TableNotLiteral ∷ Some fault.TableNotLiteral ∷ None ∷ Some fault.TableNotLiteral ∷
    Some fault.TableNotLiteral ∷ None ∷ None ∷ Some fault.TableNotLiteral ∷ None ∷ []

-- feeds
abbrev pub Feeds : Type 0
Feeds = first_faults (
    changes docs ∷
    changes (num 1) ∷
    branch (changes docs) ∷
    array (changes docs ∷ []) ∷
    changes (call op.Table (computed ∷ [])) ∷
    changes (filtered (call op.Table (computed ∷ []))) ∷
    with_offsets docs ∷
    with_offsets (ordered docs by_n) ∷
    with_offsets (call op.Union (docs ∷ docs ∷ [])) ∷
    changes (call op.Count (docs ∷ variable 1 ∷ [])) ∷ [])
    ≡ None ∷ Some fault.FeedShape ∷ Some fault.FeedShape ∷ Some fault.FeedShape ∷ Some fault.TableNotLiteral ∷ Some fault.TableNotLiteral ∷
    Some fault.OffsetsNeedLimit ∷ None ∷ Some fault.OffsetsNeedLimit ∷ Some fault.FeedShape ∷ []

-- what a feed may follow
abbrev pub Followed : Type 0
Followed = map shape (
    docs ∷
    slot 0 ∷
    call op.Get (docs ∷ num 1 ∷ []) ∷
    call op.Get (filtered docs ∷ num 1 ∷ []) ∷
    filtered (call op.Pluck (call op.GetAll (docs ∷ num 1 ∷ []) ∷ name "a" ∷ [])) ∷
    call op.GetAll (filtered docs ∷ num 1 ∷ []) ∷
    call op.Skip (docs ∷ num 1 ∷ []) ∷
    call op.Limit (docs ∷ num 1 ∷ []) ∷
    ordered docs [] ∷
    ordered docs by_n ∷
    ordered docs down_n ∷
    ordered (between by_n) down_n ∷
    ordered (between []) by_n ∷
    ordered (between ((codes "index", name "m") ∷ [])) by_n ∷
    ordered (between ((codes "index", computed) ∷ [])) by_n ∷
    ordered (filtered docs) by_n ∷
    call op.Limit (with op.OrderBy (docs ∷ name "k" ∷ []) by_n ∷ num 2 ∷ []) ∷
    call op.Union (docs ∷ []) ∷
    call op.Union (docs ∷ filtered docs ∷ between by_n ∷ []) ∷
    call op.Union (docs ∷ ordered docs by_n ∷ []) ∷ [])
    ≡ Some shapes.Range ∷ Some shapes.Range ∷ Some shapes.Point ∷ None ∷ Some shapes.Range ∷ None ∷ None ∷ None ∷ None ∷ Some shapes.Limit ∷
    Some shapes.Limit ∷ Some shapes.Limit ∷ Some shapes.Limit ∷ None ∷ Some shapes.Limit ∷ None ∷ None ∷ None ∷ Some shapes.United ∷ None ∷ []
