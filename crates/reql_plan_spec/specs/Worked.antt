-- Worked rows of plans: the next move of a request, by what it heard so far. The database test has the table docs in slot 0, whose key field is
-- `id`, and zoo has birds in slot 1, whose key field is `name`.
use Prim.Native.String.{String}
use Rattle.std.specs.Prelude.{◌≡◌, ℕ, ℤ, pos, List, [], ◌∷◌, Option, Some, None, Bool, true, false, Ok, Err, codes}
use Rattle.reql_datum.specs.Answer.{Answer, Reason, op_failed, query_logic, resource_limit}
use Rattle.reql_datum.specs.Plain.{Plain, array, boolean, items_of, null, number, text, time}
use Rattle.reql_datum.specs.declared.point.Point.{Point}
use Rattle.reql_term.specs.Form.{Form, literal, several, keyed, variable, implicit, function, slot, operation, forms_of, named_of, no_named}
use Rattle.reql_term.specs.Views.{Document}
use Rattle.reql_term.specs.declared.op.Op.{Op}
use Rattle.reql_term.specs.declared.op.Op.TheVariants as op
use Rattle.reql_rules.specs.Faults.{over_array}
use Rattle.reql_rules.specs.Lists.{Bytes, object_of}
use Rattle.reql_faults.specs.Faults.{plan_fault}
use Rattle.reql_faults.specs.declared.fault.CompileFault.TheVariants as faults
use Rattle.reql_catalog.specs.Catalog.{Named}
use Rattle.reql_catalog.specs.declared.database.Database.{Database}
use Rattle.reql_catalog.specs.declared.slot.Slot.{Slot}
use Rattle.reql_catalog.specs.declared.command.CatCmd.TheVariants as cats
use Rattle.reql_catalog.specs.declared.command.CatSaid.{CatSaid}
use Rattle.reql_catalog.specs.declared.command.CatSaid.TheVariants as cat_said
use Rattle.reql_write_spec.specs.declared.command.Act.TheVariants as act
use Rattle.reql_write_spec.specs.declared.command.Act.{Act}
use Rattle.reql_write_spec.specs.declared.command.Conflict.TheVariants as conflicts
use Rattle.reql_write_spec.specs.declared.command.Returns.TheVariants as returns
use Rattle.reql_feed_spec.specs.declared.kind.FeedKind.{FeedKind}
use Rattle.reql_feed_spec.specs.declared.kind.FeedKind.TheVariants as kinds
use Rattle.reql_table_spec.specs.declared.command.Cmd.{Cmd}
use Rattle.reql_table_spec.specs.declared.command.Cmd.TheVariants as cmds
use Rattle.reql_table_machine_spec.specs.declared.command.Said.TheVariants as said
use Rattle.reql_table_spec.specs.declared.reply.Saved.TheVariants as saved
use Rattle.reql_plan_spec.specs.declared.parts.Plan.{Plan}
use Rattle.reql_plan_spec.specs.declared.parts.Setting.{Setting}
use Rattle.reql_plan_spec.specs.Asked.{feeds_asked}
use Rattle.reql_plan_spec.specs.Course.{plan_next}
use Rattle.reql_plan_spec.specs.Follows.{is_planned}
use Rattle.reql_plan_spec.specs.Move.{Ask, look_names, tell, look, run, change_names, roll, Replied, Heard, names, told, looked, ran, changed, rolled, fault, memory, unsent, atom, sequence, feed, stop}
use Rattle.reql_plan_spec.specs.Opens.{is_asked, carried_as}
use Rattle.reql_plan_spec.specs.Request.{Next, answered, moves}
use Rattle.reql_plan_spec.specs.Summed.{nothing_done, summary_shown}
use Rattle.reql_plan_spec.specs.Texts.{undetermined}

-- ---- in short
abbrev database : ℕ → List (Bytes × ℕ) → Database
database k tables = record { number = k; tables = tables }

abbrev holds : String → String → String → Slot
holds db table key = record { table = Some (record { db = codes db; name = codes table; key = codes key }) }

abbrev ns : Named
ns = record {
  place = 0;
  dbs = (codes "test", database 0 ((codes "docs", 0) ∷ [])) ∷ (codes "zoo", database 1 ((codes "birds", 1) ∷ [])) ∷ [];
  slots = holds "test" "docs" "id" ∷ holds "zoo" "birds" "name" ∷ [];
}

abbrev n : ℕ → Plain
n k = number (pos k)

abbrev num : ℕ → Form
num k = literal (n k)

abbrev name : String → Form
name s = literal (text (codes s))

abbrev call : Op → List Form → Form
call o fs = operation o (forms_of fs) no_named

abbrev with : Op → List Form → List (Bytes × Form) → Form
with o fs ms = operation o (forms_of fs) (named_of ms)

abbrev docs : Form
docs = call op.Table (name "docs" ∷ [])

abbrev birds : Form
birds = call op.Table (call op.Db (name "zoo" ∷ []) ∷ name "birds" ∷ [])

abbrev setting : Bool → Setting
setting quiet = record { noreply = quiet; batch = 2; cursors = 1; opened = 0 }

abbrev full : Setting
full = record { noreply = false; batch = 2; cursors = 1; opened = 1 }

abbrev plan : Form → Plan
plan f = record { term = f; db = codes "test"; array_limit = 100000; batch = 1000 }

-- with an array limit of so many
abbrev tight : ℕ → Form → Plan
tight limit f = record { term = f; db = codes "test"; array_limit = limit; batch = 1000 }

-- after the names were looked at
abbrev goes : Form → List Heard → Next
goes f hs = plan_next (plan f) (setting false) (names ns ∷ hs)

abbrev quietly : Form → List Heard → Next
quietly f hs = plan_next (plan f) (setting true) (names ns ∷ hs)

abbrev at : ℕ → ℕ → ℕ → Point
at k place stamp = record { slot = k; place = place; stamp = stamp }

abbrev sees : ℕ → ℕ → List Document → Heard
sees place stamp ds = looked (record { place = place; stamp = stamp; view = Some (ds, []) })

abbrev sees_multi : String → Heard
sees_multi s = looked (record { place = 0; stamp = 0; view = Some ([], (codes s, (variable 0, true)) ∷ []) })

abbrev shut : Heard
shut = looked (record { place = 3; stamp = 0; view = None })

abbrev says : Replied → Heard
says s = ran (record { place = 1; stamp = 7; said = s }) saved.Yes

abbrev row : ℕ → Document
row k = (n k, object_of ((codes "id", n k) ∷ []))

abbrev runs : ℕ → List Point → Cmd → Next
runs k ps c = moves (run k (record { points = ps; cmd = c }))

abbrev fails : Reason → Next
fails e = answered (stop (fault e))

abbrev writes_by : String → Act → Cmd
writes_by key a = cmds.Write (record { key = codes key; act = a; returns = returns.No; hard = true })

abbrev writes : Act → Cmd
writes a = writes_by "id" a

abbrev inserts : List Plain → List Plain → Cmd
inserts ds made = writes (act.Insert ds conflicts.Error made)

abbrev inserts_birds : List Plain → List Plain → Cmd
inserts_birds ds made = writes_by "name" (act.Insert ds conflicts.Error made)

abbrev doc : ℕ → Plain
doc k = object_of ((codes "id", n k) ∷ [])

abbrev bird : ℕ → Plain
bird k = object_of ((codes "id", n k) ∷ (codes "name", n k) ∷ [])

abbrev bird_row : ℕ → Document
bird_row k = (n k, bird k)

abbrev bird_term : Form
bird_term = keyed (named_of ((codes "name", num 5) ∷ []))

abbrev nameless : Plain
nameless = object_of ((codes "n", n 1) ∷ [])

abbrev nameless_term : Form
nameless_term = keyed (named_of ((codes "n", num 1) ∷ []))

abbrev doc_term : Form → Form
doc_term f = keyed (named_of ((codes "id", f) ∷ []))

abbrev shown : ℕ → Next
shown k = answered (atom (summary_shown (record nothing_done { inserted = k })))

abbrev one_done : Heard
one_done = says (said.Done (record nothing_done { inserted = 1 }))

abbrev bytes : Bytes
bytes = 0 ∷ 1 ∷ 2 ∷ 3 ∷ 4 ∷ 5 ∷ 6 ∷ 7 ∷ 8 ∷ 9 ∷ 10 ∷ 11 ∷ 12 ∷ 13 ∷ 14 ∷ 15 ∷ []

abbrev key : Plain
key = text (codes "00010203-0405-4607-8809-0a0b0c0d0e0f")

-- ---- values
abbrev get_one : Form
get_one = call op.Get (docs ∷ num 1 ∷ [])

abbrev both : Form
both = call op.Union (birds ∷ docs ∷ docs ∷ [])

abbrev pub Reads : Type 0
Reads =
    (plan_next (plan get_one) (setting false) [] ≡ moves look_names)
    × (goes get_one [] ≡ moves (look 0))
    × (goes get_one (sees 0 0 [] ∷ []) ≡ answered (atom null))
    × (goes get_one (sees 1 1 (row 1 ∷ []) ∷ []) ≡ answered (atom (doc 1)))
    × (goes get_one (shut ∷ []) ≡ fails (op_failed (codes "Table `test.docs` was dropped.")))
    × (goes (call op.Table (name "nope" ∷ [])) [] ≡ fails (op_failed (codes "Table `test.nope` does not exist.")))
    × (goes both [] ≡ moves (look 0))
    × (goes both (sees 1 1 (row 1 ∷ []) ∷ []) ≡ moves (look 1))
    × (goes both (sees 0 0 [] ∷ sees 1 1 (row 1 ∷ []) ∷ []) ≡ answered (sequence (doc 1 ∷ [])))
    × (goes docs (sees 1 3 (row 1 ∷ row 2 ∷ row 3 ∷ []) ∷ []) ≡ answered (sequence (doc 1 ∷ doc 2 ∷ doc 3 ∷ [])))
    × (plan_next (plan docs) full (names ns ∷ sees 1 3 (row 1 ∷ row 2 ∷ row 3 ∷ []) ∷ []) ≡ fails (resource_limit (codes "Too many cursors.")))
    × (goes (call op.Now []) [] ≡ moves tell)
    × (goes (call op.Now []) (told None ∷ []) ≡ fails (op_failed (codes "Clock failed.")))
    × (goes (call op.Now []) (told (Some (pos 1700000000)) ∷ []) ≡ answered (atom (time (pos 1700000000, pos 0))))
    × (goes (call op.Now []) (told (Some (pos 9007199254740993)) ∷ []) ≡ fails (query_logic (codes "Number outside the range of whole numbers.")))

-- ---- writes
abbrev insert : Form → Form
insert f = call op.Insert (docs ∷ f ∷ [])

abbrev insert_bird : Form → Form
insert_bird f = call op.Insert (birds ∷ f ∷ [])

abbrev update : Form → Form → Form
update f g = call op.Update (f ∷ g ∷ [])

abbrev sum_key : Form
sum_key = call op.Get (docs ∷ call op.Add (num 1 ∷ num 1 ∷ []) ∷ [])

abbrev count_birds : Form
count_birds = call op.Count (birds ∷ [])

abbrev each : Form
each = call op.ForEach (several (forms_of (num 1 ∷ num 2 ∷ [])) ∷ function (7 ∷ []) (insert (doc_term (variable 7))) ∷ [])

-- the documents of a table each have a list of lists, which are written one after another
abbrev lists : Form
lists = call op.ConcatMap (docs ∷ function (1 ∷ []) (call op.GetField (variable 1 ∷ name "a" ∷ [])) ∷ [])

abbrev three : Plain
three = array (items_of (n 1 ∷ n 2 ∷ n 3 ∷ []))

abbrev each_list : Form → Form
each_list f = call op.ForEach (lists ∷ function (7 ∷ []) (insert (keyed (named_of ((codes "id", num 9) ∷ (codes "v", f) ∷ [])))) ∷ [])

abbrev sees_lists : Heard
sees_lists = sees 1 1 ((n 1, object_of ((codes "a", array (items_of (three ∷ []))) ∷ (codes "id", n 1) ∷ [])) ∷ [])

-- the documents from 1 to 2, with both of these
abbrev closed : List (Bytes × Form)
closed = (codes "right_bound", name "closed") ∷ []

abbrev pub Writes : Type 0
Writes =
    (goes (insert (doc_term (num 1))) [] ≡ runs 0 [] (inserts (doc 1 ∷ []) []))
    × (goes (insert (doc_term (num 1))) (one_done ∷ []) ≡ shown 1)
    × (quietly (insert (doc_term (num 1))) (one_done ∷ []) ≡ answered unsent)
    × (goes (insert (doc_term (num 1))) (says said.Gone ∷ []) ≡ fails (op_failed (codes "Table `test.docs` was dropped.")))
    × (goes (insert (doc_term (num 1))) (ran (record { place = 1; stamp = 1; said = said.Done nothing_done }) saved.Failed ∷ []) ≡ fails (op_failed (codes "Journal failed.")))
    × (goes (insert (doc_term (num 1))) (ran (record { place = 1; stamp = 1; said = said.Done nothing_done }) saved.Memory ∷ []) ≡ answered (stop memory))
    × (goes (insert nameless_term) [] ≡ moves roll)
    × (goes (insert nameless_term) (rolled None ∷ []) ≡ fails (op_failed (codes "Random source failed.")))
    × (goes (insert nameless_term) (rolled (Some bytes) ∷ []) ≡ runs 0 [] (inserts (nameless ∷ []) (key ∷ [])))
    × (goes (insert (num 1)) [] ≡ fails (query_logic (codes "Expected type OBJECT but found NUMBER.")))
    × (goes (insert birds) [] ≡ moves (look 1))
    × (goes (insert birds) (sees 2 1 (bird_row 5 ∷ []) ∷ []) ≡ runs 0 (at 1 2 1 ∷ []) (inserts (bird 5 ∷ []) []))
    × (goes (insert_bird bird_term) [] ≡ runs 1 [] (inserts_birds (object_of ((codes "name", n 5) ∷ []) ∷ []) []))
    × (goes (insert_bird (doc_term (num 1))) [] ≡ moves roll)
    × (goes (insert_bird (doc_term (num 1))) (rolled (Some bytes) ∷ []) ≡ runs 1 [] (inserts_birds (doc 1 ∷ []) (key ∷ [])))
    × (goes (call op.Delete (with op.Between (docs ∷ num 1 ∷ num 2 ∷ []) closed ∷ [])) [] ≡ runs 0 [] (writes (act.Delete (with op.Between (slot 0 ∷ num 1 ∷ num 2 ∷ []) closed))))
    × (goes (update sum_key (doc_term count_birds)) (sees 2 1 (bird_row 5 ∷ []) ∷ []) ≡ runs 0 (at 1 2 1 ∷ []) (writes (act.Update (call op.Get (slot 0 ∷ num 2 ∷ [])) (literal (doc 1)))))
    × (goes (update (call op.Map (docs ∷ function (1 ∷ []) (variable 1) ∷ [])) (num 1)) (sees 0 0 [] ∷ []) ≡ fails (query_logic (codes "Expected a selection.")))
    × (goes (update docs (function (1 ∷ []) count_birds)) [] ≡ fails (query_logic (codes "Could not prove argument deterministic.")))
    × (goes each [] ≡ runs 0 [] (inserts (doc 1 ∷ []) []))
    × (goes each (one_done ∷ []) ≡ runs 0 [] (inserts (doc 2 ∷ []) []))
    × (goes each (one_done ∷ one_done ∷ []) ≡ shown 2)
    × (plan_next (tight 2 (each_list (variable 7))) (setting false) (names ns ∷ sees_lists ∷ []) ≡ fails (over_array 2))
    × (plan_next (tight 2 (each_list implicit)) (setting false) (names ns ∷ sees_lists ∷ []) ≡ fails (over_array 2))
    × (plan_next (tight 3 (each_list (variable 7))) (setting false) (names ns ∷ sees_lists ∷ []) ≡
    runs 0 (at 0 1 1 ∷ []) (inserts (object_of ((codes "id", n 9) ∷ (codes "v", three) ∷ []) ∷ []) []))
    × (goes (call op.Branch (literal (boolean false) ∷ num 1 ∷ insert (doc_term (num 3)) ∷ [])) [] ≡ runs 0 [] (inserts (doc 3 ∷ []) []))
    × (goes (call op.Branch (literal (boolean true) ∷ num 1 ∷ insert (doc_term (num 3)) ∷ [])) [] ≡ answered (atom (n 1)))

-- ---- commands
abbrev counts : String → ℕ → Next
counts label k = answered (atom (object_of ((codes label, n k) ∷ [])))

abbrev cat : CatSaid → Heard
cat s = changed (record { place = 1; said = s })

abbrev drop_zoo : Form
drop_zoo = call op.DbDrop (name "zoo" ∷ [])

abbrev index : Form
index = call op.IndexCreate (docs ∷ name "n" ∷ [])

abbrev rename : String → String → Form
rename a b = call op.IndexRename (docs ∷ name a ∷ name b ∷ [])

abbrev pub Commands : Type 0
Commands =
    (goes (call op.TableCreate (name "new" ∷ [])) [] ≡ moves (change_names (cats.TableCreate (codes "test") (codes "new") (codes "id"))))
    × (goes (call op.TableCreate (name "new" ∷ [])) (cat cat_said.Made ∷ []) ≡ counts "tables_created" 1)
    × (goes (call op.TableCreate (name "docs" ∷ [])) (cat cat_said.TableExists ∷ []) ≡ fails (op_failed (codes "Table `test.docs` already exists.")))
    × (goes drop_zoo [] ≡ moves (change_names (cats.DbDrop (codes "zoo"))))
    × (goes drop_zoo (cat (cat_said.Dropped (1 ∷ 4 ∷ [])) ∷ []) ≡ runs 1 [] cmds.Shut)
    × (goes drop_zoo (cat (cat_said.Dropped (1 ∷ 4 ∷ [])) ∷ says said.Closed ∷ []) ≡ runs 4 [] cmds.Shut)
    × (goes drop_zoo (cat (cat_said.Dropped (1 ∷ 4 ∷ [])) ∷ says said.Closed ∷ says said.Closed ∷ []) ≡ answered (atom (object_of ((codes "dbs_dropped", n 1) ∷ (codes "tables_dropped", n 2) ∷ []))))
    × (goes index (says said.Changed ∷ []) ≡ counts "created" 1)
    × (goes index (says said.IndexExists ∷ []) ≡ fails (op_failed (codes "Index `n` already exists.")))
    × (goes (call op.IndexCreate (docs ∷ name "id" ∷ [])) [] ≡ fails (query_logic (codes "Index name `id` is the primary key.")))
    × (goes (rename "a" "b") [] ≡ runs 0 [] (cmds.IndexRename (codes "a") (codes "b") false))
    × (goes (rename "a" "a") (says said.Changed ∷ []) ≡ counts "renamed" 0)
    × (goes (rename "a" "b") (says said.IndexMissing ∷ []) ≡ fails (op_failed (codes "Index `a` does not exist.")))
    × (goes (call op.Sync (docs ∷ [])) [] ≡ runs 0 [] cmds.Sync)
    × (goes (call op.Sync (docs ∷ [])) (says said.Changed ∷ []) ≡ counts "synced" 1)

-- ---- feeds
abbrev changes : Form → List (Bytes × Form) → Form
changes f ms = with op.Changes (f ∷ []) ms

abbrev yes : Form
yes = literal (boolean true)

abbrev follows : String → Form → Option Bytes → FeedKind → Cmd
follows key f index kind = cmds.Subscribe (record { key = codes key; shape = f; index = index; kind = kind; size = 100000; offsets = false; types = false; squash = false })

abbrev subscribes : Form → FeedKind → Next
subscribes f kind = runs 0 [] (follows "id" f None kind)

abbrev opened : ℕ → List Plain → Heard
opened k items = says (said.Opened k items)

abbrev dropped_docs : Bytes
dropped_docs = codes "Table `test.docs` was dropped."

abbrev state : String → Plain
state s = object_of ((codes "state", text (codes s)) ∷ [])

abbrev united : Form
united = call op.Union (docs ∷ birds ∷ [])

abbrev first_by : String → Form → Form → Form
first_by s f c = call op.Limit (with op.OrderBy (f ∷ []) ((codes "index", name s) ∷ []) ∷ c ∷ [])

abbrev first_of : Form → Form → Form
first_of f c = first_by "n" f c

abbrev first_ones : Form → Form
first_ones c = first_of docs c

abbrev low : Form → Form
low f = call op.Between (f ∷ num 1 ∷ num 2 ∷ [])

abbrev low_keys : Form
low_keys = low docs

abbrev no_value : Form
no_value = call op.Desc (literal (boolean true) ∷ [])

-- all that a request has asked its slots for to open feeds
abbrev asks : ℕ → List Point → Cmd → Ask
asks k ps c = run k (record { points = ps; cmd = c })

abbrev asked : Form → List Heard → List Ask
asked f hs = feeds_asked (plan f) (setting false) (names ns ∷ hs)

abbrev docs_feed : Ask
docs_feed = asks 0 [] (follows "id" (slot 0) None kinds.Range)

abbrev birds_feed : Ask
birds_feed = asks 1 [] (follows "name" (slot 1) None kinds.Range)

abbrev pub Feeds : Type 0
Feeds =
    (goes (changes docs []) [] ≡ subscribes (slot 0) kinds.Range)
    × (goes (changes docs []) (opened 1 (doc 1 ∷ []) ∷ []) ≡ answered (feed (record { slot = 0; feed = 1; dropped = dropped_docs } ∷ []) (1 ∷ []) []))
    × (goes (changes docs ((codes "include_initial", yes) ∷ (codes "include_states", yes) ∷ [])) (opened 1 (doc 1 ∷ []) ∷ []) ≡
    answered (feed (record { slot = 0; feed = 1; dropped = dropped_docs } ∷ []) (1 ∷ 5 ∷ [])
    (record { arm = 0; is_state = true; stamp = 7; shown = state "initializing" } ∷ record { arm = 0; is_state = false; stamp = 7; shown = doc 1 } ∷ record { arm = 0; is_state = true; stamp = 7; shown = state "ready" } ∷ [])))
    × (goes (changes sum_key []) [] ≡ subscribes (call op.Get (slot 0 ∷ num 2 ∷ [])) kinds.Point)
    × (goes (changes (call op.Get (docs ∷ literal null ∷ [])) []) [] ≡ fails (query_logic (codes "Value of type NULL cannot be a key.")))
    × (quietly (changes docs []) [] ≡ answered unsent)
    × (plan_next (plan (changes docs [])) full (names ns ∷ []) ≡ fails (resource_limit (codes "Too many cursors.")))
    × (goes (changes docs ((codes "changefeed_queue_size", num 0) ∷ [])) [] ≡ fails (query_logic (codes "Bad value for optional argument `changefeed_queue_size`.")))
    × (goes (changes united []) (opened 1 [] ∷ []) ≡ runs 1 [] (follows "name" (slot 1) None kinds.Range))
    × (goes (changes united []) (opened 1 [] ∷ says (said.FeedsFull 4) ∷ []) ≡ runs 0 [] (cmds.Unsubscribe 1))
    × (goes (changes united []) (opened 1 [] ∷ says (said.FeedsFull 4) ∷ says said.Closed ∷ []) ≡ fails (resource_limit (codes "Too many feeds.")))
    × (goes (changes (first_ones (num 2)) []) [] ≡ moves (look 0))
    × (goes (changes (first_ones (num 100001)) []) (sees 0 0 [] ∷ []) ≡ fails (resource_limit (codes "Limit over `100000`.")))
    × (goes (changes (first_ones (num 2)) []) (sees_multi "n" ∷ []) ≡ fails (query_logic (codes "Limit feed over a multi index.")))
    × (goes (changes (first_ones (num 2)) ((codes "include_initial", no_value) ∷ [])) (sees_multi "n" ∷ []) ≡ fails (query_logic (codes "Misplaced ordering or index.")))
    × (goes (changes (first_of low_keys (num 2)) []) (sees 0 0 [] ∷ []) ≡ fails (query_logic (codes "Misplaced ordering or index.")))
    × (goes (changes (first_of low_keys (num 2)) ((codes "include_types", num 1) ∷ [])) (sees 0 0 [] ∷ []) ≡ fails (query_logic (codes "Bad value for optional argument `include_types`.")))
    × (goes (changes (first_ones (num 2)) []) (sees 0 0 [] ∷ []) ≡
    runs 0 (at 0 0 0 ∷ []) (follows "id" (first_of (slot 0) (num 2)) (Some (codes "n")) (kinds.Limit 2)))
    × (goes (changes birds []) [] ≡ runs 1 [] (follows "name" (slot 1) None kinds.Range))
    × (goes (changes (first_by "name" (low birds) (num 2)) []) (sees 0 0 [] ∷ []) ≡
    runs 1 (at 1 0 0 ∷ []) (follows "name" (first_by "name" (low (slot 1)) (num 2)) (Some (codes "name")) (kinds.Limit 2)))
    × (goes (changes (first_by "id" (low birds) (num 2)) []) (sees 0 0 [] ∷ []) ≡ fails (query_logic (codes "Misplaced ordering or index.")))
    × (goes (changes (with op.Between (docs ∷ num 1 ∷ num 2 ∷ []) closed) []) [] ≡ subscribes (with op.Between (slot 0 ∷ num 1 ∷ num 2 ∷ []) closed) kinds.Range)
    × (goes (changes (with op.Between (docs ∷ num 1 ∷ num 2 ∷ []) ((codes "right_bound", name "n") ∷ [])) []) [] ≡ fails (query_logic (codes "Bad value for optional argument `right_bound`.")))
    × (asked (changes united []) [] ≡ docs_feed ∷ [])
    × (asked (changes united []) (opened 1 [] ∷ []) ≡ docs_feed ∷ birds_feed ∷ [])
    × (asked (changes united []) (opened 1 [] ∷ opened 1 [] ∷ []) ≡ docs_feed ∷ birds_feed ∷ [])
    × (asked (changes united []) (says (said.FeedsFull 4) ∷ []) ≡ docs_feed ∷ [])
    × (asked (changes (first_ones (num 2)) []) (sees 0 0 [] ∷ opened 1 [] ∷ []) ≡ asks 0 (at 0 0 0 ∷ []) (follows "id" (first_of (slot 0) (num 2)) (Some (codes "n")) (kinds.Limit 2)) ∷ [])
    × (asked united (sees 0 0 [] ∷ sees 1 1 (row 1 ∷ []) ∷ []) ≡ [])

-- ---- what planning leaves, and what it never does: a table that was not looked up, a variable or a table from outside, a count or an option
-- that an operator doesn't take
abbrev over_one : Form
over_one = function (1 ∷ []) (call op.Gt (call op.GetField (variable 1 ∷ name "n" ∷ []) ∷ num 1 ∷ []))

abbrev pub Planned : Type 0
Planned =
    (is_planned (call op.Limit (with op.OrderBy (call op.Between (slot 0 ∷ num 1 ∷ num 2 ∷ []) ∷ []) ((codes "index", name "n") ∷ []) ∷ num 2 ∷ [])) ≡ true)
    × (is_planned (with op.Filter (slot 0 ∷ over_one ∷ []) ((codes "default", call op.Error []) ∷ [])) ≡ true)
    × (is_planned (call op.Get (slot 0 ∷ num 2 ∷ [])) ≡ true)
    × (is_planned docs ≡ false)
    × (is_planned (call op.Map (slot 0 ∷ function (1 ∷ []) (variable 2) ∷ [])) ≡ false)
    × (is_planned (call op.Map (slot 0 ∷ function (1 ∷ []) (slot 1) ∷ [])) ≡ false)
    × (is_planned (call op.Between (slot 0 ∷ num 1 ∷ [])) ≡ false)
    × (is_planned (with op.Filter (slot 0 ∷ over_one ∷ []) ((codes "index", name "n") ∷ [])) ≡ false)

-- ---- what becomes of a term before it is carried out, and what never has a plan or is never read
abbrev carries : Option ℤ → Form → Answer Form
carries moment f = carried_as ns (codes "test") moment f

abbrev is_after : Form → Form
is_after moment = function (1 ∷ []) (call op.Gt (call op.GetField (variable 1 ∷ name "at" ∷ []) ∷ moment ∷ []))

abbrev later : Form → Form → Form
later table moment = changes (call op.Filter (table ∷ is_after moment ∷ [])) []

abbrev twice : List (Bytes × Form)
twice = (codes "default", yes) ∷ (codes "default", yes) ∷ []

abbrev pub Carried : Type 0
Carried =
    (carries (Some (pos 5)) (later docs (call op.Now [])) ≡ Ok (later (slot 0) (literal (time (pos 5, pos 0)))))
    × (carries None (changes (call op.Map (docs ∷ function (1 ∷ []) (call op.Count (birds ∷ [])) ∷ [])) []) ≡ Err undetermined)
    × (plan_fault (changes (call op.Map (docs ∷ function (1 ∷ []) (variable 2) ∷ [])) []) ≡ Some (faults.Unbound 2))
    × (plan_fault (call op.Count (changes docs [] ∷ [])) ≡ Some faults.FeedShape)
    × (is_asked (changes (call op.Get (docs ∷ num 2 ∷ [])) []) ≡ true)
    × (is_asked (changes (call op.Get (docs ∷ [])) []) ≡ false)
    × (is_asked (changes (with op.Filter (docs ∷ over_one ∷ []) twice) []) ≡ false)
