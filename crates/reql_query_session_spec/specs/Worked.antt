-- Worked rows: talks with sessions that plan ReQL, from the bodies of requests to those of their answers. The database test has the
-- table docs in slot 0, and zoo has none.
use Prim.Native.String.{String}
use Rattle.std.specs.Prelude.{◌≡◌, ℕ, pos, List, [], ◌∷◌, true, false, Some, None, codes}
use Rattle.reql_datum.specs.Plain.{Plain, null, number}
use Rattle.reql_rules.specs.Lists.{Bytes, object_of}
use Rattle.reql_term.specs.Form.{slot}
use Rattle.reql_term.specs.Views.{Document}
use Rattle.reql_catalog.specs.Catalog.{Named}
use Rattle.reql_catalog.specs.declared.database.Database.{Database}
use Rattle.reql_catalog.specs.declared.slot.Slot.{Slot}
use Rattle.reql_write_spec.specs.declared.command.Act.TheVariants as act
use Rattle.reql_write_spec.specs.declared.command.Conflict.TheVariants as conflicts
use Rattle.reql_write_spec.specs.declared.command.Returns.TheVariants as returns
use Rattle.reql_feed_spec.specs.declared.kind.FeedKind.TheVariants as kinds
use Rattle.reql_table_machine_spec.specs.declared.command.Said.TheVariants as said
use Rattle.reql_table_spec.specs.Limits.{usual_limits}
use Rattle.reql_table_spec.specs.declared.command.Cmd.{Cmd}
use Rattle.reql_table_spec.specs.declared.command.Cmd.TheVariants as cmds
use Rattle.reql_table_spec.specs.declared.reply.Saved.TheVariants as saved
use Rattle.reql_plan_spec.specs.declared.parts.Plan.{Plan}
use Rattle.reql_plan_spec.specs.Move.{Replied}
use Rattle.reql_plan_spec.specs.Summed.{nothing_done}
use Rattle.reql_session_spec.specs.Books.{Open, Books, no_books}
use Rattle.reql_session_spec.specs.Requests.{Arm, Found, SawNames, SawSlot, RanSlot, LookNames, LookSlot, RunSlot}
use Rattle.reql_session_spec.specs.Tasks.{Talk}
use Rattle.reql_query_session_spec.specs.Talks.{Line, Asks, Says, Turn, Frame, Visits, turned}
use Rattle.reql_query_session_spec.specs.Told.{keys_by, talk}

-- ---- in short
abbrev database : ℕ → List (Bytes × ℕ) → Database
database k tables = record { number = k; tables = tables }

abbrev holds : String → String → Slot
holds db table = record { table = Some (record { db = codes db; name = codes table; key = codes "id" }) }

abbrev ns : Named
ns = record { place = 0; dbs = (codes "test", database 0 ((codes "docs", 0) ∷ [])) ∷ (codes "zoo", database 1 []) ∷ []; slots = holds "test" "docs" ∷ [] }

abbrev usual : Talk Plan
usual = talk (keys_by [] []) usual_limits

abbrev named : Found
named = SawNames 0 ns

abbrev sees : ℕ → ℕ → List Document → Found
sees place stamp ds = SawSlot 0 (record { place = place; stamp = stamp; view = Some (ds, []) })

abbrev answers : ℕ → ℕ → Replied → Found
answers place stamp s = RanSlot 0 (record { place = place; stamp = stamp; said = s }) saved.Yes

abbrev asks : ℕ → String → List Found → Turn
asks token text fs = Frame token (codes text) fs

abbrev says : ℕ → String → Line
says token text = Says token (codes text)

abbrev runs : Cmd → Line
runs c = Asks (RunSlot 0 (record { points = []; cmd = c }))

abbrev n : ℕ → Plain
n k = number (pos k)

abbrev doc : ℕ → Plain
doc k = object_of ((codes "id", n k) ∷ [])

abbrev row : ℕ → Document
row k = (n k, doc k)

abbrev with_five : Plain
with_five = object_of ((codes "id", n 1) ∷ (codes "n", n 5) ∷ [])

-- a turn of a session that keeps this: what it asks and says, and what it keeps then
abbrev Row : Books → Turn → List Line → Books → Type 0
Row b t lines c = turned usual [] b t ≡ record { lines = lines; books = c; left = [] }

-- ---- a document that isn't there is put in and read again
abbrev insert : Cmd
insert = cmds.Write (record { key = codes "id"; act = act.Insert (with_five ∷ []) conflicts.Error []; returns = returns.No; hard = true })

abbrev pub Documents1 : Type 0
Documents1 = Row no_books (asks 1 "[1,[16,[[15,[\"docs\"]],1]]]" (named ∷ sees 0 0 [] ∷ []))
    (Asks LookNames ∷ Asks (LookSlot 0) ∷ says 1 "{\"n\":[],\"r\":[null],\"s\":{\"c\":0,\"t\":[[0,0,0]]},\"t\":1}" ∷ []) no_books

abbrev pub Documents2 : Type 0
Documents2 = Row no_books (asks 2 "[1,[56,[[15,[\"docs\"]],{\"id\":1,\"n\":5}]]]" (named ∷ answers 1 1 (said.Done (record nothing_done { inserted = 1 })) ∷ []))
    (Asks LookNames ∷ runs insert ∷ says 2 "{\"n\":[],\"r\":[{\"deleted\":0,\"errors\":0,\"inserted\":1,\"replaced\":0,\"skipped\":0,\"unchanged\":0}],\"s\":{\"c\":0,\"t\":[[0,1,1]]},\"t\":1}" ∷ []) no_books

abbrev pub Documents3 : Type 0
Documents3 = Row no_books (asks 3 "[1,[16,[[15,[\"docs\"]],1]]]" (named ∷ sees 1 1 ((n 1, with_five) ∷ []) ∷ []))
    (Asks LookNames ∷ Asks (LookSlot 0) ∷ says 3 "{\"n\":[],\"r\":[{\"id\":1,\"n\":5}],\"s\":{\"c\":0,\"t\":[[0,1,1]]},\"t\":1}" ∷ []) no_books

abbrev pub Documents : Type 0
Documents = Documents1 × Documents2 × Documents3

-- ---- what is refused before anything is looked at, and the words
abbrev pub Refused1 : Type 0
Refused1 = Row no_books (asks 1 "{" [])
    (says 1 "{\"b\":[],\"r\":[\"Query is not JSON.\"],\"t\":16}" ∷ []) no_books

abbrev pub Refused2 : Type 0
Refused2 = Row no_books (asks 2 "[1]" [])
    (says 2 "{\"b\":[],\"r\":[\"Query has a wrong shape.\"],\"t\":16}" ∷ []) no_books

abbrev pub Refused3 : Type 0
Refused3 = Row no_books (asks 7 "[2]" [])
    (says 7 "{\"b\":[],\"r\":[\"Token 7 has no open cursor.\"],\"t\":16}" ∷ []) no_books

abbrev pub Refused4 : Type 0
Refused4 = Row no_books (asks 7 "[3]" [])
    (says 7 "{\"n\":[],\"r\":[],\"t\":2}" ∷ []) no_books

abbrev pub Refused5 : Type 0
Refused5 = Row no_books (asks 3 "[4]" [])
    (says 3 "{\"n\":[],\"r\":[],\"t\":4}" ∷ []) no_books

abbrev pub Refused6 : Type 0
Refused6 = Row no_books (asks 4 "[5]" [])
    (says 4 "{\"n\":[],\"r\":[{\"id\":\"00000000-0000-0000-0000-000000000000\",\"name\":\"reqld\",\"proxy\":false}],\"t\":5}" ∷ []) no_books

abbrev pub Refused7 : Type 0
Refused7 = Row no_books (asks 5 "[1,[9999]]" [])
    (says 5 "{\"b\":[],\"r\":[\"Unknown term 9999.\"],\"t\":17}" ∷ []) no_books

abbrev pub Refused8 : Type 0
Refused8 = Row no_books (asks 6 "[1,[24,[1,[54,[[15,[\"docs\"]]]]]]]" [])
    (says 6 "{\"b\":[],\"r\":[\"Write or command inside another term.\"],\"t\":17}" ∷ []) no_books

abbrev pub Refused9 : Type 0
Refused9 = Row no_books (asks 8 "[1,[9999],{\"noreply\":true}]" [])
    ([]) no_books

abbrev pub Refused10 : Type 0
Refused10 = Row no_books (asks 9 "[1,5,{\"max_batch_rows\":0}]" [])
    (says 9 "{\"b\":[],\"r\":[\"Unrecognized optional argument `max_batch_rows`.\"],\"t\":17}" ∷ []) no_books

abbrev pub Refused : Type 0
Refused = Refused1 × Refused2 × Refused3 × Refused4 × Refused5 × Refused6 × Refused7 × Refused8 × Refused9 × Refused10

-- ---- options: the default database, the length of an array, a request without an answer; and want of memory
abbrev pub Options1 : Type 0
Options1 = Row no_books (asks 1 "[1,[15,[\"nope\"]]]" (named ∷ []))
    (Asks LookNames ∷ says 1 "{\"b\":[],\"e\":4100000,\"r\":[\"Table `test.nope` does not exist.\"],\"s\":{\"c\":0,\"t\":[]},\"t\":18}" ∷ []) no_books

abbrev pub Options2 : Type 0
Options2 = Row no_books (asks 2 "[1,[15,[\"docs\"]],{\"db\":[14,[\"zoo\"]]}]" (named ∷ []))
    (Asks LookNames ∷ says 2 "{\"b\":[],\"e\":4100000,\"r\":[\"Table `zoo.docs` does not exist.\"],\"s\":{\"c\":0,\"t\":[]},\"t\":18}" ∷ []) no_books

abbrev pub Options3 : Type 0
Options3 = Row no_books (asks 3 "[1,[2,[1,2,3]],{\"array_limit\":2}]" (named ∷ []))
    (Asks LookNames ∷ says 3 "{\"b\":[],\"e\":2000000,\"r\":[\"Array over size limit `2`.\"],\"s\":{\"c\":0,\"t\":[]},\"t\":18}" ∷ []) no_books

abbrev pub Options4 : Type 0
Options4 = Row no_books (asks 4 "[1,[15,[\"nope\"]],{\"noreply\":true}]" (named ∷ []))
    (Asks LookNames ∷ []) no_books

abbrev pub Options5 : Type 0
Options5 = Row no_books (asks 5 "[1,[15,[\"docs\"]]]" (named ∷ []))
    (Asks LookNames ∷ Asks (LookSlot 0) ∷ says 5 "{\"b\":[],\"e\":1000000,\"r\":[\"Out of memory.\"],\"t\":18}" ∷ []) no_books

abbrev pub Options : Type 0
Options = Options1 × Options2 × Options3 × Options4 × Options5

-- ---- a cursor: its token is in use until its last batch, but a body that is no query is refused before that
abbrev one_left : Books
one_left = record no_books { cursors = record { token = 2; rest = doc 3 ∷ []; batch = 2 } ∷ [] }

abbrev pub Batches1 : Type 0
Batches1 = Row no_books (asks 2 "[1,[15,[\"docs\"]],{\"max_batch_rows\":2}]" (named ∷ sees 1 3 (row 1 ∷ row 2 ∷ row 3 ∷ []) ∷ []))
    (Asks LookNames ∷ Asks (LookSlot 0) ∷ says 2 "{\"n\":[],\"r\":[{\"id\":1},{\"id\":2}],\"s\":{\"c\":0,\"t\":[[0,1,3]]},\"t\":3}" ∷ []) one_left

abbrev pub Batches2 : Type 0
Batches2 = Row one_left (asks 2 "[1,[9999]]" [])
    (says 2 "{\"b\":[],\"r\":[\"Token 2 is in use.\"],\"t\":16}" ∷ []) one_left

abbrev pub Batches3 : Type 0
Batches3 = Row one_left (asks 2 "{" [])
    (says 2 "{\"b\":[],\"r\":[\"Query is not JSON.\"],\"t\":16}" ∷ []) one_left

abbrev pub Batches4 : Type 0
Batches4 = Row one_left (asks 2 "[2]" [])
    (says 2 "{\"n\":[],\"r\":[{\"id\":3}],\"t\":2}" ∷ []) no_books

abbrev pub Batches : Type 0
Batches = Batches1 × Batches2 × Batches3 × Batches4

-- ---- a feed of a table: it opens with its documents, waits, is visited, and is closed by a STOP after the CONTINUE that waits
abbrev watch : Cmd
watch = cmds.Subscribe (record { key = codes "id"; shape = slot 0; index = None; kind = kinds.Range; size = 100000; offsets = false; types = false; squash = false })

abbrev change : Plain
change = object_of ((codes "new_val", doc 2) ∷ (codes "old_val", null) ∷ [])

abbrev arm : Arm
arm = record { slot = 0; feed = 3; dropped = codes "Table `test.docs` was dropped." }

abbrev feed : Open
feed = record { token = 9; arms = arm ∷ []; left = []; batch = 1000; notes = 1 ∷ [] }

abbrev watched : Books
watched = record no_books { feeds = feed ∷ [] }

abbrev at_wait : Books
at_wait = record watched { waiting = 9 ∷ [] }

abbrev pub Feeds1 : Type 0
Feeds1 = Row no_books (asks 9 "[1,[152,[[15,[\"docs\"]]],{\"include_initial\":true}]]" (named ∷ answers 3 1 (said.Opened 3 (object_of ((codes "new_val", doc 1) ∷ []) ∷ [])) ∷ []))
    (Asks LookNames ∷ runs watch ∷ says 9 "{\"f\":[1],\"n\":[1],\"r\":[{\"new_val\":{\"id\":1}}],\"s\":{\"c\":0,\"t\":[[0,3,1]]},\"t\":3}" ∷ []) watched

abbrev pub Feeds2 : Type 0
Feeds2 = Row watched (asks 9 "[2]" (answers 3 1 said.Nothing ∷ []))
    (runs (cmds.Take 3 1000) ∷ []) at_wait

abbrev pub Feeds3 : Type 0
Feeds3 = Row at_wait (asks 9 "[2]" [])
    (says 9 "{\"b\":[],\"r\":[\"Token 9 is already waiting.\"],\"t\":16}" ∷ []) at_wait

abbrev pub Feeds4 : Type 0
Feeds4 = Row at_wait (Visits (answers 5 2 (said.Batch 0 0 ((2, change) ∷ [])) ∷ []))
    (runs (cmds.Take 3 1000) ∷ says 9 "{\"f\":[2],\"n\":[1],\"r\":[{\"new_val\":{\"id\":2},\"old_val\":null}],\"s\":{\"c\":0,\"t\":[[0,5,2]]},\"t\":3}" ∷ []) watched

abbrev pub Feeds5 : Type 0
Feeds5 = Row at_wait (asks 9 "[3]" (answers 7 2 said.Closed ∷ []))
    (says 9 "{\"n\":[],\"r\":[],\"t\":2}" ∷ runs (cmds.Unsubscribe 3) ∷ says 9 "{\"n\":[],\"r\":[],\"t\":2}" ∷ []) no_books

abbrev pub Feeds : Type 0
Feeds = Feeds1 × Feeds2 × Feeds3 × Feeds4 × Feeds5
