-- Worked rows of the table machine: histories of a table `docs` with the key field `id`, and what its commands are answered.
use Prim.Native.String.{String}
use Rattle.std.specs.Prelude.{◌≡◌, ℕ, ◌-◌, ◌^◌, List, [], ◌∷◌, Bool, true, false, Option, Some, None, codes}
use Rattle.reql_datum.specs.Plain.{Plain, null}
use Rattle.reql_rules.specs.Lists.{Bytes}
use Rattle.reql_term.specs.Form.{Form, literal, slot}
use Rattle.reql_term.specs.Views.{Index}
use Rattle.reql_term.specs.declared.op.Op.TheVariants as op
use Rattle.reql_value_spec.specs.Short.{n, o, num, name, call, with, fun, field}
use Rattle.reql_write_spec.specs.declared.command.Act.{Act}
use Rattle.reql_write_spec.specs.declared.command.Act.TheVariants as act
use Rattle.reql_write_spec.specs.declared.command.Conflict.TheVariants as conflict
use Rattle.reql_write_spec.specs.declared.command.Returns.{Returns}
use Rattle.reql_write_spec.specs.declared.command.Returns.TheVariants as returns
use Rattle.reql_write_spec.specs.declared.command.Summary.{Summary}
use Rattle.reql_feed_spec.specs.Worked.{doc, row, item, placed, first_at}
use Rattle.reql_feed_spec.specs.declared.kind.FeedKind.{FeedKind}
use Rattle.reql_feed_spec.specs.declared.kind.FeedKind.TheVariants as kinds
use Rattle.reql_table_machine_spec.specs.declared.command.Said.{Said}
use Rattle.reql_table_machine_spec.specs.declared.command.Said.TheVariants as said
use Rattle.reql_table_spec.specs.Machine.{State, step, seen, unused}
use Rattle.reql_table_spec.specs.Replies.{Answered}
use Rattle.reql_table_spec.specs.declared.command.Cmd.{Cmd}
use Rattle.reql_table_spec.specs.declared.command.Cmd.TheVariants as cmds
use Rattle.reql_table_spec.specs.declared.command.FeedSpec.{FeedSpec}
use Rattle.reql_table_spec.specs.declared.command.Order.{Order}

-- ---- histories
abbrev order_for : Cmd → Order
order_for cmd = record { points = []; cmd = cmd }

-- the user 5 gives each command
abbrev run : State → List Cmd → State
run s [] = s
run s (c ∷ cs) = run (step s 5 (order_for c)).0 cs

abbrev answer : State → Cmd → Answered
answer s c = (step s 5 (order_for c)).1

abbrev told : ℕ → ℕ → Said Summary Plain → Answered
told place stamp x = record { place = place; stamp = stamp; said = x }

abbrev fresh : State
fresh = unused 2 2

-- ---- writes
abbrev write : Returns → Act → Cmd
write returns act = cmds.Write (record { key = codes "id"; act = act; returns = returns; hard = true })

abbrev insert : List Plain → Cmd
insert ds = write returns.No (act.Insert ds conflict.Error [])

abbrev get : ℕ → Form
get k = call op.Get (slot 0 ∷ num k ∷ [])

abbrev update : ℕ → Plain → Cmd
update k d = write returns.No (act.Update (get k) (literal d))

abbrev delete : ℕ → Cmd
delete k = write returns.No (act.Delete (get k))

abbrev nothing_done : Summary
nothing_done = record { deleted = 0; errors = 0; inserted = 0; replaced = 0; skipped = 0; unchanged = 0; first_error = None; generated = []; changes = None }

abbrev error : String → Summary
error why = record nothing_done { errors = 1; first_error = Some (codes why) }

abbrev only_n : ℕ → Plain
only_n k = o ((codes "n", n k) ∷ [])

abbrev only_id : ℕ → Plain
only_id k = o ((codes "id", n k) ∷ [])

-- ---- indexes and feeds
abbrev by_n : Index
by_n = (fun (field "n"), false)

abbrev index : String → Bool → Cmd
index k multi = cmds.IndexCreate (record { name = codes k; func = fun (field "n"); multi = multi })

abbrev feed : FeedKind → Form → Option String → ℕ → Bool → Bool → FeedSpec
feed kind shape i size offsets squash = record { key = codes "id"; shape = shape; index = named i; kind = kind; size = size; offsets = offsets; types = false; squash = squash }
  where
    named : Option String → Option Bytes
    named None = None
    named (Some s) = Some (codes s)

abbrev first_by_n : ℕ → Form
first_by_n k = call op.Limit (with op.OrderBy (slot 0 ∷ []) ((codes "index", name "n") ∷ []) ∷ num k ∷ [])

abbrev first : ℕ → Cmd
first k = cmds.Subscribe (feed (kinds.Limit k) (first_by_n k) (Some "n") 100 true false)

abbrev whole : ℕ → Bool → Cmd
whole size squash = cmds.Subscribe (feed kinds.Range (slot 0) None size false squash)

abbrev point : ℕ → Cmd
point k = cmds.Subscribe (feed kinds.Point (get k) None 100 false false)

-- ---- an insert, its duplicate, and what is read then
abbrev pub Inserted : Type 0
Inserted =
    (answer fresh (insert (doc 1 5 ∷ [])) ≡ told 1 1 (said.Done (record nothing_done { inserted = 1 })))
    × (seen (run fresh (insert (doc 1 5 ∷ []) ∷ [])) ≡ record { place = 1; stamp = 1; view = Some (row 1 5 ∷ [], []) })
    × (answer (run fresh (insert (doc 1 5 ∷ []) ∷ [])) (insert (doc 1 5 ∷ [])) ≡ told 2 1 (said.Done (error "Duplicate primary key `id`.")))

-- after it: an update that changes nothing, one of no document, a replacement under another key, and a delete that lists its change
abbrev one : State
one = run fresh (insert (doc 1 5 ∷ []) ∷ [])

abbrev replace : ℕ → Plain → Cmd
replace k d = write returns.No (act.Replace (get k) (literal d))

abbrev pub Written : Type 0
Written =
    (answer one (update 1 (only_n 5)) ≡ told 2 1 (said.Done (record nothing_done { unchanged = 1 })))
    × (answer (run one (update 1 (only_n 5) ∷ [])) (update 7 (only_n 5)) ≡ told 3 1 (said.Done (record nothing_done { skipped = 1 })))
    × (answer (run one (update 1 (only_n 5) ∷ update 7 (only_n 5) ∷ [])) (replace 1 (only_id 2)) ≡ told 4 1 (said.Done (error "Primary key `id` cannot be changed.")))
    × (answer (run one (update 1 (only_n 5) ∷ update 7 (only_n 5) ∷ replace 1 (only_id 2) ∷ [])) (write returns.Changed (act.Delete (get 1)))
    ≡ told 5 2 (said.Done (record nothing_done { deleted = 1; changes = Some (item null (doc 1 5) ∷ []) })))

-- indexes: made twice; renamed to a name that is there, to one that gives way, to itself, and one that isn't there; dropped twice
abbrev ab : State
ab = run fresh (index "a" false ∷ index "b" true ∷ [])

abbrev rename : String → String → Bool → Cmd
rename old new overwrite = cmds.IndexRename (codes old) (codes new) overwrite

abbrev drop : String → Cmd
drop k = cmds.IndexDrop (codes k)

abbrev pub Indexed : Type 0
Indexed =
    (answer fresh (index "tags" true) ≡ told 1 0 said.Changed)
    × (answer (run fresh (index "tags" true ∷ [])) (index "tags" true) ≡ told 2 0 said.IndexExists)
    × (answer ab (rename "a" "b" false) ≡ told 3 0 said.IndexExists)
    × (answer ab (rename "a" "b" true) ≡ told 3 0 said.Changed)
    × ((run ab (rename "a" "b" true ∷ [])).table.indexes ≡ (codes "b", by_n) ∷ [])
    × (answer ab (rename "a" "a" false) ≡ told 3 0 said.Changed)
    × (answer ab (rename "c" "c" false) ≡ told 3 0 said.IndexMissing)
    × (answer ab (drop "a") ≡ told 3 0 said.Changed)
    × (answer (run ab (drop "a" ∷ [])) (drop "a") ≡ told 4 0 said.IndexMissing)
    × (answer fresh cmds.Sync ≡ told 1 0 said.Changed)

-- the first two of three that tie open with their places, and the third comes where the first goes; a new document comes last; one moves behind the
-- others; and the first none never tell anything
abbrev three : ℕ → ℕ → ℕ → Cmd
three i j k = insert (doc 1 i ∷ doc 2 j ∷ doc 3 k ∷ [])

abbrev tied : State
tied = run fresh (index "n" false ∷ three 7 7 7 ∷ [])

abbrev two : State
two = run fresh (index "n" false ∷ insert (doc 1 5 ∷ doc 2 6 ∷ []) ∷ first 3 ∷ insert (doc 3 9 ∷ []) ∷ [])

abbrev moved : ℕ → State
moved k = run fresh (index "n" false ∷ three 1 2 3 ∷ first k ∷ update 1 (only_n 9) ∷ [])

abbrev pub Ordered : Type 0
Ordered =
    (answer tied (first 2) ≡ told 3 3 (said.Opened 3 (first_at 0 (doc 1 7) ∷ first_at 1 (doc 2 7) ∷ [])))
    × (answer (run tied (first 2 ∷ delete 1 ∷ [])) (cmds.Take 3 1000) ≡ told 5 4 (said.Batch 0 0 ((4, placed (n 1) (doc 3 7) (n 0) (doc 1 7)) ∷ [])))
    × (answer two (cmds.Take 3 1000) ≡ told 5 3 (said.Batch 0 0 ((3, placed (n 2) (doc 3 9) null null) ∷ [])))
    × (answer (moved 3) (cmds.Take 3 1000) ≡ told 5 4 (said.Batch 0 0 ((4, placed (n 2) (doc 1 9) (n 0) (doc 1 1)) ∷ [])))
    × (answer (moved 0) (cmds.Take 3 1000) ≡ told 4 4 said.Nothing)

-- a feed outlives its index; an index that isn't there, or is a multi index, opens no limit feed; the key field needs no index; and no more feeds are
-- open than may be
abbrev first_by_key : ℕ → Cmd
first_by_key k = cmds.Subscribe (feed (kinds.Limit k) (call op.Limit (with op.OrderBy (slot 0 ∷ []) ((codes "index", call op.Desc (name "id" ∷ [])) ∷ []) ∷ num k ∷ [])) (Some "id") 100 true false)

abbrev pub Followed : Type 0
Followed =
    (answer (run fresh (index "n" false ∷ three 1 2 3 ∷ first 2 ∷ drop "n" ∷ delete 1 ∷ [])) (cmds.Take 3 1000) ≡ told 6 4 (said.Batch 0 0 ((4, placed (n 1) (doc 3 3) (n 0) (doc 1 1)) ∷ [])))
    × (answer fresh (first 2) ≡ told 1 0 said.IndexMissing)
    × (answer (run fresh (index "n" true ∷ [])) (first 2) ≡ told 2 0 said.IndexMissing)
    × (answer (run fresh (three 1 2 3 ∷ [])) (first_by_key 2) ≡ told 2 3 (said.Opened 2 (first_at 0 (doc 3 3) ∷ first_at 1 (doc 2 2) ∷ [])))
    × (answer (run fresh (whole 2 false ∷ point 1 ∷ [])) (whole 2 false) ≡ told 3 0 (said.FeedsFull 2))

-- a full queue drops its oldest item and tells it; of a dropped table what waits is given, then nothing more
abbrev pub Queued : Type 0
Queued =
    (answer fresh (whole 2 false) ≡ told 1 0 (said.Opened 1 []))
    × (answer (run fresh (whole 2 false ∷ insert (only_id 1 ∷ only_id 2 ∷ only_id 3 ∷ []) ∷ [])) (cmds.Take 1 1000) ≡ told 3 3 (said.Batch 1 1 ((2, item (only_id 2) null) ∷ (3, item (only_id 3) null) ∷ [])))
    × (answer (run fresh (whole 2 false ∷ cmds.Shut ∷ [])) (cmds.Take 1 1000) ≡ told 2 0 said.Gone)
    × (answer (run fresh (whole 2 false ∷ insert (only_id 1 ∷ []) ∷ cmds.Shut ∷ [])) (cmds.Take 1 1000) ≡ told 4 1 (said.Batch 0 0 ((1, item (only_id 1) null) ∷ [])))
    × (answer (run fresh (whole 2 false ∷ cmds.Shut ∷ [])) (cmds.Unsubscribe 1) ≡ told 3 0 said.Closed)
    × (answer (run fresh (cmds.Shut ∷ [])) (insert (doc 1 5 ∷ [])) ≡ told 1 0 said.Gone)
    × (seen (run fresh (cmds.Shut ∷ [])) ≡ record { place = 1; stamp = 0; view = None })

-- a point feed opens with its document, or with null
abbrev pub Pointed : Type 0
Pointed =
    (answer fresh (point 1) ≡ told 1 0 (said.Opened 1 (o ((codes "new_val", null) ∷ []) ∷ [])))
    × (answer one (point 1) ≡ told 2 1 (said.Opened 2 (o ((codes "new_val", doc 1 5) ∷ []) ∷ [])))
    × (answer (run fresh (point 1 ∷ insert (doc 1 5 ∷ doc 2 5 ∷ []) ∷ [])) (cmds.Take 1 1000) ≡ told 3 2 (said.Batch 0 0 ((1, item (doc 1 5) null) ∷ [])))

-- spellings: bounds and keys that are closed terms, one bound said and the other as it is usual, ASC of an index, and a table's slot of another number
abbrev sum : ℕ → ℕ → Form
sum i j = call op.Add (num i ∷ num j ∷ [])

abbrev above_two : Form
above_two = with op.Between (slot 7 ∷ sum 1 1 ∷ num 9 ∷ []) ((codes "index", name "n") ∷ (codes "left_bound", name "open") ∷ [])

abbrev first_above_two : ℕ → Cmd
first_above_two k = cmds.Subscribe (feed (kinds.Limit k) (call op.Limit (with op.OrderBy (above_two ∷ []) ((codes "index", call op.Asc (name "n" ∷ [])) ∷ []) ∷ num k ∷ [])) (Some "n") 100 true false)

abbrev pub Spelled : Type 0
Spelled =
    (answer (run fresh (index "n" false ∷ three 4 2 3 ∷ [])) (first_above_two 5) ≡ told 3 3 (said.Opened 3 (first_at 0 (doc 3 3) ∷ first_at 1 (doc 1 4) ∷ [])))
    × (answer one (cmds.Subscribe (feed kinds.Point (call op.Get (slot 7 ∷ sum 0 1 ∷ [])) None 100 false false)) ≡ told 2 1 (said.Opened 2 (o ((codes "new_val", doc 1 5) ∷ []) ∷ [])))

-- joined: a document and its update are one item, and one that went and came again as it was is none, though the Take is an entry
abbrev joined : State
joined = run fresh (whole 100 true ∷ insert (doc 1 1 ∷ []) ∷ update 1 (only_n 2) ∷ [])

abbrev pub Squashed : Type 0
Squashed =
    (answer joined (cmds.Take 1 1000) ≡ told 4 2 (said.Batch 0 0 ((2, item (doc 1 2) null) ∷ [])))
    × (answer (run joined (cmds.Take 1 1000 ∷ delete 1 ∷ insert (doc 1 2 ∷ []) ∷ [])) (cmds.Take 1 1000) ≡ told 7 4 (said.Batch 0 0 []))

-- where the numbers of a history end, a command is refused, and the table stays
abbrev last_place : State
last_place = record fresh { table = record (fresh).table { place = 2 ^ 64 - 1 } }

abbrev pub Ended : Type 0
Ended =
    (answer last_place cmds.Sync ≡ told (2 ^ 64 - 1) 0 (said.HistoryFull (2 ^ 64 - 1)))
    × (run last_place (cmds.Sync ∷ []) ≡ last_place)
