-- Worked rows on the session machine: a feed that waits, a STOP, a drop, items that were skipped, want of memory, a united
-- feed, cursors; and the bodies of answers.
use Rattle.std.specs.Prelude.{◌≡◌, ℕ, pos, List, [], ◌∷◌, true, false, Some, None, codes}
use Rattle.reql_datum.specs.Plain.{Plain, null, number}
use Rattle.reql_answer.specs.declared.error.ErrorType.TheVariants as errors
use Rattle.reql_feed_spec.specs.Shown.{skip_item}
use Rattle.reql_rules.specs.Lists.{object_of}
use Rattle.reql_table_spec.specs.Limits.{usual_limits}
use Rattle.reql_table_spec.specs.Replies.{Answered as Told}
use Rattle.reql_table_spec.specs.declared.command.Cmd.TheVariants as cmds
use Rattle.reql_table_spec.specs.declared.reply.Saved.TheVariants as saved
use Rattle.reql_table_machine_spec.specs.declared.command.Said.TheVariants as said
use Rattle.reql_session_spec.specs.Requests.{Start, Continue, Stop, NoreplyWait, Arm, Skip, Change, Shown, Stream, SawNames, RanSlot, Answer, Client, Failed, Internal, Atom, Last, Part, Batch, Waited, Info, Found, point, stamped}
use Rattle.reql_session_spec.specs.Books.{Open, Books, no_books}
use Rattle.reql_session_spec.specs.Bodies.{body, in_use, not_open, at_wait}
use Rattle.reql_session_spec.specs.Tasks.{Talk, is_long, cut_to, Task, Planning, Visiting, Telling, Closing, Stops, Drops, Settled, done, at, only_tell, wanted, denied, told, begin, takes_up, ran, found_more, comes_to, fitted, tell, tell_now}
use Rattle.reql_session_spec.specs.Sample.{sample, watch, dropped, feed_end, kept_end}
use Rattle.reql_catalog.specs.Machine.{no_names}

abbrev arm : Arm
arm = record { slot = 0; feed = 1; dropped = dropped }

-- an arm as a plan has it before its feed is told of
abbrev opened_arm : Arm
opened_arm = record { slot = 0; feed = 1; dropped = [] }

abbrev opened : Told
opened = record { place = 1; stamp = 0; said = said.Opened 1 [] }

abbrev seen : Found
seen = SawNames 5 (no_names 0).names

abbrev planned : Task ℕ
planned = Planning 9 0 false 0 (seen ∷ RanSlot 0 opened saved.Yes ∷ []) (opened_arm ∷ [])

abbrev feed : Open
feed = record { token = 9; arms = arm ∷ []; left = []; batch = 2; notes = 1 ∷ [] }

abbrev open_books : Books
open_books = record { cursors = []; feeds = feed ∷ []; waiting = []; names = 5 }

abbrev looked : Books
looked = record no_books { names = 5 }

abbrev waiting_books : Books
waiting_books = record open_books { waiting = 9 ∷ [] }

-- a START of a feed: the names are looked at, the feed is opened, and it is told of
abbrev pub Opening : Type 0
Opening =
    (begin sample no_books 9 (Start false 0) ≡ at no_books (Planning 9 0 false 0 [] []))
    × (found_more sample looked (Planning 9 0 false 0 [] []) seen ≡ at looked (Planning 9 0 false 0 (seen ∷ []) []))
    × (ran sample looked (Planning 9 0 false 0 (seen ∷ []) []) 0 (cmds.Subscribe watch) opened saved.Yes ≡ at looked planned)
    × (comes_to sample looked 9 2 (seen ∷ RanSlot 0 opened saved.Yes ∷ []) (opened_arm ∷ []) (feed_end opened.said)
    ≡ tell sample looked 9 (Batch (1 ∷ []) [] (Some (stamped 5 (point 0 1 0 ∷ [])))) open_books (arm ∷ []) (Some (arm ∷ [])))

-- memory is wanted after the Subscribe, and again before the answer was sent; or the Subscribe was not kept on disk: each time
-- one Unsubscribe comes before the answer
abbrev pub Lost : Type 0
Lost =
    (wanted looked planned ≡ at looked (Closing 9 (opened_arm ∷ []) Settled (Some Internal)))
    × (wanted {PL = ℕ} looked (Telling 9 (Batch (1 ∷ []) [] None) open_books (Some (arm ∷ [])) None) ≡ at looked (Closing 9 (arm ∷ []) Settled (Some Internal)))
    × (comes_to sample looked 9 2 (seen ∷ RanSlot 0 opened saved.Failed ∷ []) (opened_arm ∷ []) (kept_end opened.said saved.Failed)
    ≡ at looked (Closing 9 (opened_arm ∷ []) Settled (Some (fitted sample (Failed errors.OpFailed (codes "Journal failed.") (Some (stamped 5 (point 0 1 0 ∷ []))))))))
    × (takes_up sample open_books 9 (91 ∷ 50 ∷ 93 ∷ []) false ≡ only_tell open_books 9 Internal)

-- a CONTINUE that finds nothing waits, and a second one is refused; a STOP answers it first, and then closes its feed, which
-- stays open where the Unsubscribe is refused for memory
abbrev pub Waiting : Type 0
Waiting =
    (begin sample open_books 9 Continue ≡ at open_books (Visiting 9 (arm ∷ []) []))
    × (ran sample open_books (Visiting 9 (arm ∷ []) []) 0 (cmds.Take 1 2) (record { place = 1; stamp = 0; said = said.Nothing }) saved.Yes ≡ done waiting_books)
    × (begin sample waiting_books 9 Continue ≡ tell_now sample waiting_books 9 (Client (at_wait 9)))
    × (begin sample waiting_books 9 Stop ≡ at waiting_books (Telling 9 (Last [] None) open_books None (Some (arm ∷ []))))
    × (told {PL = ℕ} 9 open_books (Some (arm ∷ [])) ≡ at open_books (Closing 9 (arm ∷ []) Stops (Some (Last [] None))))
    × (ran sample open_books (Closing 9 (arm ∷ []) Stops (Some (Last [] None))) 0 (cmds.Unsubscribe 1) (record { place = 2; stamp = 0; said = said.Closed }) saved.Yes ≡ only_tell looked 9 (Last [] None))
    × (denied {PL = ℕ} open_books (Closing 9 (arm ∷ []) Stops (Some (Last [] None))) 0 (cmds.Unsubscribe 1) ≡ only_tell open_books 9 Internal)

abbrev shown : ℕ → ℕ → Shown
shown stamp item = record { at = 0; arm = arm; sort = Change; stamp = stamp; item = number (pos item) }

abbrev skipped : Shown
skipped = record { at = 0; arm = arm; sort = Skip; stamp = 1; item = skip_item 1 }

-- a visit finds what was skipped and three items, of which one is left; the next CONTINUE tells it without a visit; memory that
-- is wanted before the batch was sent closes the feed
abbrev pub Visited : Type 0
Visited =
    (ran sample open_books (Visiting 9 (arm ∷ []) []) 0 (cmds.Take 1 2) (record { place = 3; stamp = 4; said = said.Batch 1 1 ((2, number (pos 20)) ∷ (3, number (pos 30)) ∷ (4, number (pos 40)) ∷ []) }) saved.Yes
    ≡ tell sample open_books 9 (Batch (1 ∷ []) (skipped ∷ shown 2 20 ∷ shown 3 30 ∷ []) (Some (stamped 5 (point 0 3 4 ∷ [])))) (record open_books { feeds = record feed { left = shown 4 40 ∷ [] } ∷ [] }) (arm ∷ []) (Some (arm ∷ [])))
    × (begin sample (record open_books { feeds = record feed { left = shown 4 40 ∷ [] } ∷ [] }) 9 Continue
    ≡ tell sample (record open_books { feeds = record feed { left = shown 4 40 ∷ [] } ∷ [] }) 9 (Batch (1 ∷ []) (shown 4 40 ∷ []) None) open_books (arm ∷ []) None)
    × (wanted {PL = ℕ} open_books (Telling 9 (Batch (1 ∷ []) (skipped ∷ []) None) open_books (Some (arm ∷ [])) None) ≡ at looked (Closing 9 (arm ∷ []) Settled (Some Internal)))
    × (ran sample open_books (Visiting 9 (arm ∷ []) []) 0 (cmds.Take 1 2) (record { place = 3; stamp = 3; said = said.Batch 0 0 [] }) saved.Yes ≡ done waiting_books)

-- a united feed, of slots 0 and 1: a visit goes on to the second arm where the first has nothing; where the second's table was
-- dropped, the first is closed before that is told
abbrev second : Arm
second = record { slot = 1; feed = 4; dropped = codes "Table `test.b` was dropped." }

abbrev united : Open
united = record { token = 9; arms = arm ∷ second ∷ []; left = []; batch = 2; notes = 4 ∷ [] }

abbrev united_books : Books
united_books = record { cursors = []; feeds = united ∷ []; waiting = []; names = 5 }

abbrev dropped_so : Answer
dropped_so = Failed errors.OpFailed (codes "Table `test.b` was dropped.") (Some (stamped 5 (point 0 1 0 ∷ point 1 6 2 ∷ [])))

abbrev pub United : Type 0
United =
    (ran sample united_books (Visiting 9 (arm ∷ second ∷ []) []) 0 (cmds.Take 1 2) (record { place = 1; stamp = 0; said = said.Nothing }) saved.Yes ≡ at united_books (Visiting 9 (second ∷ []) (point 0 1 0 ∷ [])))
    × (ran sample united_books (Visiting 9 (second ∷ []) (point 0 1 0 ∷ [])) 1 (cmds.Take 4 2) (record { place = 6; stamp = 2; said = said.Gone }) saved.Yes
    ≡ at united_books (Closing 9 (arm ∷ []) Drops (Some (fitted sample dropped_so))))
    × (ran sample united_books (Closing 9 (arm ∷ []) Drops (Some dropped_so)) 0 (cmds.Unsubscribe 1) (record { place = 2; stamp = 0; said = said.Closed }) saved.Yes ≡ only_tell looked 9 dropped_so)

-- the table was dropped: OP_FAILED, and the token is closed; a CONTINUE on it is refused then; while it is open a START is
abbrev pub Dropped : Type 0
Dropped =
    (ran sample open_books (Visiting 9 (arm ∷ []) []) 0 (cmds.Take 1 2) (record { place = 2; stamp = 0; said = said.Gone }) saved.Yes
    ≡ at open_books (Telling 9 (fitted sample (Failed errors.OpFailed dropped (Some (stamped 5 (point 0 2 0 ∷ []))))) looked None None))
    × (begin sample looked 9 Continue ≡ tell_now sample looked 9 (Client (not_open 9)))
    × (begin sample open_books 9 (Start false 0) ≡ tell_now sample open_books 9 (Client (in_use 9)))
    × (begin sample open_books 9 (Start true 0) ≡ done open_books)

-- a stream of three values in batches of two is a cursor with one left, whose last batch closes it
abbrev three : List Plain
three = number (pos 1) ∷ number (pos 2) ∷ number (pos 3) ∷ []

abbrev cursor_books : Books
cursor_books = record looked { cursors = record { token = 2; rest = number (pos 3) ∷ []; batch = 2 } ∷ [] }

abbrev pub Streamed : Type 0
Streamed =
    (comes_to sample looked 2 2 (seen ∷ []) [] (Stream three) ≡ tell sample looked 2 (Part (number (pos 1) ∷ number (pos 2) ∷ []) (Some (stamped 5 []))) cursor_books [] None)
    × (begin sample cursor_books 2 Continue ≡ tell sample cursor_books 2 (Last (number (pos 3) ∷ []) None) looked [] None)
    × (begin sample cursor_books 2 Stop ≡ at cursor_books (Telling 2 (Last [] None) looked None None))

-- the bodies of answers, and an answer that is too long for its limit with the fault that it gives way to; such a refusal closes nothing
abbrev inserted : Answer
inserted = Batch (4 ∷ []) (record { at = 1; arm = second; sort = Change; stamp = 1; item = changed } ∷ []) (Some (stamped 0 (point 0 1 0 ∷ point 1 3 1 ∷ [])))
  where
    changed : Plain
    changed = object_of ((codes "new_val", object_of ((codes "id", number (pos 1)) ∷ [])) ∷ (codes "old_val", null) ∷ [])

abbrev small : Talk ℕ
small = record sample { limits = record usual_limits { answer = 20 } }

abbrev pub Spoken : Type 0
Spoken =
    (body (Last [] None) ≡ codes "{\"n\":[],\"r\":[],\"t\":2}")
    × (body Waited ≡ codes "{\"n\":[],\"r\":[],\"t\":4}")
    × (body Info ≡ codes "{\"n\":[],\"r\":[{\"id\":\"00000000-0000-0000-0000-000000000000\",\"name\":\"reqld\",\"proxy\":false}],\"t\":5}")
    × (body Internal ≡ codes "{\"b\":[],\"e\":1000000,\"r\":[\"Out of memory.\"],\"t\":18}")
    × (body (Client (not_open 7)) ≡ codes "{\"b\":[],\"r\":[\"Token 7 has no open cursor.\"],\"t\":16}")
    × (body (Atom null (stamped 0 (point 0 0 0 ∷ []))) ≡ codes "{\"n\":[],\"r\":[null],\"s\":{\"c\":0,\"t\":[[0,0,0]]},\"t\":1}")
    × (body (Part (number (pos 1) ∷ number (pos 2) ∷ []) None) ≡ codes "{\"n\":[],\"r\":[1,2],\"t\":3}")
    × (body inserted ≡ codes "{\"a\":[1],\"f\":[1],\"n\":[4],\"r\":[{\"new_val\":{\"id\":1},\"old_val\":null}],\"s\":{\"c\":0,\"t\":[[0,1,0],[1,3,1]]},\"t\":3}")
    × (body (Failed errors.OpFailed dropped (Some (stamped 1 (point 0 2 0 ∷ [])))) ≡ codes "{\"b\":[],\"e\":4100000,\"r\":[\"Table `test.docs` was dropped.\"],\"s\":{\"c\":1,\"t\":[[0,2,0]]},\"t\":18}")
    × (is_long sample (Last [] None) ≡ false)
    × (is_long small (Last [] None) ≡ true)
    × (begin small open_books 9 NoreplyWait ≡ only_tell open_books 9 (cut_to small Waited))
    × (begin small open_books 9 (Start false 0) ≡ only_tell open_books 9 (cut_to small (Client (in_use 9))))
    × (cut_to small (Atom null (stamped 0 [])) ≡ Failed errors.ResourceLimit (codes "Answer over size limit `20`.") (Some (stamped 0 [])))
