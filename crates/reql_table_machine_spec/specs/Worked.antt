-- Worked rows of feeds, on a table of one number.
use Rattle.std.specs.Prelude.{◌≡◌, ℕ, List, [], ◌∷◌, false}
use Rattle.reql_table_machine_spec.specs.Feeds.{Table, after_cmd, reply_to_cmd, opening_table}
use Rattle.reql_table_machine_spec.specs.Sample.{one_number}
use Rattle.reql_table_machine_spec.specs.declared.command.Cmd.{Cmd}
use Rattle.reql_table_machine_spec.specs.declared.command.Cmd.TheVariants as cmds
use Rattle.reql_table_machine_spec.specs.declared.command.Reply.{Reply}
use Rattle.reql_table_machine_spec.specs.declared.command.Said.{Said}
use Rattle.reql_table_machine_spec.specs.declared.command.Said.TheVariants as said
use Rattle.reql_table_machine_spec.specs.declared.sample.Kept.{Kept}

abbrev T : Type 0
T = Table ℕ ℕ Kept ℕ

abbrev run : T → ℕ → Cmd (List ℕ) ℕ Kept → T
run t by c = after_cmd one_number t by c

abbrev told : T → ℕ → Cmd (List ℕ) ℕ Kept → Reply (Said ℕ ℕ)
told t by c = reply_to_cmd one_number t by c

abbrev small : Kept
small = record { size = 2; squash = false }

-- a feed with a queue of 2, three changes, a Take: one was skipped, at stamp 1
abbrev opened : T
opened = run (opening_table one_number 0 0) 5 (cmds.Subscribe small)

abbrev written : T
written = run opened 6 (cmds.Write (1 ∷ 2 ∷ 3 ∷ []))

-- then an item is taken, two changes push out the one that was left, and what waits is taken
abbrev pushed_out : T
pushed_out = run (run written 5 (cmds.Take 1 1)) 6 (cmds.Write (4 ∷ 5 ∷ []))

-- an item that was dropped is told with the stamp of its change, once, by the next Take, also one that a Take had left; another's Take is answered that
-- the feed is unknown, and is an entry; a Take of an empty queue is none; of a dropped table what is queued is given, then nothing more; an Unsubscribe of
-- an open feed is answered all the same; and no more feeds than the most are open
abbrev pub Rows : Type 0
Rows =
    (told (opening_table one_number 0 0) 5 (cmds.Subscribe small) ≡ record { place = 1; stamp = 0; said = said.Opened 1 (0 ∷ []) })
    × (told written 5 (cmds.Take 1 1000) ≡ record { place = 3; stamp = 3; said = said.Batch 1 1 ((2, 2) ∷ (3, 3) ∷ []) })
    × (told pushed_out 5 (cmds.Take 1 1000) ≡ record { place = 5; stamp = 5; said = said.Batch 1 3 ((4, 4) ∷ (5, 5) ∷ []) })
    × (told (run (run pushed_out 5 (cmds.Take 1 1000)) 6 (cmds.Write (6 ∷ []))) 5 (cmds.Take 1 1000) ≡ record { place = 7; stamp = 6; said = said.Batch 0 3 ((6, 6) ∷ []) })
    × (told written 6 (cmds.Take 1 1000) ≡ record { place = 3; stamp = 3; said = said.FeedUnknown 1 })
    × (told (run written 5 (cmds.Take 1 1000)) 5 (cmds.Take 1 1000) ≡ record { place = 3; stamp = 3; said = said.Nothing })
    × (told (run written 6 cmds.Shut) 5 (cmds.Take 1 1) ≡ record { place = 4; stamp = 3; said = said.Batch 1 1 ((2, 2) ∷ []) })
    × (told (run (run written 5 (cmds.Take 1 1000)) 6 cmds.Shut) 5 (cmds.Take 1 1) ≡ record { place = 4; stamp = 3; said = said.Gone })
    × (told (run written 6 cmds.Shut) 5 (cmds.Unsubscribe 1) ≡ record { place = 4; stamp = 3; said = said.Closed })
    × (told (run (run opened 6 (cmds.Subscribe small)) 6 cmds.Sync) 7 (cmds.Subscribe small) ≡ record { place = 4; stamp = 0; said = said.FeedsFull 2 })
