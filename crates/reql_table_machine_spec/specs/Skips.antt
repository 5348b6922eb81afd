-- What a full queue drops, and what is told of it.
use Rattle.std.specs.Prelude.{◌≡◌, ◌≢◌, ◌≤◌, ℕ, ◌+◌, ◌-◌, ◌^◌, min, max, List, [], ◌∷◌, ◌++◌, length, take, drop, Bool, false, nat_eq, Some}
use Rattle.std.specs.List.{AllByRecursion}
use Rattle.reql_shared.specs.declared.recorded.Recorded.{Recorded}
use Rattle.reql_shared.specs.Machine.{replay}
use Rattle.reql_table_machine_spec.specs.Feeding.{Feeding, appended}
use Rattle.reql_table_machine_spec.specs.Feeds.{Feed, Table, push_all, find_feed, table_machine}
use Rattle.reql_table_machine_spec.specs.Fed.{changes_from}
use Rattle.reql_table_machine_spec.specs.declared.command.Cmd.{Cmd}
use Rattle.reql_table_machine_spec.specs.declared.command.Cmd.TheVariants as cmds
use Rattle.reql_table_machine_spec.specs.declared.command.Order.{Order}

module _ {I : Type 0} where
  -- the stamp of the last of some items, or else the one that was there
  abbrev pub last_stamp : ℕ → List (ℕ × I) → ℕ
  last_stamp n [] = n
  last_stamp n (p ∷ ps) = last_stamp p.0 ps

module _ {K I : Type 0} where
  -- how many of the items that are queued and that come have no place
  abbrev pub excess : ℕ → Feed K I → List (ℕ × I) → ℕ
  excess size f ps = (length f.queue + length ps) - max 1 size

  -- a feed after some items came: the newest stay, those without a place are counted up to the count's end, and the last of these is told
  abbrev pub pushed : ℕ → Feed K I → List (ℕ × I) → Feed K I
  pushed size f ps = record f {
    queue = drop (excess size f ps) (f.queue ++ ps);
    skipped = min (f.skipped + excess size f ps) (2 ^ 64 - 1);
    last = last_stamp f.last (take (excess size f ps) (f.queue ++ ps));
  }

  -- a queue within its size, and a count within its end
  pub record Fits (size : ℕ) (f : Feed K I) : Type 0 where
    pub queued : length f.queue ≤ max 1 size
    pub counted : f.skipped ≤ 2 ^ 64 - 1

  -- and where something was skipped since the last Take, the queue is full
  pub record Full (size : ℕ) (f : Feed K I) : Type 0 where
    pub fits : Fits size f
    pub full : f.skipped ≢ 0 → length f.queue ≡ max 1 size

module _ {W N P : Type 0} where
  -- whether a command takes from a feed of this number, or closes it
  abbrev pub names_feed : ℕ → Cmd W N P → Bool
  names_feed number (cmds.Take feed max) = nat_eq feed number
  names_feed number (cmds.Unsubscribe feed) = nat_eq feed number
  names_feed number other = false

module _ {D J W N P M X K I F : Type 0} (m : Feeding D J W N P M X K I F) where
  -- the whole feed after some items came: rules out a skip that is told of a queue with room, an item that is dropped and not counted, and one that is
  -- dropped before an older one
  abbrev pub OldestAreSkipped : Type 0
  OldestAreSkipped = (size : ℕ) (f : Feed K I) (ps : List (ℕ × I)) → Fits size f → push_all size f ps ≡ pushed size f ps

  -- what is queued and what was skipped are together all that came, until the count's end
  abbrev pub SkipsCount : Type 0
  SkipsCount = (size : ℕ) (f : Feed K I) (ps : List (ℕ × I)) → Fits size f → f.skipped + excess size f ps ≤ 2 ^ 64 - 1
      → length (push_all size f ps).queue + (push_all size f ps).skipped ≡ length f.queue + f.skipped + length ps

  -- where there is room for all that come, they are queued and nothing else changes
  abbrev pub NothingIsSkipped : Type 0
  NothingIsSkipped = (size : ℕ) (f : Feed K I) (ps : List (ℕ × I)) → length f.queue + length ps ≤ max 1 size → push_all size f ps ≡ record f { queue = f.queue ++ ps }

  -- a feed that has a skip to tell has a full queue, in any table that a history leads to: rules out a skip that comes from anything else
  abbrev pub SkipsOfFullQueues : Type 0
  SkipsOfFullQueues = (o : Table D J K I) (history : List (Recorded (Order (Cmd W N P)))) → o.feeds ≡ []
      → AllByRecursion (λ (f : Feed K I). Full (m.size f.kept) f) (replay (table_machine m) o history).feeds

  -- a feed after entries none of which is its owner's Take or Unsubscribe of it: what their changes append to it has come, and nothing else; so a Take
  -- tells a skip only where what the one before left, and what came since, were more than the queue's size
  abbrev pub SkipsBetweenTakes : Type 0
  SkipsBetweenTakes = (t : Table D J K I) (history : List (Recorded (Order (Cmd W N P)))) (by number : ℕ) (f : Feed K I) → find_feed by number t.feeds ≡ Some f → Fits (m.size f.kept) f
      → AllByRecursion (λ (e : Recorded (Order (Cmd W N P))). e.by ≡ by → names_feed number e.cmd.cmd ≡ false) history
      → find_feed by number (replay (table_machine m) t history).feeds ≡ Some (pushed (m.size f.kept) f (appended m f.kept t.docs t.stamp (changes_from m t history)))
