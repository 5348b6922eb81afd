-- The table machine, with feeds.
use Rattle.std.specs.Prelude.{ℕ, suc, ◌-◌, ◌^◌, min, nat_eq, nat_lt, List, [], ◌∷◌, ◌++◌, length, map, filter, take, drop, Bool, true, false, ◌&&◌, ◌||◌, not, cond, Option, Some, None}
use Rattle.reql_table_machine_spec.specs.Feeding.{Feeding}
use Rattle.reql_table_machine_spec.specs.declared.command.Cmd.{Cmd}
use Rattle.reql_table_machine_spec.specs.declared.command.Cmd.TheVariants as cmds
use Rattle.reql_table_machine_spec.specs.declared.command.Order.{Order}
use Rattle.reql_table_machine_spec.specs.declared.command.Said.{Said}
use Rattle.reql_table_machine_spec.specs.declared.command.Said.TheVariants as said
use Rattle.reql_table_machine_spec.specs.declared.command.Reply.{Reply}
use Rattle.reql_table_machine_spec.specs.declared.command.Look.{Look}
use Rattle.reql_shared.specs.Machine.{Machine}

-- A feed: who opened it, its number, what it keeps of its request, the stamp at which it was opened, what is queued with
-- the stamps of its changes, how many items were dropped since a Take told it, and the stamp of the last that was dropped.
pub record Feed (K I : Type 0) : Type 0 where
  pub owner : ℕ
  pub number : ℕ
  pub kept : K
  pub opened : ℕ
  pub queue : List (ℕ × I)
  pub skipped : ℕ
  pub last : ℕ

-- A table: its documents and index definitions, its open feeds in the order of opening, whether it was dropped, the
-- number of its entries, and the number of their changes.
pub record Table (D J K I : Type 0) : Type 0 where
  pub docs : D
  pub indexes : J
  pub feeds : List (Feed K I)
  pub shut : Bool
  pub place : ℕ
  pub stamp : ℕ

module _ {I : Type 0} where
  abbrev pub is_none_queued : List (ℕ × I) → Bool
  is_none_queued [] = true
  is_none_queued (p ∷ q) = false

module _ {K I : Type 0} where
  -- a full queue drops its oldest item for each that comes; a size of 0 counts as 1
  abbrev pub dropping : Feed K I → List (ℕ × I) → ℕ × I → Feed K I
  dropping f [] p = record f { queue = p ∷ [] }
  dropping f (o ∷ q) p = record f { queue = q ++ p ∷ []; skipped = min (suc f.skipped) (2 ^ 64 - 1); last = o.0 }

  abbrev pub push : ℕ → Feed K I → ℕ × I → Feed K I
  push size f p = cond (nat_lt (length f.queue) size) (record f { queue = f.queue ++ p ∷ [] }) (dropping f f.queue p)

  abbrev pub push_all : ℕ → Feed K I → List (ℕ × I) → Feed K I
  push_all size f [] = f
  push_all size f (p ∷ ps) = push_all size (push size f p) ps

  -- the feed of this owner and number
  abbrev pub is_of : ℕ → ℕ → Feed K I → Bool
  is_of by number f = nat_eq f.owner by && nat_eq f.number number

  abbrev pub find_feed : ℕ → ℕ → List (Feed K I) → Option (Feed K I)
  find_feed by number [] = None
  find_feed by number (f ∷ fs) = cond (is_of by number f) (Some f) (find_feed by number fs)

  -- whether a Take finds something
  abbrev pub has_something : Feed K I → Bool
  has_something f = not (nat_eq f.skipped 0) || not (is_none_queued f.queue)

module _ {D J W N P M X K I F : Type 0} (m : Feeding D J W N P M X K I F) where
  -- what a Take gives of a feed, and what it leaves
  abbrev pub given_by : ℕ → Feed K I → List (ℕ × I)
  given_by max f = cond (m.squashes f.kept) (m.net f.kept f.queue) (take max f.queue)

  abbrev pub left_by : ℕ → Feed K I → Feed K I
  left_by max f = record f { queue = cond (m.squashes f.kept) [] (drop max f.queue); skipped = 0 }

  -- one single-document change: each feed is queued its items with the new stamp
  abbrev pub notice : D → ℕ → X → Feed K I → Feed K I
  notice d stamp x f = push_all (m.size f.kept) f (map (λ i. (suc stamp, i)) (m.items f.kept d x))

  abbrev pub after_change : Table D J K I → X → Table D J K I
  after_change t x = record t { docs = m.change t.docs x; feeds = map (notice t.docs t.stamp x) t.feeds; stamp = suc t.stamp }

  abbrev pub after_changes : Table D J K I → List X → Table D J K I
  after_changes t [] = t
  after_changes t (x ∷ xs) = after_changes (after_change t x) xs

  -- the feed that a Subscribe opens; its number is the place after it
  abbrev pub new_feed : Table D J K I → ℕ → K → Feed K I
  new_feed t by k = record { owner = by; number = suc t.place; kept = k; opened = t.stamp; queue = []; skipped = 0; last = 0 }

  abbrev pub opened_in : Table D J K I → ℕ → Option K → Table D J K I
  opened_in t by None = t
  opened_in t by (Some k) = cond (nat_lt (length t.feeds) m.most) (record t { feeds = t.feeds ++ new_feed t by k ∷ [] }) t

  abbrev pub opens : Table D J K I → Option K → Said M I
  opens t None = said.IndexMissing
  opens t (Some k) = cond (nat_lt (length t.feeds) m.most) (said.Opened (suc t.place) (m.opening k t.docs)) (said.FeedsFull m.most)

  -- a shut table answers Gone, but for a Take that finds items and an Unsubscribe of an open feed
  abbrev pub unless_shut : Table D J K I → Said M I → Said M I
  unless_shut t s = cond t.shut said.Gone s

  abbrev pub takes : Table D J K I → ℕ → ℕ → Option (Feed K I) → Said M I
  takes t feed max None = unless_shut t (said.FeedUnknown feed)
  takes t feed max (Some f) = cond (has_something f) (said.Batch f.skipped f.last (given_by max f)) (unless_shut t said.Nothing)

  abbrev pub closes : Table D J K I → ℕ → Option (Feed K I) → Said M I
  closes t feed None = unless_shut t (said.FeedUnknown feed)
  closes t feed (Some f) = said.Closed

  -- what a command is answered where the history has room for it
  abbrev pub says : Table D J K I → ℕ → Cmd W N P → Said M I
  says t by (cmds.Write w) = unless_shut t (said.Done (m.summary t.docs t.indexes w))
  says t by (cmds.Index n) = unless_shut t (m.index_said t.indexes n)
  says t by (cmds.Subscribe p) = unless_shut t (opens t (m.keep t.indexes p))
  says t by (cmds.Take feed max) = takes t feed max (find_feed by feed t.feeds)
  says t by (cmds.Unsubscribe feed) = closes t feed (find_feed by feed t.feeds)
  says t by cmds.Shut = unless_shut t said.Closed
  says t by cmds.Sync = unless_shut t said.Changed

  -- whether a command that is answered so adds an entry
  abbrev pub adds : Said M I → Bool
  adds said.Nothing = false
  adds said.Gone = false
  adds (said.HistoryFull count) = false
  adds other = true

  -- the table after a command that adds an entry, but for its place
  abbrev pub effect : Table D J K I → ℕ → Cmd W N P → Table D J K I
  effect t by (cmds.Write w) = after_changes t (m.changes t.docs t.indexes w)
  effect t by (cmds.Index n) = record t { indexes = m.indexed t.indexes n }
  effect t by (cmds.Subscribe p) = opened_in t by (m.keep t.indexes p)
  effect t by (cmds.Take feed max) = record t { feeds = map (λ f. cond (is_of by feed f) (left_by max f) f) t.feeds }
  effect t by (cmds.Unsubscribe feed) = record t { feeds = filter (λ f. not (is_of by feed f)) t.feeds }
  effect t by cmds.Shut = record t { shut = true }
  effect t by cmds.Sync = t

  abbrev pub one_more : Table D J K I → Table D J K I
  one_more t = record t { place = suc t.place }

  -- a history's numbers end at 2^64 - 1
  abbrev pub is_past : Table D J K I → Bool
  is_past t = nat_lt (2 ^ 64 - 1) t.place || nat_lt (2 ^ 64 - 1) t.stamp

  abbrev pub if_room : Table D J K I → Said M I → Said M I
  if_room then_so s = cond (adds s && is_past then_so) (said.HistoryFull (2 ^ 64 - 1)) s

  abbrev pub answer : Table D J K I → ℕ → Cmd W N P → Said M I
  answer t by cmd = if_room (one_more (effect t by cmd)) (says t by cmd)

  -- the table after a command, and what it is answered
  abbrev pub after_cmd : Table D J K I → ℕ → Cmd W N P → Table D J K I
  after_cmd t by cmd = cond (adds (answer t by cmd)) (one_more (effect t by cmd)) t

  abbrev pub reply_to_cmd : Table D J K I → ℕ → Cmd W N P → Reply (Said M I)
  reply_to_cmd t by cmd = record { place = (after_cmd t by cmd).place; stamp = (after_cmd t by cmd).stamp; said = answer t by cmd }

  abbrev pub after : Table D J K I → ℕ → Order (Cmd W N P) → Table D J K I
  after t by order = after_cmd t by order.cmd

  abbrev pub reply : Table D J K I → ℕ → Order (Cmd W N P) → Reply (Said M I)
  reply t by order = reply_to_cmd t by order.cmd

  -- a look: the point, and the documents and index definitions, or nothing of a table that was dropped
  abbrev pub look : Table D J K I → Look (D × J)
  look t = record { place = t.place; stamp = t.stamp; view = cond t.shut None (Some (t.docs, t.indexes)) }

  -- the table machine
  abbrev pub table_machine : Machine (Table D J K I) (Order (Cmd W N P)) (Reply (Said M I)) (Unit {0}) (Look (D × J))
  table_machine = record { reply = reply; recorded = λ r. adds r.said; after = after; answer = λ t q. look t; place = λ t. t.place }

  -- a table that nobody has used
  abbrev pub opening_table : D → J → Table D J K I
  opening_table d j = record { docs = d; indexes = j; feeds = []; shut = false; place = 0; stamp = 0 }
