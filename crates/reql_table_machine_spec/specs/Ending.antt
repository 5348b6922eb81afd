-- Which feeds are open after a command, what an Unsubscribe is answered, and what a look tells.
use Rattle.std.specs.Prelude.{◌≡◌, ◌⊎◌, ℕ, nat_eq, ◌-◌, ◌^◌, List, [], ◌∷◌, ◌++◌, map, filter, Bool, true, false, ◌&&◌, ◌||◌, not, Option, Some, None}
use Rattle.reql_table_machine_spec.specs.Feeding.{Feeding}
use Rattle.reql_table_machine_spec.specs.Feeds.{Feed, Table, answer, after_cmd, look}
use Rattle.reql_table_machine_spec.specs.Telling.{HasRoom, HasNone}
use Rattle.reql_table_machine_spec.specs.declared.command.Cmd.{Cmd}
use Rattle.reql_table_machine_spec.specs.declared.command.Cmd.TheVariants as cmds
use Rattle.reql_table_machine_spec.specs.declared.command.Said.{Said}
use Rattle.reql_table_machine_spec.specs.declared.command.Said.TheVariants as said

module _ {K I : Type 0} where
  -- a feed but for what waits in it: who opened it, its number, what it keeps of its request, and the stamp of its opening
  abbrev pub emptied : Feed K I → Feed K I
  emptied f = record f { queue = []; skipped = 0; last = 0 }

  -- whether a feed is of this owner and has this number
  abbrev pub is_his : ℕ → ℕ → Feed K I → Bool
  is_his by number f = nat_eq f.owner by && nat_eq f.number number

  -- whether a feed of this owner and number is open
  abbrev pub is_open : ℕ → ℕ → List (Feed K I) → Bool
  is_open by number [] = false
  is_open by number (f ∷ fs) = is_his by number f || is_open by number fs

module _ {D J W N P M X K I F : Type 0} (m : Feeding D J W N P M X K I F) where
  -- the open feeds of a table, in the order of their opening, but for what waits in them
  abbrev pub open_in : Table D J K I → List (Feed K I)
  open_in t = map emptied t.feeds

  -- u has the feeds of t and behind them one more, of this owner and number, which keeps what is kept of its request and was opened at the stamp of t
  pub record HasOneMore (t u : Table D J K I) (by : ℕ) (kept : Option K) (number : ℕ) : Type 0 where
    pub held : K
    pub is_kept : kept ≡ Some held
    pub feeds : open_in u ≡ open_in t ++ record { owner = by; number = number; kept = held; opened = t.stamp; queue = []; skipped = 0; last = 0 } ∷ []

  abbrev pub OpensSo : Table D J K I → Table D J K I → ℕ → Option K → Said M I → Type 0
  OpensSo t u by kept (said.Opened number opening) = HasOneMore t u by kept number
  OpensSo t u by kept other = open_in u ≡ open_in t

  abbrev pub ClosesSo : Table D J K I → Table D J K I → ℕ → ℕ → Said M I → Type 0
  ClosesSo t u by feed said.Closed = open_in u ≡ filter (λ f. not (is_his by feed f)) (open_in t)
  ClosesSo t u by feed other = open_in u ≡ open_in t

  -- the feeds of a table u that comes of t by a command of this owner, where this is the answer
  abbrev pub LeavesOpen : Table D J K I → Table D J K I → ℕ → Cmd W N P → Said M I → Type 0
  LeavesOpen t u by (cmds.Subscribe p) s = OpensSo t u by (m.keep t.indexes p) s
  LeavesOpen t u by (cmds.Unsubscribe feed) s = ClosesSo t u by feed s
  LeavesOpen t u by other s = open_in u ≡ open_in t

  -- After each command the feeds that were open are open still, in their order, and each is whose it was, with its number, request and stamp of opening, but where an
  -- Unsubscribe is answered Closed, which takes out just the asker's feed of that number; and none is new but where a Subscribe is answered by a feed, which is
  -- the last. Rules out an Unsubscribe that closes nothing, or another user's feed of that number, a feed that is told of and not opened, and a Take, a write or a
  -- drop of the table that ends a feed.
  abbrev pub FeedsComeAndGo : Type 0
  FeedsComeAndGo = (t : Table D J K I) (by : ℕ) (cmd : Cmd W N P) → LeavesOpen t (after_cmd m t by cmd) by cmd (answer m t by cmd)

  -- What an Unsubscribe may be answered where this is the table: Closed where who asks has a feed of that number open. Where he has none, Gone if the table is
  -- shut, and else that the feed is unknown. Where the history has no room for one more entry, that it is full, in place of Closed and of unknown.
  abbrev pub MayClose : Table D J K I → ℕ → ℕ → Said M I → Type 0
  MayClose t by feed said.Closed = (is_open by feed t.feeds ≡ true) × HasRoom m t
  MayClose t by feed said.Gone = (is_open by feed t.feeds ≡ false) × (t.shut ≡ true)
  MayClose t by feed (said.FeedUnknown told) = (is_open by feed t.feeds ≡ false) × (t.shut ≡ false) × (told ≡ feed) × HasRoom m t
  MayClose t by feed (said.HistoryFull count) = ((is_open by feed t.feeds ≡ true) ⊎ (t.shut ≡ false)) × HasNone m t × (count ≡ 2 ^ 64 - 1)
  MayClose t by feed other = ⊥

  -- Each Unsubscribe is answered as the table says. No two of these answers may be given of one table and feed, so each is given exactly where it may be. Rules
  -- out a feed that the drop of its table keeps from being closed, and, with FeedsComeAndGo, one that is closed twice.
  abbrev pub UnsubscribesAreTold : Type 0
  UnsubscribesAreTold = (t : Table D J K I) (by feed : ℕ) → MayClose t by feed (answer m t by (cmds.Unsubscribe feed))

  -- A look tells the place and the stamp of the table, and its documents and indexes, or that there are none where it is shut. Rules out a table that is there and
  -- told as dropped, one that was dropped and is read, and a view of another place than the one that is told.
  pub record TellsTable (t : Table D J K I) : Type 0 where
    pub place : (look m t).place ≡ t.place
    pub stamp : (look m t).stamp ≡ t.stamp
    pub there : t.shut ≡ false → (look m t).view ≡ Some (t.docs, t.indexes)
    pub gone : t.shut ≡ true → (look m t).view ≡ None

  abbrev pub LooksTellTheTable : Type 0
  LooksTellTheTable = (t : Table D J K I) → TellsTable t
