-- What a Subscribe is answered: a feed, by a number that no other has, or why there is none.
use Rattle.std.specs.Prelude.{◌≡◌, ◌≤◌, ◌<◌, ℕ, suc, ◌-◌, ◌^◌, List, [], ◌∷◌, ◌++◌, length, take, true, false, Option, Some, None}
use Rattle.std.specs.List.{AllByRecursion}
use Rattle.reql_shared.specs.declared.recorded.Recorded.{Recorded}
use Rattle.reql_shared.specs.Acts.{Act, Ran, Looked, Denied}
use Rattle.reql_shared.specs.Machine.{replay}
use Rattle.reql_shared.specs.Plays.{Woven}
use Rattle.reql_table_machine_spec.specs.Feeding.{Feeding}
use Rattle.reql_table_machine_spec.specs.Feeds.{Table, answer, after, table_machine}
use Rattle.reql_table_machine_spec.specs.Telling.{HasRoom, HasNone}
use Rattle.reql_table_machine_spec.specs.declared.command.Cmd.{Cmd}
use Rattle.reql_table_machine_spec.specs.declared.command.Cmd.TheVariants as cmds
use Rattle.reql_table_machine_spec.specs.declared.command.Order.{Order}
use Rattle.reql_table_machine_spec.specs.declared.command.Said.{Said}
use Rattle.reql_table_machine_spec.specs.declared.command.Said.TheVariants as said
use Rattle.reql_table_machine_spec.specs.declared.command.Reply.{Reply}
use Rattle.reql_table_machine_spec.specs.declared.command.Look.{Look}

module _ {M I : Type 0} where
  -- the number of the feed that an answer tells of
  abbrev pub numbers_in : Said M I → List ℕ
  numbers_in (said.Opened number opening) = number ∷ []
  numbers_in other = []

-- each of these is above the one before it, and the first one above n
abbrev pub RiseFrom : ℕ → List ℕ → Type 0
RiseFrom n [] = Unit {0}
RiseFrom n (x ∷ xs) = (n < x) × RiseFrom x xs

module _ {D J W N P M X K I F : Type 0} (m : Feeding D J W N P M X K I F) where
  -- the numbers of all feeds that are opened along a history from a table on, whoever opens them
  abbrev pub numbers_from : Table D J K I → List (Recorded (Order (Cmd W N P))) → List ℕ
  numbers_from t [] = []
  numbers_from t (e ∷ es) = numbers_in (answer m t e.by e.cmd.cmd) ++ numbers_from (after m t e.by e.cmd) es

  -- Where no index command is answered by a feed, these numbers rise, and are above the table's place: rules out a number that two feeds of a table are given,
  -- whether or not the first of them is open still.
  abbrev pub NumbersRise : Type 0
  NumbersRise = ((j : J) (n : N) → numbers_in (m.index_said j n) ≡ []) → (t : Table D J K I) (history : List (Recorded (Order (Cmd W N P)))) → RiseFrom t.place (numbers_from t history)

  -- ---- what a Subscribe is answered at its place
  -- A feed that may be opened where this is the table: its request is kept, and fewer feeds are open than may be. Its number is that of the place after it,
  -- and it is told with the items of its opening.
  pub record MayOpen (t : Table D J K I) (kept : Option K) (number : ℕ) (opening : List I) : Type 0 where
    pub held : K
    pub is_kept : kept ≡ Some held
    pub few : length t.feeds < m.most
    pub numbered : number ≡ suc t.place
    pub shows : opening ≡ m.opening held t.docs

  -- A request that is kept, where as many feeds are open as may be.
  pub record IsFull (t : Table D J K I) (kept : Option K) (count : ℕ) : Type 0 where
    pub held : K
    pub is_kept : kept ≡ Some held
    pub many : m.most ≤ length t.feeds
    pub told : count ≡ m.most

  -- What a Subscribe may be answered where this is the table, and this what the table keeps of its request: Gone if the table is shut. If it isn't, that the
  -- history is full where it has no room for one more entry, and where it has, that the index is missing if nothing is kept, that there are too many feeds if
  -- as many are open as may be, and else a feed.
  abbrev pub MaySubscribe : Table D J K I → Option K → Said M I → Type 0
  MaySubscribe t kept said.Gone = t.shut ≡ true
  MaySubscribe t kept (said.HistoryFull count) = (t.shut ≡ false) × HasNone m t × (count ≡ 2 ^ 64 - 1)
  MaySubscribe t kept said.IndexMissing = (t.shut ≡ false) × HasRoom m t × (kept ≡ None)
  MaySubscribe t kept (said.FeedsFull count) = (t.shut ≡ false) × HasRoom m t × IsFull t kept count
  MaySubscribe t kept (said.Opened number opening) = (t.shut ≡ false) × HasRoom m t × MayOpen t kept number opening
  MaySubscribe t kept other = ⊥

  abbrev pub MaySubscribeAt : Table D J K I → P → Said M I → Type 0
  MaySubscribeAt t p s = MaySubscribe t (m.keep t.indexes p) s

  abbrev pub CmdIsToldSo : Table D J K I → Cmd W N P → Said M I → Type 0
  CmdIsToldSo t (cmds.Subscribe p) s = MaySubscribeAt t p s
  CmdIsToldSo t other s = Unit {0}

  abbrev pub SubscribeIsPlaced : Table D J K I → List (Recorded (Order (Cmd W N P))) → Act (Order (Cmd W N P)) (Reply (Said M I)) (Unit {0}) (Look (D × J)) → Type 0
  SubscribeIsPlaced t history (Ran place order reply) = CmdIsToldSo (replay (table_machine m) t (take place history)) order.cmd reply.said
  SubscribeIsPlaced t history (Looked place question answer) = Unit {0}
  SubscribeIsPlaced t history (Denied place) = Unit {0}

  -- Each Subscribe of a user along a history is answered as the table at its place says. No two of these answers may be given of one table and request, so each
  -- is given exactly where it may be: Gone where the table was dropped, that the index is missing where nothing is kept of the request, that there are too many
  -- feeds where as many stand in the table's list as may be, and else a feed, unless the history is full. Rules out a feed that is refused for its index while
  -- something is kept of its request, one that is opened while nothing is, one that is refused while fewer stand in the list, one more than may, and one that is
  -- opened on a table that was dropped.
  abbrev pub SubscribesArePlaced : Type 0
  SubscribesArePlaced = (o : Table D J K I) (before during after : List (Recorded (Order (Cmd W N P)))) (by : ℕ)
      (acts : List (Act (Order (Cmd W N P)) (Reply (Said M I)) (Unit {0}) (Look (D × J))))
      → Woven (table_machine m) (replay (table_machine m) o before) by (length before) acts during
      → AllByRecursion (λ (a : Act (Order (Cmd W N P)) (Reply (Said M I)) (Unit {0}) (Look (D × J))). SubscribeIsPlaced o (before ++ (during ++ after)) a) acts
