-- What the answers of a feed's Takes tell: of what its queue skipped, and of the table at their places.
use Rattle.std.specs.Prelude.{◌≡◌, ◌≢◌, ◌≤◌, ◌<◌, ◌⊎◌, ℕ, ◌+◌, ◌-◌, ◌^◌, min, max, List, [], ◌∷◌, ◌++◌, length, take, drop, true, false, cond, Option, Some}
use Rattle.std.specs.List.{AllByRecursion}
use Rattle.reql_shared.specs.declared.recorded.Recorded.{Recorded}
use Rattle.reql_shared.specs.Acts.{Act, Ran, Looked, Denied}
use Rattle.reql_shared.specs.Machine.{replay}
use Rattle.reql_shared.specs.Plays.{Woven}
use Rattle.reql_table_machine_spec.specs.Feeding.{Feeding, appended}
use Rattle.reql_table_machine_spec.specs.Feeds.{Table, table_machine}
use Rattle.reql_table_machine_spec.specs.Fed.{Taking, takings, changes_from, docs_at}
use Rattle.reql_table_machine_spec.specs.Skips.{last_stamp}
use Rattle.reql_table_machine_spec.specs.declared.command.Cmd.{Cmd}
use Rattle.reql_table_machine_spec.specs.declared.command.Cmd.TheVariants as cmds
use Rattle.reql_table_machine_spec.specs.declared.command.Order.{Order}
use Rattle.reql_table_machine_spec.specs.declared.command.Said.{Said}
use Rattle.reql_table_machine_spec.specs.declared.command.Said.TheVariants as said
use Rattle.reql_table_machine_spec.specs.declared.command.Reply.{Reply}
use Rattle.reql_table_machine_spec.specs.declared.command.Look.{Look}

module _ {M I : Type 0} where
  -- how many skipped items an answer tells of
  abbrev pub skips_of : Said M I → ℕ
  skips_of (said.Batch skipped last items) = skipped
  skips_of other = 0

  -- an answer that tells of fewer than the count's end
  abbrev pub IsCounted : Taking M I → Type 0
  IsCounted t = skips_of t.said < 2 ^ 64 - 1

module _ {D J W N P M X K I F : Type 0} (m : Feeding D J W N P M X K I F) where
  -- What waits at a Take, by its answer. In front are those that have no place; they are gone, and it tells how many, and the stamp of the last that
  -- ever went. Behind them is the queue; it gives as many as were asked for, or all of them joined, and leaves the others.
  pub record Parts (k : K) (most last : ℕ) (waiting : List (ℕ × I)) (skipped told : ℕ) (items left : List (ℕ × I)) : Type 0 where
    pub gone : List (ℕ × I)
    pub queue : List (ℕ × I)
    pub parts : waiting ≡ gone ++ queue
    pub many : length gone ≡ length waiting - max 1 (m.size k)
    pub skips : skipped ≡ min (length gone) (2 ^ 64 - 1)
    pub tells : told ≡ last_stamp last gone
    pub gives : items ≡ cond (m.squashes k) (m.net k queue) (take most queue)
    pub leaves : left ≡ cond (m.squashes k) [] (drop most queue)

  -- What an answer says of what waits, where the last item that went had the stamp `last`: the stamp of the last that has gone now, and what it leaves.
  -- A batch is given only where something waits, Nothing and Gone only where nothing does, and where the history is full something waits, and waits on.
  abbrev pub Answers : K → ℕ → ℕ → List (ℕ × I) → Said M I → ℕ → List (ℕ × I) → Type 0
  Answers k most last waiting (said.Batch skipped told items) now left = Parts k most last waiting skipped told items left × (now ≡ told) × (waiting ≢ [])
  Answers k most last waiting said.Nothing now left = (waiting ≡ []) × (left ≡ []) × (now ≡ last)
  Answers k most last waiting said.Gone now left = (waiting ≡ []) × (left ≡ []) × (now ≡ last)
  Answers k most last waiting (said.HistoryFull count) now left = (left ≡ waiting) × (now ≡ last) × (waiting ≢ [])
  Answers k most last waiting other now left = ⊥

  -- A feed's Takes in their order, from one after which the last that went had the stamp `last`, these were left, and these come later. What came up to the
  -- stamp of the next Take, and nothing above it, waits there behind what was left.
  abbrev pub AreTold : K → ℕ → List (ℕ × I) → List (ℕ × I) → List (Taking M I) → Type 0
  AreTold k last left more [] = Unit {0}
  AreTold k last left more (t ∷ ts) = (came later rest : List (ℕ × I)) × (now : ℕ) × (more ≡ came ++ later)
      × AllByRecursion (λ (p : ℕ × I). p.0 ≤ t.stamp) came × AllByRecursion (λ (p : ℕ × I). t.stamp < p.0) later
      × Answers k t.max last (left ++ came) t.said now rest × AreTold k now rest later ts

  -- what an answer gives of the items that it takes
  abbrev pub Gives : K → List (ℕ × I) → Said M I → Type 0
  Gives k taken (said.Batch skipped last items) = items ≡ cond (m.squashes k) (m.net k taken) taken
  Gives k taken other = taken ≡ []

  -- Items in the order of the Takes that tell of them: as many as the first tells as skipped, then those of which it gives a batch, then as many as the next
  -- tells as skipped, and so on; and behind the last Take any.
  abbrev pub AreLaid : K → List (Taking M I) → List (ℕ × I) → Type 0
  AreLaid k [] items = Unit {0}
  AreLaid k (t ∷ ts) items = (gone taken rest : List (ℕ × I)) × (items ≡ gone ++ (taken ++ rest)) × (length gone ≡ skips_of t.said) × Gives k taken t.said × AreLaid k ts rest

  -- Of each feed that a user opened by its acts along this history from this table: what holds of what it keeps, of all items that the changes after its
  -- opening append to it, and of its Takes up to the first Unsubscribe of it that its user asks, whatever that is answered.
  module _ (holds : K → List (ℕ × I) → List (Taking M I) → Type 0) where
    abbrev pub OpenedSaid : Table D J K I → List (Recorded (Order (Cmd W N P))) → Option K → ℕ → Said M I → List (Act (Order (Cmd W N P)) (Reply (Said M I)) (Unit {0}) (Look (D × J))) → Type 0
    OpenedSaid t history (Some k) stamp (said.Opened number opening) acts =
        holds k (appended m k (docs_at m t history stamp) stamp (drop (stamp - t.stamp) (changes_from m t history))) (takings number acts)
    OpenedSaid t history kept stamp other acts = Unit {0}

    abbrev pub OpenedCmd : Table D J K I → List (Recorded (Order (Cmd W N P))) → ℕ → Cmd W N P → Reply (Said M I) → List (Act (Order (Cmd W N P)) (Reply (Said M I)) (Unit {0}) (Look (D × J))) → Type 0
    OpenedCmd t history place (cmds.Subscribe p) reply acts = OpenedSaid t history (m.keep (replay (table_machine m) t (take place history)).indexes p) reply.stamp reply.said acts
    OpenedCmd t history place other reply acts = Unit {0}

    abbrev pub AllOpened : Table D J K I → List (Recorded (Order (Cmd W N P))) → List (Act (Order (Cmd W N P)) (Reply (Said M I)) (Unit {0}) (Look (D × J))) → Type 0
    AllOpened t history [] = Unit {0}
    AllOpened t history (Ran place order reply ∷ acts) = OpenedCmd t history place order.cmd reply acts × AllOpened t history acts
    AllOpened t history (Looked place question answer ∷ acts) = AllOpened t history acts
    AllOpened t history (Denied place ∷ acts) = AllOpened t history acts

  -- whatever a user does along a history, this holds of each feed that it opens
  abbrev pub OfAllOpened : (K → List (ℕ × I) → List (Taking M I) → Type 0) → Type 0
  OfAllOpened holds = (o : Table D J K I) (before during after : List (Recorded (Order (Cmd W N P)))) (by : ℕ)
      (acts : List (Act (Order (Cmd W N P)) (Reply (Said M I)) (Unit {0}) (Look (D × J))))
      → o.feeds ≡ [] → Woven (table_machine m) (replay (table_machine m) o before) by (length before) acts during
      → AllOpened holds o (before ++ (during ++ after)) acts

  -- each Take's answer tells just what went of that which waited since the Take before: rules out a skip that is told of nothing that went, one that is not
  -- told, or told again by a later Take, and one that is told behind an item that came after it; a batch in which something is missing, or twice, or out of its
  -- order; and a Take that is answered Nothing while something waits. What is behind the last Take waits on, and nothing is said of it.
  abbrev pub TakesTellSkips : Type 0
  TakesTellSkips = OfAllOpened (λ k items ts. AreTold k 0 [] items ts)

  -- While no count is at its end, what the Takes tell of lies at the front of all that came, in their order: each item is one of so many skipped, or one of those
  -- of which a batch is given, which are its items or, of a feed that squashes, what their net joins. Rules out an item that is passed over by Takes which tell of
  -- those before and behind it, and one that is told of twice. How far the Takes reach TakesTellSkips says.
  abbrev pub TakesLieInOrder : Type 0
  TakesLieInOrder = OfAllOpened (λ k items ts. AllByRecursion (λ (t : Taking M I). IsCounted t) ts → AreLaid k ts items)

  -- ---- what a Take is answered at its place
  -- whether the history of a table has room for one more entry
  abbrev pub HasRoom : Table D J K I → Type 0
  HasRoom t = (t.place < 2 ^ 64 - 1) × (t.stamp ≤ 2 ^ 64 - 1)

  abbrev pub HasNone : Table D J K I → Type 0
  HasNone t = (2 ^ 64 - 1 ≤ t.place) ⊎ (2 ^ 64 - 1 < t.stamp)

  -- What a Take may be answered where this is the table: a batch, or that the feed is unknown, where the history has room for its entry, and else that it is
  -- full; and where there is nothing to give, Gone if the table is shut, and Nothing if it isn't.
  abbrev pub MaySay : Table D J K I → Said M I → Type 0
  MaySay t (said.Batch skipped last items) = HasRoom t
  MaySay t said.Nothing = t.shut ≡ false
  MaySay t said.Gone = t.shut ≡ true
  MaySay t (said.HistoryFull count) = HasNone t × (count ≡ 2 ^ 64 - 1)
  MaySay t (said.FeedUnknown feed) = HasRoom t × (t.shut ≡ false)
  MaySay t other = ⊥

  -- A Take at its place in a history from this table: its stamp counts the changes ahead of its place.
  pub record Placed (t : Table D J K I) (history : List (Recorded (Order (Cmd W N P)))) (place : ℕ) (reply : Reply (Said M I)) : Type 0 where
    pub stamp : reply.stamp ≡ t.stamp + length (changes_from m t (take place history))
    pub says : MaySay (replay (table_machine m) t (take place history)) reply.said

  abbrev pub IsPlaced : Table D J K I → List (Recorded (Order (Cmd W N P))) → ℕ → Cmd W N P → Reply (Said M I) → Type 0
  IsPlaced t history place (cmds.Subscribe p) reply = reply.stamp ≡ t.stamp + length (changes_from m t (take place history))
  IsPlaced t history place (cmds.Take feed most) reply = Placed t history place reply
  IsPlaced t history place other reply = Unit {0}

  abbrev pub ActIsPlaced : Table D J K I → List (Recorded (Order (Cmd W N P))) → Act (Order (Cmd W N P)) (Reply (Said M I)) (Unit {0}) (Look (D × J)) → Type 0
  ActIsPlaced t history (Ran place order reply) = IsPlaced t history place order.cmd reply
  ActIsPlaced t history (Looked place question answer) = Unit {0}
  ActIsPlaced t history (Denied place) = Unit {0}

  -- Each Take of a user along a history is answered as the table at its place says, with the stamp that it has there; and a Subscribe with that stamp too. So
  -- what comes to a feed is what the changes behind its opening bring, and what waits at a Take, as TakesTellSkips has it, is of those ahead of its place: rules
  -- out a Take that tells a stamp which the table had earlier, or has not reached, and so gives less, or more, than is there, and a feed that tells another stamp
  -- than the one at which it was opened. Of a feed that the user has open TakesTellSkips says beside it whether something waits; so Nothing is answered exactly
  -- where nothing waits and the table isn't shut, Gone exactly where nothing waits and it is, a batch exactly where something waits and the history has room, and
  -- HistoryFull exactly where something waits and it has none. Rules out a feed that is told of a drop while its table is open, one that waits on a table that
  -- was dropped, and one that is refused for a full history while there is room.
  abbrev pub TakesArePlaced : Type 0
  TakesArePlaced = (o : Table D J K I) (before during after : List (Recorded (Order (Cmd W N P)))) (by : ℕ)
      (acts : List (Act (Order (Cmd W N P)) (Reply (Said M I)) (Unit {0}) (Look (D × J))))
      → Woven (table_machine m) (replay (table_machine m) o before) by (length before) acts during
      → AllByRecursion (λ (a : Act (Order (Cmd W N P)) (Reply (Said M I)) (Unit {0}) (Look (D × J))). ActIsPlaced o (before ++ (during ++ after)) a) acts
