-- The laws of explained sessions.
use Rattle.std.specs.Prelude.{◌≡◌, ◌≤◌, ◌<◌, ◌+◌, ◌-◌, ◌^◌, ◌⊎◌, ℕ, Bool, true, false, length, List, [], ◌∷◌, ◌++◌, take, drop, flat_map, map, Option, Some}
use Rattle.std.specs.List.{AllByRecursion}
use Rattle.reql_datum.specs.Plain.{Plain}
use Rattle.reql_wire.specs.Frames.{Fits, Over, spellings}
use Rattle.reql_wire.specs.Greeting.{Greets}
use Rattle.reql_wire.specs.declared.frame.Frame.{Frame}
use Rattle.reql_wire.specs.declared.greeter.Greeting.TheVariants as greeting
use Rattle.reql_shared.specs.Acts.{Ran, Denied}
use Rattle.reql_shared.specs.History.{own}
use Rattle.reql_shared.specs.Machine.{replay}
use Rattle.reql_shared.specs.Parts.{Part, between}
use Rattle.reql_catalog.specs.declared.catalog.Catalog.{Catalog}
use Rattle.reql_catalog.specs.declared.command.CatCmd.{CatCmd}
use Rattle.reql_hall.specs.Rooms.{Sitting, Histories, pass, LearnsAll}
use Rattle.reql_hall.specs.Shares.{Grows, share, seen_by, Serves}
use Rattle.reql_table_machine_spec.specs.Feeding.{fold, bare, appended}
use Rattle.reql_table_machine_spec.specs.Fed.{upto, Whole, takings}
use Rattle.reql_table_machine_spec.specs.declared.command.Said.TheVariants as said
use Rattle.reql_table_spec.specs.Laws.{AreGood, History, docs_at, changes, known_act, TellSkips, LieInOrder, AllPlaced, AllSubscribed}
use Rattle.reql_table_spec.specs.Machine.{State, machine}
use Rattle.reql_table_spec.specs.Replies.{Answered as Told}
use Rattle.reql_table_spec.specs.Table as tables
use Rattle.reql_table_spec.specs.Table.{Held, feeding}
use Rattle.reql_table_spec.specs.declared.command.Cmd.TheVariants as cmds
use Rattle.reql_table_spec.specs.declared.command.FeedSpec.{FeedSpec}
use Rattle.reql_table_spec.specs.declared.command.Order.{Order}
use Rattle.reql_table_spec.specs.declared.reply.Saved.{Saved}
use Rattle.reql_session_spec.specs.Tasks.{Talk, close_order}
use Rattle.reql_session_spec.specs.Logins.{Stage, Waiting, At, Admitted, IsRefused, Passed}
use Rattle.reql_session_spec.specs.Session.{Event, Greeted, Login, On, Say, Mach, fresh, Unread, Run, heard, begun, rolled, casts, planned, acts_on}
use Rattle.reql_session_spec.specs.Explained.{DeskShare, DeskSeen, Life, Explained, ExplainedBy, sent_of, all_told, all_taken}
use Rattle.reql_session_spec.specs.declared.end.End.{End}
use Rattle.reql_session_spec.specs.declared.end.End.TheVariants as ends

abbrev pub Desk : Type 0
Desk = Sitting Order State CatCmd Catalog

-- own entries and marks are those of the parts, in order, with nothing left
pub record NoneLeft {C S : Type 0} (whole : Part C S) (parts : List (Part C S)) : Type 0 where
  pub owned : own whole.number whole.during ≡ flat_map (λ (p : Part C S). own p.number p.during) parts
  pub marks : whole.marks ≡ flat_map (λ (p : Part C S). p.marks) parts

-- an answer, to a request, to a greeting or in a login, that was sent in part alone
abbrev pub IsUnsent : Event → Type 0
IsUnsent (Greeted false) = Unit {0}
IsUnsent (Login false) = Unit {0}
IsUnsent (Say token a false) = Unit {0}
IsUnsent e = ⊥

-- a feed is closed, or that is refused for memory
abbrev pub IsClosing : Event → Type 0
IsClosing (On slot (Ran place order reply) saved) = (feed : ℕ) × (order ≡ close_order feed)
IsClosing (On slot (Denied place) saved) = Unit {0}
IsClosing e = ⊥

-- the items that the changes after a stamp append to a feed
abbrev pub items_after : State → History → Held → ℕ → List (ℕ × Plain)
items_after start history h stamp = appended (feeding start.most) h (docs_at start history stamp) stamp (drop (stamp - start.table.stamp) (changes start history))

-- What a client was sent of a feed as changes, and as what tells that some were skipped, is, in order, a beginning of what the answers of its Takes
-- give; and these tell just what the feed's queue skipped of the items that came to it.
pub record SendsSkips (most slot feed : ℕ) (h : Held) (items : List (ℕ × Plain)) (after : List Event) : Type 0 where
  pub unsent : List (ℕ × Plain)
  pub sent : all_told slot feed true after ++ unsent ≡ all_taken true (takings feed (map known_act (acts_on slot after)))
  pub tells : TellSkips most h items (takings feed (map known_act (acts_on slot after)))
  pub laid : LieInOrder most h items (takings feed (map known_act (acts_on slot after)))

module _ {PL : Type 0} (k : Talk PL) where
  -- a greeting that was accepted, with what came behind it
  pub record IsAccepted (bytes : List ℕ) : Type 0 where
    pub behind : List ℕ
    pub used : ℕ
    pub greets : Greets k.key (bytes ++ behind) (greeting.Accepted used)
    pub all : bytes ≡ take used (bytes ++ behind)

  -- a greeting came and was accepted; or none came, and a login went on by what it took, which is nothing where none went on
  abbrev pub Began : Stage → Stage → List ℕ → List (Option (List ℕ)) → Type 0
  Began before after bytes rs = (Passed k before bytes rs after) ⊎ ((before ≡ Waiting) × (after ≡ Admitted) × IsAccepted bytes × (rs ≡ []))

  -- What came is a greeting, where none had come and one was accepted, or the messages of a login, by its rolls, then the frames that
  -- were handled, in order, each within the limit, and then what is held. None is handled before a greeting was accepted or a login was
  -- over.
  pub record Handled (m n : Mach PL) (es : List Event) : Type 0 where
    pub greeting : List ℕ
    pub input : m.held ++ heard es ≡ greeting ++ (spellings (begun es) ++ n.held)
    pub began : Began m.greeted n.greeted greeting (casts es)
    pub each : AllByRecursion (Fits k.limits.frame) (begun es)
    pub before : (n.greeted ≡ Admitted → ⊥) → begun es ≡ []

  abbrev pub InOrder : Type 0
  InOrder = (m n : Mach PL) (es : List Event) → Run k m es n → Handled m n es

  -- What is held when a session leaves: no whole greeting, message of a login or frame where its input ended or failed, the header that
  -- is too long, or the greeting or the message that was refused. Of the other ends nothing is said.
  abbrev pub LeftAs : End → Stage → List ℕ → Type 0
  LeftAs ends.Closed greeted held = (held ≡ []) × Unread k greeted held
  LeftAs (ends.Cut n) greeted held = (n ≡ length held) × (0 < n) × Unread k greeted held
  LeftAs (ends.Refused fault) greeted held = IsRefused k fault greeted held
  LeftAs (ends.TooLong len) greeted held = (greeted ≡ Admitted) × Over k.limits.frame held len
  LeftAs ends.ReadFault greeted held = Unread k greeted held
  LeftAs end greeted held = Unit {0}

  -- every whole frame that was given was handled, in order, unless the session ended by a failed send, worn, or for want of memory
  abbrev pub FramesHandled : Type 0
  FramesHandled = (share : DeskShare) (life : Life) (e : Explained k share life) → Handled fresh e.final e.events × LeftAs life.end e.final.greeted e.final.held

  -- the rolls of a login come before those of requests
  abbrev pub LoginRollsFirst : Type 0
  LoginRollsFirst = (share : DeskShare) (life : Life) (e : Explained k share life) → life.rolls ≡ casts e.events ++ planned e.events

  -- All turns are used up only where more came, or was idle, than so many turns may take: each takes a greeting, a message of a
  -- login, a frame or some bytes, is idle, or is the last.
  abbrev pub WornLate : Type 0
  WornLate = (share : DeskShare) (life : Life) → Explained k share life → life.end ≡ ends.Worn → k.limits.turns < ((length life.given + length life.given) + life.idles) + 2

  -- The first failed send ends a session: where an answer was sent in part alone, nothing but closings comes after it, and the end
  -- is WriteFault; and a session ends so only where one was.
  abbrev pub FirstFailed : Type 0
  FirstFailed = (share : DeskShare) (life : Life) (e : Explained k share life) →
      ((before : List Event) (x : Event) (after : List Event) → e.events ≡ before ++ x ∷ after → IsUnsent x → (life.end ≡ ends.WriteFault) × AllByRecursion IsClosing after)
      × (life.end ≡ ends.WriteFault → (before : List Event) × (x : Event) × (after : List Event) × (e.events ≡ before ++ x ∷ after) × IsUnsent x)

  -- a greeting that is accepted, then these frames, each within the limit, and nothing else
  pub record Brings (bytes : List ℕ) (frames : List Frame) : Type 0 where
    pub used : ℕ
    pub greets : Greets k.key bytes (greeting.Accepted used)
    pub each : AllByRecursion (Fits k.limits.frame) frames
    pub behind : drop used bytes ≡ spellings frames

  -- A login that is admitted by the session's own rolls, of which some may be still to come, as some of the input may be, and of which
  -- those for requests come behind; then these frames.
  pub record LogsIn (rs : List (Option (List ℕ))) (bytes : List ℕ) (frames : List Frame) : Type 0 where
    pub login : List ℕ
    pub own : List (Option (List ℕ))
    pub others : List (Option (List ℕ))
    pub passed : Passed k Waiting login own Admitted
    pub its : (rs ≡ own ++ others) ⊎ (own ≡ rs ++ others)
    pub each : AllByRecursion (Fits k.limits.frame) frames
    pub all : bytes ≡ login ++ spellings frames

  -- a valid input: nothing, such a greeting and frames, or such a login and frames
  abbrev pub IsValid : List (Option (List ℕ)) → List ℕ → List Frame → Type 0
  IsValid rs bytes frames = ((bytes ≡ []) × (frames ≡ [])) ⊎ (Brings bytes frames ⊎ LogsIn rs bytes frames)

  -- What is left of the frames of a valid input, of which so much was not given, at an end: none where the session closed, as its
  -- input was over, and none where a receive failed after all was given; any where a send failed, memory was wanted, or more
  -- came, or was idle, than all turns may take. There is no other end.
  abbrev pub Leaves : Life → List ℕ → End → List Frame → Type 0
  Leaves life more ends.Closed left = (left ≡ []) × (life.over ≡ true)
  Leaves life more ends.ReadFault left = more ≡ [] → left ≡ []
  Leaves life more ends.WriteFault left = Unit {0}
  Leaves life more ends.Worn left = k.limits.turns < ((length life.given + length life.given) + life.idles) + 2
  Leaves life more ends.Memory left = Unit {0}
  Leaves life more end left = ⊥

  -- the frames of a valid input, of which these were handled, the first ones, in order
  pub record Closes (life : Life) (more : List ℕ) (frames handled : List Frame) : Type 0 where
    pub left : List Frame
    pub first : frames ≡ handled ++ left
    pub ends : Leaves life more life.end left

  -- What a session was given, with more to come only where its input wasn't over, is a valid input. Then it is never cut, refused
  -- or told of a header that is too long: where no receive and no send fails, its turns are enough and there is room, it handles
  -- every frame, and closes.
  abbrev pub ValidCloses : Type 0
  ValidCloses = (share : DeskShare) (life : Life) (e : Explained k share life) (more : List ℕ) (frames : List Frame)
      → k.limits.frame < 2 ^ 32 → IsValid life.rolls (life.given ++ more) frames → (life.over ≡ true → more ≡ []) → Closes life more frames (begun e.events)

  -- one more session lengthens what a desk did by its share
  abbrev pub OneMore : Type 0
  OneMore = (some : State) (a b c : Desk) (lives : List Life) (life : Life)
      → Serves some (ExplainedBy k) a b lives → Grows some b c → ExplainedBy k (seen_by some c) (share some b c) life
      → Serves some (ExplainedBy k) a c (lives ++ life ∷ [])

  -- and what it learns of others leaves that as it is
  abbrev pub Learning : Type 0
  Learning = (some : State) (a b c : Desk) (lives : List Life) (all : Histories Order CatCmd)
      → Serves some (ExplainedBy k) a b lives → LearnsAll b c all → Serves some (ExplainedBy k) a c lives

  -- and the desk's own entries and its marks are those of its sessions
  abbrev pub NothingLeft : Type 0
  NothingLeft = (some : State) (a b : Desk) (lives : List Life) (s : Serves some (ExplainedBy k) a b lives)
      → NoneLeft (between a.names b.names) (map (λ (x : DeskShare). x.names) s.shares)
      × ((slot : ℕ) → NoneLeft (between (pass some a slot) (pass some b slot)) (map (λ (x : DeskShare). x.slots slot) s.shares))

  -- A request of an explained session opened a feed, with this number and this stamp, in these events.
  pub record Opens (seen : DeskSeen) (share : DeskShare) (life : Life) (slot feed stamp : ℕ) (after : List Event) : Type 0 where
    pub story : ExplainedBy k seen share life
    pub before : List Event
    pub place : ℕ
    pub order : Order
    pub reply : Told
    pub kept : Saved
    pub spec : FeedSpec
    pub opening : List Plain
    pub held : Held
    pub events : story.explained.events ≡ before ++ On slot (Ran place order reply) kept ∷ after
    pub asks : order.cmd ≡ cmds.Subscribe spec
    pub says : reply.said ≡ said.Opened feed opening
    pub at : reply.stamp ≡ stamp
    pub holds : tables.held (replay machine (share.slots slot).start (take place (seen.slots slot))).table.indexes spec ≡ Some held

  -- *Fed*: the fold of the changes that were sent of it, up to any change up to which its answers are whole, over its value at
  -- the opening, is its value there.
  abbrev pub FeedsHold : Type 0
  FeedsHold = (seen : DeskSeen) (share : DeskShare) (life : Life) → ((slot : ℕ) → AreGood (share.slots slot).start.table.docs) → ((slot : ℕ) → (share.slots slot).start.table.feeds ≡ [])
      → (slot feed stamp : ℕ) (after : List Event) (o : Opens seen share life slot feed stamp after)
      → (n : ℕ) → stamp ≤ n → Whole ((feeding (share.slots slot).start.most).squashes o.held) n (takings feed (map known_act (acts_on slot after))) (sent_of slot feed after)
      → fold (feeding (share.slots slot).start.most) o.held ((feeding (share.slots slot).start.most).value o.held (docs_at (share.slots slot).start (seen.slots slot) stamp))
      (bare (feeding (share.slots slot).start.most) (upto n (sent_of slot feed after)))
      ≡ (feeding (share.slots slot).start.most).value o.held (docs_at (share.slots slot).start (seen.slots slot) n)

  -- Of each feed that a request of an explained session opened, and of the items that are sent as changes and as skips alone: among these it rules out a
  -- skip behind an item which came after it, one that is there twice, and one that is left out where a later item is sent. Of what is never sent, and of
  -- what is sent as anything else, it says nothing: `NothingKeptBack` and `FeedsAreTold` do.
  abbrev pub SkipsAreSent : Type 0
  SkipsAreSent = (seen : DeskSeen) (share : DeskShare) (life : Life) → ((slot : ℕ) → (share.slots slot).start.table.feeds ≡ [])
      → (slot feed stamp : ℕ) (after : List Event) (o : Opens seen share life slot feed stamp after)
      → SendsSkips (share.slots slot).start.most slot feed o.held (items_after (share.slots slot).start (seen.slots slot) o.held stamp) after

  -- Each Take of an explained session that is answered is answered as the table of its slot says at its place, with the stamp that this has there; and a Subscribe
  -- with that stamp. Of a feed that a request opened, where tables began without feeds, SkipsAreSent says what waits at each of its Takes up to its Unsubscribe; so
  -- it is told Nothing exactly where nothing waits and the table isn't
  -- shut, Gone exactly where nothing waits and it is, a batch exactly where something waits and the history has room for one more entry, and that the history is
  -- full exactly where something waits and it has none.
  abbrev pub TakesArePlaced : Type 0
  TakesArePlaced = (seen : DeskSeen) (share : DeskShare) (life : Life) (x : ExplainedBy k seen share life) (slot : ℕ)
      → AllPlaced (share.slots slot).start (seen.slots slot) (acts_on slot x.explained.events)

  -- Each Subscribe of an explained session that is answered is answered as the table of its slot says at its place: Gone exactly where it was dropped; where it wasn't, that the
  -- history is full exactly where it has no room for one more entry; and where it has, that the index is missing exactly where nothing is kept of the request,
  -- that there are too many feeds exactly where it is kept and as many are open as may be, and else a feed.
  abbrev pub SubscribesArePlaced : Type 0
  SubscribesArePlaced = (seen : DeskSeen) (share : DeskShare) (life : Life) (x : ExplainedBy k seen share life) (slot : ℕ)
      → AllSubscribed (share.slots slot).start (seen.slots slot) (acts_on slot x.explained.events)
