-- Why a CONTINUE waits: where it was visited last, nothing of its feed was left, and its feed's arms were taken from in vain.
use Rattle.std.specs.Prelude.{◌≡◌, ◌⊎◌, ◌≤◌, ℕ, true, false, List, [], ◌∷◌, ◌++◌, take, Some}
use Rattle.std.specs.List.{AllByRecursion}
use Rattle.reql_datum.specs.Plain.{Plain}
use Rattle.reql_shared.specs.Acts.{Ran}
use Rattle.reql_shared.specs.Machine.{replay}
use Rattle.reql_table_machine_spec.specs.Feeds.{Feed, find_feed}
use Rattle.reql_table_machine_spec.specs.declared.command.Said.{Said}
use Rattle.reql_table_machine_spec.specs.declared.command.Said.TheVariants as said
use Rattle.reql_write_spec.specs.declared.command.Summary.{Summary}
use Rattle.reql_table_spec.specs.Machine.{State, machine}
use Rattle.reql_table_spec.specs.Replies.{Answered as Told}
use Rattle.reql_table_spec.specs.Table.{Held, feeding}
use Rattle.reql_table_spec.specs.declared.reply.Saved.{Saved}
use Rattle.reql_session_spec.specs.Requests.{Arm, Continue}
use Rattle.reql_session_spec.specs.Books.{Open, has_token, feed_of}
use Rattle.reql_session_spec.specs.Tasks.{Talk, take_order}
use Rattle.reql_session_spec.specs.Opened.{IsOpened}
use Rattle.reql_session_spec.specs.Session.{Event, Visit, Begin, On, Visits, Mach, fresh, Step, Run, turns}
use Rattle.reql_session_spec.specs.Explained.{DeskShare, DeskSeen, Life, ExplainedBy}

-- A Take found nothing: it was answered by no batch, and not that its table was dropped or that the history is full.
abbrev pub IsNothing : Said Summary Plain → Type 0
IsNothing (said.Batch skipped last items) = ⊥
IsNothing said.Gone = ⊥
IsNothing (said.HistoryFull count) = ⊥
IsNothing other = Unit {0}

-- or by a batch of no items and no skip, as where the changes of a feed that squashes come to nothing
abbrev pub IsBare : Said Summary Plain → Type 0
IsBare (said.Batch skipped last items) = (skipped ≡ 0) × (items ≡ [])
IsBare other = ⊥

-- These events are one Take of each of these arms, in their order, of so many items at most, and each found nothing; or up to one
-- that was answered by a bare batch, behind which no arm is taken from.
abbrev pub FoundNothing : ℕ → List Arm → List Event → Type 0
FoundNothing max [] es = es ≡ []
FoundNothing max (arm ∷ arms) es = (place : ℕ) × (reply : Told) × (kept : Saved) × (more : List Event) × (es ≡ On arm.slot (Ran place (take_order arm.feed max) reply) kept ∷ more)
    × ((IsNothing reply.said × FoundNothing max arms more) ⊎ (IsBare reply.said × (more ≡ [])))

-- In a table a feed of a user has nothing for a Take of so many: it is open, nothing was skipped since the last Take, and nothing
-- is queued while the table is there; or, where it squashes, something is queued of which the net is nothing. Of a Take of no item
-- at all it says nothing of the queue.
pub record HasNothing (s : State) (by number max : ℕ) : Type 0 where
  pub feed : Feed Held Plain
  pub found : find_feed by number s.table.feeds ≡ Some feed
  pub skipped : feed.skipped ≡ 0
  pub none : 1 ≤ max → ((feed.queue ≡ []) × (s.table.shut ≡ false)) ⊎ ((feed.queue ≡ [] → ⊥) × ((feeding s.most).squashes feed.kept ≡ true) × ((feeding s.most).net feed.kept feed.queue ≡ []))

-- the table of a slot at a place of the history that a desk has seen of it
abbrev pub table_at : DeskSeen → DeskShare → ℕ → ℕ → State
table_at seen share slot place = replay machine (share.slots slot).start (take place (seen.slots slot))

-- a Take that found its feed so, in the table at its place
abbrev pub IsIdle : DeskSeen → DeskShare → Event → Type 0
IsIdle seen share (On slot (Ran place order reply) kept) = (number : ℕ) × (max : ℕ) × (order ≡ take_order number max) × HasNothing (table_at seen share slot place) (share.slots slot).number number max
IsIdle seen share e = ⊥

module _ {PL : Type 0} (k : Talk PL) where
  -- A CONTINUE of a token is visited: it is taken up, or it waits and a visit to it begins.
  abbrev pub IsVisited : ℕ → Mach PL → Event → Type 0
  IsVisited token m Visit = (left : List ℕ) × (m.doing ≡ Visits (token ∷ left))
  IsVisited token m (Begin frame true) = (frame.token ≡ token) × (k.asked frame.body ≡ Continue)
  IsVisited token m e = ⊥

  -- A CONTINUE is visited in vain: from where its visit begins to where it waits. Its feed is open, no item of its opening, no state,
  -- skip or change is left of what was taken before, and the Takes of its arms, each of a batch at most, found nothing.
  pub record VisitInVain (token : ℕ) (m : Mach PL) (es : List Event) (n : Mach PL) : Type 0 where
    pub first : Event
    pub takes : List Event
    pub events : es ≡ first ∷ takes
    pub begins : IsVisited token m first
    pub feed : Open
    pub its : feed_of token m.books.feeds ≡ Some feed
    pub left : feed.left ≡ []
    pub found : FoundNothing feed.batch feed.arms takes
    pub run : Run k m es n
    pub waits : has_token token n.books.waiting ≡ true

  -- These events, which led here, end with a CONTINUE's visit in vain; its feed is that of a START of its token.
  pub record EndsInVain (token : ℕ) (es : List Event) (m : Mach PL) : Type 0 where
    pub before : List Event
    pub visit : List Event
    pub start : Mach PL
    pub events : es ≡ before ++ visit
    pub led : Run k fresh before start
    pub vain : VisitInVain token start visit m
    pub opened : IsOpened k vain.feed before

  -- A token comes to wait only by the last step of its CONTINUE's visit in vain. So no CONTINUE waits that wasn't visited, nor one of
  -- whose feed something is left, nor one for which a Take found items, a skip, a dropped table or a full history, nor one of whose
  -- feed's arms one wasn't taken from, but behind a bare batch.
  abbrev pub StartsToWait : Type 0
  StartsToWait = (es : List Event) (m n : Mach PL) (e : Event) → Run k fresh es m → Step k m e n
      → (token : ℕ) → has_token token m.books.waiting ≡ false → has_token token n.books.waiting ≡ true → EndsInVain token (es ++ e ∷ []) n

  -- a run at each point of which a token waits
  abbrev pub StaysWaiting : ℕ → Mach PL → List Event → Mach PL → Type 0
  StaysWaiting token m [] n = (n ≡ m) × (has_token token m.books.waiting ≡ true)
  StaysWaiting token m (e ∷ es) n = (has_token token m.books.waiting ≡ true) × (x : Mach PL) × Step k m e x × StaysWaiting token x es n

  -- these events, which led here, have a CONTINUE's visit in vain, since which its token has waited and no turn has begun
  pub record WaitsInVain (token : ℕ) (es : List Event) (m : Mach PL) : Type 0 where
    pub before : List Event
    pub since : List Event
    pub there : Mach PL
    pub events : es ≡ before ++ since
    pub visited : EndsInVain token before there
    pub stays : StaysWaiting token there since m
    pub turn : turns since ≡ 0

  -- Whoever waits was visited in vain in this very turn, and has waited at every point since: so none waits on from one turn to the
  -- next without a further visit in vain.
  abbrev pub WaitsOn : Type 0
  WaitsOn = (es : List Event) (m : Mach PL) → Run k fresh es m → (token : ℕ) → has_token token m.books.waiting ≡ true → WaitsInVain token es m

  -- and each of the Takes of that visit found a feed that has nothing, in the table at its place of the hall's history
  pub record WaitsForNothing (seen : DeskSeen) (share : DeskShare) (token : ℕ) (es : List Event) (m : Mach PL) : Type 0 where
    pub waits : WaitsInVain token es m
    pub idle : AllByRecursion (IsIdle seen share) waits.visited.vain.takes

  -- Wherever a token waits in an explained session, nothing was there for it where it was visited in this turn: each arm of its feed
  -- that was taken from was open in its table, with nothing skipped. Where the feed's batches have an item at least, nothing was
  -- queued there, and the table wasn't dropped; or the feed squashes, and something was queued of which the net is nothing, also in
  -- a table that was dropped. Of batches that have no item it says nothing of what was queued.
  abbrev pub NothingWasThere : Type 0
  NothingWasThere = (seen : DeskSeen) (share : DeskShare) (life : Life) (x : ExplainedBy k seen share life) (es more : List Event) (m : Mach PL) → x.explained.events ≡ es ++ more
      → Run k fresh es m → (token : ℕ) → has_token token m.books.waiting ≡ true → WaitsForNothing seen share token es m
