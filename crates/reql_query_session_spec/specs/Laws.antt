-- What is so of sessions that are told of these plans, whatever their key, their password and their limits.
use Rattle.std.specs.Prelude.{◌≡◌, ℕ, nat_lt, List, [], ◌∷◌, ◌++◌, map, Bool, false, min, ◌⊎◌, Ok, Err}
use Rattle.reql_datum.specs.Answer.{Reason}
use Rattle.reql_admin.specs.Server.{server}
use Rattle.reql_json.specs.Showing.{shown}
use Rattle.reql_hall.specs.Shares.{IsKept}
use Rattle.reql_table_spec.specs.declared.command.Cmd.TheVariants as cmds
use Rattle.reql_table_spec.specs.declared.command.FeedSpec.{FeedSpec}
use Rattle.reql_table_spec.specs.declared.command.Order.{Order}
use Rattle.reql_table_spec.specs.declared.limits.Limits.{Limits}
use Rattle.reql_plan_spec.specs.declared.parts.Opening.{Opening}
use Rattle.reql_plan_spec.specs.declared.parts.Plan.{Plan}
use Rattle.reql_plan_spec.specs.Answering.{AreOpenedNew}
use Rattle.reql_plan_spec.specs.Asked.{IsOfItsTerm}
use Rattle.reql_plan_spec.specs.Course.{Open}
use Rattle.reql_plan_spec.specs.Feeding.{Feeding}
use Rattle.reql_plan_spec.specs.Follows.{IsRead}
use Rattle.reql_plan_spec.specs.Texts.{too_many_cursors}
use Rattle.reql_session_spec.specs.Answering.{EachIsAnswered}
use Rattle.reql_session_spec.specs.Arms.{ArmsAreApart}
use Rattle.reql_session_spec.specs.Waiting.{NothingWasThere}
use Rattle.reql_session_spec.specs.Opened.{EachIsOpened}
use Rattle.reql_session_spec.specs.Beginning.{EachBegins}
use Rattle.reql_session_spec.specs.Endings.{FeedsOpen, FeedsEnd}
use Rattle.reql_session_spec.specs.Continuing.{EachContinues}
use Rattle.reql_session_spec.specs.Owed.{NothingKeptBack, AllIsSent}
use Rattle.reql_session_spec.specs.Printed as printed
use Rattle.reql_session_spec.specs.Bodies.{server_info}
use Rattle.reql_session_spec.specs.Explained.{ExplainedBy}
use Rattle.reql_session_spec.specs.Laws as story
use Rattle.reql_session_spec.specs.Minding.{PlansMind}
use Rattle.reql_session_spec.specs.Requests.{Arm, Shown, Feed, Start, RunSlot, Ends, Found}
use Rattle.reql_session_spec.specs.Tasks.{Keys, Talk, batch_size}
use Rattle.reql_query_session_spec.specs.Feeds.{feeds_run, run_for, closes_move, Comes, held_by, IsDenied, ComesToChanges, feeds_at, told_of, AreRunInTurn, RunsItsOwn, EndsWithItsFeeds}
use Rattle.reql_query_session_spec.specs.Told.{talk, comes_by, setting_of, heard_of, fault_of}

-- plans mind their feeds
abbrev pub PlansAreTold : Type 0
PlansAreTold = (keys : Keys) (limits : Limits) → PlansMind (talk keys limits) (comes_by limits)

-- every feed that the plan of a body opens, whatever was found before, follows something: it is not one that shows nothing for ever
abbrev pub FeedsAreRead : Talk Plan → Type 0
FeedsAreRead k =
    (body : List ℕ) (noreply : Bool) (plan : Plan) (quiet : Bool) (count : ℕ) (found : List Found) (n : ℕ) (order : Order) (spec : FeedSpec)
    → k.asked body ≡ Start noreply plan → k.next plan quiet count found ≡ RunSlot n order → order.cmd ≡ cmds.Subscribe spec → IsRead spec

abbrev pub AllFeedsAreRead : Type 0
AllFeedsAreRead = (keys : Keys) (limits : Limits) → FeedsAreRead (talk keys limits)

-- and is its own term's: of those that CHANGES follows, the first one that has no answer yet, asked of the table that it is on, to follow it as it is in
-- the world of the snapshots that were found, by the options of CHANGES
abbrev pub AllFeedsAreTheirs : Type 0
AllFeedsAreTheirs = (keys : Keys) (limits : Limits) (body : List ℕ) (noreply : Bool) (plan : Plan) (quiet : Bool) (count : ℕ) (found : List Found) (n : ℕ) (order : Order) (spec : FeedSpec)
    → (talk keys limits).asked body ≡ Start noreply plan → (talk keys limits).next plan quiet count found ≡ RunSlot n order → order.cmd ≡ cmds.Subscribe spec
    → IsOfItsTerm plan (setting_of limits quiet count) (map heard_of found) n order spec

-- A body whose plan came to the feeds of a CHANGES runs these in their order, each once the one before it is open, and none after one that isn't.
abbrev pub AllFeedsAreAskedInTurn : Type 0
AllFeedsAreAskedInTurn = (keys : Keys) (limits : Limits) (body : List ℕ) (noreply : Bool) (plan : Plan) (quiet : Bool) (count : ℕ) (found : List Found)
    → (talk keys limits).asked body ≡ Start noreply plan → (c : Comes limits plan quiet count found) → AreRunInTurn limits plan quiet count found ((talk keys limits).next plan quiet count) c

-- And no other feed is opened for any body: it runs none at all, or its plan came to the feeds of a CHANGES, and each of these is its own term's.
abbrev pub AllRunNoOtherFeeds : Type 0
AllRunNoOtherFeeds = (keys : Keys) (limits : Limits) (body : List ℕ) (noreply : Bool) (plan : Plan) (quiet : Bool) (count : ℕ) (found : List Found)
    → (talk keys limits).asked body ≡ Start noreply plan → (feeds_run ((talk keys limits).next plan quiet count) found ≡ [])
    ⊎ RunsItsOwn limits plan quiet count found ((talk keys limits).next plan quiet count)

-- Where a plan ends with a feed, all feeds of its CHANGES were run and are open, and its arms, notes and first items are those of just these.
abbrev pub AllFeedsEndWithTheirOwn : Type 0
AllFeedsEndWithTheirOwn = (keys : Keys) (limits : Limits) (body : List ℕ) (noreply : Bool) (plan : Plan) (quiet : Bool) (count : ℕ) (found : List Found)
    (arms : List Arm) (notes : List ℕ) (items : List Shown)
    → (talk keys limits).asked body ≡ Start noreply plan → (talk keys limits).next plan quiet count found ≡ Ends (Feed arms notes items)
    → EndsWithItsFeeds limits plan quiet count found ((talk keys limits).next plan quiet count) arms notes items

-- What the CHANGES of a body comes to. The fault of its feeds, where they have one, is its answer; else it is refused where as many cursors and feeds
-- are open as may be.
abbrev pub AllFaultyFeedsAreRefused : Type 0
AllFaultyFeedsAreRefused = (keys : Keys) (limits : Limits) (body : List ℕ) (noreply : Bool) (plan : Plan) (quiet : Bool) (count : ℕ) (found : List Found)
    → (talk keys limits).asked body ≡ Start noreply plan → (c : ComesToChanges limits plan quiet count found) (why : Reason) → feeds_at limits plan quiet count found c ≡ Err why
    → (talk keys limits).next plan quiet count found ≡ Ends (fault_of why)

abbrev pub AllCrowdedFeedsAreRefused : Type 0
AllCrowdedFeedsAreRefused = (keys : Keys) (limits : Limits) (body : List ℕ) (noreply : Bool) (plan : Plan) (quiet : Bool) (count : ℕ) (found : List Found)
    → (talk keys limits).asked body ≡ Start noreply plan → (c : ComesToChanges limits plan quiet count found) (x : Feeding) → feeds_at limits plan quiet count found c ≡ Ok x
    → nat_lt count limits.cursors ≡ false → (talk keys limits).next plan quiet count found ≡ Ends (fault_of too_many_cursors)

-- While the feeds before it are open the next one is run, and once all are open they are the answer.
abbrev pub AllNextFeedsAreRun : Type 0
AllNextFeedsAreRun = (keys : Keys) (limits : Limits) (body : List ℕ) (noreply : Bool) (plan : Plan) (quiet : Bool) (count : ℕ) (found : List Found)
    → (talk keys limits).asked body ≡ Start noreply plan → (c : Comes limits plan quiet count found) (before : List Opening) (o : Opening) (behind : List Opening) (opened : List Open)
    → c.feeds.openings ≡ before ++ (o ∷ behind) → AreOpenedNew [] before c.replies opened
    → (talk keys limits).next plan quiet count found ≡ run_for (held_by limits plan quiet count found c) o

abbrev pub AllOpenFeedsAreTold : Type 0
AllOpenFeedsAreTold = (keys : Keys) (limits : Limits) (body : List ℕ) (noreply : Bool) (plan : Plan) (quiet : Bool) (count : ℕ) (found : List Found)
    → (talk keys limits).asked body ≡ Start noreply plan → (c : Comes limits plan quiet count found) (opened : List Open) → AreOpenedNew [] c.feeds.openings c.replies opened
    → (talk keys limits).next plan quiet count found ≡ Ends (told_of limits plan quiet count found c opened)

-- Where one is not opened those before it are closed in their order, and then the refusal is the answer. Where a journal failed or memory is wanted
-- none is closed.
abbrev pub AllDeniedFeedsAreClosed : Type 0
AllDeniedFeedsAreClosed = (keys : Keys) (limits : Limits) (body : List ℕ) (noreply : Bool) (plan : Plan) (quiet : Bool) (count : ℕ) (found : List Found)
    → (talk keys limits).asked body ≡ Start noreply plan → (c : Comes limits plan quiet count found) (d : IsDenied limits plan quiet count found c)
    → (talk keys limits).next plan quiet count found ≡ closes_move (held_by limits plan quiet count found c) d.denial.why d.denial.closes d.rest

-- a session cuts a plan's answers by the batch that the plan counts by
abbrev pub BatchesAgree : Type 0
BatchesAgree = (keys : Keys) (limits : Limits) (plan : Plan) → batch_size (talk keys limits) plan ≡ min plan.batch limits.batch

-- SERVER_INFO is answered by what the server tells of itself
abbrev pub InfoIsServers : Type 0
InfoIsServers = server_info ≡ shown server

-- the laws of explained sessions
abbrev pub AllInOrder : Type 0
AllInOrder = (keys : Keys) (limits : Limits) → story.InOrder (talk keys limits)

abbrev pub AllFramesHandled : Type 0
AllFramesHandled = (keys : Keys) (limits : Limits) → story.FramesHandled (talk keys limits)

abbrev pub AllLoginRollsFirst : Type 0
AllLoginRollsFirst = (keys : Keys) (limits : Limits) → story.LoginRollsFirst (talk keys limits)

abbrev pub AllWornLate : Type 0
AllWornLate = (keys : Keys) (limits : Limits) → story.WornLate (talk keys limits)

abbrev pub AllFirstFailed : Type 0
AllFirstFailed = (keys : Keys) (limits : Limits) → story.FirstFailed (talk keys limits)

abbrev pub AllAreAnswered : Type 0
AllAreAnswered = (keys : Keys) (limits : Limits) → EachIsAnswered (talk keys limits)

abbrev pub AllWaitForNothing : Type 0
AllWaitForNothing = (keys : Keys) (limits : Limits) → NothingWasThere (talk keys limits)

abbrev pub AllValidClose : Type 0
AllValidClose = (keys : Keys) (limits : Limits) → story.ValidCloses (talk keys limits)

abbrev pub AllKept : Type 0
AllKept = (keys : Keys) (limits : Limits) → IsKept (ExplainedBy (talk keys limits))

abbrev pub AllOneMore : Type 0
AllOneMore = (keys : Keys) (limits : Limits) → story.OneMore (talk keys limits)

abbrev pub AllLearning : Type 0
AllLearning = (keys : Keys) (limits : Limits) → story.Learning (talk keys limits)

abbrev pub AllNothingLeft : Type 0
AllNothingLeft = (keys : Keys) (limits : Limits) → story.NothingLeft (talk keys limits)

abbrev pub AllFeedsHold : Type 0
AllFeedsHold = (keys : Keys) (limits : Limits) → story.FeedsHold (talk keys limits)

abbrev pub AllSkipsAreSent : Type 0
AllSkipsAreSent = (keys : Keys) (limits : Limits) → story.SkipsAreSent (talk keys limits)

-- and of the feeds that a session has open: whose they are, and what is said of them
abbrev pub AllFeedsAreOpened : Type 0
AllFeedsAreOpened = (keys : Keys) (limits : Limits) → EachIsOpened (talk keys limits)

abbrev pub AllFeedsBegin : Type 0
AllFeedsBegin = (keys : Keys) (limits : Limits) → EachBegins (talk keys limits)

abbrev pub AllFeedsOpen : Type 0
AllFeedsOpen = (keys : Keys) (limits : Limits) → FeedsOpen (talk keys limits)

abbrev pub AllFeedsEnd : Type 0
AllFeedsEnd = (keys : Keys) (limits : Limits) → FeedsEnd (talk keys limits)

abbrev pub AllContinuesAreAnswered : Type 0
AllContinuesAreAnswered = (keys : Keys) (limits : Limits) → EachContinues (talk keys limits)

abbrev pub AllNothingKeptBack : Type 0
AllNothingKeptBack = (keys : Keys) (limits : Limits) → NothingKeptBack (talk keys limits)

abbrev pub AllOfFeedsIsSent : Type 0
AllOfFeedsIsSent = (keys : Keys) (limits : Limits) → AllIsSent (talk keys limits)

abbrev pub AllFeedsAreTold : Type 0
AllFeedsAreTold = (keys : Keys) (limits : Limits) → printed.FeedsAreTold (talk keys limits)

abbrev pub AllBatchesAreOfFeeds : Type 0
AllBatchesAreOfFeeds = (keys : Keys) (limits : Limits) → printed.BatchesAreOfFeeds (talk keys limits)

abbrev pub AllBatchesAreFull : Type 0
AllBatchesAreFull = (keys : Keys) (limits : Limits) → printed.BatchesAreFull (talk keys limits)

abbrev pub AllTakesAreOfFeeds : Type 0
AllTakesAreOfFeeds = (keys : Keys) (limits : Limits) → printed.TakesAreOfFeeds (talk keys limits)

abbrev pub AllIsSaid : Type 0
AllIsSaid = (keys : Keys) (limits : Limits) → printed.AllIsSaid (talk keys limits)

-- and of their arms, and what their Subscribes and Takes are answered
abbrev pub AllArmsAreApart : Type 0
AllArmsAreApart = (keys : Keys) (limits : Limits) → ArmsAreApart (talk keys limits)

abbrev pub AllTakesArePlaced : Type 0
AllTakesArePlaced = (keys : Keys) (limits : Limits) → story.TakesArePlaced (talk keys limits)

abbrev pub AllSubscribesArePlaced : Type 0
AllSubscribesArePlaced = (keys : Keys) (limits : Limits) → story.SubscribesArePlaced (talk keys limits)
