-- All that a session is asked to run to open feeds for a plan, by what the plan's moves found, and what it is then told of them, in the session's words.
use Rattle.std.specs.Prelude.{◌≡◌, ℕ, List, [], ◌∷◌, map, filter, Bool, false}
use Rattle.reql_datum.specs.Answer.{Answer}
use Rattle.reql_table_spec.specs.declared.command.Cmd.TheVariants as cmds
use Rattle.reql_table_spec.specs.declared.limits.Limits.{Limits}
use Rattle.reql_plan_spec.specs.declared.parts.Opening.{Opening}
use Rattle.reql_plan_spec.specs.declared.parts.Plan.{Plan}
use Rattle.reql_plan_spec.specs.Answering.{AtChanges, Denied}
use Rattle.reql_plan_spec.specs.Asked.{opens_feed, Changing, reached, AreOpened}
use Rattle.reql_plan_spec.specs.Course as courses
use Rattle.reql_plan_spec.specs.Course.{order_of, first_items, notes_of, held}
use Rattle.reql_plan_spec.specs.Feeding.{Feeding, feeding}
use Rattle.reql_plan_spec.specs.Held.{Held}
use Rattle.reql_plan_spec.specs.Move as plans
use Rattle.reql_plan_spec.specs.Theirs.{AreOf}
use Rattle.reql_session_spec.specs.Requests.{Arm, Shown, Answered, Feed, Move, RunSlot, Ends, Found}
use Rattle.reql_query_session_spec.specs.Told.{heard_of, setting_of, stop_of, answered_of}

-- ---- the moves that open a feed

-- what comes before the first of these was found, and after each of them
abbrev pub moves_along : (List Found → Move) → List Found → List Move
moves_along next [] = next [] ∷ []
moves_along next (f ∷ found) = next [] ∷ moves_along (λ more. next (f ∷ more)) found

abbrev pub runs_feed : Move → Bool
runs_feed (RunSlot n order) = opens_feed order.cmd
runs_feed m = false

abbrev pub feeds_run : (List Found → Move) → List Found → List Move
feeds_run next found = filter runs_feed (moves_along next found)

-- what is run for a feed: on its slot, the feed itself, with the points of the snapshots that it was settled by
abbrev pub run_for : Held → Opening → Move
run_for e o = RunSlot o.slot (order_of e (cmds.Subscribe o.spec))

-- where one is not opened, what comes next by what was heard since: these are closed in their order, and then why is told
abbrev pub closes_move : Held → plans.Stop → List courses.Open → List plans.Heard → Move
closes_move e why [] hs = Ends (stop_of why)
closes_move e why (k ∷ ks) [] = RunSlot k.slot (order_of e (cmds.Unsubscribe k.feed))
closes_move e why (k ∷ ks) (h ∷ hs) = closes_move e why ks hs

-- ---- of a plan whose moves found so much, in a session with these limits and so many cursors and feeds open
module _ (limits : Limits) (plan : Plan) (quiet : Bool) (count : ℕ) (found : List Found) where
  -- it came to the feeds of a CHANGES
  abbrev pub Comes : Type 0
  Comes = Changing plan (setting_of limits quiet count) (map heard_of found)

  abbrev pub held_by : Comes → Held
  held_by c = held plan (setting_of limits quiet count) c.known c.read

  -- the feed that is not opened
  abbrev pub IsDenied : Comes → Type 0
  IsDenied c = Denied (held_by c) c.feeds.openings c.replies

  -- or it came to a CHANGES that wants an answer, whether its feeds can be read or not
  abbrev pub ComesToChanges : Type 0
  ComesToChanges = AtChanges plan (setting_of limits quiet count) (map heard_of found)

  abbrev pub feeds_at : ComesToChanges → Answer Feeding
  feeds_at c = feeding (held plan (setting_of limits quiet count) c.known c.read) c.arguments c.options

  -- what is told of the feeds that are open
  abbrev pub told_of : (c : Comes) → List courses.Open → Answered
  told_of c opened = answered_of (plans.feed (map (courses.arm_of (held_by c)) opened) (notes_of c.feeds) (first_items c.feeds.told opened))

  -- where these are its moves
  module _ (next : List Found → Move) where
    -- all that was run to open feeds is these feeds in their order, each once the one before it was open
    abbrev pub AreRunInTurn : Comes → Type 0
    AreRunInTurn c = feeds_run next found ≡ map (run_for (held_by c)) (reached [] c.feeds.openings c.replies)

    -- and each is its own term's
    pub record RunsItsOwn : Type 0 where
      pub changes : Comes
      pub run : AreRunInTurn changes
      pub own : AreOf (held_by changes) changes.arguments changes.options changes.feeds

    -- a feed that it ends with: all feeds of its CHANGES were run, each is its own term's, each was opened by its answer, and arms, notes and
    -- first items are those of just these, in their order
    pub record EndsWithItsFeeds (arms : List Arm) (notes : List ℕ) (items : List Shown) : Type 0 where
      pub changes : Comes
      pub own : AreOf (held_by changes) changes.arguments changes.options changes.feeds
      pub run : feeds_run next found ≡ map (run_for (held_by changes)) changes.feeds.openings
      pub opened : List courses.Open
      pub each : AreOpened changes.feeds.openings changes.replies opened
      pub told : Feed arms notes items ≡ told_of changes opened
