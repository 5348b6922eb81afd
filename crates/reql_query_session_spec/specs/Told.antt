-- Plans as a session is told of them: their moves, and what these found, in the session's words.
use Rattle.std.specs.Prelude.{ℕ, List, [], map, get_or, Bool, cond}
use Rattle.reql_datum.specs.Answer.{Reason, query_logic, non_existence, resource_limit, op_failed, user, no_text}
use Rattle.reql_answer.specs.declared.error.ErrorType.TheVariants as errors
use Rattle.reql_value_spec.specs.Shown.{grouped_data}
use Rattle.reql_table_spec.specs.declared.limits.Limits.{Limits}
use Rattle.reql_plan_spec.specs.declared.parts.Plan.{Plan}
use Rattle.reql_plan_spec.specs.declared.parts.Setting.{Setting}
use Rattle.reql_plan_spec.specs.Course.{plan_next}
use Rattle.reql_plan_spec.specs.Minds.{Feeds, Comes}
use Rattle.reql_plan_spec.specs.Move as plans
use Rattle.reql_plan_spec.specs.Request as requests
use Rattle.reql_session_spec.specs.Requests.{Arm, Opening, State, Shown, Answered, Unsent, One, Stream, Feed, Fault, Wanting, Move, LookNames, TellTime, LookSlot, RunSlot, ChangeNames, Roll, Ends, Found, SawNames, Clocked, SawSlot, RanSlot, ChangedNames, Rolled}
use Rattle.reql_session_spec.specs.Tasks.{Keys, Talk}
use Rattle.reql_query_session_spec.specs.Asking.{asked}

-- ---- what a move found, as a plan hears it
abbrev pub heard_of : Found → plans.Heard
heard_of (SawNames place ns) = plans.names ns
heard_of (Clocked moment) = plans.told moment
heard_of (SawSlot slot at) = plans.looked at
heard_of (RanSlot slot r kept) = plans.ran r kept
heard_of (ChangedNames place r) = plans.changed r
heard_of (Rolled bytes) = plans.rolled bytes

-- ---- what a plan comes to

-- a fault with its type; one without a text never ends a request
abbrev pub fault_of : Reason → Answered
fault_of (query_logic s) = Fault errors.QueryLogic s
fault_of (non_existence s) = Fault errors.NonExistence s
fault_of (resource_limit s) = Fault errors.ResourceLimit s
fault_of (op_failed s) = Fault errors.OpFailed s
fault_of (user s) = Fault errors.User s
fault_of no_text = Fault errors.QueryLogic []

abbrev pub stop_of : plans.Stop → Answered
stop_of (plans.fault why) = fault_of why
stop_of plans.memory = Wanting

abbrev pub arm_of : plans.Arm → Arm
arm_of a = record { slot = a.slot; feed = a.feed; dropped = a.dropped }

abbrev pub no_arm : Arm
no_arm = record { slot = 0; feed = 0; dropped = [] }

-- an item with its arm
abbrev pub shown_of : List Arm → plans.Item → Shown
shown_of arms x = record { at = x.arm; arm = get_or arms x.arm no_arm; sort = cond x.is_state State Opening; stamp = x.stamp; item = x.shown }

abbrev pub answered_of : plans.Outcome → Answered
answered_of plans.unsent = Unsent
answered_of (plans.atom d) = One d
answered_of (plans.grouped gs) = One (grouped_data gs)
answered_of (plans.sequence ds) = Stream ds
answered_of (plans.feed arms notes items) = Feed (map arm_of arms) notes (map (shown_of (map arm_of arms)) items)
answered_of (plans.stop why) = stop_of why

-- ---- a plan's next move
abbrev pub asked_of : plans.Ask → Move
asked_of plans.look_names = LookNames
asked_of plans.tell = TellTime
asked_of (plans.look n) = LookSlot n
asked_of (plans.run n order) = RunSlot n order
asked_of (plans.change_names c) = ChangeNames c
asked_of plans.roll = Roll

abbrev pub move_of : requests.Next → Move
move_of (requests.answered o) = Ends (answered_of o)
move_of (requests.moves q) = asked_of q

-- in a session with these limits, with so many cursors and feeds open
abbrev pub setting_of : Limits → Bool → ℕ → Setting
setting_of limits noreply count = record { noreply = noreply; batch = limits.batch; cursors = limits.cursors; opened = count }

abbrev pub moves_of : Limits → Plan → Bool → ℕ → List Found → Move
moves_of limits plan noreply count found = move_of (plan_next plan (setting_of limits noreply count) (map heard_of found))

-- ---- what a session with a key, a password and limits is told
abbrev pub keys_by : List ℕ → List ℕ → Keys
keys_by key password = record { key = key; password = password }

abbrev pub talk : Keys → Limits → Talk Plan
talk keys limits = record { key = keys.key; password = keys.password; limits = limits; asked = asked; next = moves_of limits; batch = λ plan. plan.batch }

-- ---- that a course of a plan comes by, with these arms open
abbrev pub feeds_of : List Arm → Feeds
feeds_of arms = map (λ (a : Arm). (a.slot, a.feed)) arms

abbrev pub comes_by : Limits → Plan → Bool → ℕ → List Found → List Arm → Type 0
comes_by limits plan noreply count found arms = Comes plan (setting_of limits noreply count) (map heard_of found) (feeds_of arms)
