-- What the program asks, hears and answers, as definitions have it.
use Rattle.std.specs.Prelude.{List, map}
use Rattle.reql_datum.specs.Answer.{query_logic, non_existence, resource_limit, op_failed, user, no_text}
use Rattle.reql_datum.specs.View.{plain}
use Rattle.reql_datum.specs.declared.fault.Fault.{Fault}
use Rattle.reql_datum.specs.declared.fault.Fault.TheVariants.{QueryLogic, NonExistence, ResourceLimit, OpFailed, User, Empty, Memory}
use Rattle.reql_term.specs.Views.{Document}
use Rattle.reql_table_spec.specs.Engines.{seen_in}
use Rattle.reql_table_spec.specs.Indexes.{Indexes}
use Rattle.reql_table_spec.specs.Replies.{told_of}
use Rattle.reql_operand.specs.Seen.{group}
use Rattle.reql_plan_results.specs.Seen.{arm, item}
use Rattle.reql_plan_spec.specs.Move as m
use Rattle.reql_plan_spec.specs.Request.{Next, answered, moves}
use Rattle.reql_plan_steps.specs.declared.moves.Answered.{Answered}
use Rattle.reql_plan_steps.specs.declared.moves.Answered.TheVariants as a
use Rattle.reql_plan_steps.specs.declared.moves.Ask.{Ask}
use Rattle.reql_plan_steps.specs.declared.moves.Ask.TheVariants as q
use Rattle.reql_plan_steps.specs.declared.moves.Found.{Found}
use Rattle.reql_plan_steps.specs.declared.moves.Found.TheVariants as f
use Rattle.reql_plan_steps.specs.declared.moves.Move.{Move}
use Rattle.reql_plan_steps.specs.declared.moves.Move.TheVariants as move

abbrev pub stop_of : Fault → m.Stop
stop_of (QueryLogic s) = m.fault (query_logic s)
stop_of (NonExistence s) = m.fault (non_existence s)
stop_of (ResourceLimit s) = m.fault (resource_limit s)
stop_of (OpFailed s) = m.fault (op_failed s)
stop_of (User s) = m.fault (user s)
stop_of Empty = m.fault no_text
stop_of Memory = m.memory

abbrev pub outcome_of : Answered → m.Outcome
outcome_of a.Unsent = m.unsent
outcome_of (a.Atom d) = m.atom (plain d)
outcome_of (a.Grouped gs) = m.grouped (map group gs.items)
outcome_of (a.Sequence ds) = m.sequence ds
outcome_of (a.Feed arms notes items) = m.feed (map arm arms.items) notes.items (map item items.items)
outcome_of (a.Fault e) = m.stop (stop_of e)

abbrev pub ask_of : Ask → m.Ask
ask_of q.LookNames = m.look_names
ask_of q.Tell = m.tell
ask_of (q.Look n) = m.look n
ask_of (q.Run n order) = m.run n order
ask_of (q.ChangeNames cmd) = m.change_names cmd
ask_of q.Roll = m.roll

abbrev pub move_of : Move → Next
move_of (move.Ask q) = moves (ask_of q)
move_of (move.Answer o) = answered (outcome_of o)

module _ {V : Type 0} (documents : V → List Document) (indexes : V → Indexes) where
  abbrev pub heard : Found V → m.Heard
  heard (f.Names ns) = m.names ns
  heard (f.Told n) = m.told n
  heard (f.Look l) = m.looked (seen_in documents indexes l)
  heard (f.Ran r) = m.ran (told_of r) r.saved
  heard (f.Changed r) = m.changed r
  heard (f.Rolled b) = m.rolled b
