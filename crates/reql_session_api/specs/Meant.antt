-- What the types of the program mean in the words of a session's story.
use Rattle.std.specs.Prelude.{ℕ, List, [], ◌∷◌, ◌++◌, map, get_or, Bool}
use Rattle.reql_datum.specs.View.{plain}
use Rattle.reql_term.specs.Views.{Document, Index}
use Rattle.reql_table_spec.specs.Engines.{seen_in}
use Rattle.reql_table_spec.specs.Replies.{told_of}
use Rattle.reql_session_spec.specs.Requests as story
use Rattle.reql_session_spec.specs.Tasks.{Talk}
use Rattle.reql_session_api.specs.declared.answered.Arm.{Arm}
use Rattle.reql_session_api.specs.declared.answered.Sort.{Sort}
use Rattle.reql_session_api.specs.declared.answered.Sort.TheVariants as sorts
use Rattle.reql_session_api.specs.declared.answered.Shown.{Shown}
use Rattle.reql_session_api.specs.declared.answered.Answered.{Answered}
use Rattle.reql_session_api.specs.declared.answered.Answered.TheVariants as answers
use Rattle.reql_session_api.specs.declared.moves.Move.{Move}
use Rattle.reql_session_api.specs.declared.moves.Move.TheVariants as moves
use Rattle.reql_session_api.specs.declared.moves.Found.{Found}
use Rattle.reql_session_api.specs.declared.moves.Found.TheVariants as finds
use Rattle.reql_session_api.specs.declared.query.Query.{Query}
use Rattle.reql_session_api.specs.declared.query.Query.TheVariants as queries

abbrev pub arm_of : Arm → story.Arm
arm_of a = record { slot = a.slot; feed = a.feed; dropped = a.dropped }

abbrev pub arms_of : List Arm → List story.Arm
arms_of arms = map arm_of arms

abbrev pub sort_of : Sort → story.Sort
sort_of sorts.Opening = story.Opening
sort_of sorts.State = story.State
sort_of sorts.Skip = story.Skip
sort_of sorts.Change = story.Change

abbrev pub no_arm : story.Arm
no_arm = record { slot = 0; feed = 0; dropped = [] }

-- an item, of a feed with these arms
abbrev pub shown_of : List story.Arm → Shown → story.Shown
shown_of arms x = record { at = x.at; arm = get_or arms x.at no_arm; sort = sort_of x.sort; stamp = x.stamp; item = plain x.item }

abbrev pub answered_of : Answered → story.Answered
answered_of answers.Unsent = story.Unsent
answered_of (answers.One d) = story.One (plain d)
answered_of (answers.Stream ds) = story.Stream ds
answered_of (answers.Feed arms notes items) = story.Feed (arms_of arms.items) notes (map (shown_of (arms_of arms.items)) items.items)
answered_of (answers.Fault error why) = story.Fault error why
answered_of answers.Wanting = story.Wanting

abbrev pub move_of : Move → story.Move
move_of moves.LookNames = story.LookNames
move_of moves.TellTime = story.TellTime
move_of (moves.LookSlot slot) = story.LookSlot slot
move_of (moves.RunSlot slot order) = story.RunSlot slot order
move_of (moves.ChangeNames cmd) = story.ChangeNames cmd
move_of moves.Roll = story.Roll
move_of (moves.Ends a) = story.Ends (answered_of a)

module _ {V : Type 0} (documents : V → List Document) (indexes : V → List (List ℕ × Index)) where
  abbrev pub found_of : Found V → story.Found
  found_of (finds.SawNames place names) = story.SawNames place names
  found_of (finds.Clocked moment) = story.Clocked moment
  found_of (finds.SawSlot slot look) = story.SawSlot slot (seen_in documents indexes look)
  found_of (finds.RanSlot slot reply) = story.RanSlot slot (told_of reply) reply.saved
  found_of (finds.ChangedNames place reply) = story.ChangedNames place reply
  found_of (finds.Rolled bytes) = story.Rolled bytes

module _ {PL : Type 0} where
  abbrev pub asked_of : Query PL → story.Asked PL
  asked_of (queries.Unreadable noreply why) = story.Unreadable noreply why
  asked_of (queries.Unplanned noreply why) = story.Unplanned noreply why
  asked_of (queries.Start noreply plan) = story.Start noreply plan
  asked_of queries.Continue = story.Continue
  asked_of queries.Stop = story.Stop
  asked_of queries.NoreplyWait = story.NoreplyWait
  asked_of queries.ServerInfo = story.ServerInfo

-- a request on its way: its plan, whether no answer is wanted, how many cursors and feeds were open, and what it found
pub record Course (PL : Type 0) : Type 0 where
  pub plan : PL
  pub noreply : Bool
  pub count : ℕ
  pub found : List story.Found

module _ {PL : Type 0} where
  abbrev pub heard_with : story.Found → Course PL → Course PL
  heard_with x c = record c { found = c.found ++ x ∷ [] }

  abbrev pub next_of : Talk PL → Course PL → story.Move
  next_of k c = k.next c.plan c.noreply c.count c.found
