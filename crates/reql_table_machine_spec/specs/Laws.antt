-- Laws of the machine of a table, whatever its writes and feeds are.
use Rattle.std.specs.Prelude.{◌≡◌, ◌≤◌, ℕ, List, [], ◌∷◌, ◌++◌, length, Bool, true, false, ◌&&◌, ◌||◌}
use Rattle.reql_shared.specs.declared.recorded.Recorded.{Recorded}
use Rattle.reql_shared.specs.Acts.{Act}
use Rattle.reql_shared.specs.Machine.{replay}
use Rattle.reql_shared.specs.Plays.{Woven}
use Rattle.reql_table_machine_spec.specs.Feeding.{Feeding, Folds}
use Rattle.reql_table_machine_spec.specs.Feeds.{Table, adds, answer, after, after_cmd, table_machine}
use Rattle.reql_table_machine_spec.specs.Fed.{docs_at, AllFed}
use Rattle.reql_table_machine_spec.specs.declared.command.Cmd.{Cmd}
use Rattle.reql_table_machine_spec.specs.declared.command.Cmd.TheVariants as cmds
use Rattle.reql_table_machine_spec.specs.declared.command.Order.{Order}
use Rattle.reql_table_machine_spec.specs.declared.command.Reply.{Reply}
use Rattle.reql_table_machine_spec.specs.declared.command.Said.{Said}
use Rattle.reql_table_machine_spec.specs.declared.command.Look.{Look}

module _ {W N P : Type 0} where
  -- whether a command drops the table
  abbrev pub is_drop : Cmd W N P → Bool
  is_drop cmds.Shut = true
  is_drop other = false

module _ {D J W N P M X K I F : Type 0} (m : Feeding D J W N P M X K I F) where
  -- a command that adds no entry leaves the table as it was: rules out a refusal, an empty Take or a late command with an effect
  abbrev pub RefusedStays : Type 0
  RefusedStays = (t : Table D J K I) (by : ℕ) (cmd : Cmd W N P) → adds m (answer m t by cmd) ≡ false → after_cmd m t by cmd ≡ t

  -- the documents after all changes are those of the table: rules out a change that is counted and not made, or made and not counted
  abbrev pub DocsAtStamp : Type 0
  DocsAtStamp = (t : Table D J K I) (history : List (Recorded (Order (Cmd W N P)))) → docs_at m t history (replay (table_machine m) t history).stamp ≡ (replay (table_machine m) t history).docs

  -- the documents at a later stamp are the same seen from a later table: rules out that an answer of a point changes when the history goes on
  abbrev pub LaterDocs : Type 0
  LaterDocs = (t : Table D J K I) (history more : List (Recorded (Order (Cmd W N P)))) (n : ℕ) → (replay (table_machine m) t history).stamp ≤ n
      → docs_at m t (history ++ more) n ≡ docs_at m (replay (table_machine m) t history) more n

  -- whether a command along a history drops the table
  abbrev pub drops_from : Table D J K I → List (Recorded (Order (Cmd W N P))) → Bool
  drops_from t [] = false
  drops_from t (e ∷ es) = (adds m (answer m t e.by e.cmd.cmd) && is_drop e.cmd.cmd) || drops_from (after m t e.by e.cmd) es

  -- a table is shut exactly where it was, or a command dropped it: rules out a table that anything else shuts, one that a drop leaves open, and one that opens again
  abbrev pub ShutWhereDropped : Type 0
  ShutWhereDropped = (t : Table D J K I) (history : List (Recorded (Order (Cmd W N P)))) → (replay (table_machine m) t history).shut ≡ (t.shut || drops_from t history)

  -- where the laws of its kinds of feed hold, each feed that a user opened along a history folds to its query: rules out an item that is lost, told twice,
  -- out of order, or to another, but for a skip that was told
  abbrev pub FeedsFold : (D → Type 0) → (D → X → Type 0) → Type 0
  FeedsFold good may = Folds m good may → (o : Table D J K I) (before during after : List (Recorded (Order (Cmd W N P)))) (by : ℕ)
      (acts : List (Act (Order (Cmd W N P)) (Reply (Said M I)) (Unit {0}) (Look (D × J))))
      → good o.docs → o.feeds ≡ [] → Woven (table_machine m) (replay (table_machine m) o before) by (length before) acts during
      → AllFed m o (before ++ (during ++ after)) acts
