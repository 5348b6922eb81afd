-- What the server promises, of the words and the devices that it is handed.
use Rattle.std.specs.Prelude.{◌≡◌, ℕ, ℤ, List, replicate}
use Rattle.reql_outside.specs.Source.{Source}
use Rattle.reql_outside.specs.Tape.{Tape}
use Rattle.reql_hall.specs.Rooms.{Closed}
use Rattle.reql_catalog.specs.Machine.{opening}
use Rattle.reql_catalog.specs.declared.catalog.Catalog.{Catalog}
use Rattle.reql_catalog.specs.declared.command.CatCmd.{CatCmd}
use Rattle.reql_table_spec.specs.Limits.{usual_limits}
use Rattle.reql_table_spec.specs.Machine.{State, unused}
use Rattle.reql_table_spec.specs.declared.command.Order.{Order}
use Rattle.reql_session_spec.specs.Tasks.{Keys}
use Rattle.reql_session_spec.specs.declared.end.End.{End}
use Rattle.reql_query_session_spec.specs.Told.{keys_by, talk}
use Rattle.reql_serve.specs.Serving.{ServesOne}
use Rattle.reql_words.specs.Words.{Asks, Stdio}
use Rattle.reql_run.specs.Endings.{status_of}
use Rattle.reql_run.specs.Holding.{IsComplete, IsLate, ClosesWhole, AreFed}

-- One session, told of plans in ReQL, at the one desk of a hall that knows these tables and whose engines are unused, of the usual limits.
abbrev pub IsServed : {E NE : Type 0} → (E → State) → (NE → Catalog) → Keys → List (List ℕ × List ℕ) → Source ℤ → Source (List ℕ) → Tape → End → ℕ → Closed E Order State NE CatCmd Catalog → Type 0
IsServed state known keys tables clock dice tape end turns hall =
    ServesOne (talk keys usual_limits) (unused 0 0) state known (opening tables usual_limits.slots)
    (replicate usual_limits.slots (unused usual_limits.feeds usual_limits.tail)) clock dice tape end turns hall

-- The words ask for a session with a key, a password and tables, it is served, and the status is that of its end; nothing of its input
-- is missing, its turns were used up by so much input alone, a valid input over a link without a fault is handled whole and
-- closes, and its feeds are fed.
pub record Serves {E NE : Type 0} (state : E → State) (known : NE → Catalog) (asked : Asks) (status : ℕ) (clock : Source ℤ) (dice : Source (List ℕ)) (tape : Tape) (end : End) (turns : ℕ) (hall : Closed E Order State NE CatCmd Catalog) : Type 0 where
  pub key : List ℕ
  pub password : List ℕ
  pub tables : List (List ℕ × List ℕ)
  pub asks : asked ≡ Stdio key password tables
  pub served : IsServed state known (keys_by key password) tables clock dice tape end turns hall
  pub ends : status ≡ status_of end
  pub complete : IsComplete (talk (keys_by key password) usual_limits) served.served.explained.explained
  pub late : IsLate (talk (keys_by key password) usual_limits) served.served.explained.explained
  pub whole : ClosesWhole (talk (keys_by key password) usual_limits) served.served.explained.explained tape
  pub fed : AreFed (talk (keys_by key password) usual_limits) served.served.explained.explained

-- No session is told of: the words ask for none, or memory was wanted.
abbrev pub Unserved : Asks → ℕ → Type 0
Unserved (Stdio key password tables) status = status ≡ 8
Unserved asked status = status ≡ 2
