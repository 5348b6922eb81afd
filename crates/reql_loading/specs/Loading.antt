-- What a load promises, by the words and the sink that it is handed.
use Rattle.std.specs.Prelude.{◌≡◌, ◌<◌, ◌⊎◌, ℕ, Bool, false, ◌||◌, ◌==◌, List, [], ◌∷◌, ◌++◌, length, map, All, codes, decimal, slice_index_or}
use Rattle.std.specs.List.{starts_with}
use Rattle.reql_outside.specs.Played.{tape_of}
use Rattle.reql_outside.specs.Written.{Written, Puts}
use Rattle.reql_outside.specs.declared.memory.MemRecord.{MemRecord}
use Rattle.reql_outside.specs.declared.sink.Put.TheVariants as put
use Rattle.reql_shared.specs.Sight.{Closing}
use Rattle.reql_answer.specs.Body.{body, internal}
use Rattle.reql_hall.specs.Rooms.{Closed}
use Rattle.reql_catalog.specs.declared.catalog.Catalog.{Catalog}
use Rattle.reql_catalog.specs.declared.command.CatCmd.{CatCmd}
use Rattle.reql_table_spec.specs.Limits.{usual_limits}
use Rattle.reql_table_spec.specs.Machine.{State}
use Rattle.reql_table_spec.specs.declared.command.Entry.{Entry}
use Rattle.reql_table_spec.specs.declared.command.Order.{Order}
use Rattle.reql_tail.specs.Kept.{Kept}
use Rattle.reql_core.specs.declared.moment.Moment.{Moment}
use Rattle.reql_session_spec.specs.declared.end.End.TheVariants as ends
use Rattle.reql_query_session_spec.specs.Told.{keys_by}
use Rattle.reql_serve.specs.Many.{AtEnd}
use Rattle.reql_serve.specs.Working.{Outside}
use Rattle.reql_serve.specs.declared.worker.Member.{Member}
use Rattle.reql_words.specs.Words.{Asks, Load}
use Rattle.reql_load.specs.Script.{script_of}
use Rattle.reql_tally.specs.Tallied.{Found}
use Rattle.reql_tally.specs.declared.tally.Tally.{Tally}
use Rattle.reql_run.specs.Listening.{AreServed, IsFreshPost, IsSoundPost}

-- the table of a load, in the first slot
abbrev pub tables : List (List ℕ × List ℕ)
tables = (codes "test", codes "load") ∷ []

-- Five sessions, told of plans in ReQL, at a hall that knows this table alone and whose engines are unused; each worker has one.
pub record IsServed {E NE : Type 0} (state : E → State) (known : NE → Catalog) (workers : List (AtEnd MemRecord)) (hall : Closed E Order State NE CatCmd Catalog) : Type 0 where
  pub posts : List Outside
  pub five : length posts ≡ 5
  pub fresh : All IsFreshPost posts
  pub sound : All IsSoundPost posts
  pub served : AreServed state known tape_of (keys_by [] []) tables posts 5 workers hall

-- some bytes stand among others
abbrev pub has_part : List ℕ → List ℕ → Bool
has_part part [] = false
has_part part (b ∷ bs) = starts_with (λ x y. x == y) (b ∷ bs) part || has_part part bs

-- how an answer ends that refuses a request or tells a fault
abbrev pub refusals : List (List ℕ)
refusals = codes "\"t\":16}" ∷ codes "\"t\":17}" ∷ codes "\"t\":18}" ∷ []

abbrev pub has_any : List (List ℕ) → List ℕ → Bool
has_any [] bs = false
has_any (part ∷ parts) bs = has_part part bs || has_any parts bs

-- A session was given these bytes and closed, and was sent no answer that memory was wanted, and none that refuses a request.
pub record IsWhole (script : List ℕ) (m : Member MemRecord) : Type 0 where
  pub given : m.served.tape.given.items ≡ script
  pub closed : m.served.end ≡ ends.Closed
  pub sent : has_part (body internal) m.served.tape.sent.items ≡ false
  pub served : has_any refusals m.served.tape.sent.items ≡ false

-- a worker served one session, which was whole
abbrev pub ServedWhole : List ℕ → List (Member MemRecord) → Type 0
ServedWhole script members = (m : Member MemRecord) × (members ≡ m ∷ []) × IsWhole script m

-- what is printed
abbrev pub lines : Tally → List ℕ
lines t = codes "documents " ++ decimal t.documents ++ codes "\nchanges " ++ decimal t.changes ++ codes "\nfeeds " ++ decimal t.feeds ++ codes "\nfolds " ++ decimal t.folds ++ codes "\n"

-- What is printed of a load: each worker served the session of its number, which was whole; and the entries that the table's engine keeps are
-- counted, which lead from the empty table to the table where it stands.
pub record Reports {E NE : Type 0} (state : E → State) (kept : E → Kept Moment Entry) (seed size : ℕ) (members : List (List (Member MemRecord))) (hall : Closed E Order State NE CatCmd Catalog) (text : List ℕ) : Type 0 where
  pub whole : (session : ℕ) (ms : List (Member MemRecord)) → session < 5 → ServedWhole (script_of seed size session) (slice_index_or members session ms)
  pub tally : Tally
  pub counted : (f : Closing E Order State) → Found usual_limits.feeds usual_limits.tail (kept (slice_index_or hall.slots 0 f).engine) (state (slice_index_or hall.slots 0 f).engine) tally
  pub printed : text ≡ lines tally

-- It is printed whole, or the sink fails; or nothing is printed, since a session was not whole, or there is nothing to count, or memory was wanted.
abbrev pub Prints : {E NE : Type 0} → (E → State) → (E → Kept Moment Entry) → ℕ → ℕ → List (List (Member MemRecord)) → Closed E Order State NE CatCmd Catalog → Written → Written → ℕ → Type 0
Prints state kept seed size members hall old new status =
    ((status ≡ 0) × (text : List ℕ) × Reports state kept seed size members hall text × Puts old new text put.Done)
    ⊎ (((status ≡ 5) × (text : List ℕ) × Reports state kept seed size members hall text × Puts old new text put.Failed)
    ⊎ ((status ≡ 8) × (new ≡ old)))

-- The words ask for a load, its sessions were served, and this is what was printed of them.
pub record Loads {E NE : Type 0} (state : E → State) (known : NE → Catalog) (kept : E → Kept Moment Entry) (asked : Asks) (old new : Written) (status : ℕ) (workers : List (AtEnd MemRecord)) (hall : Closed E Order State NE CatCmd Catalog) : Type 0 where
  pub seed : ℕ
  pub size : ℕ
  pub asks : asked ≡ Load seed size
  pub served : IsServed state known workers hall
  pub prints : Prints state kept seed size (map (λ (w : AtEnd MemRecord). w.ended) workers) hall old new status

-- No session is told of, and nothing is printed: the words ask for no load, or memory was wanted.
abbrev pub Unloaded : Asks → Written → Written → ℕ → Type 0
Unloaded (Load seed size) old new status = (status ≡ 8) × (new ≡ old)
Unloaded asked old new status = (status ≡ 2) × (new ≡ old)
