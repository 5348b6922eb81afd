-- What a feed's client was sent, and that its fold is the feed's query evaluated from scratch.
use Rattle.std.specs.Prelude.{◌≡◌, ◌≤◌, ◌<◌, ◌⊎◌, ℕ, ◌-◌, nat_eq, nat_lt, List, [], ◌∷◌, ◌++◌, length, filter, take, flat_map, Bool, true, false, not, cond, Option, Some}
use Rattle.reql_table_machine_spec.specs.Feeding.{Feeding, fold, bare, changed}
use Rattle.reql_table_machine_spec.specs.Feeds.{Table, adds, answer, after, table_machine}
use Rattle.reql_table_machine_spec.specs.declared.command.Cmd.{Cmd}
use Rattle.reql_table_machine_spec.specs.declared.command.Cmd.TheVariants as cmds
use Rattle.reql_table_machine_spec.specs.declared.command.Order.{Order}
use Rattle.reql_table_machine_spec.specs.declared.command.Said.{Said}
use Rattle.reql_table_machine_spec.specs.declared.command.Said.TheVariants as said
use Rattle.reql_table_machine_spec.specs.declared.command.Reply.{Reply}
use Rattle.reql_table_machine_spec.specs.declared.command.Look.{Look}
use Rattle.reql_shared.specs.declared.recorded.Recorded.{Recorded}
use Rattle.reql_shared.specs.Machine.{replay}
use Rattle.reql_shared.specs.Acts.{Act, Ran, Looked, Denied}

-- a Take of a feed: the most that it asked for, the stamp at which it was answered, and its answer
pub record Taking (M I : Type 0) : Type 0 where
  pub max : ℕ
  pub stamp : ℕ
  pub said : Said M I

module _ {I : Type 0} where
  -- the items with stamps up to n
  abbrev pub upto : ℕ → List (ℕ × I) → List (ℕ × I)
  upto n items = filter (λ (p : ℕ × I). not (nat_lt n p.0)) items

  -- an item has a stamp above n
  abbrev pub IsPassed : ℕ → List (ℕ × I) → Type 0
  IsPassed n [] = ⊥
  IsPassed n (p ∷ ps) = (n < p.0) ⊎ IsPassed n ps

module _ {M I : Type 0} where
  -- the items of a Take, the skip item aside
  abbrev pub items_of : Said M I → List (ℕ × I)
  items_of (said.Batch skipped last items) = items
  items_of other = []

  -- whether a Take tells of items that were skipped
  abbrev pub tells_skip : Said M I → Bool
  tells_skip (said.Batch skipped last items) = not (nat_eq skipped 0)
  tells_skip other = false

  abbrev pub given : List (Taking M I) → List (ℕ × I)
  given ts = flat_map (λ (t : Taking M I). items_of t.said) ts

  -- what a Take of a feed that doesn't squash tells of stamp n: it gave an item above it, or fewer items than its most
  -- at a stamp no lower, or was answered there that the table was dropped
  abbrev pub DecidesPlain : ℕ → ℕ → ℕ → Said M I → Type 0
  DecidesPlain n max stamp (said.Batch skipped last items) = IsPassed n items ⊎ ((n ≤ stamp) × (length items < max))
  DecidesPlain n max stamp said.Gone = n ≤ stamp
  DecidesPlain n max stamp other = ⊥

  -- of a feed that squashes: it is the stamp of a Take that gave items, or at which the drop was answered
  abbrev pub DecidesJoined : ℕ → ℕ → Said M I → Type 0
  DecidesJoined n stamp (said.Batch skipped last items) = n ≡ stamp
  DecidesJoined n stamp said.Gone = n ≡ stamp
  DecidesJoined n stamp other = ⊥

  abbrev pub Decides : Bool → ℕ → Taking M I → Type 0
  Decides false n t = DecidesPlain n t.max t.stamp t.said
  Decides true n t = DecidesJoined n t.stamp t.said

  -- The answers are whole up to n: all that the Takes gave up to one that decides was sent, and none of them told of skipped items.
  abbrev pub Whole : Bool → ℕ → List (Taking M I) → List (ℕ × I) → Type 0
  Whole squashes n [] sent = ⊥
  Whole squashes n (t ∷ ts) sent = (rest : List (ℕ × I)) × (sent ≡ items_of t.said ++ rest) × (tells_skip t.said ≡ false) × (Decides squashes n t ⊎ Whole squashes n ts rest)

module _ {W N P M I : Type 0} where
  abbrev pub taking_by : ℕ → Cmd W N P → Reply (Said M I) → List (Taking M I)
  taking_by number (cmds.Take feed max) reply = cond (nat_eq feed number) (record { max = max; stamp = reply.stamp; said = reply.said } ∷ []) []
  taking_by number other reply = []

module _ {W N P : Type 0} where
  -- whether a command asks to close a feed of who gives it
  abbrev pub is_end : ℕ → Cmd W N P → Bool
  is_end number (cmds.Unsubscribe feed) = nat_eq feed number
  is_end number other = false

module _ {W N P M I Q A : Type 0} where
  -- the Takes of a feed among a session's acts on its slot, up to the first Unsubscribe of it, whatever that is answered
  abbrev pub takings : ℕ → List (Act (Order (Cmd W N P)) (Reply (Said M I)) Q A) → List (Taking M I)
  takings number [] = []
  takings number (Ran place order reply ∷ acts) = cond (is_end number order.cmd) [] (taking_by number order.cmd reply ++ takings number acts)
  takings number (Looked place question answer ∷ acts) = takings number acts
  takings number (Denied place ∷ acts) = takings number acts

module _ {D J W N P M X K I F : Type 0} (m : Feeding D J W N P M X K I F) where
  -- the single-document changes that a history makes from a table on
  abbrev pub changes_by : Table D J K I → Cmd W N P → List X
  changes_by t (cmds.Write w) = m.changes t.docs t.indexes w
  changes_by t other = []

  abbrev pub changes_at : Table D J K I → ℕ → Cmd W N P → List X
  changes_at t by cmd = cond (adds m (answer m t by cmd)) (changes_by t cmd) []

  abbrev pub changes_from : Table D J K I → List (Recorded (Order (Cmd W N P))) → List X
  changes_from t [] = []
  changes_from t (e ∷ es) = changes_at t e.by e.cmd.cmd ++ changes_from (after m t e.by e.cmd) es

  -- the documents when the table's stamp is n
  abbrev pub docs_at : Table D J K I → List (Recorded (Order (Cmd W N P))) → ℕ → D
  docs_at t history n = changed m t.docs (take (n - t.stamp) (changes_from t history))

  -- A feed that was opened at this table, from which this history goes on: wherever the answers are whole up to n, the fold
  -- of what was sent with stamps up to n over the value at the opening is the value at n.
  abbrev pub Fed : K → Table D J K I → List (Recorded (Order (Cmd W N P))) → List (Taking M I) → List (ℕ × I) → Type 0
  Fed k t history ts sent = (n : ℕ) → t.stamp ≤ n → Whole (m.squashes k) n ts sent → fold m k (m.value k t.docs) (bare m (upto n sent)) ≡ m.value k (docs_at t history n)

  -- The feeds that a user opened by its acts along this history from this table: each of them folds to its query, evaluated
  -- over the documents of the history up to any change up to which its answers are whole.
  abbrev pub FedSaid : Table D J K I → List (Recorded (Order (Cmd W N P))) → Option K → ℕ → Said M I → List (Act (Order (Cmd W N P)) (Reply (Said M I)) (Unit {0}) (Look (D × J))) → Type 0
  FedSaid t history (Some k) stamp (said.Opened number opening) acts = (sent unsent : List (ℕ × I)) → sent ++ unsent ≡ given (takings number acts) → (n : ℕ) → stamp ≤ n → Whole (m.squashes k) n (takings number acts) sent →
      fold m k (m.value k (docs_at t history stamp)) (bare m (upto n sent)) ≡ m.value k (docs_at t history n)
  FedSaid t history kept stamp other acts = Unit {0}

  abbrev pub FedCmd : Table D J K I → List (Recorded (Order (Cmd W N P))) → ℕ → Cmd W N P → Reply (Said M I) → List (Act (Order (Cmd W N P)) (Reply (Said M I)) (Unit {0}) (Look (D × J))) → Type 0
  FedCmd t history place (cmds.Subscribe p) reply acts = FedSaid t history (m.keep (replay (table_machine m) t (take place history)).indexes p) reply.stamp reply.said acts
  FedCmd t history place other reply acts = Unit {0}

  abbrev pub AllFed : Table D J K I → List (Recorded (Order (Cmd W N P))) → List (Act (Order (Cmd W N P)) (Reply (Said M I)) (Unit {0}) (Look (D × J))) → Type 0
  AllFed t history [] = Unit {0}
  AllFed t history (Ran place order reply ∷ acts) = FedCmd t history place order.cmd reply acts × AllFed t history acts
  AllFed t history (Looked place question answer ∷ acts) = AllFed t history acts
  AllFed t history (Denied place ∷ acts) = AllFed t history acts
