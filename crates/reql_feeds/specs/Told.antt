-- What a change that led to some documents is to each of the open feeds.
use Rattle.std.specs.Prelude.{◌≡◌, ◌⊎◌, ℕ, suc, List, [], ◌∷◌, map, length, Option, Some, None}
use Rattle.reql_datum.specs.Plain.{Plain}
use Rattle.reql_datum.specs.View.{plain}
use Rattle.reql_queue.specs.Queued.{IsRoomFor}
use Rattle.reql_term.specs.Views.{Document}
use Rattle.reql_table_spec.specs.Table.{Held, feeding}
use Rattle.reql_table_machine_spec.specs.Feeds.{Feed, notice}
use Rattle.reql_write_spec.specs.Treated.{Changed}
use Rattle.reql_feeds.specs.Turn.{due, undone}
use Rattle.reql_feeds.specs.Record.{record_of}
use Rattle.reql_feeds.specs.Keeps.{Sized}
use Rattle.reql_feeds.specs.declared.entry.Entry.{Entry}
use Rattle.reql_feeds.specs.declared.prepared.Prepared.{Prepared}
use Rattle.reql_feeds.specs.declared.prepared.Plan.{Plan}

-- each item with the stamp of its change
abbrev pub stamped : {I : Type 0} → ℕ → List I → List (ℕ × I)
stamped stamp = map (λ i. (stamp, i))

-- what a change that led to these documents makes of a feed's record; the stamp is the one before it
abbrev pub noticed : ℕ → Changed → List Document → Feed Held Plain → Feed Held Plain
noticed stamp x after = notice (feeding 0) (undone x after) stamp x

module _ {F S : Type 0} (held : F → Held) (fits : F → List Document → Type 0) (installs : F → S → Type 0) (brings : F → S → List Document → Type 0) (x : Changed) (after : List Document) where
  -- all is there to let a feed be told of the change
  pub record IsReady (e : Entry F) (p : Prepared S) : Type 0 where
    pub items : map plain p.items ≡ due (held e.kept) x after
    pub step : installs e.kept p.step
    pub comes : brings e.kept p.step after
    pub room : IsRoomFor (length p.items) e.queue

  -- the change is nothing to a feed
  pub record IsStill (e : Entry F) : Type 0 where
    pub none : due (held e.kept) x after ≡ []
    pub stays : fits e.kept after

  abbrev pub IsAnswered : Entry F → Option (Prepared S) → Type 0
  IsAnswered e None = IsStill e
  IsAnswered e (Some p) = IsReady e p

  -- the plans are those of the feeds to which the change is something, by their places
  abbrev pub Planned : ℕ → List (Entry F) → List (Plan S) → Type 0
  Planned at [] ps = ps ≡ []
  Planned at (e ∷ es) ps = (IsStill e × Planned (suc at) es ps)
      ⊎ ((p : Plan S) × (rest : List (Plan S)) × (ps ≡ p ∷ rest) × (p.place ≡ at) × IsReady e p.prepared × Planned (suc at) es rest)

module _ {F T : Type 0} (held : F → Held) (fits : F → List Document → Type 0) (reads : F → T → Type 0) (turn : Feed Held Plain → Feed Held Plain) (after : List Document) where
  -- a feed has become another, which is at these documents
  pub record Turns (p q : Sized F) : Type 0 where
    pub told : record_of held q.0 ≡ turn (record_of held p.0)
    pub stands : fits q.0.kept after
    pub finds : (t : T) → reads p.0.kept t → reads q.0.kept t
    pub asked : held q.0.kept ≡ held p.0.kept
    pub number : q.0.number ≡ p.0.number
    pub size : q.1 ≡ p.1
