-- All feeds beside their shadows.
use Rattle.std.specs.Prelude.{◌≡◌, ◌<◌, ℕ, List, length, slice_index_or}
use Rattle.reql_datum.specs.Plain.{Plain}
use Rattle.reql_table_spec.specs.Table.{Held}
use Rattle.reql_queue.specs.Queued.{IsRoomFor}
use Rattle.reql_table_machine_spec.specs.Feeds.{Feed}
use Rattle.reql_term.specs.Views.{Document}
use Rattle.reql_feeds.specs.Ahead.{forecast}
use Rattle.reql_feeds.specs.Seen.{seen}
use Rattle.reql_feeds.specs.Shadows.{pending}
use Rattle.reql_feeds.specs.Told.{Turns}
use Rattle.reql_feeds.specs.declared.entry.Entry.{Entry}
use Rattle.reql_feeds.specs.declared.shadow.Shadow.{Shadow}

module _ {F : Type 0} where
  -- each queue has room for what its shadow has
  abbrev pub HaveRoom : List (Entry F) → List (Shadow F) → Type 0
  HaveRoom entries shadows = (k : ℕ) (e : Entry F) (s : Shadow F) → k < length entries → IsRoomFor (length (slice_index_or shadows k s).items.items) (slice_index_or entries k e).queue

module _ {F T : Type 0} (held : F → Held) (fits : F → List Document → Type 0) (reads : F → T → Type 0) (turn : Feed Held Plain → Feed Held Plain) (after : List Document) where
  -- each feed, as it will be, has become another by the same rule
  pub record Forecasts (entries : List (Entry F)) (was now : List (Shadow F)) : Type 0 where
    pub many : length now ≡ length was
    pub turned : (k : ℕ) (e : Entry F) (s : Shadow F) → k < length entries
        → Turns held fits reads turn after (forecast held (seen (slice_index_or entries k e)) (pending (slice_index_or was k s))) (forecast held (seen (slice_index_or entries k e)) (pending (slice_index_or now k s)))
