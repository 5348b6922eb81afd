-- The queue is what the record of a feed has of it.
use Rattle.std.specs.Prelude.{◌≡◌, ℕ, List, [], ◌∷◌, map, take, drop}
use Rattle.reql_table_machine_spec.specs.Feeds.{Feed, push, push_all}
use Rattle.reql_table_machine_spec.specs.Feeds as feeds
use Rattle.reql_queue.specs.Queued.{Queued, pushed, left_by, emptied, given_back, has_something}

module _ {I : Type 0} where
  -- some items come, one after the other
  abbrev pub all_pushed : List (ℕ × I) → Queued I → Queued I
  all_pushed [] q = q
  all_pushed (p ∷ ps) q = all_pushed ps (pushed p q)

module _ {T I : Type 0} (shown : T → I) where
  -- an item as what it stands for
  abbrev pub one_shown : ℕ × T → ℕ × I
  one_shown p = (p.0, shown p.1)

  abbrev pub all_shown : List (ℕ × T) → List (ℕ × I)
  all_shown items = map one_shown items

  module _ {K : Type 0} where
    -- the record of a feed, with what this queue holds
    abbrev pub queueing : Queued T → Feed K I → Feed K I
    queueing q f = record f { queue = all_shown q.items; skipped = q.skipped; last = q.last }

module _ (T I K : Type 0) where
  -- pushing into the record is pushing into the queue: rules out that another item is dropped, or that it isn't counted or stamped as the record says
  abbrev pub PushesAreOfTheRecord : Type 0
  PushesAreOfTheRecord = (shown : T → I) (f : Feed K I) (q : Queued T) (items : List (ℕ × T)) → push_all q.size (queueing shown q f) (all_shown shown items) ≡ queueing shown (all_pushed items q) f

  -- a Take leaves of the record what it leaves of the queue, and gives what it gives
  abbrev pub TakesAreOfTheRecord : Type 0
  TakesAreOfTheRecord = (shown : T → I) (f : Feed K I) (q : Queued T) (max : ℕ)
      → (take max (queueing shown q f).queue ≡ all_shown shown (take max q.items))
      × (record (queueing shown q f) { queue = drop max (queueing shown q f).queue; skipped = 0 } ≡ queueing shown (left_by max q) f)
      × (record (queueing shown q f) { queue = []; skipped = 0 } ≡ queueing shown (emptied q) f)
      × (feeds.has_something (queueing shown q f) ≡ has_something q)

-- what was taken and given back leaves the queue as it was: rules out that a refused Take loses, doubles or turns items
abbrev pub GivenBackIsAsBefore : Type 0 → Type 0
GivenBackIsAsBefore T = (q : Queued T) (max : ℕ)
    → (given_back (take max q.items) q.skipped q.last (left_by max q) ≡ q)
    × (given_back q.items q.skipped q.last (emptied q) ≡ q)
