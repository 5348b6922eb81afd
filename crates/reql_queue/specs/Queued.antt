-- A feed's queue: what waits, what was dropped, and the room that is there.
use Rattle.std.specs.Prelude.{◌≤◌, ℕ, suc, ◌+◌, ◌-◌, ◌^◌, min, nat_eq, nat_lt, List, [], ◌∷◌, ◌++◌, length, drop, Bool, true, false, ◌||◌, not, cond, Option, Some, None, refl}
use Rattle.std.specs.Coded.{Coded, code_by, coded×, coded_list, coded_ℕ}
use Rattle.circular_buffer.specs.Buffer.{Buffer}

-- The most that may wait, for how much there is room, what waits with the stamps of its changes, oldest first, how many
-- were dropped since this was last told, and the stamp of the last that was dropped.
pub record Queued (I : Type 0) : Type 0 where
  pub size : ℕ
  pub room : ℕ
  pub items : List (ℕ × I)
  pub skipped : ℕ
  pub last : ℕ

module _ {I : Type 0} where
  abbrev pub queued_code : Coded I → Coded (Queued I)
  queued_code c = code_by (List (ℕ × I) × (ℕ × (ℕ × (ℕ × ℕ)))) (coded× (coded_list (coded× coded_ℕ c)) (coded× coded_ℕ (coded× coded_ℕ (coded× coded_ℕ coded_ℕ))))
      (λ q. (q.items, (q.size, (q.room, (q.skipped, q.last))))) (λ p. record { size = p.1.0; room = p.1.1.0; items = p.0; skipped = p.1.1.1.0; last = p.1.1.1.1 }) (λ _. refl)

  -- a queue of nothing, with no room yet
  abbrev pub fresh : ℕ → Queued I
  fresh size = record { size = size; room = 0; items = []; skipped = 0; last = 0 }

  -- the oldest goes, and is counted, up to the end of 64 bits
  abbrev pub dropping : Queued I → List (ℕ × I) → ℕ × I → Queued I
  dropping q [] p = record q { items = p ∷ [] }
  dropping q (o ∷ rest) p = record q { items = rest ++ p ∷ []; skipped = min (suc q.skipped) (2 ^ 64 - 1); last = o.0 }

  -- an item comes: a full queue drops its oldest for it
  abbrev pub pushed : ℕ × I → Queued I → Queued I
  pushed p q = cond (nat_lt (length q.items) q.size) (record q { items = q.items ++ p ∷ [] }) (dropping q q.items p)

  -- the oldest, up to so many, are taken, and the count of the dropped ones is told
  abbrev pub left_by : ℕ → Queued I → Queued I
  left_by max q = record q { items = drop max q.items; skipped = 0 }

  -- all are taken
  abbrev pub emptied : Queued I → Queued I
  emptied q = record q { items = []; skipped = 0 }

  -- what was taken is oldest again, and the count untold
  abbrev pub given_back : List (ℕ × I) → ℕ → ℕ → Queued I → Queued I
  given_back items skipped last q = record q { items = items ++ q.items; skipped = skipped; last = last }

  abbrev pub with_room : ℕ → Queued I → Queued I
  with_room room q = record q { room = room }

  -- so many may come without further room
  abbrev pub IsRoomFor : ℕ → Queued I → Type 0
  IsRoomFor n q = min (length q.items + n) q.size ≤ q.room

  abbrev pub is_none : List (ℕ × I) → Bool
  is_none [] = true
  is_none (p ∷ rest) = false

  -- whether there is something to tell
  abbrev pub has_something : Queued I → Bool
  has_something q = not (nat_eq q.skipped 0) || not (is_none q.items)

-- what a ring of items holds, and its capacity; no ring is one of no room
module _ {X : Type 0} where
  abbrev pub items_in : Option (Buffer X) → List X
  items_in None = []
  items_in (Some ring) = ring.items

  abbrev pub room_in : Option (Buffer X) → ℕ
  room_in None = 0
  room_in (Some ring) = ring.capacity
