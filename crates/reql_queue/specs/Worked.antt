-- Worked rows of queues.
use Rattle.std.specs.Prelude.{◌≡◌, ◌^◌, ◌-◌, ℕ, List, [], ◌∷◌, true, false}
use Rattle.reql_queue.specs.Queued.{Queued, fresh, pushed, left_by, emptied, given_back, has_something}

abbrev Q : Type 0
Q = Queued ℕ

-- a queue of two that has room for two
abbrev of_two : List (ℕ × ℕ) → ℕ → ℕ → Q
of_two items skipped last = record { size = 2; room = 2; items = items; skipped = skipped; last = last }

-- a full queue drops its oldest, whose stamp is told; the count stays at the end of 64 bits; a Take tells the count and keeps the rest; the stamp of
-- the last that was dropped stays; and there is something to tell where nothing waits but something was dropped
abbrev pub Rows : Type 0
Rows =
    (fresh {I = ℕ} 2 ≡ record { size = 2; room = 0; items = []; skipped = 0; last = 0 })
    × (pushed (1, 10) (of_two [] 0 0) ≡ of_two ((1, 10) ∷ []) 0 0)
    × (pushed (2, 20) (of_two ((1, 10) ∷ []) 0 0) ≡ of_two ((1, 10) ∷ (2, 20) ∷ []) 0 0)
    × (pushed (3, 30) (of_two ((1, 10) ∷ (2, 20) ∷ []) 0 0) ≡ of_two ((2, 20) ∷ (3, 30) ∷ []) 1 1)
    × (pushed (4, 40) (of_two ((2, 20) ∷ (3, 30) ∷ []) 1 1) ≡ of_two ((3, 30) ∷ (4, 40) ∷ []) 2 2)
    × (pushed (3, 30) (of_two ((1, 10) ∷ (2, 20) ∷ []) (2 ^ 64 - 1) 1) ≡ of_two ((2, 20) ∷ (3, 30) ∷ []) (2 ^ 64 - 1) 1)
    × (left_by 1 (of_two ((3, 30) ∷ (4, 40) ∷ []) 2 2) ≡ of_two ((4, 40) ∷ []) 0 2)
    × (left_by 0 (of_two ((3, 30) ∷ (4, 40) ∷ []) 2 2) ≡ of_two ((3, 30) ∷ (4, 40) ∷ []) 0 2)
    × (left_by 5 (of_two ((3, 30) ∷ (4, 40) ∷ []) 2 2) ≡ of_two [] 0 2)
    × (given_back ((3, 30) ∷ []) 2 2 (of_two ((4, 40) ∷ []) 0 2) ≡ of_two ((3, 30) ∷ (4, 40) ∷ []) 2 2)
    × (has_something (of_two [] 1 1) ≡ true)
    × (has_something (of_two ((1, 10) ∷ []) 0 0) ≡ true)
    × (has_something (emptied (of_two ((1, 10) ∷ []) 3 1)) ≡ false)
