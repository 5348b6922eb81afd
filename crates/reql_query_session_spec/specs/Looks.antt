-- What a session looks at for a plan, by what the plan's moves found, in the session's words: the slots that its term reads, rising, each once, and no
-- others; and what it is then told is of the tables that were seen, each at the look at its own slot.
use Rattle.std.specs.Prelude.{◌≡◌, ℕ, List, [], ◌∷◌, ◌++◌, ◌⊎◌, map, Option, Some, None, Bool, true, false, cond}
use Rattle.reql_datum.specs.Answer.{op_failed}
use Rattle.reql_table_spec.specs.declared.limits.Limits.{Limits}
use Rattle.reql_plan_spec.specs.declared.parts.Plan.{Plan}
use Rattle.reql_plan_spec.specs.Course.{carried, sent}
use Rattle.reql_plan_spec.specs.Held.{Held}
use Rattle.reql_plan_spec.specs.Looks.{Reading, in_turn, Sight, HasRead, Misses, held_of, is_reading, told_as, shown_in}
use Rattle.reql_plan_spec.specs.Move as plans
use Rattle.reql_plan_spec.specs.Reads.{read_slots}
use Rattle.reql_plan_spec.specs.Request.{request, next}
use Rattle.reql_plan_spec.specs.Texts.{dropped_text}
use Rattle.reql_session_spec.specs.Requests.{Move, LookSlot, Start, Ends, Found}
use Rattle.reql_session_spec.specs.Tasks.{Keys}
use Rattle.reql_query_session_spec.specs.Told.{talk, heard_of, setting_of, answered_of, move_of}

-- ---- the looks, each with what it found, if it found anything yet, as the plan hears it
abbrev pub look_in : Move → Option plans.Heard → List (ℕ × Option plans.Heard)
look_in (LookSlot n) h = (n, h) ∷ []
look_in m h = []

abbrev pub looks_along : (List Found → Move) → List Found → List (ℕ × Option plans.Heard)
looks_along next [] = look_in (next []) None
looks_along next (f ∷ found) = look_in (next []) (Some (heard_of f)) ++ looks_along (λ more. next (f ∷ more)) found

-- ---- of a plan whose moves found so much, in a session with these limits and so many cursors and feeds open
module _ (limits : Limits) (plan : Plan) (quiet : Bool) (count : ℕ) (found : List Found) where
  -- it has its term to carry out, by the names and the moment that were found
  abbrev pub Reads : Type 0
  Reads = Reading plan (map heard_of found)

  -- and has found a table at each slot that this reads
  abbrev pub HasFound : Type 0
  HasFound = HasRead plan (map heard_of found)

  abbrev pub held_by : HasFound → Held
  held_by r = held_of plan (setting_of limits quiet count) (map heard_of found) r

-- A body's plan looks at the slots that its term reads, by rising number, each once there was a table at the one before it; and whatever its moves
-- find, it looks at no others.
abbrev pub AllReadSlotsAreLookedAt : Type 0
AllReadSlotsAreLookedAt = (keys : Keys) (limits : Limits) (body : List ℕ) (noreply : Bool) (plan : Plan) (quiet : Bool) (count : ℕ) (found : List Found)
    → (talk keys limits).asked body ≡ Start noreply plan → (r : Reads limits plan quiet count found)
    → looks_along ((talk keys limits).next plan quiet count) found ≡ in_turn (read_slots r.carried) r.rest

abbrev pub AllLookAtNoOthers : Type 0
AllLookAtNoOthers = (keys : Keys) (limits : Limits) (body : List ℕ) (noreply : Bool) (plan : Plan) (quiet : Bool) (count : ℕ) (found : List Found)
    → (talk keys limits).asked body ≡ Start noreply plan → (looks_along ((talk keys limits).next plan quiet count) found ≡ []) ⊎ Reads limits plan quiet count found

-- Where tables were found, they were found at the looks at their own slots, in turn (that a look finds its own slot is the session machine's: its
-- Step), and the term goes on over just these.
abbrev pub AllAreSeenAtTheirSlots : Type 0
AllAreSeenAtTheirSlots = (keys : Keys) (limits : Limits) (body : List ℕ) (noreply : Bool) (plan : Plan) (quiet : Bool) (count : ℕ) (found : List Found)
    → (talk keys limits).asked body ≡ Start noreply plan → (r : HasFound limits plan quiet count found)
    → looks_along ((talk keys limits).next plan quiet count) found ≡ map (λ (x : Sight). (x.slot, Some (plans.looked x.at))) r.sights

abbrev pub AllTermsGoOnInWhatWasSeen : Type 0
AllTermsGoOnInWhatWasSeen = (keys : Keys) (limits : Limits) (body : List ℕ) (noreply : Bool) (plan : Plan) (quiet : Bool) (count : ℕ) (found : List Found)
    → (talk keys limits).asked body ≡ Start noreply plan → (r : HasFound limits plan quiet count found)
    → (talk keys limits).next plan quiet count found ≡ move_of (sent (setting_of limits quiet count) (next (request (carried (held_by limits plan quiet count found r) r.reading.carried)) r.replies))

-- Where a table was found at each of the first slots, and none at the next, the answer, where one is wanted, is that the table of this one was dropped, by its names.
abbrev pub AllDroppedTablesAreTold : Type 0
AllDroppedTablesAreTold = (keys : Keys) (limits : Limits) (body : List ℕ) (noreply : Bool) (plan : Plan) (quiet : Bool) (count : ℕ) (found : List Found)
    → (talk keys limits).asked body ≡ Start noreply plan → (r : Misses plan (map heard_of found))
    → (talk keys limits).next plan quiet count found ≡ Ends (answered_of (cond quiet plans.unsent (plans.stop (plans.fault (op_failed (dropped_text r.db r.table))))))

-- Where it reads alone and an answer is wanted, its value there is the answer, or why it has none; or that too many cursors are open.
abbrev pub AllValuesAreOfWhatWasSeen : Type 0
AllValuesAreOfWhatWasSeen = (keys : Keys) (limits : Limits) (body : List ℕ) (noreply : Bool) (plan : Plan) (quiet : Bool) (count : ℕ) (found : List Found)
    → (talk keys limits).asked body ≡ Start noreply plan → (r : HasFound limits plan quiet count found) → is_reading r.reading.carried ≡ true → quiet ≡ false
    → (talk keys limits).next plan quiet count found
    ≡ Ends (answered_of (told_as (held_by limits plan quiet count found r) (shown_in (held_by limits plan quiet count found r).world r.reading.carried)))
