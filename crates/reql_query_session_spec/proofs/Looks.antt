-- That a session looks for a plan at what the plan looks at, and is told what the plan comes to.
use Rattle.std.proofs.Common.{◌≡◌, List, [], ◌∷◌, ◌++◌, map, Option, Some, None, inl, inr, refl, ap, ◌∙◌}
use Rattle.reql_plan_spec.specs.Course.{plan_next}
use Rattle.reql_plan_spec.specs.Looks as of_plans
use Rattle.reql_plan_spec.specs.Move as plans
use Rattle.reql_plan_spec.specs.Request as requests
use Rattle.reql_plan_spec.proofs.Looks as of_plan
use Rattle.reql_session_spec.specs.Requests.{Found}
use Rattle.reql_query_session_spec.specs.Looks.{look_in, looks_along, AllReadSlotsAreLookedAt, AllLookAtNoOthers, AllAreSeenAtTheirSlots, AllTermsGoOnInWhatWasSeen, AllDroppedTablesAreTold, AllValuesAreOfWhatWasSeen}
use Rattle.reql_query_session_spec.specs.Told.{heard_of, move_of, setting_of}

look_of : (x : requests.Next) (h : Option plans.Heard) → look_in (move_of x) h ≡ of_plans.look_in x h
look_of (requests.answered o) h = refl
look_of (requests.moves plans.look_names) h = refl
look_of (requests.moves plans.tell) h = refl
look_of (requests.moves (plans.look n)) h = refl
look_of (requests.moves (plans.run n order)) h = refl
look_of (requests.moves (plans.change_names c)) h = refl
look_of (requests.moves plans.roll) h = refl

looks_of : (next : List plans.Heard → requests.Next) (found : List Found) → looks_along (λ more. move_of (next (map heard_of more))) found ≡ of_plans.looks_along next (map heard_of found)
looks_of next [] = look_of (next []) None
looks_of next (f ∷ found) =
    ap (λ ls. ls ++ looks_along (λ more. move_of (next (heard_of f ∷ map heard_of more))) found) (look_of (next []) (Some (heard_of f)))
    ∙ ap (λ ls. of_plans.look_in (next []) (Some (heard_of f)) ++ ls) (looks_of (λ more. next (heard_of f ∷ more)) found)

pub all_read_slots_are_looked_at : AllReadSlotsAreLookedAt
all_read_slots_are_looked_at keys limits body noreply plan quiet count found is r =
    looks_of (plan_next plan (setting_of limits quiet count)) found ∙ of_plan.read_slots_are_looked_at plan (setting_of limits quiet count) (map heard_of found) r

pub all_look_at_no_others : AllLookAtNoOthers
all_look_at_no_others keys limits body noreply plan quiet count found is = elim (of_plan.no_others_are_looked_at plan (setting_of limits quiet count) (map heard_of found)) [
  | inl none ↦ inl (looks_of (plan_next plan (setting_of limits quiet count)) found ∙ none)
  | inr r ↦ inr r
]

pub all_are_seen_at_their_slots : AllAreSeenAtTheirSlots
all_are_seen_at_their_slots keys limits body noreply plan quiet count found is r =
    looks_of (plan_next plan (setting_of limits quiet count)) found ∙ of_plan.each_is_seen_at_its_slot plan (setting_of limits quiet count) (map heard_of found) r

pub all_terms_go_on_in_what_was_seen : AllTermsGoOnInWhatWasSeen
all_terms_go_on_in_what_was_seen keys limits body noreply plan quiet count found is r =
    ap move_of (of_plan.terms_go_on_in_what_was_seen plan (setting_of limits quiet count) (map heard_of found) r)

pub all_values_are_of_what_was_seen : AllValuesAreOfWhatWasSeen
all_values_are_of_what_was_seen keys limits body noreply plan quiet count found is r reads wanted =
    ap move_of (of_plan.values_are_of_what_was_seen plan (setting_of limits quiet count) (map heard_of found) r reads wanted)

pub all_dropped_tables_are_told : AllDroppedTablesAreTold
all_dropped_tables_are_told keys limits body noreply plan quiet count found is r = ap move_of (of_plan.dropped_tables_are_told plan (setting_of limits quiet count) (map heard_of found) r)
