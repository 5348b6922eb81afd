-- What a BRANCH carries out is what its chosen arm does.
use Rattle.std.proofs.Common.{◌≡◌, ℕ, zero, suc, ◌+◌, ◌<◌, List, [], ◌∷◌, slice_get, Some, refl, subst, Bool, true, false, cond, if◌then◌else◌, Result, Ok, Err, arith, rules}
use Rattle.reql_datum.specs.Answer.{Answer, ◌>>=◌}
use Rattle.reql_datum.specs.Outcome.{Fails}
use Rattle.reql_datum.specs.Plain.{Plain}
use Rattle.reql_datum.specs.declared.fault.Fault.{Fault}
use Rattle.reql_term.specs.Form.{Form, Forms, no_forms, form, weight, list_weight}
use Rattle.reql_term.specs.Views.{Document, Entry}
use Rattle.reql_rules.specs.Lists.{Bytes}
use Rattle.reql_rules.specs.Types.{truth}
use Rattle.reql_table_spec.specs.Indexes.{Indexes}
use Rattle.reql_plan_spec.specs.Course.{carried, branched}
use Rattle.reql_plan_spec.specs.Held.{Held}
use Rattle.reql_plan_spec.specs.Move.{Outcome}
use Rattle.reql_plan_spec.specs.Request.{Request, Moves, from}
use Rattle.reql_plan_spec.specs.Settled.{datum_of}
use Rattle.reql_plan.specs.Chosen.{chosen}
use Rattle.reql_plan_state.specs.Turn.{Stops, Turns}
use Rattle.reql_plan_state.specs.declared.stage.Turn.{Turn}
use Rattle.reql_plan_state.proofs.Turns.{stops_by}

by_truth : (b : Bool) (m rest : Moves Outcome) (a c : Answer Form) (run : Form → Moves Outcome) (on : Outcome → Request)
    → m on ≡ from a (λ f. run f on) → rest on ≡ from c (λ f. run f on)
    → cond b m rest on ≡ from (if b then a else c) (λ f. run f on)
by_truth true m rest a c run on is rests = is
by_truth false m rest a c run on is rests = rests

by_test : (d : Answer Plain) (m rest : Moves Outcome) (g : Form) (c : Answer Form) (run : Form → Moves Outcome) (on : Outcome → Request)
    → m on ≡ run g on → rest on ≡ from c (λ f. run f on)
    → from d (λ x. cond (truth x) m rest on) ≡ from (d >>= λ x. if truth x then Ok g else c) (λ f. run f on)
by_test (Ok x) m rest g c run on is rests = by_truth (truth x) m rest (Ok g) c run on is rests
by_test (Err e) m rest g c run on is rests = refl

pub chosen_is : (e : Held) (fs : Forms) (on : Outcome → Request) → branched e fs on ≡ from (chosen e.world fs) (λ f. carried e f on)
chosen_is e no_forms on = refl
chosen_is e (form f no_forms) on = refl
chosen_is e (form f (form g fs)) on = by_test (datum_of e.world f) (carried e g) (branched e fs) g (chosen e.world fs) (λ h. carried e h) on refl (chosen_is e fs on)

module _ {V E : Type 0} (documents : V → List Document) (indexes : V → Indexes) (entries : V → Bytes → List Entry) where
  pub chosen_goes : (r : Result (Turn V) E) (e : Held) (fs : Forms) (f : Form) (on : Outcome → Request)
      → chosen e.world fs ≡ Ok f → Turns documents indexes entries r (carried e f on) → Turns documents indexes entries r (branched e fs on)
  chosen_goes r e fs f on is goes = rw (chosen_is e fs on, is) goes

pub chosen_stops : (why : Fault) (e : Held) (fs : Forms) (on : Outcome → Request) → Fails why (chosen e.world fs) → Stops why (branched e fs on)
chosen_stops why e fs on h = rw (chosen_is e fs on) (stops_by why (chosen e.world fs) (λ f. carried e f on) h)

pub ruleset arms = (chosen_goes, chosen_stops)

pub form_below : (fs : List Form) (i : ℕ) (f : Form) → slice_get fs i ≡ Some f → weight f < list_weight fs
form_below [] i f h = search rules
form_below (g ∷ gs) zero f h = search rules
form_below (g ∷ gs) (suc i) f h = omega (arith, form_below gs i f h)
