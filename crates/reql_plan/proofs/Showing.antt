-- What is shown of a term, in one step.
use Rattle.std.proofs.Common.{◌≡◌, List, Result, Ok}
use Rattle.reql_datum.specs.Outcome.{Fails}
use Rattle.reql_datum.specs.declared.fault.Fault.{Fault}
use Rattle.reql_term.specs.Form.{Form}
use Rattle.reql_term.specs.Views.{Document, Entry}
use Rattle.reql_rules.specs.Lists.{Bytes}
use Rattle.reql_value_spec.specs.Shown as values
use Rattle.reql_value_spec.specs.Shown.{Shown}
use Rattle.reql_table_spec.specs.Indexes.{Indexes}
use Rattle.reql_plan_context.specs.Shown.{shown_term}
use Rattle.reql_plan_spec.specs.Course.{shown, shown_as}
use Rattle.reql_plan_spec.specs.Held.{Held}
use Rattle.reql_plan_spec.specs.Move.{Outcome}
use Rattle.reql_plan_spec.specs.Request.{Request}
use Rattle.reql_plan_spec.specs.Settled.{meant_of}
use Rattle.reql_plan_state.specs.Turn.{Stops, Turns}
use Rattle.reql_plan_state.specs.declared.stage.Turn.{Turn}
use Rattle.reql_plan_state.proofs.Turns.{stops_after, goes_after}

pub shown_stops : (why : Fault) (e : Held) (f : Form) (on : Outcome → Request) → Fails why (shown_term e.world f) → Stops why (shown e f on)
shown_stops why e f on h = stops_after why (meant_of e.world f) (λ m. values.shown e.world m) (λ s. shown_as e s on) h

module _ {V E : Type 0} (documents : V → List Document) (indexes : V → Indexes) (entries : V → Bytes → List Entry) where
  pub shown_goes : (r : Result (Turn V) E) (e : Held) (f : Form) (x : Shown) (on : Outcome → Request) → shown_term e.world f ≡ Ok x → Turns documents indexes entries r (shown_as e x on) → Turns documents indexes entries r (shown e f on)
  shown_goes r e f x on h is = goes_after documents indexes entries r x (meant_of e.world f) (λ m. values.shown e.world m) (λ s. shown_as e s on) h is

pub ruleset shows = (shown_stops, shown_goes)
