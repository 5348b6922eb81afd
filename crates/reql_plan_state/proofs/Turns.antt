-- A fault of evaluation ends the request, a value goes on.
use Rattle.std.proofs.Common.{◌≡◌, List, Result, Ok, Err}
use Rattle.reql_datum.specs.Answer.{Answer, ◌>>=◌}
use Rattle.reql_datum.specs.Outcome.{Fails}
use Rattle.reql_datum.specs.declared.fault.Fault.{Fault}
use Rattle.reql_datum.specs.declared.fault.Fault.TheVariants.{QueryLogic, NonExistence, ResourceLimit, OpFailed, User, Empty, Memory}
use Rattle.reql_term.specs.Views.{Document, Entry}
use Rattle.reql_rules.specs.Lists.{Bytes}
use Rattle.reql_table_spec.specs.Indexes.{Indexes}
use Rattle.reql_plan_spec.specs.Request.{Request, from}
use Rattle.reql_plan_state.specs.Turn.{Stops, Turns}
use Rattle.reql_plan_state.specs.declared.stage.Turn.{Turn}

module _ {A : Type 0} where
  pub stops_by : (e : Fault) (meant : Answer A) (on : A → Request) → Fails e meant → Stops e (from meant on)
  stops_by (QueryLogic s) meant on h = rw h
  stops_by (NonExistence s) meant on h = rw h
  stops_by (ResourceLimit s) meant on h = rw h
  stops_by (OpFailed s) meant on h = rw h
  stops_by (User s) meant on h = rw h
  stops_by Empty meant on h = rw h
  stops_by Memory meant on h = tt

  pub goes_by : {V E : Type 0} (documents : V → List Document) (indexes : V → Indexes) (entries : V → Bytes → List Entry) (r : Result (Turn V) E) (x : A) (meant : Answer A) (on : A → Request) → meant ≡ Ok x → Turns documents indexes entries r (on x) → Turns documents indexes entries r (from meant on)
  goes_by documents indexes entries r x meant on h is = rw h is

-- an evaluation of two steps
module _ {A B : Type 0} where
  pub stops_after : (e : Fault) (a : Answer A) (g : A → Answer B) (on : B → Request) → Fails e (a >>= g) → Stops e (from a (λ y. from (g y) on))
  stops_after e (Ok y) g on h = stops_by e (g y) on h
  stops_after e (Err why) g on h = stops_by {A = B} e (Err why) on h

  pub goes_after : {V E : Type 0} (documents : V → List Document) (indexes : V → Indexes) (entries : V → Bytes → List Entry) (r : Result (Turn V) E) (x : B) (a : Answer A) (g : A → Answer B) (on : B → Request) → (a >>= g) ≡ Ok x → Turns documents indexes entries r (on x) → Turns documents indexes entries r (from a (λ y. from (g y) on))
  goes_after documents indexes entries r x (Ok y) g on h is = rw h is
  goes_after documents indexes entries r x (Err why) g on h is = absurd (let f : Err why ≡ Ok x = h in cc)

pub ruleset turns = (stops_by, goes_by)
