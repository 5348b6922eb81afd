-- What the program holds between two moves, as the request that is left.
use Rattle.std.specs.Prelude.{◌≡◌, List, Result, Ok, Err}
use Rattle.reql_datum.specs.Answer.{query_logic, non_existence, resource_limit, op_failed, user, no_text}
use Rattle.reql_datum.specs.declared.fault.Fault.{Fault}
use Rattle.reql_datum.specs.declared.fault.Fault.TheVariants.{QueryLogic, NonExistence, ResourceLimit, OpFailed, User, Empty, Memory}
use Rattle.reql_term.specs.Views.{Document, Entry}
use Rattle.reql_rules.specs.Faults.{misplaced}
use Rattle.reql_rules.specs.Lists.{Bytes}
use Rattle.reql_table_spec.specs.Indexes.{Indexes}
use Rattle.reql_plan_spec.specs.Move as m
use Rattle.reql_plan_spec.specs.Request.{Request, ends, asks, refuse}
use Rattle.reql_plan_steps.specs.Heard.{outcome_of, ask_of}
use Rattle.reql_plan_state.specs.Rest.{rest_of}
use Rattle.reql_plan_state.specs.declared.stage.Stage.{Stage}
use Rattle.reql_plan_state.specs.declared.stage.Turn.{Turn}
use Rattle.reql_plan_state.specs.declared.stage.Turn.TheVariants as t

-- an answer to a move that wasn't made, which never comes
abbrev pub lost_request : Request
lost_request = refuse {A = m.Outcome} misplaced ends

-- the request that a fault ends
abbrev pub Stops : Fault → Request → Type 0
Stops (QueryLogic s) r = r ≡ ends (m.stop (m.fault (query_logic s)))
Stops (NonExistence s) r = r ≡ ends (m.stop (m.fault (non_existence s)))
Stops (ResourceLimit s) r = r ≡ ends (m.stop (m.fault (resource_limit s)))
Stops (OpFailed s) r = r ≡ ends (m.stop (m.fault (op_failed s)))
Stops (User s) r = r ≡ ends (m.stop (m.fault (user s)))
Stops Empty r = r ≡ ends (m.stop (m.fault no_text))
Stops Memory r = Unit {0}

module _ {V : Type 0} (documents : V → List Document) (indexes : V → Indexes) (entries : V → Bytes → List Entry) where
  -- a turn, as the request that is left
  abbrev pub turn_of : Turn V → Request
  turn_of (t.Ask q s) = asks (ask_of q) (λ h. rest_of documents indexes entries s.value h)
  turn_of (t.Done o) = ends (outcome_of o)

  -- what a step gives: the turn that is this request, unless memory ran out
  abbrev pub Turns : {E : Type 0} → Result (Turn V) E → Request → Type 0
  Turns (Ok x) r = r ≡ turn_of x
  Turns (Err e) r = Unit {0}
