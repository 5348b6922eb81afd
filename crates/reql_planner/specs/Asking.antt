-- What a body asks for, where it was read and where it wasn't.
use Rattle.std.specs.Prelude.{◌≡◌, Result, Ok, Err}
use Rattle.reql_faults.specs.Faults.{plan_fault}
use Rattle.reql_plan_spec.specs.declared.parts.Plan.{Plan}
use Rattle.reql_read.specs.Query as queries
use Rattle.reql_read.specs.declared.fault.ReadFault.TheVariants.{Memory}
use Rattle.reql_read.specs.declared.query.Unread.{Unread}
use Rattle.reql_session_spec.specs.Requests.{Asked, Continue, Stop, NoreplyWait, ServerInfo}
use Rattle.reql_session_api.specs.Meant.{asked_of}
use Rattle.reql_session_api.specs.declared.query.Query.{Query}
use Rattle.reql_query_session_spec.specs.Asking.{plan_of, planned, refused}

-- of a query
abbrev pub asked_so : queries.Asked → Asked Plan
asked_so (queries.start f s) = planned s.noreply (plan_of f s.db s.array_limit s.batch) (plan_fault f)
asked_so queries.continued = Continue
asked_so queries.stop = Stop
asked_so queries.noreply_wait = NoreplyWait
asked_so queries.server_info = ServerInfo

-- what is answered of a body that is none: never where memory ran out
pub record IsRefused (q : Query Plan) (u : Unread) : Type 0 where
  pub known : u.fault ≡ Memory → ⊥
  pub told : asked_of q ≡ refused u.noreply u.fault

abbrev pub Refuses : {E : Type 0} → Result (Query Plan) E → Unread → Type 0
Refuses (Ok q) u = IsRefused q u
Refuses (Err e) u = Unit {0}
