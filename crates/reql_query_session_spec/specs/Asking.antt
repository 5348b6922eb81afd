-- What a body asks of a session: a plan where it is read and has one, else the first fault of reading, or of planning.
use Rattle.std.specs.Prelude.{ℕ, List, Bool, Option, Some, None, Result, Ok, Err}
use Rattle.reql_term.specs.Form.{Form}
use Rattle.reql_faults.specs.Faults.{plan_fault}
use Rattle.reql_faults.specs.Texts as faults
use Rattle.reql_faults.specs.declared.fault.CompileFault.{CompileFault}
use Rattle.reql_read.specs.FaultText.{fault_text}
use Rattle.reql_read.specs.Query as queries
use Rattle.reql_read.specs.Query.{query_text, text_is_quiet}
use Rattle.reql_read.specs.declared.fault.ReadFault.{ReadFault}
use Rattle.reql_read.specs.declared.fault.ReadFault.TheVariants as fault
use Rattle.reql_plan_spec.specs.declared.parts.Plan.{Plan}
use Rattle.reql_session_spec.specs.Requests.{Asked, Unreadable, Unplanned, Start, Continue, Stop, NoreplyWait, ServerInfo}

-- a term with the options of its request: its default database, the length that an array may have, and the items of an answer
abbrev pub plan_of : Form → List ℕ → ℕ → ℕ → Plan
plan_of f db limit batch = record { term = f; db = db; array_limit = limit; batch = batch }

-- it has a plan where it has no fault
abbrev pub planned : Bool → Plan → Option CompileFault → Asked Plan
planned noreply plan None = Start noreply plan
planned noreply plan (Some e) = Unplanned noreply (faults.fault_text e)

-- A body that is no JSON, or has not the shape of a query, is refused whatever its token has open; its other faults are told
-- after that.
abbrev pub refused : Bool → ReadFault → Asked Plan
refused quiet fault.NotJson = Unreadable quiet (fault_text fault.NotJson)
refused quiet fault.BadShape = Unreadable quiet (fault_text fault.BadShape)
refused quiet e = Unplanned quiet (fault_text e)

abbrev pub asked_by : Bool → Result queries.Asked ReadFault → Asked Plan
asked_by quiet (Err e) = refused quiet e
asked_by quiet (Ok (queries.start f s)) = planned s.noreply (plan_of f s.db s.array_limit s.batch) (plan_fault f)
asked_by quiet (Ok queries.continued) = Continue
asked_by quiet (Ok queries.stop) = Stop
asked_by quiet (Ok queries.noreply_wait) = NoreplyWait
asked_by quiet (Ok queries.server_info) = ServerInfo

abbrev pub asked : List ℕ → Asked Plan
asked body = asked_by (text_is_quiet body) (query_text body)
