-- A body that is read, or not, is what it asks for.
use Rattle.std.proofs.Common.{◌≡◌, List, ℕ, Bool, Result, Ok, Err, refl, ◌∙◌, sym, ap, IfOk}
use Rattle.reql_plan_spec.specs.declared.parts.Plan.{Plan}
use Rattle.reql_read.specs.Query as queries
use Rattle.reql_read.specs.Query.{query_text, text_is_quiet}
use Rattle.reql_read.specs.Outcome.{Understands}
use Rattle.reql_read.specs.View.{asked as read_as, UnderstandsBody, IsTold}
use Rattle.reql_read.specs.declared.fault.ReadFault.{ReadFault}
use Rattle.reql_read.specs.declared.fault.ReadFault.TheVariants as fault
use Rattle.reql_read.specs.declared.query.Query.{Query as Body}
use Rattle.reql_read.specs.declared.query.Unread.{Unread}
use Rattle.reql_session_api.specs.Meant.{asked_of}
use Rattle.reql_session_api.specs.declared.query.Query.{Query}
use Rattle.reql_query_session_spec.specs.Asking.{asked, asked_by, refused}
use Rattle.reql_planner.specs.Asking.{asked_so, Refuses}

so : (quiet : Bool) (x : queries.Asked) → asked_by quiet (Ok x) ≡ asked_so x
so quiet (queries.start f s) = refl
so quiet queries.continued = refl
so quiet queries.stop = refl
so quiet queries.noreply_wait = refl
so quiet queries.server_info = refl

meant_fault : (f : ReadFault) (meant : Result queries.Asked ReadFault) → (f ≡ fault.Memory → ⊥) → Understands {X = Body} read_as (Err f) meant → meant ≡ Err f
meant_fault fault.NotJson meant known is = is
meant_fault fault.BadShape meant known is = is
meant_fault (fault.UnknownTerm n) meant known is = is
meant_fault (fault.LeftOut n) meant known is = is
meant_fault (fault.Arity n count) meant known is = is
meant_fault (fault.BadOptarg name) meant known is = is
meant_fault (fault.Number e) meant known is = is
meant_fault fault.Memory meant known is = absurd (known refl)

-- a query
pub asks_started : {E : Type 0} (r : Result (Query Plan) E) (body : List ℕ) (q : Body) → UnderstandsBody (Ok q) (query_text body)
    → IfOk r (λ (x : Query Plan). asked_of x ≡ asked_so (read_as q)) → IfOk r (λ (x : Query Plan). asked_of x ≡ asked body)
asks_started (Ok x) body q is told = told ∙ sym (ap (asked_by (text_is_quiet body)) is ∙ so (text_is_quiet body) (read_as q))
asks_started (Err e) body q is told = tt

-- a body that is none
by_fault : (x : Query Plan) (body : List ℕ) (u : Unread) → query_text body ≡ Err u.fault → u.noreply ≡ text_is_quiet body → asked_of x ≡ refused u.noreply u.fault → asked_of x ≡ asked body
by_fault x body u is quiet told = told ∙ (ap (λ b. refused b u.fault) quiet ∙ sym (ap (asked_by (text_is_quiet body)) is))

pub asks_refused : {E : Type 0} (r : Result (Query Plan) E) (body : List ℕ) (u : Unread) → UnderstandsBody (Err u) (query_text body) → IsTold (text_is_quiet body) u
    → Refuses r u → IfOk r (λ (x : Query Plan). asked_of x ≡ asked body)
asks_refused (Ok x) body u is told refuses = by_fault x body u (meant_fault u.fault (query_text body) refuses.known is) (told.exact refuses.known) refuses.told
asks_refused (Err e) body u is told refuses = tt

pub ruleset asks = (asks_started, asks_refused)
