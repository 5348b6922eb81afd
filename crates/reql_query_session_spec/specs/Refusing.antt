-- What a START is refused for before anything is looked at: all of it, in the order in which it is told.
use Rattle.std.specs.Prelude.{◌≡◌, ℕ, List, [], ◌∷◌, ◌++◌, map, Bool, true, false, cond, Option, Some, None, Result, Ok, Err}
use Rattle.std.specs.Str.{is_utf8}
use Rattle.serde_json.specs.Data.{Data, Members}
use Rattle.serde_json.specs.Read as json
use Rattle.reql_term.specs.Form.{Form}
use Rattle.reql_faults.specs.Faults.{faults, around_root}
use Rattle.reql_faults.specs.Texts as planning
use Rattle.reql_read.specs.FaultText.{fault_text}
use Rattle.reql_read.specs.Faults.{faults_of}
use Rattle.reql_read.specs.Query as queries
use Rattle.reql_read.specs.Query.{query_text, text_is_quiet}
use Rattle.reql_read.specs.Reading.{read}
use Rattle.reql_read.specs.Shape.{Query, start, shaped_query}
use Rattle.reql_read.specs.Written.{Written}
use Rattle.reql_read.specs.declared.fault.ReadFault.{ReadFault}
use Rattle.reql_read.specs.declared.fault.ReadFault.TheVariants as fault
use Rattle.reql_table_spec.specs.declared.limits.Limits.{Limits}
use Rattle.reql_plan_spec.specs.declared.parts.Plan.{Plan}
use Rattle.reql_session_spec.specs.Bodies.{in_use}
use Rattle.reql_session_spec.specs.Books.{Books, is_open, opened}
use Rattle.reql_session_spec.specs.Requests.{Asked, Unreadable, Unplanned, Start, Answer, Client, Compile}
use Rattle.reql_session_spec.specs.Tasks.{Keys, Talk, Next, Planning, at, begin, refuse}
use Rattle.reql_query_session_spec.specs.Asking.{plan_of, asked}
use Rattle.reql_query_session_spec.specs.Told.{talk}

-- a body once its shape was tested
abbrev pub value_shaped : Option Data → Result Query ReadFault
value_shaped None = Err fault.NotJson
value_shaped (Some d) = shaped_query d

abbrev pub body_shaped : List ℕ → Result Query ReadFault
body_shaped body = cond (is_utf8 body) (value_shaped (json.read body)) (Err fault.NotJson)

-- the token has a cursor or a feed open
abbrev pub in_use_if : Bool → ℕ → List Answer
in_use_if true token = Client (in_use token) ∷ []
in_use_if false token = []

-- faults of the term, and of the options by name
abbrev pub reading_refusals : List ReadFault → List Answer
reading_refusals es = map (λ e. Compile (fault_text e)) es

-- faults of planning, of a term that can be read
abbrev pub planning_refusals : Result Form ReadFault → List Answer
planning_refusals (Ok f) = map (λ e. Compile (planning.fault_text e)) (faults around_root f)
planning_refusals (Err e) = []

abbrev pub refusals : Books → ℕ → Written → Members → List Answer
refusals b token w opts = in_use_if (is_open token b) token ++ (reading_refusals (faults_of (start w opts)) ++ planning_refusals (read w))

-- whether a request wants no answer
abbrev pub wants_none : Asked Plan → Bool
wants_none (Unreadable noreply text) = noreply
wants_none (Unplanned noreply text) = noreply
wants_none (Start noreply plan) = noreply
wants_none other = false

-- a request is planned, with its term and its options
abbrev pub IsPlanned : Books → ℕ → Next Plan → Result queries.Asked ReadFault → Type 0
IsPlanned b token n (Ok (queries.start f s)) = n ≡ at b (Planning token (plan_of f s.db s.array_limit s.batch) s.noreply (opened b) [] [])
IsPlanned b token n q = ⊥

-- the first refusal is the answer, where one is wanted; where there is none, the request is planned
abbrev pub Begins : Talk Plan → Books → ℕ → Next Plan → Asked Plan → Result queries.Asked ReadFault → List Answer → Type 0
Begins k b token n a q [] = IsPlanned b token n q
Begins k b token n a q (refusal ∷ more) = n ≡ refuse k b token (wants_none a) refusal

abbrev pub FirstRefusal : Type 0
FirstRefusal = (keys : Keys) (limits : Limits) (b : Books) (token : ℕ) (body : List ℕ) (w : Written) (opts : Members) → body_shaped body ≡ Ok (start w opts) →
    Begins (talk keys limits) b token (begin (talk keys limits) b token (asked body)) (asked body) (query_text body) (refusals b token w opts)

-- a body that is no JSON, or has not the shape of a query, is refused before all of these
abbrev pub IsOfShape : ReadFault → Type 0
IsOfShape fault.NotJson = Unit {0}
IsOfShape fault.BadShape = Unit {0}
IsOfShape e = ⊥

abbrev pub ShapeRefusal : Type 0
ShapeRefusal = (keys : Keys) (limits : Limits) (b : Books) (token : ℕ) (body : List ℕ) (e : ReadFault) → body_shaped body ≡ Err e → IsOfShape e →
    begin (talk keys limits) b token (asked body) ≡ refuse (talk keys limits) b token (text_is_quiet body) (Client (fault_text e))
