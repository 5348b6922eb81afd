-- That the first of all refusals is told.
use Rattle.std.proofs.Common.{◌≡◌, ℕ, List, [], ◌∷◌, ◌++◌, map, Bool, true, false, not, ◌&&◌, nat_le, cond, if◌then◌else◌, Option, Some, None, Result, Ok, Err, refl, sym, ap, subst, ◌∙◌}
use Rattle.std.specs.List.{AllByRecursion, filter, flat_map}
use Rattle.std.specs.Str.{is_utf8}
use Rattle.serde_json.specs.Data.{Data, Members, no_members, member}
use Rattle.serde_json.specs.Read as reads
use Rattle.reql_datum.specs.Answer.{◌>>=◌}
use Rattle.reql_datum.specs.Plain.{Plain}
use Rattle.reql_json.specs.Reading.{document}
use Rattle.reql_json.specs.declared.fault.JsonFault.{JsonFault}
use Rattle.reql_term.specs.Form.{Form}
use Rattle.reql_term.specs.Table.{op_of, fits, takes}
use Rattle.reql_term.specs.declared.op.Op.{Op}
use Rattle.reql_term.specs.declared.op.Op.TheVariants as op
use Rattle.reql_faults.specs.Faults as planning
use Rattle.reql_faults.specs.Texts as texts
use Rattle.reql_faults.specs.declared.fault.CompileFault.{CompileFault}
use Rattle.reql_read.specs.FaultText.{fault_text}
use Rattle.reql_read.specs.Faults.{parts_of, bad_names, bad_count, bad_value, bad_call, own_faults, term_faults, is_right, option_faults, faults_of, IsFirstOf}
use Rattle.reql_read.specs.Globals.{choice_of, settings_of}
use Rattle.reql_read.specs.Query as queries
use Rattle.reql_read.specs.Query.{query_text, value_query, asked_by as query_by, text_is_quiet}
use Rattle.reql_read.specs.Reading.{read}
use Rattle.reql_read.specs.Shape.{Query, start}
use Rattle.reql_read.specs.Written.{Names, Written, value, array, object, variable, row, function, call}
use Rattle.reql_read.specs.declared.fault.ReadFault.{ReadFault}
use Rattle.reql_read.specs.declared.fault.ReadFault.TheVariants as fault
use Rattle.reql_read.proofs.First.{first_fault}
use Rattle.reql_plan_spec.specs.declared.parts.Plan.{Plan}
use Rattle.reql_session_spec.specs.Bodies.{in_use}
use Rattle.reql_session_spec.specs.Books.{Books, is_open, opened}
use Rattle.reql_session_spec.specs.Requests.{Asked, Unreadable, Unplanned, Start, Continue, Stop, NoreplyWait, ServerInfo, Answer, Client, Compile}
use Rattle.reql_session_spec.specs.Tasks.{Talk, Next, Planning, at, begin, refuse}
use Rattle.reql_query_session_spec.specs.Asking.{plan_of, planned, refused, asked_by}
use Rattle.reql_query_session_spec.specs.Told.{talk}
use Rattle.reql_query_session_spec.specs.Refusing.{IsOfShape, value_shaped, body_shaped, in_use_if, reading_refusals, planning_refusals, IsPlanned, Begins, FirstRefusal, ShapeRefusal}

-- ---- the faults of what has the shape of a query are other ones
abbrev IsLater : ReadFault → Type 0
IsLater fault.NotJson = ⊥
IsLater fault.BadShape = ⊥
IsLater e = Unit {0}

abbrev AreLater : List ReadFault → Type 0
AreLater es = AllByRecursion IsLater es

joined : (es fs : List ReadFault) → AreLater es → AreLater fs → AreLater (es ++ fs)
joined [] fs h g = g
joined (e ∷ es) fs h g = (h.0, joined es fs h.1 g)

names_later : (ks : Names) → AreLater (map fault.BadOptarg ks)
names_later [] = tt
names_later (k ∷ ks) = (tt, names_later ks)

value_later : (r : Result Plain JsonFault) → AreLater (bad_value r)
value_later (Ok p) = tt
value_later (Err e) = (tt, tt)

one_later : (b : Bool) (e : ReadFault) → IsLater e → AreLater (if b then [] else e ∷ [])
one_later true e h = tt
one_later false e h = (h, tt)

taken_later : (o : Op) (names : Names) → AreLater (bad_names o names)
taken_later o names = names_later (filter (λ k. not (takes o k)) names)

call_later : (n : ℕ) (o : Option Op) (count : ℕ) (names : Names) → AreLater (bad_call n o count names)
call_later n None count names = (tt, tt)
call_later n (Some o) count names = joined (bad_count o count) (bad_names o names) (one_later (fits o count) _ tt) (taken_later o names)

if_later : (b : Bool) (es fs : List ReadFault) → AreLater es → AreLater fs → AreLater (if b then es else fs)
if_later true es fs h g = h
if_later false es fs h g = g

own_later : (w : Written) → AreLater (own_faults w)
own_later (value d) = value_later (document d)
own_later (array ws names) = taken_later op.MakeArray names
own_later (object ws) = tt
own_later (variable id names) = taken_later op.Var names
own_later (row names) = taken_later op.ImplicitVar names
own_later (function ids id_names body names) = joined (bad_names op.Func names) (bad_names op.MakeArray id_names) (taken_later op.Func names) (taken_later op.MakeArray id_names)
own_later (call n args opts) = if_later (nat_le 1 n && nat_le n 255) _ _ (call_later n (op_of n) _ _) (tt, tt)

all_later : (ws : List Written) → AreLater (flat_map own_faults ws)
all_later [] = tt
all_later (w ∷ ws) = joined (own_faults w) (flat_map own_faults ws) (own_later w) (all_later ws)

options_later : (ms : Members) → AreLater (option_faults ms)
options_later no_members = tt
options_later (member k d ms) = joined _ (option_faults ms) (one_later (is_right (choice_of k) d) (fault.BadOptarg k) tt) (options_later ms)

start_later : (w : Written) (opts : Members) → AreLater (faults_of (start w opts))
start_later w opts = joined (term_faults w) (option_faults opts) (all_later (parts_of w)) (options_later opts)

-- ---- and they are told after the token was tested
later_refused : (quiet : Bool) (e : ReadFault) → IsLater e → refused quiet e ≡ Unplanned quiet (fault_text e)
later_refused quiet fault.NotJson h = absurd h
later_refused quiet fault.BadShape h = absurd h
later_refused quiet (fault.UnknownTerm n) h = refl
later_refused quiet (fault.LeftOut n) h = refl
later_refused quiet (fault.Arity n count) h = refl
later_refused quiet (fault.BadOptarg name) h = refl
later_refused quiet (fault.Number e) h = refl
later_refused quiet fault.Memory h = refl

-- a query is of a term that was read, or is refused as the term is
abbrev Fits : Result Form ReadFault → Result queries.Asked ReadFault → Type 0
Fits (Ok f) (Ok (queries.start g s)) = g ≡ f
Fits (Ok f) (Err e) = Unit {0}
Fits (Err e) (Err g) = g ≡ e
Fits r q = ⊥

fits_with : {S : Type 0} (go : Form → S → queries.Asked) → ((f : Form) (s : S) → Fits (Ok f) (Ok (go f s))) → (r : Result Form ReadFault) (t : Result S ReadFault) → Fits r (r >>= λ f. t >>= λ s. Ok (go f s))
fits_with go h (Ok f) (Ok s) = h f s
fits_with go h (Ok f) (Err e) = tt
fits_with go h (Err e) t = refl

module _ (k : Talk Plan) (b : Books) (token : ℕ) where
  abbrev begun : Bool → Asked Plan → Next Plan
  begun used (Unreadable noreply text) = refuse k b token noreply (Client text)
  begun used (Unplanned noreply text) = cond used (refuse k b token noreply (Client (in_use token))) (refuse k b token noreply (Compile text))
  begun used (Start noreply plan) = cond used (refuse k b token noreply (Client (in_use token))) (at b (Planning token plan noreply (opened b) [] []))
  begun used Continue = begin k b token Continue
  begun used Stop = begin k b token Stop
  begun used NoreplyWait = begin k b token NoreplyWait
  begun used ServerInfo = begin k b token ServerInfo

  begun_begins : (a : Asked Plan) → begun (is_open token b) a ≡ begin k b token a
  begun_begins (Unreadable noreply text) = refl
  begun_begins (Unplanned noreply text) = refl
  begun_begins (Start noreply plan) = refl
  begun_begins Continue = refl
  begun_begins Stop = refl
  begun_begins NoreplyWait = refl
  begun_begins ServerInfo = refl

  abbrev Tells : Bool → Asked Plan → Result queries.Asked ReadFault → List Answer → Type 0
  Tells used a q more = Begins k b token (begun used a) a q (in_use_if used token ++ more)

  by_plan : (used noreply : Bool) (plan : Plan) (q : Result queries.Asked ReadFault) (es : List CompileFault) → ((n : Next Plan) → n ≡ at b (Planning token plan noreply (opened b) [] []) → IsPlanned b token n q) →
      Tells used (planned noreply plan (planning.first_fault es)) q (map (λ e. Compile (texts.fault_text e)) es)
  by_plan true noreply plan q [] h = refl
  by_plan true noreply plan q (e ∷ es) h = refl
  by_plan false noreply plan q [] h = h _ refl
  by_plan false noreply plan q (e ∷ es) h = refl

  by_fault : (used quiet : Bool) (q : Result queries.Asked ReadFault) (e : ReadFault) (more : List Answer) → Tells used (Unplanned quiet (fault_text e)) q (Compile (fault_text e) ∷ more)
  by_fault true quiet q e more = refl
  by_fault false quiet q e more = refl

  by_later : (used quiet : Bool) (q : Result queries.Asked ReadFault) (f e : ReadFault) (more : List Answer) → IsLater e → f ≡ e → Tells used (refused quiet f) q (Compile (fault_text e) ∷ more)
  by_later used quiet q f e more h same =
      subst (λ g. Tells used (refused quiet g) q (Compile (fault_text e) ∷ more)) (sym same)
      (subst (λ a. Tells used a q (Compile (fault_text e) ∷ more)) (sym (later_refused quiet e h)) (by_fault used quiet q e more))

  by_parts : (used quiet : Bool) (r : Result Form ReadFault) (q : Result queries.Asked ReadFault) (es : List ReadFault) → AreLater es → IsFirstOf es q → Fits r q →
      Tells used (asked_by quiet q) q (reading_refusals es ++ planning_refusals r)
  by_parts used quiet (Ok f) (Ok (queries.start g s)) [] later first same =
      subst (λ h. Tells used (asked_by quiet (Ok (queries.start g s))) (Ok (queries.start g s)) (map (λ e. Compile (texts.fault_text e)) (planning.faults planning.around_root h))) same
      (by_plan used s.noreply (plan_of g s.db s.array_limit s.batch) (Ok (queries.start g s)) (planning.faults planning.around_root g) (λ n e. e))
  by_parts used quiet r (Ok a) (e ∷ es) later first fits = absurd first
  by_parts used quiet r (Err g) [] later first fits = absurd first
  by_parts used quiet r (Err g) (e ∷ es) later first fits = by_later used quiet (Err g) g e _ later.0 first
  by_parts used quiet (Ok f) (Ok queries.continued) [] later first fits = absurd fits
  by_parts used quiet (Ok f) (Ok queries.stop) [] later first fits = absurd fits
  by_parts used quiet (Ok f) (Ok queries.noreply_wait) [] later first fits = absurd fits
  by_parts used quiet (Ok f) (Ok queries.server_info) [] later first fits = absurd fits
  by_parts used quiet (Err e) (Ok a) [] later first fits = absurd fits

-- ---- a body's query is that of its shape
by_value : (v : Option Data) → value_query v ≡ (value_shaped v >>= query_by)
by_value None = refl
by_value (Some d) = refl

by_text : (u : Bool) (v : Option Data) → cond u (value_query v) (Err fault.NotJson) ≡ (cond u (value_shaped v) (Err fault.NotJson) >>= query_by)
by_text true v = by_value v
by_text false v = refl

query_of : (body : List ℕ) (q : Result Query ReadFault) → body_shaped body ≡ q → query_text body ≡ (q >>= query_by)
query_of body q is = by_text (is_utf8 body) (reads.read body) ∙ ap (λ z. z >>= query_by) is

pub first_refusal : FirstRefusal
first_refusal keys limits b token body w opts is =
    let k : Talk Plan = talk keys limits in
    let q : Result queries.Asked ReadFault = query_by (start w opts) in
    let fits : Fits (read w) q = fits_with queries.start (λ f s. refl) (read w) (settings_of opts) in
    let as_query : Tells k b token (is_open token b) (asked_by (text_is_quiet body) q) q (reading_refusals (faults_of (start w opts)) ++ planning_refusals (read w)) =
    by_parts k b token (is_open token b) (text_is_quiet body) (read w) q (faults_of (start w opts)) (start_later w opts) (first_fault (start w opts)) fits in
    let all : List Answer = in_use_if (is_open token b) token ++ (reading_refusals (faults_of (start w opts)) ++ planning_refusals (read w)) in
    subst (λ z. Begins k b token (begin k b token (asked_by (text_is_quiet body) z)) (asked_by (text_is_quiet body) z) z all) (sym (query_of body (Ok (start w opts)) is))
    (subst (λ n. Begins k b token n (asked_by (text_is_quiet body) q) q all) (begun_begins k b token (asked_by (text_is_quiet body) q)) as_query)

-- ---- what is no JSON, or has no shape of a query, is told so
shape_by : (quiet : Bool) (e : ReadFault) → IsOfShape e → refused quiet e ≡ Unreadable quiet (fault_text e)
shape_by quiet fault.NotJson h = refl
shape_by quiet fault.BadShape h = refl
shape_by quiet e h = absurd h

pub shape_refusal : ShapeRefusal
shape_refusal keys limits b token body e is shape =
    let k : Talk Plan = talk keys limits in
    ap (λ q. begin k b token (asked_by (text_is_quiet body) q)) (query_of body (Err e) is)
    ∙ ap (λ a. begin k b token a) (shape_by (text_is_quiet body) e shape)
