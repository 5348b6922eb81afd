-- That every feed that a plan asks for follows something: reading and planning leave a term as the law of plans asks for.
use Rattle.std.proofs.Common.{◌≡◌, ℕ, List, [], ◌∷◌, ◌++◌, map, filter, Bool, true, false, cond, nat_eq, if◌then◌else◌, Option, Some, None, option_and_then, inl, inr, Result, Ok, Err, refl, ap, sym, subst, ◌∙◌}
use Rattle.std.specs.Str.{is_utf8}
use Rattle.serde_json.specs.Data.{Data, null, boolean, number, string, array, object, Items, no_items, item, Members, no_members}
use Rattle.json.specs.Json as text
use Rattle.json.specs.Lex.{tokens}
use Rattle.serde_json.specs.Read as json
use Rattle.reql_datum.specs.Answer.{◌>>=◌, Reason, query_logic, non_existence, resource_limit, op_failed, user, no_text}
use Rattle.reql_term.specs.Form.{Form}
use Rattle.reql_faults.specs.Faults.{plan_fault}
use Rattle.reql_faults.specs.declared.fault.CompileFault.{CompileFault}
use Rattle.reql_read.specs.Globals.{settings_of}
use Rattle.reql_read.specs.Query as queries
use Rattle.reql_read.specs.Query.{query_text, value_query, query, text_is_quiet}
use Rattle.reql_read.specs.Reading.{read}
use Rattle.reql_read.specs.Shape.{Query, start, continued, stop, noreply_wait, server_info, number_in, items_in, shaped, shaped_start, shaped_kind, shaped_parts, shaped_query}
use Rattle.reql_read.specs.Written.{Written}
use Rattle.reql_read.specs.declared.fault.ReadFault.{ReadFault}
use Rattle.reql_read.specs.declared.fault.ReadFault.TheVariants as fault
use Rattle.reql_table_spec.specs.declared.command.Order.{Order}
use Rattle.reql_table_spec.specs.declared.limits.Limits.{Limits}
use Rattle.reql_plan_spec.specs.declared.parts.Opening.{Opening}
use Rattle.reql_plan_spec.specs.declared.parts.Plan.{Plan}
use Rattle.reql_plan_spec.specs.Answering.{closes_next}
use Rattle.reql_plan_spec.specs.Asked.{move_in, asks_along, opens_feed, asks_feed, feeds_asked, asked_for, AsksForItsOwn, EndsWithItsOwn}
use Rattle.reql_plan_spec.specs.Course.{Open, plan_next}
use Rattle.reql_plan_spec.specs.Held.{Held}
use Rattle.reql_plan_spec.specs.Move as plans
use Rattle.reql_plan_spec.specs.Opens.{is_asked}
use Rattle.reql_plan_spec.specs.Request as requests
use Rattle.reql_plan_spec.proofs.Answering.{faulty_feeds_are_refused, crowded_feeds_are_refused, next_feed_is_asked, open_feeds_are_told, denied_feeds_are_closed}
use Rattle.reql_plan_spec.proofs.Asked.{feeds_are_asked_in_turn, no_other_feeds_are_asked, each_is_of_its_term, feeds_end_with_their_own}
use Rattle.reql_plan_spec.proofs.Opens.{asked_feeds_are_read}
use Rattle.reql_session_spec.specs.Requests.{Arm, Shown, Answered, Feed, Move, Start, RunSlot, Ends, Found}
use Rattle.reql_query_session_spec.specs.Asking.{plan_of, planned, refused, asked_by, asked}
use Rattle.reql_query_session_spec.specs.Feeds.{moves_along, runs_feed, feeds_run, run_for, closes_move, held_by, RunsItsOwn, EndsWithItsFeeds}
use Rattle.reql_query_session_spec.specs.Laws.{AllFeedsAreRead, AllFeedsAreTheirs, AllFeedsAreAskedInTurn, AllRunNoOtherFeeds, AllFeedsEndWithTheirOwn, AllFaultyFeedsAreRefused, AllCrowdedFeedsAreRefused, AllNextFeedsAreRun, AllOpenFeedsAreTold, AllDeniedFeedsAreClosed}
use Rattle.reql_query_session_spec.specs.Told.{heard_of, fault_of, answered_of, asked_of, move_of, setting_of, moves_of}
use Rattle.reql_query_session_spec.proofs.Once.{given, inside, bound, chained, Rises, AllRise, json_rises, asked_of_data}

-- ---- the term of a query has the shape of a term, and is of a text
read_rises : (bytes : List ℕ) (d : Data) → json.read bytes ≡ Some d → Rises d
read_rises bytes d h =
    let a = chained json.of_json (option_and_then (λ p. text.if_last p.0 p.1) (text.value json.max_depth (tokens bytes))) d h in
    json_rises a.0 d a.2

abbrev HasTerm : Written → Type 0
HasTerm w = (d : Data) × Rises d × (shaped d ≡ Ok w)

same_term : (v w : Written) (ms opts : Members) → given (start v ms) ≡ Ok (start w opts) → v ≡ w
same_term v w ms opts h = cc

module _ (w : Written) (opts : Members) where
  with_term : (d : Data) (ms : Members) → Rises d → (shaped d >>= λ v. Ok (start v ms)) ≡ Ok (start w opts) → HasTerm w
  with_term d ms up h =
      let a = bound (shaped d) (λ v. Ok (start v ms)) (start w opts) h in
      (d, up, subst (λ v. shaped d ≡ Ok v) (same_term a.0 w ms opts a.2) a.1)

  of_start : (ds : Items) → AllRise ds → shaped_start ds ≡ Ok (start w opts) → HasTerm w
  of_start no_items up h = absurd (cc (h))
  of_start (item d no_items) up h = with_term d no_members up.0 h
  of_start (item d (item (object ms) no_items)) up h = with_term d ms up.0 h
  of_start (item d (item (object ms) (item e ds))) up h = absurd (cc (h))
  of_start (item d (item null ds)) up h = absurd (cc (h))
  of_start (item d (item (boolean b) ds)) up h = absurd (cc (h))
  of_start (item d (item (number n) ds)) up h = absurd (cc (h))
  of_start (item d (item (string s) ds)) up h = absurd (cc (h))
  of_start (item d (item (array es) ds)) up h = absurd (cc (h))

  -- the other kinds of a query have no term
  abbrev other : Bool → Bool → Bool → Bool → Result Query ReadFault
  other a b c d =
      if a then Ok continued else (
      if b then Ok stop else (
      if c then Ok noreply_wait else (
      if d then Ok server_info else Err fault.BadShape)))

  of_other : (a b c d : Bool) → other a b c d ≡ Ok (start w opts) → ⊥
  of_other true b c d h = absurd (cc (h))
  of_other false true c d h = absurd (cc (h))
  of_other false false true d h = absurd (cc (h))
  of_other false false false true h = absurd (cc (h))
  of_other false false false false h = absurd (cc (h))

  of_kind : (is a b c d : Bool) (r : Result Query ReadFault) → (if is then r else other a b c d) ≡ Ok (start w opts) → r ≡ Ok (start w opts)
  of_kind true a b c d r h = h
  of_kind false a b c d r h = absurd (of_other a b c d h)

  of_parts : (ds : Items) → AllRise ds → shaped_parts ds ≡ Ok (start w opts) → HasTerm w
  of_parts no_items up h = absurd (cc (h))
  of_parts (item n ds) up h =
      let a = bound (number_in n) (λ k. shaped_kind k ds) (start w opts) h in
      of_start ds up.1 (of_kind (nat_eq a.0 1) (nat_eq a.0 2) (nat_eq a.0 3) (nat_eq a.0 4) (nat_eq a.0 5) (shaped_start ds) a.2)

  of_query : (d : Data) → Rises d → shaped_query d ≡ Ok (start w opts) → HasTerm w
  of_query (array ds) up h = of_parts ds up h
  of_query null up h = absurd (cc (h))
  of_query (boolean b) up h = absurd (cc (h))
  of_query (number n) up h = absurd (cc (h))
  of_query (string s) up h = absurd (cc (h))
  of_query (object ms) up h = absurd (cc (h))

-- ---- and what is read of it is asked for rightly
abbrev IsOf : Form → queries.Asked → Type 0
IsOf f (queries.start g s) = g ≡ f
IsOf f queries.continued = ⊥
IsOf f queries.stop = ⊥
IsOf f queries.noreply_wait = ⊥
IsOf f queries.server_info = ⊥

module _ (f : Form) (x : queries.Asked) (of : IsOf f x) where
  abbrev Reads : Query → Type 0
  Reads q = (w : Written) × (opts : Members) × (q ≡ start w opts) × (read w ≡ Ok f)

  not_of : (y : queries.Asked) → given y ≡ given x → IsOf f y
  not_of y h = subst (IsOf f) (sym (inside y x h)) of

  of_asked : (q : Query) → queries.asked_by q ≡ Ok x → Reads q
  of_asked (start w opts) h =
      let a = bound (read w) (λ g. settings_of opts >>= λ t. Ok (queries.start g t)) x h in
      let b = bound (settings_of opts) (λ t. Ok (queries.start a.0 t)) x a.2 in
      (w, opts, refl, subst (λ g. read w ≡ Ok g) (not_of (queries.start a.0 b.0) b.2) a.1)
  of_asked continued h = absurd (not_of queries.continued h)
  of_asked stop h = absurd (not_of queries.stop h)
  of_asked noreply_wait h = absurd (not_of queries.noreply_wait h)
  of_asked server_info h = absurd (not_of queries.server_info h)

  of_data : (d : Data) → Rises d → query d ≡ Ok x → is_asked f ≡ true
  of_data d up h =
      let a = bound (shaped_query d) queries.asked_by x h in
      let b = of_asked a.0 a.2 in
      let c = of_query b.0 b.1 d up (subst (λ q. shaped_query d ≡ Ok q) b.2 a.1) in
      asked_of_data c.0 b.0 f c.1 c.2 b.3

  of_value : (v : Option Data) → ((d : Data) → v ≡ Some d → Rises d) → value_query v ≡ Ok x → is_asked f ≡ true
  of_value None up h = absurd (cc (h))
  of_value (Some d) up h = of_data d (up d refl) h

  of_text : (u : Bool) (q : Result queries.Asked ReadFault) → cond u q (Err fault.NotJson) ≡ Ok x → q ≡ Ok x
  of_text true q h = h
  of_text false q h = absurd (cc (h))

  read_is_asked : (body : List ℕ) → query_text body ≡ Ok x → is_asked f ≡ true
  read_is_asked body h = of_value (json.read body) (read_rises body) (of_text (is_utf8 body) (value_query (json.read body)) h)

-- ---- the plan of a body
module _ (noreply : Bool) (plan : Plan) where
  not_refused : (quiet : Bool) (e : ReadFault) → refused quiet e ≡ Start noreply plan → ⊥
  not_refused quiet fault.NotJson h = absurd (cc (h))
  not_refused quiet fault.BadShape h = absurd (cc (h))
  not_refused quiet (fault.UnknownTerm n) h = absurd (cc (h))
  not_refused quiet (fault.LeftOut n) h = absurd (cc (h))
  not_refused quiet (fault.Arity n count) h = absurd (cc (h))
  not_refused quiet (fault.BadOptarg name) h = absurd (cc (h))
  not_refused quiet (fault.Number e) h = absurd (cc (h))
  not_refused quiet fault.Memory h = absurd (cc (h))

  of_planned : (quiet : Bool) (p : Plan) (e : Option CompileFault) → planned quiet p e ≡ Start noreply plan → (p ≡ plan) × (e ≡ None)
  of_planned quiet p None h = (cc (h), refl)
  of_planned quiet p (Some e) h = absurd (cc (h))

  abbrev IsGood : Type 0
  IsGood = (is_asked plan.term ≡ true) × (plan_fault plan.term ≡ None)

  of_result : (quiet : Bool) (q : Result queries.Asked ReadFault) → ((f : Form) (x : queries.Asked) → IsOf f x → q ≡ Ok x → is_asked f ≡ true) → asked_by quiet q ≡ Start noreply plan → IsGood
  of_result quiet (Err e) good h = absurd (not_refused quiet e h)
  of_result quiet (Ok (queries.start f s)) good h =
      let a = of_planned s.noreply (plan_of f s.db s.array_limit s.batch) (plan_fault f) h in
      subst (λ p. (is_asked p.term ≡ true) × (plan_fault p.term ≡ None)) a.0 (good f (queries.start f s) refl refl, a.1)
  of_result quiet (Ok queries.continued) good h = absurd (cc (h))
  of_result quiet (Ok queries.stop) good h = absurd (cc (h))
  of_result quiet (Ok queries.noreply_wait) good h = absurd (cc (h))
  of_result quiet (Ok queries.server_info) good h = absurd (cc (h))

  of_body : (body : List ℕ) → asked body ≡ Start noreply plan → IsGood
  of_body body h = of_result (text_is_quiet body) (query_text body) (λ f x of. read_is_asked f x of body) h

-- ---- and its moves
of_ask : (q : plans.Ask) (n : ℕ) (order : Order) → asked_of q ≡ RunSlot n order → q ≡ plans.run n order
of_ask plans.look_names n order h = absurd (cc (h))
of_ask plans.tell n order h = absurd (cc (h))
of_ask (plans.look m) n order h = absurd (cc (h))
of_ask (plans.run m o) n order h = cc
of_ask (plans.change_names c) n order h = absurd (cc (h))
of_ask plans.roll n order h = absurd (cc (h))

of_move : (x : requests.Next) (n : ℕ) (order : Order) → move_of x ≡ RunSlot n order → x ≡ requests.moves (plans.run n order)
of_move (requests.answered o) n order h = absurd (cc (h))
of_move (requests.moves q) n order h = ap requests.moves (of_ask q n order h)

pub all_feeds_are_read : AllFeedsAreRead
all_feeds_are_read keys limits body noreply plan quiet count found n order spec is asks opens =
    let good = of_body noreply plan body is in
    let hs : List plans.Heard = map heard_of found in
    asked_feeds_are_read plan (setting_of limits quiet count) hs n order spec good.0 good.1
    (of_move (plan_next plan (setting_of limits quiet count) hs) n order asks) opens

pub all_feeds_are_theirs : AllFeedsAreTheirs
all_feeds_are_theirs keys limits body noreply plan quiet count found n order spec is asks opens =
    let good = of_body noreply plan body is in
    let hs : List plans.Heard = map heard_of found in
    each_is_of_its_term plan (setting_of limits quiet count) hs n order spec good.0 good.1
    (of_move (plan_next plan (setting_of limits quiet count) hs) n order asks) opens

-- ---- all that is run to open feeds is what the plan asks its slots for
one_or_none : (b : Bool) (q : plans.Ask) (ms : List Move) (qs : List plans.Ask) → ms ≡ map asked_of qs → cond b (asked_of q ∷ ms) ms ≡ map asked_of (cond b (q ∷ qs) qs)
one_or_none true q ms qs h = ap (λ rest. asked_of q ∷ rest) h
one_or_none false q ms qs h = h

with_move : (x : requests.Next) (ms : List Move) (qs : List plans.Ask) → filter runs_feed ms ≡ map asked_of (filter asks_feed qs)
    → filter runs_feed (move_of x ∷ ms) ≡ map asked_of (filter asks_feed (move_in x ++ qs))
with_move (requests.answered o) ms qs h = h
with_move (requests.moves plans.look_names) ms qs h = h
with_move (requests.moves plans.tell) ms qs h = h
with_move (requests.moves (plans.look n)) ms qs h = h
with_move (requests.moves (plans.run n order)) ms qs h = one_or_none (opens_feed order.cmd) (plans.run n order) (filter runs_feed ms) (filter asks_feed qs) h
with_move (requests.moves (plans.change_names c)) ms qs h = h
with_move (requests.moves plans.roll) ms qs h = h

last_move : (x : requests.Next) → filter runs_feed (move_of x ∷ []) ≡ map asked_of (filter asks_feed (move_in x))
last_move (requests.answered o) = refl
last_move (requests.moves q) = with_move (requests.moves q) [] [] refl

run_along : (next : List plans.Heard → requests.Next) (found : List Found)
    → feeds_run (λ more. move_of (next (map heard_of more))) found ≡ map asked_of (filter asks_feed (asks_along next (map heard_of found)))
run_along next [] = last_move (next [])
run_along next (f ∷ found) =
    let rest : List Move = moves_along (λ more. move_of (next (heard_of f ∷ map heard_of more))) found in
    with_move (next []) rest (asks_along (λ more. next (heard_of f ∷ more)) (map heard_of found)) (run_along (λ more. next (heard_of f ∷ more)) found)

all_for : (e : Held) (os : List Opening) → map asked_of (map (asked_for e) os) ≡ map (run_for e) os
all_for e [] = refl
all_for e (o ∷ os) = ap (λ ms. run_for e o ∷ ms) (all_for e os)

-- ---- and a feed that is told is the plan's
abbrev EndsSo : requests.Next → List Arm → List ℕ → List Shown → Type 0
EndsSo x arms notes items = (own : List plans.Arm) × (ns : List ℕ) × (xs : List plans.Item) × (x ≡ requests.answered (plans.feed own ns xs)) × (Feed arms notes items ≡ answered_of (plans.feed own ns xs))

of_fault : (why : Reason) (arms : List Arm) (notes : List ℕ) (items : List Shown) → fault_of why ≡ Feed arms notes items → ⊥
of_fault (query_logic s) arms notes items h = cc (h)
of_fault (non_existence s) arms notes items h = cc (h)
of_fault (resource_limit s) arms notes items h = cc (h)
of_fault (op_failed s) arms notes items h = cc (h)
of_fault (user s) arms notes items h = cc (h)
of_fault no_text arms notes items h = cc (h)

same_end : (a b : Answered) → Ends a ≡ Ends b → a ≡ b
same_end a b h = cc

of_outcome : (o : plans.Outcome) (arms : List Arm) (notes : List ℕ) (items : List Shown) → answered_of o ≡ Feed arms notes items → EndsSo (requests.answered o) arms notes items
of_outcome (plans.feed own ns xs) arms notes items h = (own, ns, xs, refl, sym h)
of_outcome plans.unsent arms notes items h = absurd (cc (h))
of_outcome (plans.atom d) arms notes items h = absurd (cc (h))
of_outcome (plans.grouped gs) arms notes items h = absurd (cc (h))
of_outcome (plans.sequence ds) arms notes items h = absurd (cc (h))
of_outcome (plans.stop (plans.fault why)) arms notes items h = absurd (of_fault why arms notes items h)
of_outcome (plans.stop plans.memory) arms notes items h = absurd (cc (h))

not_ends : (q : plans.Ask) (a : Answered) → asked_of q ≡ Ends a → ⊥
not_ends plans.look_names a h = cc (h)
not_ends plans.tell a h = cc (h)
not_ends (plans.look n) a h = cc (h)
not_ends (plans.run n order) a h = cc (h)
not_ends (plans.change_names c) a h = cc (h)
not_ends plans.roll a h = cc (h)

of_end : (x : requests.Next) (arms : List Arm) (notes : List ℕ) (items : List Shown) → move_of x ≡ Ends (Feed arms notes items) → EndsSo x arms notes items
of_end (requests.answered o) arms notes items h = of_outcome o arms notes items (same_end (answered_of o) (Feed arms notes items) h)
of_end (requests.moves q) arms notes items h = absurd (not_ends q (Feed arms notes items) h)

module _ (limits : Limits) (plan : Plan) (quiet : Bool) (count : ℕ) (found : List Found) where
  abbrev next_of : List plans.Heard → requests.Next
  next_of hs = plan_next plan (setting_of limits quiet count) hs

  run_as_asked : (e : Held) (os : List Opening) → feeds_asked plan (setting_of limits quiet count) (map heard_of found) ≡ map (asked_for e) os
      → feeds_run (moves_of limits plan quiet count) found ≡ map (run_for e) os
  run_as_asked e os h = run_along next_of found ∙ ap (map asked_of) h ∙ all_for e os

  runs_its_own : AsksForItsOwn plan (setting_of limits quiet count) (map heard_of found) → RunsItsOwn limits plan quiet count found (moves_of limits plan quiet count)
  runs_its_own x = record {
    changes = x.changes;
    run = run_as_asked (held_by limits plan quiet count found x.changes) _ x.asked;
    own = x.own;
  }

  ends_with_its_feeds : (arms : List Arm) (notes : List ℕ) (items : List Shown) (o : plans.Outcome) → Feed arms notes items ≡ answered_of o
      → EndsWithItsOwn plan (setting_of limits quiet count) (map heard_of found) o → EndsWithItsFeeds limits plan quiet count found (moves_of limits plan quiet count) arms notes items
  ends_with_its_feeds arms notes items o is x = record {
    changes = x.changes;
    own = x.own;
    run = run_as_asked (held_by limits plan quiet count found x.changes) x.changes.feeds.openings x.asked;
    opened = x.opened;
    each = x.each;
    told = is ∙ ap answered_of x.told;
  }

pub all_feeds_are_asked_in_turn : AllFeedsAreAskedInTurn
all_feeds_are_asked_in_turn keys limits body noreply plan quiet count found is c =
    run_as_asked limits plan quiet count found (held_by limits plan quiet count found c) _ (feeds_are_asked_in_turn plan (setting_of limits quiet count) (map heard_of found) c)

pub all_run_no_other_feeds : AllRunNoOtherFeeds
all_run_no_other_feeds keys limits body noreply plan quiet count found is =
    let good = of_body noreply plan body is in
    elim (no_other_feeds_are_asked plan (setting_of limits quiet count) (map heard_of found) good.0 good.1) [
      | inl none ↦ inl (run_along (next_of limits plan quiet count found) found ∙ ap (map asked_of) none)
      | inr x ↦ inr (runs_its_own limits plan quiet count found x)
    ]

pub all_feeds_end_with_their_own : AllFeedsEndWithTheirOwn
all_feeds_end_with_their_own keys limits body noreply plan quiet count found arms notes items is ends =
    let good = of_body noreply plan body is in
    let hs : List plans.Heard = map heard_of found in
    let told = of_end (plan_next plan (setting_of limits quiet count) hs) arms notes items ends in
    ends_with_its_feeds limits plan quiet count found arms notes items (plans.feed told.0 told.1 told.2) told.4
    (feeds_end_with_their_own plan (setting_of limits quiet count) hs told.0 told.1 told.2 good.0 good.1 told.3)

-- ---- what a CHANGES comes to
closes_so : (e : Held) (why : plans.Stop) (ks : List Open) (hs : List plans.Heard) → move_of (closes_next e why ks hs) ≡ closes_move e why ks hs
closes_so e why [] hs = refl
closes_so e why (k ∷ ks) [] = refl
closes_so e why (k ∷ ks) (h ∷ hs) = closes_so e why ks hs

pub all_faulty_feeds_are_refused : AllFaultyFeedsAreRefused
all_faulty_feeds_are_refused keys limits body noreply plan quiet count found is c why h =
    ap move_of (faulty_feeds_are_refused plan (setting_of limits quiet count) (map heard_of found) c why h)

pub all_crowded_feeds_are_refused : AllCrowdedFeedsAreRefused
all_crowded_feeds_are_refused keys limits body noreply plan quiet count found is c x h full =
    ap move_of (crowded_feeds_are_refused plan (setting_of limits quiet count) (map heard_of found) c x h full)

pub all_next_feeds_are_run : AllNextFeedsAreRun
all_next_feeds_are_run keys limits body noreply plan quiet count found is c before o behind opened h each =
    ap move_of (next_feed_is_asked plan (setting_of limits quiet count) (map heard_of found) c before o behind opened h each)

pub all_open_feeds_are_told : AllOpenFeedsAreTold
all_open_feeds_are_told keys limits body noreply plan quiet count found is c opened each =
    ap move_of (open_feeds_are_told plan (setting_of limits quiet count) (map heard_of found) c opened each)

pub all_denied_feeds_are_closed : AllDeniedFeedsAreClosed
all_denied_feeds_are_closed keys limits body noreply plan quiet count found is c d =
    ap move_of (denied_feeds_are_closed plan (setting_of limits quiet count) (map heard_of found) c d)
    ∙ closes_so (held_by limits plan quiet count found c) d.denial.why d.denial.closes d.rest
