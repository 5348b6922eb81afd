-- A valid input is handled to its end.
use Rattle.std.proofs.Common.{◌≡◌, ◌<◌, ◌+◌, ◌^◌, ℕ, true, List, [], ◌∷◌, ◌++◌, length, drop, Option, refl, sym, ap, subst, ◌∙◌, inl, inr, arith, append_assoc, append-nil, length-append}
use Rattle.std.proofs.lemmas.List.{length-take-le, drop_at}
use Rattle.std.specs.List.{AllByRecursion}
use Rattle.reql_wire.specs.Frames.{Fits, NoFrame, Over, BeginsWith, spellings}
use Rattle.reql_wire.specs.Greeting.{Greets, verdict_of}
use Rattle.reql_wire.specs.declared.frame.Frame.{Frame}
use Rattle.reql_wire.specs.declared.greeter.GreetFault.{GreetFault}
use Rattle.reql_wire.specs.declared.greeter.Greeting.TheVariants as greeting
use Rattle.reql_wire.proofs.Fronts.{first_of, over_no_frame, over_stands}
use Rattle.reql_wire.proofs.Greetings.{alone, stands}
use Rattle.reql_login.specs.Messages.{hello}
use Rattle.reql_login.specs.Turns.{Gate, turn_of}
use Rattle.reql_login.specs.Turns as gates
use Rattle.reql_scram.specs.declared.fault.LoginFault.{LoginFault}
use Rattle.reql_session_spec.specs.Tasks.{Talk}
use Rattle.reql_session_spec.specs.Logins.{Stage, Waiting, At, Admitted, InLogin, IsRefused, Passed, account}
use Rattle.reql_session_spec.specs.Session.{begun, casts, planned}
use Rattle.reql_session_spec.specs.Explained.{Life}
use Rattle.reql_session_spec.specs.Laws.{IsAccepted, LeftAs, LogsIn, IsValid, Leaves, ValidCloses}
use Rattle.reql_session_spec.specs.declared.end.End.{End}
use Rattle.reql_session_spec.specs.declared.end.End.TheVariants as ends
use Rattle.reql_session_spec.proofs.Counts.{worn_late}
use Rattle.reql_session_spec.proofs.Overs.{IsLast, over_at_end}
use Rattle.reql_session_spec.proofs.Messages.{IsPast, IsFine, called_says, turn_stands, with_more, next_in}
use Rattle.reql_session_spec.proofs.Orders.{waits_not_over, at_not_over, at_not_waiting, passed_still}
use Rattle.reql_session_spec.proofs.Passing.{Left, along, fine, started}
use Rattle.reql_session_spec.proofs.Rests.{frames_handled}
use Rattle.reql_session_spec.proofs.Rolling.{login_rolls_first}

-- what is left by the bytes alone, where so much was not given
abbrev Comes : List ℕ → End → List Frame → Type 0
Comes more ends.Closed left = left ≡ []
Comes more ends.ReadFault left = more ≡ [] → left ≡ []
Comes more ends.WriteFault left = Unit {0}
Comes more ends.Worn left = Unit {0}
Comes more ends.Memory left = Unit {0}
Comes more end left = ⊥

-- greetings
nothing_is_more : (key : List ℕ) → Greets key [] greeting.More
unfolding verdict_of
nothing_is_more key = refl

not_more : (key bytes : List ℕ) (used : ℕ) → Greets key bytes (greeting.Accepted used) → Greets key bytes greeting.More → ⊥
not_more key bytes used p q = let e : greeting.Accepted used ≡ greeting.More = sym p ∙ q in cc

not_refused : (key bytes : List ℕ) (used : ℕ) (f : GreetFault) → Greets key bytes (greeting.Accepted used) → Greets key bytes (greeting.Refused f) → ⊥
not_refused key bytes used f p q = let e : greeting.Accepted used ≡ greeting.Refused f = sym p ∙ q in cc

more_not_refused : (key bytes : List ℕ) (f : GreetFault) → Greets key bytes greeting.More → Greets key bytes (greeting.Refused f) → ⊥
more_not_refused key bytes f p q = let e : greeting.More ≡ greeting.Refused f = sym p ∙ q in cc

same_used : (key bytes : List ℕ) (m n : ℕ) → Greets key bytes (greeting.Accepted m) → Greets key bytes (greeting.Accepted n) → m ≡ n
same_used key bytes m n p q = let e : greeting.Accepted m ≡ greeting.Accepted n = sym p ∙ q in cc

login_not_more : (key bytes : List ℕ) → Greets key bytes (greeting.Login 4) → Greets key bytes greeting.More → ⊥
login_not_more key bytes p q = let e : greeting.Login 4 ≡ greeting.More = sym p ∙ q in cc

login_not_refused : (key bytes : List ℕ) (f : GreetFault) → Greets key bytes (greeting.Login 4) → Greets key bytes (greeting.Refused f) → ⊥
login_not_refused key bytes f p q = let e : greeting.Login 4 ≡ greeting.Refused f = sym p ∙ q in cc

login_not_accepted : (key bytes : List ℕ) (used : ℕ) → Greets key bytes (greeting.Login 4) → Greets key bytes (greeting.Accepted used) → ⊥
login_not_accepted key bytes used p q = let e : greeting.Login 4 ≡ greeting.Accepted used = sym p ∙ q in cc

is_more : (key bytes : List ℕ) → bytes ≡ [] → Greets key bytes greeting.More
is_more key bytes e = subst (λ z. Greets key z greeting.More) (sym e) (nothing_is_more key)

says_not_refuses : (a b : List ℕ) (next : Gate) (f : LoginFault) → gates.Says a b next ≡ gates.Refuses f → ⊥
says_not_refuses a b next f e = cc

refuses_not_waits : (f : LoginFault) → gates.Refuses f ≡ gates.Waits → ⊥
refuses_not_waits f e = cc

-- frames
none_left : (limit : ℕ) (left : List Frame) (held : List ℕ) → AllByRecursion (Fits limit) left → held ≡ spellings left → NoFrame limit held → left ≡ []
none_left limit [] held p e n = refl
none_left limit (f ∷ fs) held p e n = absurd (n f (spellings fs) p.0 e)

no_bytes : (left : List Frame) (held : List ℕ) → held ≡ spellings left → left ≡ [] → held ≡ []
no_bytes left held e none = e ∙ ap spellings none

-- where nothing more was to come
all_held : (held more : List ℕ) → more ≡ [] → held ++ more ≡ held
all_held held more none = ap (λ z. held ++ z) none ∙ append-nil held

module _ {PL : Type 0} (k : Talk PL) where
  leaves_so : (life : Life) (more : List ℕ) (end : End) (left : List Frame) → (end ≡ ends.Worn → k.limits.turns < ((length life.given + length life.given) + life.idles) + 2) → (IsLast end → life.over ≡ true) → Comes more end left
      → Leaves k life more end left
  leaves_so life more ends.Closed left worn is_over c = (c, is_over tt)
  leaves_so life more (ends.Cut n) left worn is_over c = c
  leaves_so life more (ends.Refused f) left worn is_over c = c
  leaves_so life more (ends.TooLong len) left worn is_over c = c
  leaves_so life more ends.ReadFault left worn is_over c = c
  leaves_so life more ends.WriteFault left worn is_over c = tt
  leaves_so life more ends.Worn left worn is_over c = worn refl
  leaves_so life more ends.Memory left worn is_over c = tt

  -- a login that is admitted begins with its version
  logs_in : (rs : List (Option (List ℕ))) (bytes : List ℕ) (frames : List Frame) → LogsIn k rs bytes frames → Greets k.key bytes (greeting.Login 4)
  logs_in rs bytes frames v = elim (started k Waiting Admitted v.login v.own v.passed refl) [
    | inl none ↦ absurd (waits_not_over (sym none.0))
    | inr some ↦ subst (λ z. Greets k.key z (greeting.Login 4)) (sym v.all) (some (spellings frames))
  ]

  -- before the greeting was accepted, or a version came
  waiting_none : (rs : List (Option (List ℕ))) (held : List ℕ) (frames : List Frame) → Greets k.key held greeting.More → IsValid k rs held frames → (frames ≡ []) × (held ≡ [])
  waiting_none rs held frames g (inl none) = (none.1, none.0)
  waiting_none rs held frames g (inr (inl v)) = absurd (not_more k.key held v.used v.greets g)
  waiting_none rs held frames g (inr (inr v)) = absurd (login_not_more k.key held (logs_in rs held frames v) g)

  waiting_all : (rs : List (Option (List ℕ))) (held more : List ℕ) (frames : List Frame) → more ≡ [] → Greets k.key held greeting.More → IsValid k rs (held ++ more) frames → (frames ≡ []) × (held ≡ [])
  waiting_all rs held more frames none g v = waiting_none rs held frames g (subst (λ z. IsValid k rs z frames) (all_held held more none) v)

  never_refused : (rs : List (Option (List ℕ))) (held : List ℕ) (frames : List Frame) (f : GreetFault) → Greets k.key held (greeting.Refused f) → IsValid k rs held frames → ⊥
  never_refused rs held frames f g (inl none) = more_not_refused k.key held f (is_more k.key held none.0) g
  never_refused rs held frames f g (inr (inl v)) = not_refused k.key held v.used f v.greets g
  never_refused rs held frames f g (inr (inr v)) = login_not_refused k.key held f (logs_in rs held frames v) g

  -- a version is never refused
  called_not_refused : (held : List ℕ) (why : LoginFault) → turn_of (account k) gates.Called held ≡ gates.Refuses why → ⊥
  called_not_refused held why e = says_not_refuses hello (drop 4 held) gates.Greeted why (sym (called_says (account k) held) ∙ e)

  never_turned : (held : List ℕ) (why : LoginFault) → InLogin k Waiting held (gates.Refuses why) → ⊥
  never_turned held why x = elim x.at [
    | inl w ↦ called_not_refused held why (ap (λ g. turn_of (account k) g held) (sym w.2) ∙ x.turn)
    | inr w ↦ at_not_waiting x.gate (sym w)
  ]

  waiting : (rs : List (Option (List ℕ))) (end : End) (held more : List ℕ) (frames : List Frame) → (IsLast end → more ≡ []) → LeftAs k end Waiting held → IsValid k rs (held ++ more) frames → Comes more end frames
  waiting rs ends.Closed held more frames o l v = (waiting_all rs held more frames (o tt) l.1 v).0
  waiting rs (ends.Cut n) held more frames o l v = absurd (omega (arith, l.0, l.1, ap length (waiting_all rs held more frames (o tt) l.2 v).1))
  waiting rs (ends.Refused f) held more frames o l v = elim l [
    | inl g ↦ absurd (never_refused rs (held ++ more) frames f (stands k.key held more (greeting.Refused f) (λ e. cc) g.1) v)
    | inr g ↦ absurd (never_turned held g.0 g.2)
  ]
  waiting rs (ends.TooLong len) held more frames o l v = absurd (waits_not_over l.0)
  waiting rs ends.ReadFault held more frames o l v = λ none. (waiting_all rs held more frames none l v).0
  waiting rs ends.WriteFault held more frames o l v = tt
  waiting rs ends.Worn held more frames o l v = tt
  waiting rs ends.Memory held more frames o l v = tt

  -- in a login that would be admitted, what is held is no end of it
  abbrev Stops : Gate → List ℕ → List ℕ → Type 0
  Stops gate held more = IsFine (turn_of (account k) gate (held ++ more))

  waits_on : (gate : Gate) (held more : List ℕ) → more ≡ [] → turn_of (account k) gate held ≡ gates.Waits → Stops gate held more → ⊥
  waits_on gate held more none w f = subst IsFine (ap (turn_of (account k) gate) (all_held held more none) ∙ w) f

  refused_then : (gate : Gate) (held more : List ℕ) (why : LoginFault) → IsPast gate → turn_of (account k) gate held ≡ gates.Refuses why → Stops gate held more → ⊥
  refused_then gate held more why past e f = subst IsFine (turn_stands (account k) gate held more past (λ w. refuses_not_waits why (sym e ∙ w)) ∙ ap (with_more more) e) f

  abbrev gate_in : Stage → Gate
  gate_in (At gate) = gate
  gate_in other = gates.Called

  refused_in : (gate : Gate) (held more : List ℕ) (f : GreetFault) → IsPast gate → IsRefused k f (At gate) held → Stops gate held more → ⊥
  refused_in gate held more f past (inl g) s = at_not_waiting gate g.0
  refused_in gate held more f past (inr g) s = elim g.2.at [
    | inl w ↦ at_not_waiting gate w.0
    | inr w ↦ refused_then gate held more g.0 past (ap (λ y. turn_of (account k) (gate_in y) held) w ∙ g.2.turn) s
  ]

  in_login : (end : End) (gate : Gate) (held more : List ℕ) (frames : List Frame) → IsPast gate → (IsLast end → more ≡ []) → LeftAs k end (At gate) held → Stops gate held more → Comes more end frames
  in_login ends.Closed gate held more frames past o l s = absurd (waits_on gate held more (o tt) l.1 s)
  in_login (ends.Cut n) gate held more frames past o l s = absurd (waits_on gate held more (o tt) l.2 s)
  in_login (ends.Refused f) gate held more frames past o l s = absurd (refused_in gate held more f past l s)
  in_login (ends.TooLong len) gate held more frames past o l s = absurd (at_not_over gate l.0)
  in_login ends.ReadFault gate held more frames past o l s = λ none. absurd (waits_on gate held more none l s)
  in_login ends.WriteFault gate held more frames past o l s = tt
  in_login ends.Worn gate held more frames past o l s = tt
  in_login ends.Memory gate held more frames past o l s = tt

  -- after it
  left_all : (held more : List ℕ) (left : List Frame) → AllByRecursion (Fits k.limits.frame) left → held ++ more ≡ spellings left → more ≡ [] → NoFrame k.limits.frame held → (left ≡ []) × (held ≡ [])
  left_all held more left each e none n =
      let same : held ≡ spellings left = sym (all_held held more none) ∙ e in
      let no = none_left k.limits.frame left held each same n in
      (no, no_bytes left held same no)

  greeted : (end : End) (held more : List ℕ) (left : List Frame) → k.limits.frame < 2 ^ 32 → AllByRecursion (Fits k.limits.frame) left → held ++ more ≡ spellings left → (IsLast end → more ≡ []) → LeftAs k end Admitted held
      → Comes more end left
  greeted ends.Closed held more left small each e o l = (left_all held more left each e (o tt) l.1.1).0
  greeted (ends.Cut n) held more left small each e o l = absurd (omega (arith, l.0, l.1, ap length (left_all held more left each e (o tt) l.2.1).1))
  greeted (ends.Refused f) held more left small each e o l = elim l [
    | inl g ↦ absurd (waits_not_over (sym g.0))
    | inr g ↦ elim g.2.at [ inl w ↦ absurd (waits_not_over (sym w.0)) | inr w ↦ absurd (at_not_over g.2.gate (sym w)) ]
  ]
  greeted (ends.TooLong len) held more left small each e o l =
      let long : Over k.limits.frame held len = l.1 in
      let none : left ≡ [] = none_left k.limits.frame left (held ++ more) each e (over_no_frame k.limits.frame (held ++ more) len small (over_stands k.limits.frame held more len long)) in
      absurd (omega (arith, long.room, length-append held more, ap length (no_bytes left (held ++ more) e none)))
  greeted ends.ReadFault held more left small each e o l = λ none. (left_all held more left each e none l.1).0
  greeted ends.WriteFault held more left small each e o l = tt
  greeted ends.Worn held more left small each e o l = tt
  greeted ends.Memory held more left small each e o l = tt

  -- an accepted greeting is one by itself, and as long as it says
  own : (bytes : List ℕ) (a : IsAccepted k bytes) → Greets k.key bytes (greeting.Accepted a.used) × (length bytes ≡ a.used)
  own bytes a =
      let o = alone k.key (bytes ++ a.behind) a.used a.greets in
      (subst (λ z. Greets k.key z (greeting.Accepted a.used)) (sym a.all) o.1, ap length a.all ∙ length-take-le a.used (bytes ++ a.behind) o.0)

  greets_all : (bytes more : List ℕ) (a : IsAccepted k bytes) → Greets k.key (bytes ++ more) (greeting.Accepted a.used)
  greets_all bytes more a = stands k.key bytes more (greeting.Accepted a.used) (λ e. cc) (own bytes a).0

  -- what is left of the frames, where a greeting was accepted and some were handled
  rests : (rs : List (Option (List ℕ))) (bytes rest : List ℕ) (handled frames : List Frame) → k.limits.frame < 2 ^ 32 → IsAccepted k bytes → AllByRecursion (Fits k.limits.frame) handled → IsValid k rs (bytes ++ (spellings handled ++ rest)) frames
      → BeginsWith k.limits.frame frames handled rest
  rests rs bytes rest handled frames small a each (inl none) = absurd (not_more k.key (bytes ++ (spellings handled ++ rest)) a.used (greets_all bytes (spellings handled ++ rest) a) (is_more k.key (bytes ++ (spellings handled ++ rest)) none.0))
  rests rs bytes rest handled frames small a each (inr (inr v)) =
      let all = bytes ++ (spellings handled ++ rest) in
      absurd (login_not_accepted k.key all a.used (logs_in rs all frames v) (greets_all bytes (spellings handled ++ rest) a))
  rests rs bytes rest handled frames small a each (inr (inl v)) =
      let all = bytes ++ (spellings handled ++ rest) in
      let used : a.used ≡ v.used = same_used k.key all a.used v.used (greets_all bytes (spellings handled ++ rest) a) v.greets in
      let size : length bytes ≡ v.used = (own bytes a).1 ∙ used in
      first_of k.limits.frame frames handled rest small v.each each (sym v.behind ∙ drop_at bytes (spellings handled ++ rest) v.used size)

  -- what is left of the frames, where a login had gone on so far
  record Remains (more : List ℕ) (end : End) (frames handled : List Frame) : Type 0 where
    left : List Frame
    first : frames ≡ handled ++ left
    comes : Comes more end left

  logged : (end : End) (s : Stage) (held more : List ℕ) (handled frames : List Frame) → k.limits.frame < 2 ^ 32 → AllByRecursion (Fits k.limits.frame) handled → AllByRecursion (Fits k.limits.frame) frames
      → (IsLast end → more ≡ []) → ((s ≡ Admitted → ⊥) → handled ≡ []) → LeftAs k end s held → Left k s (spellings handled ++ (held ++ more)) (spellings frames) → Remains more end frames handled
  logged end Waiting held more handled frames small each all o before l x =
      let no : handled ≡ [] = before waits_not_over in
      let stream : held ++ more ≡ x.login ++ spellings frames = ap (λ z. spellings z ++ (held ++ more)) (sym no) ∙ x.all in
      record {
        left = frames;
        first = ap (λ z. z ++ frames) (sym no);
        comes = waiting x.own end held more frames o l (inr (inr (record { login = x.login; own = x.own; others = []; passed = x.passed; its = inl (sym (append-nil x.own)); each = all; all = stream })));
      }
  logged end (At gate) held more handled frames small each all o before l x =
      let no : handled ≡ [] = before (at_not_over gate) in
      let stream : held ++ more ≡ x.login ++ spellings frames = ap (λ z. spellings z ++ (held ++ more)) (sym no) ∙ x.all in
      record {
        left = frames;
        first = ap (λ z. z ++ frames) (sym no);
        comes = in_login end gate held more frames x.on o l (subst (λ z. IsFine (turn_of (account k) gate z)) (sym stream) (fine k gate x.login (spellings frames) x.own x.passed x.on));
      }
  logged end Admitted held more handled frames small each all o before l x =
      let none : x.login ≡ [] = (passed_still k Admitted Admitted x.login x.own x.passed refl).0 in
      let r = first_of k.limits.frame frames handled (held ++ more) small all each (sym (x.all ∙ ap (λ z. z ++ spellings frames) none)) in
      record { left = r.left; first = r.first; comes = greeted end held more r.left small r.each r.spelled o l }

  -- a login was begun, and this input was valid
  began : (end : End) (s : Stage) (bytes held more : List ℕ) (own p : List (Option (List ℕ))) (handled frames : List Frame) → k.limits.frame < 2 ^ 32 → AllByRecursion (Fits k.limits.frame) handled
      → (IsLast end → more ≡ []) → ((s ≡ Admitted → ⊥) → handled ≡ []) → LeftAs k end s held → Passed k Waiting bytes own s → ((tail : List ℕ) → Greets k.key (bytes ++ tail) (greeting.Login 4))
      → IsValid k (own ++ p) (bytes ++ (spellings handled ++ (held ++ more))) frames → Remains more end frames handled
  began end s bytes held more own p handled frames small each o before l passed calls (inl none) =
      absurd (login_not_more k.key (bytes ++ (spellings handled ++ (held ++ more))) (calls (spellings handled ++ (held ++ more))) (is_more k.key (bytes ++ (spellings handled ++ (held ++ more))) none.0))
  began end s bytes held more own p handled frames small each o before l passed calls (inr (inl v)) =
      absurd (login_not_accepted k.key (bytes ++ (spellings handled ++ (held ++ more))) v.used (calls (spellings handled ++ (held ++ more))) v.greets)
  began end s bytes held more own p handled frames small each o before l passed calls (inr (inr v)) =
      logged end s held more handled frames small each v.each o before l
      (along k Waiting s bytes own passed Waiting Admitted v.login v.own v.passed refl refl tt (spellings handled ++ (held ++ more)) (spellings frames) p v.others v.all v.its)

  pub valid_closes : ValidCloses k
  valid_closes share life e more frames small v last =
      let f = frames_handled k share life e in
      let h = f.0 in
      let rolls : life.rolls ≡ casts e.events ++ planned e.events = login_rolls_first k share life e in
      let given : life.given ≡ h.greeting ++ (spellings (begun e.events) ++ e.final.held) = sym e.input ∙ h.input in
      let late = worn_late k share life e in
      let is_over : IsLast life.end → life.over ≡ true = over_at_end k share life e in
      let all : life.given ++ more ≡ h.greeting ++ (spellings (begun e.events) ++ (e.final.held ++ more)) =
      ap (λ z. z ++ more) given ∙ append_assoc h.greeting (spellings (begun e.events) ++ e.final.held) more ∙ ap (λ z. h.greeting ++ z) (append_assoc (spellings (begun e.events)) e.final.held more) in
      elim h.began [
        | inl passed ↦ elim (started k Waiting e.final.greeted h.greeting (casts e.events) passed refl) [
          | inl none ↦
              let no : begun e.events ≡ [] = h.before (λ f. waits_not_over (sym none.0 ∙ f)) in
              let held : life.given ++ more ≡ e.final.held ++ more = all ∙ ap (λ z. z ++ (spellings (begun e.events) ++ (e.final.held ++ more))) none.1 ∙ ap (λ z. spellings z ++ (e.final.held ++ more)) no in
              record {
                left = frames;
                first = ap (λ z. z ++ frames) (sym no);
                ends = leaves_so life more life.end frames late is_over
                    (waiting life.rolls life.end e.final.held more frames (λ x. last (is_over x)) (subst (λ z. LeftAs k life.end z e.final.held) none.0 f.1) (subst (λ z. IsValid k life.rolls z frames) held v));
              }
          | inr calls ↦
              let r = began life.end e.final.greeted h.greeting e.final.held more (casts e.events) (planned e.events) (begun e.events) frames small h.each (λ x. last (is_over x)) h.before f.1 passed calls
              (subst (λ z. IsValid k z (h.greeting ++ (spellings (begun e.events) ++ (e.final.held ++ more))) frames) rolls (subst (λ z. IsValid k life.rolls z frames) all v)) in
              record { left = r.left; first = r.first; ends = leaves_so life more life.end r.left late is_over r.comes }
        ]
        | inr some ↦
            let r = rests life.rolls h.greeting (e.final.held ++ more) (begun e.events) frames small some.2 h.each (subst (λ z. IsValid k life.rolls z frames) all v) in
            record {
              left = r.left;
              first = r.first;
              ends = leaves_so life more life.end r.left late is_over (greeted life.end e.final.held more r.left small r.each r.spelled (λ x. last (is_over x)) (subst (λ z. LeftAs k life.end z e.final.held) some.1 f.1));
            }
      ]
