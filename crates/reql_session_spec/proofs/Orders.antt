-- What came in was handled in order.
use Rattle.std.proofs.Common.{◌≡◌, ◌⊎◌, ℕ, Bool, true, false, List, [], ◌∷◌, ◌++◌, length, take, drop, Option, refl, sym, ap, subst, ◌∙◌, arith, append_assoc, append-nil, inl, inr}
use Rattle.std.proofs.lemmas.List.{take-append-drop, length-take-le}
use Rattle.std.specs.List.{AllByRecursion}
use Rattle.reql_wire.specs.Frames.{Fits, spelling, spellings}
use Rattle.reql_wire.specs.Greeting.{Greets, field_at}
use Rattle.reql_wire.specs.declared.greeter.Greeting.TheVariants as greeting
use Rattle.reql_wire.proofs.Greetings.{call, called, field_at-append}
use Rattle.reql_login.specs.Messages.{hello}
use Rattle.reql_login.specs.Turns.{Gate, after_roll, turn_of}
use Rattle.reql_login.specs.Turns as gates
use Rattle.reql_shared.specs.Acts.{Ran, Looked, Denied}
use Rattle.reql_session_spec.specs.Books.{Books}
use Rattle.reql_session_spec.specs.Laws.{Began, Handled, IsAccepted}
use Rattle.reql_session_spec.specs.Logins.{Stage, Waiting, At, Admitted, InLogin, Passed, account}
use Rattle.reql_session_spec.specs.Logins as logins
use Rattle.reql_session_spec.specs.Tasks.{Talk}
use Rattle.reql_session_spec.specs.Session.{Event, Turn, Visit, Greeted, Login, Cast, Begin, Heard, Lost, Quiet, Finish, Broken, Long, Wear, Poor, On, OnNames, Dice, Clock, Come, Say, Want, Mach, Run, heard, begun, casts, tells}
use Rattle.reql_session_spec.proofs.Messages.{Used, called_admits_none, called_says, says_used, admits_used, rest_in, next_in}

-- a version is one by its own bytes
pub version_alone : (key held : List ℕ) → Greets key held (greeting.Login 4) → Greets key (take 4 held) (greeting.Login 4) × (length (take 4 held) ≡ 4)
version_alone key held g =
    let w = call key held 4 g in
    let size : length (take 4 held) ≡ 4 = length-take-le 4 held w.there in
    let same : field_at 0 (take 4 held) ≡ field_at 0 held = sym (field_at-append 0 (take 4 held) (drop 4 held) (omega (arith, size))) ∙ ap (field_at 0) (take-append-drop 4 held) in
    (called key (take 4 held) (omega (arith, size)) (same ∙ w.version_is), size)

called_rolls_none : (account : _) (held : List ℕ) → turn_of account gates.Called held ≡ gates.Rolls → ⊥
called_rolls_none account held e = let f : gates.Says hello (drop 4 held) gates.Greeted ≡ gates.Rolls = sym (called_says account held) ∙ e in cc

pub waits_not_over : Waiting ≡ Admitted → ⊥
waits_not_over e = cc

pub at_not_over : (gate : Gate) → At gate ≡ Admitted → ⊥
at_not_over gate e = cc

pub at_not_waiting : (gate : Gate) → At gate ≡ Waiting → ⊥
at_not_waiting gate e = cc

module _ {PL : Type 0} (k : Talk PL) where
  -- where a login is over nothing of it goes on
  pub passed_still : (b c : Stage) (bytes : List ℕ) (rs : List (Option (List ℕ))) → Passed k b bytes rs c → b ≡ Admitted → (bytes ≡ []) × (c ≡ b) × (rs ≡ [])
  passed_still b c bytes rs (logins.here stage) t = (refl, refl, refl)
  passed_still b c bytes rs (logins.calls own input rs2 stage g n p) t = absurd (waits_not_over t)
  passed_still b c bytes rs (logins.rolls at held roll rs2 input stage e p) t = absurd (at_not_over at t)
  passed_still b c bytes rs (logins.told at next used said input rs2 stage e p) t = absurd (at_not_over at t)
  passed_still b c bytes rs (logins.admits at used said e) t = absurd (at_not_over at t)

  -- where a greeting or a login had come, none comes, and it is so still
  still : (b c : Stage) (bytes : List ℕ) (rs : List (Option (List ℕ))) → Began k b c bytes rs → b ≡ Admitted → (bytes ≡ []) × (c ≡ b) × (rs ≡ [])
  still b c bytes rs (inl p) t = passed_still b c bytes rs p t
  still b c bytes rs (inr one) t = absurd (waits_not_over (sym one.0 ∙ t))

  began_of : (a b c : Stage) (bytes : List ℕ) (rs : List (Option (List ℕ))) → b ≡ a → Began k b c bytes rs → Began k a c bytes rs
  began_of a b c bytes rs g o = subst (λ z. Began k z c bytes rs) g o

  stays : (b c : Stage) (rs : List (Option (List ℕ))) → c ≡ b → rs ≡ [] → Passed k b [] rs c
  stays b c rs g e = subst (λ z. Passed k b [] z c) (sym e) (subst (λ z. Passed k b [] [] z) (sym g) (logins.here b))

  -- a login went on from where it stood
  gone_on : (gate : Gate) (c : Stage) (bytes : List ℕ) (rs : List (Option (List ℕ))) → Began k (At gate) c bytes rs → Passed k (At gate) bytes rs c
  gone_on gate c bytes rs (inl p) = p
  gone_on gate c bytes rs (inr one) = absurd (at_not_waiting gate one.0)

  -- the bytes of a message, and what the login took with them
  record Takes (stage c : Stage) (held rest greeting : List ℕ) (rs : List (Option (List ℕ))) : Type 0 where
    used : List ℕ
    all : held ≡ used ++ rest
    passed : Passed k stage (used ++ greeting) rs c

  says_takes : (stage c : Stage) (held bytes rest greeting : List ℕ) (next : Gate) (rs : List (Option (List ℕ))) → InLogin k stage held (gates.Says bytes rest next) → Passed k (At next) greeting rs c → Takes stage c held rest greeting rs
  says_takes stage c held bytes rest greeting next rs x p = elim x.at [
    | inl w ↦
        let e : gates.Says hello (drop 4 held) gates.Greeted ≡ gates.Says bytes rest next = sym (called_says (account k) held) ∙ ap (λ g. turn_of (account k) g held) (sym w.2) ∙ x.turn in
        let v = version_alone k.key held w.1 in
        let to : gates.Greeted ≡ next = ap next_in e in
        record {
          used = take 4 held;
          all = sym (take-append-drop 4 held) ∙ ap (λ z. take 4 held ++ z) (ap rest_in e);
          passed = subst (λ z. Passed k z (take 4 held ++ greeting) rs c) (sym w.0) (logins.calls (take 4 held) greeting rs c v.0 v.1 (subst (λ z. Passed k (At z) greeting rs c) (sym to) p));
        }
    | inr w ↦
        let u : Used (account k) x.gate held rest (gates.Says bytes [] next) = says_used (account k) x.gate held bytes rest next x.turn in
        record { used = u.used; all = u.all; passed = subst (λ z. Passed k z (u.used ++ greeting) rs c) (sym w) (logins.told x.gate next u.used bytes greeting rs c u.alone p) }
  ]

  admits_takes : (stage : Stage) (held bytes rest : List ℕ) → InLogin k stage held (gates.Admits bytes rest) → Takes stage Admitted held rest [] []
  admits_takes stage held bytes rest x = elim x.at [
    | inl w ↦ absurd (called_admits_none (account k) held bytes rest (ap (λ g. turn_of (account k) g held) (sym w.2) ∙ x.turn))
    | inr w ↦
        let u : Used (account k) x.gate held rest (gates.Admits bytes []) = admits_used (account k) x.gate held bytes rest x.turn in
        record { used = u.used; all = u.all; passed = subst (λ z. Passed k z (u.used ++ []) [] Admitted) (sym w) (subst (λ z. Passed k (At x.gate) z [] Admitted) (sym (append-nil u.used)) (logins.admits x.gate u.used bytes u.alone)) }
  ]

  rolls_on : (stage c : Stage) (held greeting : List ℕ) (bytes : Option (List ℕ)) (rs : List (Option (List ℕ))) (x : InLogin k stage held gates.Rolls) → Passed k (At (after_roll x.gate bytes)) greeting rs c → Passed k stage greeting (bytes ∷ rs) c
  rolls_on stage c held greeting bytes rs x p = elim x.at [
    | inl w ↦ absurd (called_rolls_none (account k) held (ap (λ g. turn_of (account k) g held) (sym w.2) ∙ x.turn))
    | inr w ↦ subst (λ z. Passed k z greeting (bytes ∷ rs) c) (sym w) (logins.rolls x.gate held bytes rs greeting c x.turn p)
  ]

  accepts : (held : List ℕ) (used : ℕ) → Greets k.key held (greeting.Accepted used) → IsAccepted k (take used held)
  accepts held used g = record {
    behind = drop used held;
    used = used;
    greets = subst (λ z. Greets k.key z (greeting.Accepted used)) (sym (take-append-drop used held)) g;
    all = ap (λ z. take used z) (sym (take-append-drop used held));
  }

  -- a step that leaves what is held, and neither hears nor begins
  same : (m x n : Mach PL) (e : Event) (es : List Event) → heard (e ∷ es) ≡ heard es → begun (e ∷ es) ≡ begun es → casts (e ∷ es) ≡ casts es → x.held ≡ m.held → x.greeted ≡ m.greeted → Handled k x n es → Handled k m n (e ∷ es)
  same m x n e es a b c h g r = record {
    greeting = r.greeting;
    input = (λ i. sym h i ++ a i) ∙ r.input ∙ ap (λ z. r.greeting ++ (spellings z ++ n.held)) (sym b);
    began = subst (λ z. Began k m.greeted n.greeted r.greeting z) (sym c) (began_of m.greeted x.greeted n.greeted r.greeting (casts es) g r.began);
    each = subst (AllByRecursion (Fits k.limits.frame)) (sym b) r.each;
    before = λ f. b ∙ r.before f;
  }

  -- an equation of machines gives what is held and how far the greeting or the login has come
  held_of : (x m : Mach PL) → x ≡ m → (x.held ≡ m.held) × (x.greeted ≡ m.greeted)
  held_of x m e = (ap (λ (z : Mach PL). z.held) e, ap (λ (z : Mach PL). z.greeted) e)

  after_tell : (m : Mach PL) (back : Option (List ℕ)) (token : ℕ) (kept : Books) (after : Option _) (whole : Bool) → ((tells m back token kept after whole).held ≡ m.held) × ((tells m back token kept after whole).greeted ≡ m.greeted)
  after_tell m back token kept after true = (refl, refl)
  after_tell m back token kept after false = (refl, refl)

  -- what came, where a login took the front of what was held
  takes_input : (held used rest greeting more tail : List ℕ) → held ≡ used ++ rest → rest ++ more ≡ greeting ++ tail → held ++ more ≡ (used ++ greeting) ++ tail
  takes_input held used rest greeting more tail a b = ap (λ z. z ++ more) a ∙ append_assoc used rest more ∙ ap (λ z. used ++ z) b ∙ sym (append_assoc used greeting tail)

  pub handled : (m n : Mach PL) (es : List Event) → Run k m es n → Handled k m n es
  handled m n [] r = record { greeting = []; input = append-nil m.held ∙ sym (held_of n m r).0; began = inl (stays m.greeted n.greeted [] (held_of n m r).1 refl); each = tt; before = λ f. refl }
  handled m n (Turn ∷ es) r = let h = held_of _ _ r.1.1 in same m r.0 n Turn es refl refl refl h.0 h.1 (handled r.0 n es r.2)
  handled m n (Visit ∷ es) r = let h = held_of _ _ r.1.3 in same m r.0 n Visit es refl refl refl h.0 h.1 (handled r.0 n es r.2)
  handled m n (Greeted true ∷ es) r =
      let rest = handled r.0 n es r.2 in
      elim r.1.2 [
        | inl g ↦ (let h = held_of _ _ g.4 in let more = still _ _ _ _ rest.began h.1 in record {
          greeting = take g.0 m.held;
          input = ap (λ z. z ++ heard es) (sym (take-append-drop g.0 m.held)) ∙ append_assoc (take g.0 m.held) (drop g.0 m.held) (heard es)
              ∙ ap (λ z. take g.0 m.held ++ (z ++ heard es)) (sym h.0) ∙ ap (λ z. take g.0 m.held ++ z) (rest.input ∙ ap (λ z. z ++ (spellings (begun es) ++ n.held)) more.0);
          began = inr (r.1.1, more.1 ∙ h.1, accepts m.held g.0 g.1, more.2);
          each = rest.each;
          before = rest.before;
        })
        | inr g ↦ (let h = held_of _ _ g.4 in same m r.0 n (Greeted true) es refl refl refl h.0 h.1 rest)
      ]
  handled m n (Greeted false ∷ es) r =
      elim r.1.2 [
        | inl g ↦ (let h = held_of _ _ g.4 in same m r.0 n (Greeted false) es refl refl refl h.0 h.1 (handled r.0 n es r.2))
        | inr g ↦ (let h = held_of _ _ g.4 in same m r.0 n (Greeted false) es refl refl refl h.0 h.1 (handled r.0 n es r.2))
      ]
  handled m n (Login true ∷ es) r =
      let rest = handled r.0 n es r.2 in
      elim r.1.2 [
        | inl g ↦
            let h = held_of _ _ g.5 in
            let t = says_takes m.greeted n.greeted m.held g.0 g.1 rest.greeting g.2 (casts es) g.3 (gone_on g.2 n.greeted rest.greeting (casts es) (subst (λ z. Began k z n.greeted rest.greeting (casts es)) h.1 rest.began)) in
            record {
              greeting = t.used ++ rest.greeting;
              input = takes_input m.held t.used g.1 rest.greeting (heard es) (spellings (begun es) ++ n.held) t.all (ap (λ z. z ++ heard es) (sym h.0) ∙ rest.input);
              began = inl t.passed;
              each = rest.each;
              before = rest.before;
            }
        | inr u ↦ elim u [
          | inl g ↦
              let h = held_of _ _ g.4 in
              let more = still _ _ _ _ rest.began h.1 in
              let t = admits_takes m.greeted m.held g.0 g.1 g.2 in
              record {
                greeting = t.used ++ [];
                input = takes_input m.held t.used g.1 [] (heard es) (spellings (begun es) ++ n.held) t.all (ap (λ z. z ++ heard es) (sym h.0) ∙ rest.input ∙ ap (λ z. z ++ (spellings (begun es) ++ n.held)) more.0);
                began = inl (subst (λ z. Passed k m.greeted (t.used ++ []) z n.greeted) (sym more.2) (subst (λ z. Passed k m.greeted (t.used ++ []) [] z) (sym (more.1 ∙ h.1)) t.passed));
                each = rest.each;
                before = rest.before;
              }
          | inr g ↦ (let h = held_of _ _ g.3 in same m r.0 n (Login true) es refl refl refl h.0 h.1 rest)
        ]
      ]
  handled m n (Login false ∷ es) r =
      elim r.1.2 [
        | inl g ↦ (let h = held_of _ _ g.5 in same m r.0 n (Login false) es refl refl refl h.0 h.1 (handled r.0 n es r.2))
        | inr u ↦ elim u [
          | inl g ↦ (let h = held_of _ _ g.4 in same m r.0 n (Login false) es refl refl refl h.0 h.1 (handled r.0 n es r.2))
          | inr g ↦ (let h = held_of _ _ g.3 in same m r.0 n (Login false) es refl refl refl h.0 h.1 (handled r.0 n es r.2))
        ]
      ]
  handled m n (Cast bytes ∷ es) r =
      let rest = handled r.0 n es r.2 in
      let h = held_of _ _ r.1.2 in
      let x : InLogin k m.greeted m.held gates.Rolls = r.1.1 in
      record {
        greeting = rest.greeting;
        input = ap (λ z. z ++ heard es) (sym h.0) ∙ rest.input;
        began = inl (rolls_on m.greeted n.greeted m.held rest.greeting bytes (casts es) x (gone_on (after_roll x.gate bytes) n.greeted rest.greeting (casts es) (subst (λ z. Began k z n.greeted rest.greeting (casts es)) h.1 rest.began)));
        each = rest.each;
        before = rest.before;
      }
  handled m n (Begin frame is_read ∷ es) r =
      let s = r.1 in
      let rest = handled r.0 n es r.2 in
      let h = held_of _ _ s.5 in
      let more = still _ _ _ _ rest.began (h.1 ∙ s.2) in
      let none : rest.greeting ≡ [] = more.0 in
      record {
        greeting = [];
        input = ap (λ z. z ++ heard es) s.4 ∙ append_assoc (spelling frame) s.0 (heard es) ∙ ap (λ z. spelling frame ++ (z ++ heard es)) (sym h.0)
            ∙ ap (λ z. spelling frame ++ z) (rest.input ∙ ap (λ z. z ++ (spellings (begun es) ++ n.held)) none) ∙ sym (append_assoc (spelling frame) (spellings (begun es)) n.held);
        began = inl (stays m.greeted n.greeted (casts es) (more.1 ∙ h.1) more.2);
        each = (s.3, rest.each);
        before = λ f. absurd (f (more.1 ∙ h.1 ∙ s.2));
      }
  handled m n (Heard bytes ∷ es) r =
      let rest = handled r.0 n es r.2 in
      let h = held_of _ _ r.1.2 in
      record { greeting = rest.greeting; input = sym (append_assoc m.held bytes (heard es)) ∙ ap (λ z. z ++ heard es) (sym h.0) ∙ rest.input; began = began_of m.greeted r.0.greeted n.greeted rest.greeting (casts es) h.1 rest.began; each = rest.each; before = rest.before }
  handled m n (Lost bytes ∷ es) r =
      let rest = handled r.0 n es r.2 in
      let h = held_of _ _ r.1.2 in
      record { greeting = rest.greeting; input = sym (append_assoc m.held bytes (heard es)) ∙ ap (λ z. z ++ heard es) (sym h.0) ∙ rest.input; began = began_of m.greeted r.0.greeted n.greeted rest.greeting (casts es) h.1 rest.began; each = rest.each; before = rest.before }
  handled m n (Quiet ∷ es) r = let h = held_of _ _ r.1.1 in same m r.0 n Quiet es refl refl refl h.0 h.1 (handled r.0 n es r.2)
  handled m n (Finish ∷ es) r = let h = held_of _ _ r.1.1 in same m r.0 n Finish es refl refl refl h.0 h.1 (handled r.0 n es r.2)
  handled m n (Broken ∷ es) r = let h = held_of _ _ r.1.1 in same m r.0 n Broken es refl refl refl h.0 h.1 (handled r.0 n es r.2)
  handled m n (Long len ∷ es) r = let h = held_of _ _ r.1.3 in same m r.0 n (Long len) es refl refl refl h.0 h.1 (handled r.0 n es r.2)
  handled m n (Wear ∷ es) r = let h = held_of _ _ r.1.1 in same m r.0 n Wear es refl refl refl h.0 h.1 (handled r.0 n es r.2)
  handled m n (Poor ∷ es) r = let h = held_of _ _ r.1.1 in same m r.0 n Poor es refl refl refl h.0 h.1 (handled r.0 n es r.2)
  handled m n (On slot (Ran place order reply) saved ∷ es) r =
      elim r.1 [
        | inl s ↦ (let h = held_of _ _ s.goes in same m r.0 n (On slot (Ran place order reply) saved) es refl refl refl h.0 h.1 (handled r.0 n es r.2))
        | inr s ↦ (let h = held_of _ _ s.2.goes in same m r.0 n (On slot (Ran place order reply) saved) es refl refl refl h.0 h.1 (handled r.0 n es r.2))
      ]
  handled m n (On slot (Looked place question look) saved ∷ es) r = let h = held_of _ _ r.1.goes in same m r.0 n (On slot (Looked place question look) saved) es refl refl refl h.0 h.1 (handled r.0 n es r.2)
  handled m n (On slot (Denied place) saved ∷ es) r =
      elim r.1 [
        | inl s ↦ (let h = held_of _ _ s.goes in same m r.0 n (On slot (Denied place) saved) es refl refl refl h.0 h.1 (handled r.0 n es r.2))
        | inr s ↦ elim s [
          | inl q ↦ (let h = held_of _ _ q.goes in same m r.0 n (On slot (Denied place) saved) es refl refl refl h.0 h.1 (handled r.0 n es r.2))
          | inr q ↦ (let h = held_of _ _ q.1.goes in same m r.0 n (On slot (Denied place) saved) es refl refl refl h.0 h.1 (handled r.0 n es r.2))
        ]
      ]
  handled m n (OnNames (Ran place cmd reply) ∷ es) r = let h = held_of _ _ r.1.goes in same m r.0 n (OnNames (Ran place cmd reply)) es refl refl refl h.0 h.1 (handled r.0 n es r.2)
  handled m n (OnNames (Looked place question names) ∷ es) r = let h = held_of _ _ r.1.goes in same m r.0 n (OnNames (Looked place question names)) es refl refl refl h.0 h.1 (handled r.0 n es r.2)
  handled m n (OnNames (Denied place) ∷ es) r =
      elim r.1 [
        | inl s ↦ (let h = held_of _ _ s.goes in same m r.0 n (OnNames (Denied place)) es refl refl refl h.0 h.1 (handled r.0 n es r.2))
        | inr s ↦ (let h = held_of _ _ s.1.goes in same m r.0 n (OnNames (Denied place)) es refl refl refl h.0 h.1 (handled r.0 n es r.2))
      ]
  handled m n (Clock moment ∷ es) r = let h = held_of _ _ r.1.goes in same m r.0 n (Clock moment) es refl refl refl h.0 h.1 (handled r.0 n es r.2)
  handled m n (Dice bytes ∷ es) r = let h = held_of _ _ r.1.goes in same m r.0 n (Dice bytes) es refl refl refl h.0 h.1 (handled r.0 n es r.2)
  handled m n (Come ∷ es) r = let h = held_of _ _ r.1.goes in same m r.0 n Come es refl refl refl h.0 h.1 (handled r.0 n es r.2)
  handled m n (Say token a whole ∷ es) r =
      let s = r.1 in
      let h = held_of _ _ s.goes in
      let t = after_tell m s.back token s.kept s.after whole in
      same m r.0 n (Say token a whole) es refl refl refl (h.0 ∙ t.0) (h.1 ∙ t.1) (handled r.0 n es r.2)
  handled m n (Want ∷ es) r = let h = held_of _ _ r.1.goes in same m r.0 n Want es refl refl refl h.0 h.1 (handled r.0 n es r.2)
