-- How many turns a session has: no more than what came and what was idle give.
use Rattle.std.proofs.Common.{◌≡◌, ◌⊎◌, ◌≤◌, ◌+◌, ℕ, zero, suc, Bool, true, false, sym, List, [], ◌∷◌, length, drop, Option, None, Some, refl, ap, ◌∙◌, inl, inr, arith, length-append}
use Rattle.reql_wire.specs.Frames.{header, spelling}
use Rattle.reql_wire.proofs.Fronts.{length-header}
use Rattle.reql_shared.specs.Acts.{Ran, Looked, Denied}
use Rattle.reql_session_spec.specs.Books.{Books}
use Rattle.reql_session_spec.specs.Requests.{Arm}
use Rattle.reql_session_spec.specs.Tasks.{Talk, Task, Planning, Next, told, visit, takes_up}
use Rattle.reql_login.specs.Messages.{hello}
use Rattle.reql_login.specs.Turns.{Gate, after_roll, turn_of}
use Rattle.reql_login.specs.Turns as gates
use Rattle.reql_session_spec.specs.Laws.{WornLate}
use Rattle.reql_session_spec.specs.Logins.{Stage, Waiting, At, Admitted, InLogin, account}
use Rattle.reql_session_spec.specs.Session.{Event, Turn, Visit, Greeted, Login, Cast, Begin, Heard, Lost, Quiet, Finish, Broken, Long, Wear, Poor, On, OnNames, Dice, Clock, Come, Say, Want, Doing, Rest, Visits, Busy, Leaving, Mach, Step, Run, fresh, heard, heard_of, idles, idles_of, turns, turns_of, doing_next, goes_on, tells, end_of}
use Rattle.reql_session_spec.specs.declared.end.End.{End}
use Rattle.reql_session_spec.specs.declared.end.End.TheVariants as ends
use Rattle.reql_session_spec.proofs.Messages.{IsPast, called_says, called_admits_none, says_used, admits_used, next_past, rolled_past, rest_in, next_in}

-- what is owed of a turn: one that is on its way, and one that ended the session, but where all turns were used up before it
abbrev left_of : End → ℕ
left_of ends.Worn = 0
left_of end = 1

abbrev due : Option (List ℕ) → ℕ
due None = 0
due (Some left) = 1

-- a greeting that was answered, or a version
abbrev gate_flag : Gate → ℕ
gate_flag gates.Called = 0
gate_flag gate = 1

abbrev flag : Stage → ℕ
flag Waiting = 0
flag (At gate) = gate_flag gate
flag Admitted = 1

flag_at : (gate : Gate) → gate_flag gate ≤ 1
flag_at gates.Called = omega arith
flag_at gates.Greeted = omega arith
flag_at (gates.Salted salt) = omega arith
flag_at (gates.Rolled salt roll) = omega arith
flag_at gates.Unrolled = omega arith
flag_at (gates.Asked challenge) = omega arith

flag_one : (s : Stage) → flag s ≤ 1
flag_one Waiting = omega arith
flag_one (At gate) = flag_at gate
flag_one Admitted = omega arith

flag_past : (gate : Gate) → IsPast gate → gate_flag gate ≡ 1
flag_past gates.Called p = absurd p
flag_past gates.Greeted p = refl
flag_past (gates.Salted salt) p = refl
flag_past (gates.Rolled salt roll) p = refl
flag_past gates.Unrolled p = refl
flag_past (gates.Asked challenge) p = refl

past_or : (gate : Gate) → (gate ≡ gates.Called) ⊎ IsPast gate
past_or gates.Called = inl refl
past_or gates.Greeted = inr tt
past_or (gates.Salted salt) = inr tt
past_or (gates.Rolled salt roll) = inr tt
past_or gates.Unrolled = inr tt
past_or (gates.Asked challenge) = inr tt

drops : (used : ℕ) (xs : List ℕ) → length (drop used xs) ≤ length xs
drops zero xs = omega arith
drops (suc used) [] = omega arith
drops (suc used) (x ∷ xs) = omega (arith, drops used xs)

ends_early : (held : List ℕ) → 1 ≤ left_of (end_of held)
ends_early [] = omega arith
ends_early (b ∷ bs) = omega arith

frame_bytes : (frame : _) → 1 ≤ length (spelling frame)
frame_bytes frame = omega (arith, length-append (header frame.token (length frame.body)) frame.body, length-header frame.token (length frame.body))

module _ {PL : Type 0} where
  abbrev owed : Doing PL → ℕ
  owed Rest = 0
  owed (Visits left) = 1
  owed (Busy back t) = due back
  owed (Leaving arms end) = left_of end

  owed_next : (back : Option (List ℕ)) (t : Option (Task PL)) → owed (doing_next back t) ≡ due back
  owed_next None None = refl
  owed_next (Some left) None = refl
  owed_next back (Some t) = refl

  -- a step that takes so many turns, hears so many bytes and is idle so often
  record Few (t h i : ℕ) (m x : Mach PL) : Type 0 where
    few : t + (owed m.doing + (length x.held + flag m.greeted)) ≤ (h + h) + (i + (length m.held + (owed x.doing + flag x.greeted)))

  at : (m x : Mach PL) → x ≡ m → (x.doing ≡ m.doing) × (x.held ≡ m.held) × (x.greeted ≡ m.greeted)
  at m x e = (ap (λ (z : Mach PL). z.doing) e, ap (λ (z : Mach PL). z.held) e, ap (λ (z : Mach PL). z.greeted) e)

  on : (m x : Mach PL) (back : Option (List ℕ)) (t : Task PL) (y : Next PL) → m.doing ≡ Busy back t → x ≡ goes_on m back y → Few 0 0 0 m x
  on m x back t y old goes = let a = at _ _ goes in record { few = omega (arith, ap owed old, ap owed a.0, owed_next back y.task, ap length a.1, ap flag a.2) }

  -- a turn or a receive, or its end
  moves : (t h i : ℕ) (m x : Mach PL) (d d' : Doing PL) (held : List ℕ) (greeted : Stage) → m.doing ≡ d → x.doing ≡ d' → x.held ≡ held → x.greeted ≡ greeted
      → t + (owed d + (length held + flag m.greeted)) ≤ (h + h) + (i + (length m.held + (owed d' + flag greeted))) → Few t h i m x
  moves t h i m x d d' held greeted old new same begun le = record { few = omega (arith, ap owed old, ap owed new, ap length same, ap flag begun, le) }

  after_tell : (m x : Mach PL) (back : Option (List ℕ)) (token : ℕ) (kept : Books) (after : Option (List Arm)) (whole : Bool) → x.doing ≡ (tells m back token kept after whole).doing → due back ≤ owed x.doing
  after_tell m x back token kept after true e = omega (arith, ap owed e, owed_next back (told token kept after).task)
  after_tell m x None token kept after false e = omega arith
  after_tell m x (Some left) token kept after false e = omega (arith, ap owed e)

  told_held : (m : Mach PL) (back : Option (List ℕ)) (token : ℕ) (kept : Books) (after : Option (List Arm)) (whole : Bool) → ((tells m back token kept after whole).held ≡ m.held) × ((tells m back token kept after whole).greeted ≡ m.greeted)
  told_held m back token kept after true = (refl, refl)
  told_held m back token kept after false = (refl, refl)

module _ {PL : Type 0} (k : Talk PL) where
  -- what a message of a login pays for its turn: its bytes, or the version that was answered
  pays_called : (s : Stage) (held bytes rest : List ℕ) (next : Gate) → flag s ≡ 0 → turn_of (account k) gates.Called held ≡ gates.Says bytes rest next → 1 + (length rest + flag s) ≤ length held + flag (At next)
  pays_called s held bytes rest next z t =
      let e : gates.Says hello (drop 4 held) gates.Greeted ≡ gates.Says bytes rest next = sym (called_says (account k) held) ∙ t in
      let size : length (drop 4 held) ≡ length rest = ap (λ x. length (rest_in x)) e in
      let one : 1 ≡ gate_flag next = ap (λ x. gate_flag (next_in x)) e in
      omega (arith, z, size, one, drops 4 held)

  pays_says : (s : Stage) (held bytes rest : List ℕ) (next : Gate) → InLogin k s held (gates.Says bytes rest next) → 1 + (length rest + flag s) ≤ length held + flag (At next)
  pays_says s held bytes rest next x = elim x.at [
    | inl w ↦ pays_called s held bytes rest next (ap flag w.0) (ap (λ g. turn_of (account k) g held) (sym w.2) ∙ x.turn)
    | inr w ↦ elim (past_or x.gate) [
      | inl c ↦ pays_called s held bytes rest next (ap flag (w ∙ ap At c)) (ap (λ g. turn_of (account k) g held) (sym c) ∙ x.turn)
      | inr p ↦
          let u = says_used (account k) x.gate held bytes rest next x.turn in
          let on : gate_flag next ≡ 1 = flag_past next (next_past (account k) x.gate held bytes rest next x.turn) in
          omega (arith, on, flag_one s, u.some p, ap length u.all, length-append u.used rest)
    ]
  ]

  pays_admits : (s : Stage) (held bytes rest : List ℕ) → InLogin k s held (gates.Admits bytes rest) → 1 + (length rest + flag s) ≤ length held + 1
  pays_admits s held bytes rest x =
      let u = admits_used (account k) x.gate held bytes rest x.turn in
      elim (past_or x.gate) [
        | inl c ↦ absurd (called_admits_none (account k) held bytes rest (ap (λ g. turn_of (account k) g held) (sym c) ∙ x.turn))
        | inr p ↦ omega (arith, flag_one s, u.some p, ap length u.all, length-append u.used rest)
      ]

  step_few : (m x : Mach PL) (e : Event) → Step k m e x → Few (turns_of e) (length (heard_of e)) (idles_of e) m x
  step_few m x Turn s = let a = at _ _ s.1 in moves 1 0 0 m x Rest (Visits m.books.waiting) m.held m.greeted s.0 a.0 a.1 a.2 (omega arith)
  step_few m x Visit s = let a = at _ _ s.3 in record { few = omega (arith, ap owed s.2, ap owed a.0, owed_next (Some s.1) (visit k m.books s.0).task, ap length a.1, ap flag a.2) }
  step_few m x (Greeted true) s =
      elim s.2 [
        | inl g ↦ (let a = at _ _ g.4 in record { few = omega (arith, ap owed s.0, ap owed a.0, ap length a.1, drops g.0 m.held, ap flag a.2, ap flag s.1) })
        | inr g ↦ (let a = at _ _ g.4 in record { few = omega (arith, ap owed s.0, ap owed a.0, ap length a.1, ap flag a.2) })
      ]
  step_few m x (Greeted false) s =
      elim s.2 [
        | inl g ↦ (let a = at _ _ g.4 in record { few = omega (arith, ap owed s.0, ap owed a.0, ap length a.1, ap flag a.2) })
        | inr g ↦ (let a = at _ _ g.4 in record { few = omega (arith, ap owed s.0, ap owed a.0, ap length a.1, ap flag a.2) })
      ]
  step_few m x (Login true) s =
      elim s.2 [
        | inl g ↦ (let a = at _ _ g.5 in record { few = omega (arith, ap owed s.0, ap owed a.0, ap length a.1, ap flag a.2, pays_says m.greeted m.held g.0 g.1 g.2 g.3) })
        | inr r ↦ elim r [
          | inl g ↦ (let a = at _ _ g.4 in record { few = omega (arith, ap owed s.0, ap owed a.0, ap length a.1, ap flag a.2, pays_admits m.greeted m.held g.0 g.1 g.2) })
          | inr g ↦ (let a = at _ _ g.3 in record { few = omega (arith, ap owed s.0, ap owed a.0, ap length a.1, ap flag a.2) })
        ]
      ]
  step_few m x (Login false) s =
      elim s.2 [
        | inl g ↦ (let a = at _ _ g.5 in record { few = omega (arith, ap owed s.0, ap owed a.0, ap length a.1, ap flag a.2) })
        | inr r ↦ elim r [
          | inl g ↦ (let a = at _ _ g.4 in record { few = omega (arith, ap owed s.0, ap owed a.0, ap length a.1, ap flag a.2) })
          | inr g ↦ (let a = at _ _ g.3 in record { few = omega (arith, ap owed s.0, ap owed a.0, ap length a.1, ap flag a.2) })
        ]
      ]
  step_few m x (Cast bytes) s =
      let a = at _ _ s.2 in
      record { few = omega (arith, ap owed s.0, ap owed a.0, ap length a.1, ap flag a.2, flag_one m.greeted, flag_past (after_roll s.1.gate bytes) (rolled_past s.1.gate bytes)) }
  step_few m x (Begin frame is_read) s = let a = at _ _ s.5 in record { few = omega (arith, ap owed s.1, ap owed a.0, owed_next None (takes_up k m.books frame.token frame.body is_read).task, ap length a.1, ap length s.4, length-append (spelling frame) s.0, frame_bytes frame, ap flag a.2) }
  step_few m x (Heard bytes) s = let a = at _ _ s.2 in record { few = omega (arith, ap owed s.0.0, ap owed a.0, ap length a.1, length-append m.held bytes, s.1.some, ap flag a.2) }
  step_few m x (Lost bytes) s = let a = at _ _ s.2 in record { few = omega (arith, ap owed s.0.0, ap owed a.0, ap length a.1, length-append m.held bytes, s.1.some, ap flag a.2) }
  step_few m x Quiet s = let a = at _ _ s.1 in record { few = omega (arith, ap owed s.0.0, ap owed a.0, ap length a.1, ap flag a.2) }
  step_few m x Finish s = let a = at _ _ s.1 in record { few = omega (arith, ap owed s.0.0, ap owed a.0, ends_early m.held, ap length a.1, ap flag a.2) }
  step_few m x Broken s = let a = at _ _ s.1 in record { few = omega (arith, ap owed s.0.0, ap owed a.0, ap length a.1, ap flag a.2) }
  step_few m x (Long len) s = let a = at _ _ s.3 in record { few = omega (arith, ap owed s.0, ap owed a.0, ap length a.1, ap flag a.2) }
  step_few m x Wear s = let a = at _ _ s.1 in record { few = omega (arith, ap owed s.0, ap owed a.0, ap length a.1, ap flag a.2) }
  step_few m x Poor s =
      let a = at _ _ s.1 in
      elim s.0 [
        | inl d ↦ record { few = omega (arith, ap owed d.0, ap owed a.0, ap length a.1, ap flag a.2) }
        | inr y ↦ elim y [
          | inl d ↦ record { few = omega (arith, ap owed d.0, ap owed a.0, ap length a.1, ap flag a.2) }
          | inr d ↦ record { few = omega (arith, ap owed d.0, ap owed a.0, ap length a.1, ap flag a.2) }
        ]
      ]
  step_few m x (On slot (Ran place order reply) saved) s =
      elim s [
        | inl t ↦ on m x t.back t.task _ t.doing t.goes
        | inr t ↦ (let a = at _ _ t.2.goes in record { few = omega (arith, ap owed t.2.doing, ap owed a.0, ap length a.1, ap flag a.2) })
      ]
  step_few m x (On slot (Looked place question look) saved) s = on m x s.back s.task _ s.doing s.goes
  step_few m x (On slot (Denied place) saved) s =
      elim s [
        | inl t ↦ on m x t.back t.task _ t.doing t.goes
        | inr t ↦ elim t [
          | inl q ↦ on m x q.back q.task _ q.doing q.goes
          | inr q ↦ (let a = at _ _ q.1.goes in record { few = omega (arith, ap owed q.1.doing, ap owed a.0, ap length a.1, ap flag a.2) })
        ]
      ]
  step_few m x (OnNames (Ran place cmd reply)) s = on m x s.back s.task _ s.doing s.goes
  step_few m x (OnNames (Looked place question names)) s = on m x s.back s.task _ s.doing s.goes
  step_few m x (OnNames (Denied place)) s =
      elim s [
        | inl q ↦ on m x q.back q.task _ q.doing q.goes
        | inr q ↦ on m x q.1.back q.1.task _ q.1.doing q.1.goes
      ]
  step_few m x (Clock moment) s = on m x s.back s.task _ s.doing s.goes
  step_few m x (Dice bytes) s = on m x s.back s.task _ s.doing s.goes
  step_few m x Come s = on m x s.back (Planning s.token s.plan s.noreply s.count s.found s.arms) _ s.doing s.goes
  step_few m x (Say token a whole) s =
      let b = at _ _ s.goes in
      let t = told_held m s.back token s.kept s.after whole in
      record { few = omega (arith, ap owed s.doing, after_tell m x s.back token s.kept s.after whole b.0, ap length (b.1 ∙ t.0), ap flag (b.2 ∙ t.1)) }
  step_few m x Want s = on m x s.back s.task _ s.doing s.goes

  few_run : (m n : Mach PL) (es : List Event) → Run k m es n
      → turns es + (owed m.doing + (length n.held + flag m.greeted)) ≤ (length (heard es) + length (heard es)) + (idles es + (length m.held + (owed n.doing + flag n.greeted)))
  few_run m n [] r = let a = at _ _ r in omega (arith, ap owed a.0, ap length a.1, ap flag a.2)
  few_run m n (e ∷ es) r = let s : Few (turns_of e) (length (heard_of e)) (idles_of e) m r.0 = step_few m r.0 e r.1 in omega (arith, s.few, few_run r.0 n es r.2, length-append (heard_of e) (heard es))

  pub worn_late : WornLate k
  worn_late share life e worn =
      omega (arith, few_run fresh e.final e.events e.run, ap owed e.ended, ap left_of worn, ap length e.input, e.idled, e.turned, e.wears.worn worn, flag_one e.final.greeted)
