-- The turns of a login.
use Rattle.std.proofs.Common.{◌≡◌, ◌≢◌, inl, inr, ℕ, true, false, List, [], ◌∷◌, drop, Option, Some, None, refl, sym, ap, subst, ◌∙◌}
use Rattle.reql_outside.specs.Tape.{Tape, SendsAll}
use Rattle.reql_scram.specs.Scram.{Challenge}
use Rattle.reql_scram.specs.declared.fault.LoginFault.{LoginFault}
use Rattle.reql_scram.specs.declared.fault.LoginFault.TheVariants as fault
use Rattle.reql_login.specs.Messages.{hello}
use Rattle.reql_login.specs.Turns.{Gate, Called, Greeted, Asked, Turn, Waits, Says, Admits, Refuses, after_roll, turn_of}
use Rattle.reql_login.specs.Turns as gates
use Rattle.reql_wire.specs.Feeding.{Holding}
use Rattle.reql_wire.specs.Greeting.{Listening, refusal}
use Rattle.reql_wire.specs.declared.greeter.GreetFault.TheVariants as greet_fault
use Rattle.reql_session_spec.specs.Books.{no_books}
use Rattle.reql_session_spec.specs.Logins.{Stage, At, Admitted, InLogin, account}
use Rattle.reql_session_spec.specs.Tasks.{Talk}
use Rattle.reql_session_spec.specs.Session.{Mach, Rest, Visits, leaves, lets_on, lets_in, turns_away}
use Rattle.reql_session_spec.specs.declared.end.End.{End}
use Rattle.reql_session_spec.specs.declared.end.End.TheVariants as ends
use Rattle.reql_session_spec.proofs.Going.{goes_said}
use Rattle.reql_session_spec.proofs.Steps.{goes_cast, does_lets_on, does_lets_in, ends_denied, ends_unlet_on, ends_unlet_in, ends_undenied, ends_poor}
use Rattle.reql_session_api.specs.World.{AtWork, Runs, EndsHere, place_at, mach_at, world_at}
use Rattle.reql_session_api.proofs.Running.{gave_nothing, gave_one, runs_none, runs_on, ends_here_on, runs_quiet, ends_quiet}
use Rattle.reql_turns.specs.Rolling.{Rolls, RollsAll}
use Rattle.reql_turns.specs.Logins.{Comes, now, rolls, ComesBy, IsRefused, TurnsAway}
use Rattle.reql_turns.specs.Ears.{ReceivesMore, Stands, Turned, Hears, Exchanges, TurnFrom, gate_of}
use Rattle.reql_turns.specs.declared.ears.Ears.{Ears}
use Rattle.reql_turns.specs.declared.ears.Phase.TheVariants as phases
use Rattle.reql_turns.proofs.Greeted.{standing, ends_fresh}
use Rattle.reql_turns.proofs.Frames.{received, not_greeted, fresh_turn, turned_on}

pub rolled_books : (w x : AtWork) (rolls : List (Option (List ℕ))) → RollsAll w x rolls → x.books ≡ w.books
rolled_books w x [] r = ap (λ (z : AtWork). z.books) r
rolled_books w x (bytes ∷ more) r = rolled_books r.0 x more r.2 ∙ ap (λ (z : AtWork). z.books) r.1.0

module _ {PL : Type 0} (k : Talk PL) where
  in_login : (held : List ℕ) (gate : Gate) (turn : Turn) → turn_of (account k) gate held ≡ turn → InLogin k (At gate) held turn
  in_login held gate turn e = record { gate = gate; at = inr refl; turn = e }

  -- ---- rolls
  casts : (t : Tape) (w y : AtWork) (held : List ℕ) (gate : Gate) (bytes : Option (List ℕ)) → Rolls w y bytes → turn_of (account k) gate held ≡ gates.Rolls
      → Runs k (world_at t w held (At gate) (Visits [])) (world_at t y held (At (after_roll gate bytes)) (Visits [])) 0
  unfolding in_login
  casts t w y held gate bytes r e = subst (λ z. Runs k (world_at t w held (At gate) (Visits [])) (world_at t z held (At (after_roll gate bytes)) (Visits [])) 0) (sym r.0) (record {
    moments = [];
    rolls = bytes ∷ [];
    goes = goes_cast k t (place_at w (mach_at w held (At gate) (Visits []))) bytes refl (in_login held gate gates.Rolls e);
    clock = gave_nothing w.clock;
    dice = gave_one w.dice y.dice bytes r.1;
  })

  -- where a login is after its rolls
  record Arrives (t : Tape) (w x : AtWork) (held : List ℕ) (gate : Gate) (turn : Turn) : Type 0 where
    last : Gate
    turns : turn_of (account k) last held ≡ turn
    runs : Runs k (world_at t w held (At gate) (Visits [])) (world_at t x held (At last) (Visits [])) 0

  arrives : (t : Tape) (w x : AtWork) {held : List ℕ} {gate : Gate} {bytes : List (Option (List ℕ))} {turn : Turn} → Comes (account k) gate held bytes turn → RollsAll w x bytes → Arrives t w x held gate turn
  arrives t w x (now gate held turn e) r = record {
    last = gate;
    turns = e;
    runs = subst (λ z. Runs k (world_at t w held (At gate) (Visits [])) (world_at t z held (At gate) (Visits [])) 0) (sym r) (runs_none k (world_at t w held (At gate) (Visits [])));
  }
  arrives t w x (rolls gate held bytes more turn e c) r =
      let a = arrives t r.0 x c r.2 in
      record {
        last = a.last;
        turns = a.turns;
        runs = runs_on k (world_at t w held (At gate) (Visits [])) (world_at t r.0 held (At (after_roll gate bytes)) (Visits [])) (world_at t x held (At a.last) (Visits [])) 0 0 (casts t w r.0 held gate bytes r.1 e) a.runs;
      }

  -- ---- messages
  -- a message was said whole
  said_on : (t u : Tape) (x : AtWork) (held bytes rest : List ℕ) (gate next : Gate) → turn_of (account k) gate held ≡ Says bytes rest next → SendsAll t u bytes true → Runs k (world_at t x held (At gate) (Visits [])) (world_at u x rest (At next) Rest) 0
  said_on t u x held bytes rest gate next e m =
      let y : Mach PL = mach_at x held (At gate) (Visits []) in
      runs_quiet k t u x y (mach_at x rest (At next) Rest) 0 (goes_said k t u (place_at x y) (place_at x (mach_at x rest (At next) Rest)) bytes (does_lets_on k (place_at x y) bytes rest next refl (in_login held gate (Says bytes rest next) e)) m)

  admitted_on : (t u : Tape) (x : AtWork) (held bytes rest : List ℕ) (gate : Gate) → turn_of (account k) gate held ≡ Admits bytes rest → SendsAll t u bytes true → Runs k (world_at t x held (At gate) (Visits [])) (world_at u x rest Admitted Rest) 0
  admitted_on t u x held bytes rest gate e m =
      let y : Mach PL = mach_at x held (At gate) (Visits []) in
      runs_quiet k t u x y (mach_at x rest Admitted Rest) 0 (goes_said k t u (place_at x y) (place_at x (mach_at x rest Admitted Rest)) bytes (does_lets_in k (place_at x y) bytes rest refl (in_login held gate (Admits bytes rest) e)) m)

  -- the first one
  pub called_now : (d e : Ears) (t u : Tape) → e.phase ≡ phases.Login → e.greeter ≡ d.greeter → e.feeder ≡ d.feeder → e.proving ≡ d.proving → SendsAll t u hello true → Hears k phases.Called t u d e None
  unfolding turn_of
  called_now d e t u p g f v m at w held stage o h =
      let s = standing k d phases.Called held stage at h in
      let y : Mach PL = mach_at w held stage (Visits []) in
      let l : InLogin k stage held (Says hello (drop 4 held) Greeted) = record { gate = Called; at = inl (s.3, s.0, refl); turn = refl } in
      record {
        held = drop 4 held;
        stage = At Greeted;
        hearing = record {
          key = ap (λ (z : Listening). z.key) g ∙ h.key;
          limit = ap (λ (z : Holding). z.limit) f ∙ h.limit;
          stands = subst (λ z. Stands z e.proving k.key e.greeter.heard e.feeder.held (drop 4 held) (At Greeted)) (sym p) (s.1 ∙ sym (ap (λ (z : Holding). z.held) f), ap (λ z. At (gate_of z)) (sym (v ∙ s.2)));
        };
        fresh = λ _. o;
        runs = runs_quiet k t u w y (mach_at w (drop 4 held) (At Greeted) Rest) 0
            (goes_said k t u (place_at w y) (place_at w (mach_at w (drop 4 held) (At Greeted) Rest)) hello (does_lets_on k (place_at w y) hello (drop 4 held) Greeted refl l) m);
      }

  pub uncalled : (d e : Ears) (t u : Tape) → SendsAll t u hello false → Hears k phases.Called t u d e (Some ends.WriteFault)
  unfolding turn_of
  uncalled d e t u m at w held stage o h =
      let s = standing k d phases.Called held stage at h in
      let y : Mach PL = mach_at w held stage (Visits []) in
      let l : InLogin k stage held (Says hello (drop 4 held) Greeted) = record { gate = Called; at = inl (s.3, s.0, refl); turn = refl } in
      ends_fresh k t u w y (lets_on y (drop 4 held) Greeted false) ends.WriteFault tt o (ends_unlet_on k t u (place_at w y) hello (drop 4 held) Greeted refl l m)

  -- more is awaited
  pub waits_on : (gate : Gate) (t u : Tape) (w : AtWork) (d e : Ears) (end : Option End) → e.phase ≡ d.phase → e.greeter ≡ d.greeter → gate_of e.proving ≡ gate → e.feeder.limit ≡ d.feeder.limit → turn_of (account k) gate d.feeder.held ≡ Waits
      → ReceivesMore t u d.feeder.held e.feeder.held end → Exchanges k gate t w d u w e end
  waits_on gate t u w d e None q g v l x r p key limit o = record {
    held = e.feeder.held;
    stage = At gate;
    hearing = record {
      key = ap (λ (z : Listening). z.key) g ∙ key;
      limit = l ∙ limit;
      stands = subst (λ z. Stands z e.proving k.key e.greeter.heard e.feeder.held e.feeder.held (At gate)) (sym (q ∙ p)) (refl, ap (λ z. At z) (sym v));
    };
    fresh = λ _. o;
    runs = received k t u w d.feeder.held e.feeder.held (At gate) None x r;
  }
  waits_on gate t u w d e (Some end) q g v l x r p key limit o = received k t u w d.feeder.held e.feeder.held (At gate) (Some end) x r

  pub waits_first : (t u : Tape) (w x : AtWork) (d e : Ears) (end : Option End) → e.phase ≡ d.phase → e.greeter ≡ d.greeter → e.proving ≡ None → e.feeder.limit ≡ d.feeder.limit → x ≡ w → turn_of (account k) Greeted d.feeder.held ≡ Waits
      → ReceivesMore t u d.feeder.held e.feeder.held end → Exchanges k Greeted t w d u x e end
  waits_first t u w x d e end q g v l y z r = subst (λ s. Exchanges k Greeted t w d u s e end) (sym y) (waits_on Greeted t u w d e end q g (ap gate_of v) l z r)

  -- the proof is asked for
  pub asks_on : (t u : Tape) (w x : AtWork) (d e : Ears) (bytes : List ℕ) (used : ℕ) (challenge : Challenge) → e.phase ≡ d.phase → e.greeter ≡ d.greeter → e.proving ≡ Some challenge → e.feeder ≡ record { limit = d.feeder.limit; held = drop used d.feeder.held }
      → ComesBy (account k) Greeted d.feeder.held w x (Says bytes (drop used d.feeder.held) (Asked challenge)) → SendsAll t u bytes true → Exchanges k Greeted t w d u x e None
  asks_on t u w x d e bytes used challenge q g v f c m p key limit o =
      let a = arrives t w x c.comes c.rolled in
      let rest = drop used d.feeder.held in
      record {
        held = rest;
        stage = At (Asked challenge);
        hearing = record {
          key = ap (λ (z : Listening). z.key) g ∙ key;
          limit = ap (λ (z : Holding). z.limit) f ∙ limit;
          stands = subst (λ z. Stands z e.proving k.key e.greeter.heard e.feeder.held rest (At (Asked challenge))) (sym (q ∙ p)) (sym (ap (λ (z : Holding). z.held) f), ap (λ z. At (gate_of z)) (sym v));
        };
        fresh = λ _. rolled_books w x c.rolls c.rolled ∙ o;
        runs = runs_on k (world_at t w d.feeder.held (At Greeted) (Visits [])) (world_at t x d.feeder.held (At a.last) (Visits [])) (world_at u x rest (At (Asked challenge)) Rest) 0 0 a.runs (said_on t u x d.feeder.held bytes rest a.last (Asked challenge) a.turns m);
      }

  pub unasked : (t u : Tape) (w x : AtWork) (d e : Ears) (bytes : List ℕ) (used : ℕ) (challenge : Challenge) → ComesBy (account k) Greeted d.feeder.held w x (Says bytes (drop used d.feeder.held) (Asked challenge)) → SendsAll t u bytes false
      → Exchanges k Greeted t w d u x e (Some ends.WriteFault)
  unasked t u w x d e bytes used challenge c m p key limit o =
      let a = arrives t w x c.comes c.rolled in
      let rest = drop used d.feeder.held in
      let y : Mach PL = mach_at x d.feeder.held (At a.last) (Visits []) in
      ends_here_on k (world_at t w d.feeder.held (At Greeted) (Visits [])) (world_at t x d.feeder.held (At a.last) (Visits [])) u x ends.WriteFault 0 0 a.runs
      (ends_fresh k t u x y (lets_on y rest (Asked challenge) false) ends.WriteFault tt (rolled_books w x c.rolls c.rolled ∙ o) (ends_unlet_on k t u (place_at x y) bytes rest (Asked challenge) refl (in_login d.feeder.held a.last (Says bytes rest (Asked challenge)) a.turns) m))

  -- the client is admitted
  pub admits_on : (t u : Tape) (w : AtWork) (d e : Ears) (bytes : List ℕ) (used : ℕ) (challenge : Challenge) → e.phase ≡ phases.Over → e.greeter ≡ d.greeter → e.feeder ≡ record { limit = d.feeder.limit; held = drop used d.feeder.held }
      → turn_of (account k) (Asked challenge) d.feeder.held ≡ Admits bytes (drop used d.feeder.held) → SendsAll t u bytes true → Exchanges k (Asked challenge) t w d u w e None
  admits_on t u w d e bytes used challenge q g f c m p key limit o =
      let rest = drop used d.feeder.held in
      record {
        held = rest;
        stage = Admitted;
        hearing = record {
          key = ap (λ (z : Listening). z.key) g ∙ key;
          limit = ap (λ (z : Holding). z.limit) f ∙ limit;
          stands = subst (λ z. Stands z e.proving k.key e.greeter.heard e.feeder.held rest Admitted) (sym q) (sym (ap (λ (z : Holding). z.held) f), refl);
        };
        fresh = λ _. o;
        runs = admitted_on t u w d.feeder.held bytes rest (Asked challenge) c m;
      }

  pub unadmitted : (t u : Tape) (w : AtWork) (d e : Ears) (bytes : List ℕ) (used : ℕ) (challenge : Challenge) → turn_of (account k) (Asked challenge) d.feeder.held ≡ Admits bytes (drop used d.feeder.held) → SendsAll t u bytes false
      → Exchanges k (Asked challenge) t w d u w e (Some ends.WriteFault)
  unadmitted t u w d e bytes used challenge c m p key limit o =
      let rest = drop used d.feeder.held in
      let y : Mach PL = mach_at w d.feeder.held (At (Asked challenge)) (Visits []) in
      ends_fresh k t u w y (lets_in y rest false) ends.WriteFault tt o (ends_unlet_in k t u (place_at w y) bytes rest refl (in_login d.feeder.held (Asked challenge) (Admits bytes rest) c) m)

  -- ---- a refusal
  -- at a gate where it is refused, or where memory was wanted
  refused_at : (t u : Tape) (x : AtWork) (held : List ℕ) (gate : Gate) (f : LoginFault) → x.books ≡ no_books → turn_of (account k) gate held ≡ Refuses f → SendsAll t u (refusal (greet_fault.Login f)) true
      → EndsHere k (world_at t x held (At gate) (Visits [])) u x (ends.Refused (greet_fault.Login f)) 0
  refused_at t u x held gate f o c m =
      let y : Mach PL = mach_at x held (At gate) (Visits []) in
      ends_fresh k t u x y (turns_away y (greet_fault.Login f) true) (ends.Refused (greet_fault.Login f)) tt o (ends_denied k t u (place_at x y) f refl (in_login held gate (Refuses f) c) m)

  unrefused_at : (t u : Tape) (x : AtWork) (held : List ℕ) (gate : Gate) (f : LoginFault) → x.books ≡ no_books → turn_of (account k) gate held ≡ Refuses f → SendsAll t u (refusal (greet_fault.Login f)) false
      → EndsHere k (world_at t x held (At gate) (Visits [])) u x ends.WriteFault 0
  unrefused_at t u x held gate f o c m =
      let y : Mach PL = mach_at x held (At gate) (Visits []) in
      ends_fresh k t u x y (turns_away y (greet_fault.Login f) false) ends.WriteFault tt o (ends_undenied k t u (place_at x y) f refl (in_login held gate (Refuses f) c) m)

  wanted_at : (t : Tape) (x : AtWork) (held : List ℕ) (gate : Gate) (turn : Turn) → turn_of (account k) gate held ≡ turn → turn ≢ Waits → EndsHere k (world_at t x held (At gate) (Visits [])) t x ends.Memory 0
  wanted_at t x held gate turn c n =
      let y : Mach PL = mach_at x held (At gate) (Visits []) in
      ends_quiet k t t x y (leaves y x.books ends.Memory) ends.Memory 0 tt (ends_poor k t (place_at x y) (inr (inr (refl, turn, in_login held gate turn c, n))))

  pub turned_away : (gate : Gate) (t u : Tape) (w x : AtWork) (d e : Ears) (f : LoginFault) (end : End) → IsRefused (account k) gate d.feeder.held w x f → TurnsAway t u f end → Exchanges k gate t w d u x e (Some end)
  turned_away gate t u w x d e f ends.Memory r a p key limit o =
      let c = r.0 a.1 in
      let b = arrives t w x c.1.comes c.1.rolled in
      subst (λ z. EndsHere k (world_at t w d.feeder.held (At gate) (Visits [])) z x ends.Memory 0) (sym a.0)
      (ends_here_on k (world_at t w d.feeder.held (At gate) (Visits [])) (world_at t x d.feeder.held (At b.last) (Visits [])) t x ends.Memory 0 0 b.runs (wanted_at t x d.feeder.held b.last c.0 b.turns c.2))
  turned_away gate t u w x d e f (ends.Refused why) r a p key limit o =
      let c = r.1 a.0 in
      let b = arrives t w x c.comes c.rolled in
      subst (λ z. EndsHere k (world_at t w d.feeder.held (At gate) (Visits [])) u x (ends.Refused z) 0) (sym a.1)
      (ends_here_on k (world_at t w d.feeder.held (At gate) (Visits [])) (world_at t x d.feeder.held (At b.last) (Visits [])) u x (ends.Refused (greet_fault.Login f)) 0 0 b.runs (refused_at t u x d.feeder.held b.last f (rolled_books w x c.rolls c.rolled ∙ o) b.turns a.2))
  turned_away gate t u w x d e f ends.WriteFault r a p key limit o =
      let c = r.1 a.0 in
      let b = arrives t w x c.comes c.rolled in
      ends_here_on k (world_at t w d.feeder.held (At gate) (Visits [])) (world_at t x d.feeder.held (At b.last) (Visits [])) u x ends.WriteFault 0 0 b.runs (unrefused_at t u x d.feeder.held b.last f (rolled_books w x c.rolls c.rolled ∙ o) b.turns a.1)
  turned_away gate t u w x d e f ends.Closed r a p key limit o = absurd a
  turned_away gate t u w x d e f (ends.Cut n) r a p key limit o = absurd a
  turned_away gate t u w x d e f (ends.TooLong n) r a p key limit o = absurd a
  turned_away gate t u w x d e f ends.ReadFault r a p key limit o = absurd a
  turned_away gate t u w x d e f ends.Worn r a p key limit o = absurd a

  -- the same where nothing is rolled
  pub last_away : (t u : Tape) (w : AtWork) (d e : Ears) (challenge : Challenge) (f : LoginFault) (end : End) → (f ≡ fault.Memory → turn_of (account k) (Asked challenge) d.feeder.held ≢ Waits) × (f ≢ fault.Memory → turn_of (account k) (Asked challenge) d.feeder.held ≡ Refuses f)
      → TurnsAway t u f end → Exchanges k (Asked challenge) t w d u w e (Some end)
  last_away t u w d e challenge f end r a =
      let held = d.feeder.held in
      turned_away (Asked challenge) t u w w d e f end (
        λ m. (turn_of (account k) (Asked challenge) held, record { rolls = []; rolled = refl; comes = now (Asked challenge) held (turn_of (account k) (Asked challenge) held) refl }, r.0 m),
        λ n. record { rolls = []; rolled = refl; comes = now (Asked challenge) held (Refuses f) (r.1 n) },
      ) a

  -- ---- a whole turn
  pub turn_of_login : (t u : Tape) (w x : AtWork) (d e : Ears) (end : Option End) → d.phase ≡ phases.Login → Exchanges k (gate_of d.proving) t w d u x e end → TurnFrom k t w d u x e end
  turn_of_login t u w x d e end p f held stage h o =
      let s = standing k d phases.Login held stage p h in
      let b : w.books ≡ no_books = o (not_greeted k d phases.Login held stage p tt h) in
      turned_on k (world_at t w held stage Rest) (world_at t w held stage (Visits [])) u x e end (fresh_turn k t w held stage b)
      (subst (λ (z : List ℕ × Stage). Turned k (world_at t w z.0 z.1 (Visits [])) u x e 0 end) (λ i. (sym s.0 i, sym s.1 i)) (f p h.key h.limit b))
