-- The turns of a greeting.
use Rattle.std.proofs.Common.{◌≡◌, ℕ, ◌≤◌, Bool, true, false, List, [], ◌∷◌, ◌++◌, length, drop, Some, None, refl, sym, ap, subst, ◌∙◌, arith}
use Rattle.reql_outside.specs.Tape.{Tape, Moves, recv_failed, SendsAll}
use Rattle.reql_wire.specs.Feeding.{Holding}
use Rattle.reql_wire.specs.Greeting.{Greets, Listening, accepted, refusal}
use Rattle.reql_wire.specs.declared.greeter.Greeting.{Greeting}
use Rattle.reql_wire.specs.declared.greeter.Greeting.TheVariants as greeting
use Rattle.reql_wire.specs.declared.greeter.GreetFault.{GreetFault}
use Rattle.reql_hearing.specs.Hearing.{Came}
use Rattle.reql_hearing.specs.Hearing as hearing
use Rattle.reql_hearing.specs.declared.greeting.Heard.TheVariants as heard
use Rattle.reql_session_spec.specs.Books.{no_books, all_arms}
use Rattle.reql_session_spec.specs.Tasks.{Talk}
use Rattle.reql_session_spec.specs.Logins.{Stage, Waiting, Admitted}
use Rattle.reql_session_spec.specs.Session.{Mach, Rest, Visits, Unread, IsPiece, end_of, leaves, greets_back, turns_away}
use Rattle.reql_session_spec.specs.Worlds.{Ended}
use Rattle.reql_session_spec.specs.declared.end.End.{End}
use Rattle.reql_session_spec.specs.declared.end.End.TheVariants as ends
use Rattle.reql_session_spec.proofs.Going.{goes_said}
use Rattle.reql_session_spec.proofs.Steps.{goes_heard, goes_idle, ends_closed, ends_cut, ends_broken, ends_lost, does_greeted, ends_refused, ends_ungreeted, ends_unrefused}
use Rattle.reql_session_api.specs.World.{AtWork, place_at, mach_at, world_at, world_of, Runs, EndsHere}
use Rattle.reql_turns.specs.Ears.{IsEnd, Stands, Hearing, Hears}
use Rattle.reql_turns.specs.declared.ears.Ears.{Ears}
use Rattle.reql_turns.specs.declared.ears.Phase.{Phase}
use Rattle.reql_turns.specs.declared.ears.Phase.TheVariants as phases
use Rattle.reql_session_api.proofs.Running.{IsEarly, runs_quiet, ends_quiet}

pub said_so : (t u : Tape) (piece said : List ℕ) (result whole : Bool) → piece ≡ said → result ≡ whole → SendsAll t u piece result → SendsAll t u said whole
said_so t u piece said result whole p w s = subst (λ (z : List ℕ × Bool). SendsAll t u z.0 z.1) (λ i. (p i, w i)) s

module _ {PL : Type 0} (k : Talk PL) where
  pub standing : (d : Ears) (phase : Phase) (held : List ℕ) (stage : Stage) → d.phase ≡ phase → Hearing k d held stage → Stands phase d.proving k.key d.greeter.heard d.feeder.held held stage
  standing d phase held stage e h = subst (λ p. Stands p d.proving k.key d.greeter.heard d.feeder.held held stage) e h.stands

  unread : (held : List ℕ) (stage : Stage) → stage ≡ Waiting → Greets k.key held greeting.More → Unread k stage held
  unread held stage e h = subst (λ b. Unread k b held) (sym e) h

  piece_of : (t u : Tape) (room : ℕ) (piece : List ℕ) → room ≤ 65536 → Came t u room piece → IsPiece piece
  piece_of t u room piece most c = record { some = c.some; room = omega (arith, c.fits, most) }

  -- nothing came, and nothing changed
  pub idle_greeting : (t u : Tape) (d e : Ears) → e.phase ≡ d.phase → e.proving ≡ d.proving → e.greeter ≡ d.greeter → e.feeder.held ≡ [] → e.feeder.limit ≡ d.feeder.limit → Moves t u [] [] 1 t.over → Hears k phases.Waiting t u d e None
  idle_greeting t u d e p v g f l m at w held stage o h =
      let s = standing d phases.Waiting held stage at h in
      record {
        held = held;
        stage = stage;
        hearing = record {
          key = ap (λ (z : Listening). z.key) g ∙ h.key;
          limit = l ∙ h.limit;
          stands = subst (λ z. Stands z e.proving k.key e.greeter.heard e.feeder.held held stage) (sym (p ∙ at)) (s.0, s.1 ∙ sym (ap (λ (z : Listening). z.heard) g), f, v ∙ s.3, s.4);
        };
        fresh = λ _. o;
        runs = runs_quiet k t u w (mach_at w held stage (Visits [])) (mach_at w held stage Rest) 0 (goes_idle k t u (place_at w (mach_at w held stage (Visits []))) refl (unread held stage s.4 s.0) m);
      }

  -- a piece came, and the machine holds it
  came : (t u : Tape) (room : ℕ) (piece : List ℕ) (w : AtWork) (held : List ℕ) (stage : Stage) → room ≤ 65536 → stage ≡ Waiting → Greets k.key held greeting.More → Came t u room piece → Runs k (world_at t w held stage (Visits [])) (world_at u w (held ++ piece) stage Rest) 0
  came t u room piece w held stage most e g c = runs_quiet k t u w (mach_at w held stage (Visits [])) (mach_at w (held ++ piece) stage Rest) 0
      (goes_heard k t u (place_at w (mach_at w held stage (Visits []))) piece refl (unread held stage e g) (piece_of t u room piece most c) c.moves)

  greets_so : (d : Ears) (held piece : List ℕ) (verdict : Greeting) → d.greeter.key ≡ k.key → held ≡ d.greeter.heard → Greets d.greeter.key (d.greeter.heard ++ piece) verdict → Greets k.key (held ++ piece) verdict
  greets_so d held piece verdict e h g = subst (λ (z : List ℕ × List ℕ). Greets z.0 (z.1 ++ piece) verdict) (λ i. (e i, sym h i)) g

  pub more_greeting : (t u : Tape) (room : ℕ) (d e : Ears) → room ≤ 65536 → e.phase ≡ d.phase → e.proving ≡ d.proving → e.greeter.key ≡ d.greeter.key → e.feeder.limit ≡ d.feeder.limit → hearing.Hears t u room d.greeter e.greeter e.feeder.held heard.More → Hears k phases.Waiting t u d e None
  more_greeting t u room d e most p v y l x at w held stage o h =
      let s = standing d phases.Waiting held stage at h in
      record {
        held = held ++ x.0;
        stage = stage;
        hearing = record {
          key = y ∙ h.key;
          limit = l ∙ h.limit;
          stands = subst (λ z. Stands z e.proving k.key e.greeter.heard e.feeder.held (held ++ x.0) stage) (sym (p ∙ at)) (greets_so d held x.0 greeting.More h.key s.1 x.3, ap (λ z. z ++ x.0) s.1 ∙ sym x.2, x.4, v ∙ s.3, s.4);
        };
        fresh = λ _. o;
        runs = came t u room x.0 w held stage most s.4 s.0 x.1;
      }

  pub whole_greeting : (t u : Tape) (room : ℕ) (d e : Ears) → room ≤ 65536 → e.phase ≡ phases.Whole → e.greeter.key ≡ d.greeter.key → e.feeder.limit ≡ d.feeder.limit → hearing.Hears t u room d.greeter e.greeter e.feeder.held heard.Accepted → Hears k phases.Waiting t u d e None
  whole_greeting t u room d e most p y l x at w held stage o h =
      let s = standing d phases.Waiting held stage at h in
      record {
        held = held ++ x.0;
        stage = stage;
        hearing = record {
          key = y ∙ h.key;
          limit = l ∙ h.limit;
          stands = subst (λ z. Stands z e.proving k.key e.greeter.heard e.feeder.held (held ++ x.0) stage) (sym p) (x.1, greets_so d held x.0 (greeting.Accepted x.1) h.key s.1 x.3, ap (λ z. drop x.1 (z ++ x.0)) s.1 ∙ x.4, s.4);
        };
        fresh = λ _. o;
        runs = came t u room x.0 w held stage most s.4 s.0 x.2;
      }

  pub wrong_greeting : (t u : Tape) (room : ℕ) (d e : Ears) (fault : GreetFault) → room ≤ 65536 → e.phase ≡ phases.Wrong fault → e.greeter.key ≡ d.greeter.key → e.feeder.limit ≡ d.feeder.limit → hearing.Hears t u room d.greeter e.greeter e.feeder.held (heard.Refused fault) → Hears k phases.Waiting t u d e None
  wrong_greeting t u room d e fault most p y l x at w held stage o h =
      let s = standing d phases.Waiting held stage at h in
      record {
        held = held ++ x.0;
        stage = stage;
        hearing = record {
          key = y ∙ h.key;
          limit = l ∙ h.limit;
          stands = subst (λ z. Stands z e.proving k.key e.greeter.heard e.feeder.held (held ++ x.0) stage) (sym p) (greets_so d held x.0 (greeting.Refused fault) h.key s.1 x.2, s.4);
        };
        fresh = λ _. o;
        runs = came t u room x.0 w held stage most s.4 s.0 x.1;
      }

  pub called_greeting : (t u : Tape) (room : ℕ) (d e : Ears) → room ≤ 65536 → e.phase ≡ phases.Called → e.proving ≡ d.proving → e.greeter.key ≡ d.greeter.key → e.feeder.limit ≡ d.feeder.limit → hearing.Hears t u room d.greeter e.greeter e.feeder.held heard.Called → Hears k phases.Waiting t u d e None
  called_greeting t u room d e most p v y l x at w held stage o h =
      let s = standing d phases.Waiting held stage at h in
      record {
        held = held ++ x.0;
        stage = stage;
        hearing = record {
          key = y ∙ h.key;
          limit = l ∙ h.limit;
          stands = subst (λ z. Stands z e.proving k.key e.greeter.heard e.feeder.held (held ++ x.0) stage) (sym p) (greets_so d held x.0 (greeting.Login 4) h.key s.1 x.2, ap (λ z. drop 4 (z ++ x.0)) s.1 ∙ x.3, v ∙ s.3, s.4);
        };
        fresh = λ _. o;
        runs = came t u room x.0 w held stage most s.4 s.0 x.1;
      }

  -- ---- ends
  pub lost_greeting : (t u : Tape) (room : ℕ) (d e : Ears) → room ≤ 65536 → (piece : List ℕ) × Came t u room piece → Hears k phases.Waiting t u d e (Some ends.Memory)
  lost_greeting t u room d e most x at w held stage o h =
      let s = standing d phases.Waiting held stage at h in
      let m : Mach PL = mach_at w held stage (Visits []) in
      ends_quiet k t u w m (leaves (record m { held = held ++ x.0 }) w.books ends.Memory) ends.Memory 0 tt (ends_lost k t u (place_at w m) x.0 refl (unread held stage s.4 s.0) (piece_of t u room x.0 most x.1) x.1.moves)

  pub broken_greeting : (t u : Tape) (d e : Ears) → Moves (recv_failed t) u [] [] 0 t.over → Hears k phases.Waiting t u d e (Some ends.ReadFault)
  broken_greeting t u d e x at w held stage o h =
      let s = standing d phases.Waiting held stage at h in
      let m : Mach PL = mach_at w held stage (Visits []) in
      ends_quiet k t u w m (leaves m w.books ends.ReadFault) ends.ReadFault 0 tt (ends_broken k t u (place_at w m) refl (unread held stage s.4 s.0) x)

  nil_of : (l : List ℕ) → length l ≡ 0 → l ≡ []
  nil_of [] z = refl
  nil_of (y ∷ l) z = absurd (omega (arith, z))

  -- no more comes, before or after the greeting
  pub over_here : (t u : Tape) (w : AtWork) (held : List ℕ) (stage : Stage) (n : ℕ) (end : End) → n ≡ length held → IsEnd n end → Unread k stage held → Moves t u [] [] 0 true → EndsHere k (world_at t w held stage (Visits [])) u w end 0
  over_here t u w held stage n ends.Closed e i r m =
      let x : Mach PL = mach_at w held stage (Visits []) in
      ends_quiet k t u w x (leaves x w.books (end_of held)) ends.Closed 0 tt (ends_closed k t u (place_at w x) refl r (nil_of held (sym e ∙ i)) m)
  over_here t u w [] stage n (ends.Cut c) e i r m = absurd (omega (arith, e, i.1))
  over_here t u w (b ∷ bs) stage n (ends.Cut c) e i r m =
      let x : Mach PL = mach_at w (b ∷ bs) stage (Visits []) in
      subst (λ z. EndsHere k (world_at t w (b ∷ bs) stage (Visits [])) u w (ends.Cut z) 0) (sym (i.0 ∙ e)) (ends_quiet k t u w x (leaves x w.books (end_of (b ∷ bs))) (ends.Cut (length (b ∷ bs))) 0 tt (ends_cut k t u (place_at w x) b bs refl r refl m))
  over_here t u w held stage n other e i r m = absurd i

  pub over_greeting : (t u : Tape) (d e : Ears) (n : ℕ) (end : End) → IsEnd n end → n ≡ length d.greeter.heard → Moves t u [] [] 0 true → Hears k phases.Waiting t u d e (Some end)
  over_greeting t u d e n end i c m at w held stage o h =
      let s = standing d phases.Waiting held stage at h in
      over_here t u w held stage n end (c ∙ ap length (sym s.1)) i (unread held stage s.4 s.0) m

  -- ---- its answers
  pub accepted_greeting : (t u : Tape) (d e : Ears) → e.phase ≡ phases.Over → e.greeter ≡ d.greeter → e.feeder ≡ d.feeder → Moves t u [] accepted 0 t.over → Hears k phases.Whole t u d e None
  accepted_greeting t u d e p g f m at w held stage o h =
      let s = standing d phases.Whole held stage at h in
      let x : Mach PL = mach_at w held stage (Visits []) in
      record {
        held = drop s.0 held;
        stage = Admitted;
        hearing = record {
          key = ap (λ (z : Listening). z.key) g ∙ h.key;
          limit = ap (λ (z : Holding). z.limit) f ∙ h.limit;
          stands = subst (λ z. Stands z e.proving k.key e.greeter.heard e.feeder.held (drop s.0 held) Admitted) (sym p) (s.2 ∙ sym (ap (λ (z : Holding). z.held) f), refl);
        };
        fresh = λ _. o;
        runs = runs_quiet k t u w x (mach_at w (drop s.0 held) Admitted Rest) 0 (goes_said k t u (place_at w x) (place_at w (mach_at w (drop s.0 held) Admitted Rest)) accepted (does_greeted k (place_at w x) s.0 refl s.3 s.1) m);
      }

  -- an end that came before anything was opened
  pub ends_fresh : (t u : Tape) (w : AtWork) (m x : Mach PL) (end : End) → IsEarly end → w.books ≡ no_books → Ended k t u (place_at w m) (place_at w x) [] [] end [] 0 → EndsHere k (world_of t w m) u w end 0
  ends_fresh t u w m x end i o e = ends_quiet k t u w m x end 0 i (subst (λ b. Ended k t u (place_at w m) (place_at w x) [] [] end (all_arms b) 0) (sym o) e)

  pub unaccepted_greeting : (t u : Tape) (d e : Ears) → SendsAll t u accepted false → Hears k phases.Whole t u d e (Some ends.WriteFault)
  unaccepted_greeting t u d e m at w held stage o h =
      let s = standing d phases.Whole held stage at h in
      let x : Mach PL = mach_at w held stage (Visits []) in
      ends_fresh t u w x (greets_back x s.0 false) ends.WriteFault tt o (ends_ungreeted k t u (place_at w x) s.0 refl s.3 s.1 m)

  pub refused_greeting : (t u : Tape) (d e : Ears) (fault : GreetFault) → Moves t u [] (refusal fault) 0 t.over → Hears k (phases.Wrong fault) t u d e (Some (ends.Refused fault))
  refused_greeting t u d e fault m at w held stage o h =
      let s = standing d (phases.Wrong fault) held stage at h in
      let x : Mach PL = mach_at w held stage (Visits []) in
      ends_fresh t u w x (turns_away x fault true) (ends.Refused fault) tt o (ends_refused k t u (place_at w x) fault refl s.1 s.0 m)

  pub unrefused_greeting : (t u : Tape) (d e : Ears) (fault : GreetFault) → SendsAll t u (refusal fault) false → Hears k (phases.Wrong fault) t u d e (Some ends.WriteFault)
  unrefused_greeting t u d e fault m at w held stage o h =
      let s = standing d (phases.Wrong fault) held stage at h in
      let x : Mach PL = mach_at w held stage (Visits []) in
      ends_fresh t u w x (turns_away x fault false) ends.WriteFault tt o (ends_unrefused k t u (place_at w x) fault refl s.1 s.0 m)
