-- The turns after the greeting, and all turns.
use Rattle.std.proofs.Common.{◌≡◌, inl, inr, ℕ, ◌+◌, ◌≤◌, true, List, [], ◌++◌, length, Option, Some, None, refl, sym, ap, subst, ◌∙◌, arith}
use Rattle.reql_outside.specs.Tape.{Tape, Moves, IsFresh}
use Rattle.reql_wire.specs.Frames.{Fits, NoFrame, HoldsFrame, Over, spelling, front}
use Rattle.reql_wire.specs.Frames as frames
use Rattle.reql_wire.specs.Feeding.{Holding}
use Rattle.reql_wire.specs.Greeting.{Greets, Listening, verdict_of}
use Rattle.reql_wire.specs.declared.frame.Frame.{Frame}
use Rattle.reql_wire.specs.declared.greeter.Greeting.TheVariants as greeting
use Rattle.reql_hearing.specs.Hearing.{Came}
use Rattle.reql_session_spec.specs.Books.{Books, no_books, all_arms}
use Rattle.reql_session_spec.specs.Tasks.{Talk}
use Rattle.reql_session_spec.specs.Logins.{Stage, Waiting, At, Admitted}
use Rattle.reql_session_spec.specs.Session.{Mach, Rest, Visits, Leaving, Unread, leaves}
use Rattle.reql_session_spec.specs.Worlds.{Does}
use Rattle.reql_session_spec.specs.declared.end.End.{End}
use Rattle.reql_session_spec.specs.declared.end.End.TheVariants as ends
use Rattle.reql_session_spec.proofs.Going.{ends_closing, explained_by}
use Rattle.reql_session_spec.proofs.Steps.{goes_turn, goes_heard, goes_idle, ends_broken, ends_lost, ends_long, ends_poor, ends_worn}
use Rattle.reql_session_api.specs.World.{AtWork, World, Runs, Ends, EndsHere, Outcome, Serves, IsServed, Gave, place_at, mach_at, world_at, world_of}
use Rattle.reql_turns.specs.Ears.{IsEnd, ReceivesMore, Stands, Hearing, TurnsOver, Turned, Hears, TurnFrom, IsHearing, IsFirst, IsEarly, gate_of}
use Rattle.reql_turns.specs.declared.ears.Ears.{Ears}
use Rattle.reql_turns.specs.declared.ears.Phase.{Phase}
use Rattle.reql_turns.specs.declared.ears.Phase.TheVariants as phases
use Rattle.reql_session_api.proofs.Running.{gave_nothing, runs_none, runs_on, ends_on, ends_here_on, runs_quiet, ends_quiet}
use Rattle.reql_turns.proofs.Greeted.{standing, over_here}

pub whole_room : (room : ℕ) → room ≡ 65536 → room ≤ 65536
whole_room room e = omega (arith, e)

pub within : (t u : Tape) (room : ℕ) (piece : List ℕ) → room ≤ 65536 → Came t u room piece → Came t u 65536 piece
within t u room piece h c = record { moves = c.moves; some = c.some; fits = omega (arith, c.fits, h) }

pub over_received : (t u : Tape) (a b : List ℕ) (n : ℕ) (end : End) → IsEnd n end → n ≡ length a → Moves t u [] [] 0 true → ReceivesMore t u a b (Some end)
over_received t u a b n ends.Closed i e m = (sym e ∙ i, m)
over_received t u a b n (ends.Cut c) i e m = ((i.0 ∙ e, omega (arith, i.1, e)), m)
over_received t u a b n other i e m = absurd i

add_nothing : (n : ℕ) → n + 0 ≡ n
add_nothing n = omega arith

early : (stage other : Stage) → stage ≡ other → IsEarly other → IsEarly stage
early stage other e i = subst IsEarly (sym e) i

-- no frame is handled yet
abbrev pub IsEarlyPhase : Phase → Type 0
IsEarlyPhase phases.Over = ⊥
IsEarlyPhase phase = Unit {0}

module _ {PL : Type 0} (k : Talk PL) where
  pub received : (t u : Tape) (w : AtWork) (a b : List ℕ) (stage : Stage) (end : Option End) → Unread k stage a → ReceivesMore t u a b end → Outcome k (world_at t w a stage (Visits [])) u w b stage Rest 0 end
  received t u w a b stage None r x = elim x [
    | inl q ↦ subst (λ z. Runs k (world_at t w a stage (Visits [])) (world_at u w z stage Rest) 0) (sym q.1) (runs_quiet k t u w (mach_at w a stage (Visits [])) (mach_at w a stage Rest) 0 (goes_idle k t u (place_at w (mach_at w a stage (Visits []))) refl r q.0))
    | inr q ↦ subst (λ z. Runs k (world_at t w a stage (Visits [])) (world_at u w z stage Rest) 0) (sym q.2)
        (runs_quiet k t u w (mach_at w a stage (Visits [])) (mach_at w (a ++ q.0) stage Rest) 0 (goes_heard k t u (place_at w (mach_at w a stage (Visits []))) q.0 refl r (record { some = q.1.some; room = q.1.fits }) q.1.moves))
  ]
  received t u w a b stage (Some ends.Memory) r x = ends_quiet k t u w (mach_at w a stage (Visits [])) (leaves (record (mach_at w a stage (Visits [])) { held = a ++ x.0 }) w.books ends.Memory) ends.Memory 0 tt
      (ends_lost k t u (place_at w (mach_at w a stage (Visits []))) x.0 refl r (record { some = x.1.some; room = x.1.fits }) x.1.moves)
  received t u w a b stage (Some ends.ReadFault) r x = ends_quiet k t u w (mach_at w a stage (Visits [])) (leaves (mach_at w a stage (Visits [])) w.books ends.ReadFault) ends.ReadFault 0 tt (ends_broken k t u (place_at w (mach_at w a stage (Visits []))) refl r x)
  received t u w a b stage (Some ends.Closed) r x = over_here k t u w a stage (length a) ends.Closed refl x.0 r x.1
  received t u w a b stage (Some (ends.Cut n)) r x = over_here k t u w a stage (length a) (ends.Cut n) refl x.0 r x.1
  received t u w a b stage (Some (ends.Refused f)) r x = absurd x.0
  received t u w a b stage (Some (ends.TooLong n)) r x = absurd x.0
  received t u w a b stage (Some ends.WriteFault) r x = absurd x.0
  received t u w a b stage (Some ends.Worn) r x = absurd x.0

  front_unread : (limit : ℕ) (a : List ℕ) → limit ≡ k.limits.frame → front limit a ≡ frames.More → NoFrame limit a → Unread k Admitted a
  front_unread limit a e f n = subst (λ z. (front z a ≡ frames.More) × NoFrame z a) e (f, n)

  pub received_so : (t u : Tape) (w : AtWork) (old now : Holding) (b : List ℕ) (end : Option End) → old.limit ≡ k.limits.frame → (front old.limit old.held ≡ frames.More) × NoFrame old.limit old.held × (now ≡ old) → ReceivesMore t u now.held b end → Outcome k (world_at t w old.held Admitted (Visits [])) u w b Admitted Rest 0 end
  received_so t u w old now b end e f x = received t u w old.held b Admitted end (front_unread old.limit old.held e f.0 f.1) (subst (λ (z : Holding). ReceivesMore t u z.held b end) f.2 x)

  pub framed : (t u : Tape) (w x : AtWork) (a b : List ℕ) (limit : ℕ) (frame : Frame) (end : Option End) → limit ≡ k.limits.frame → a ≡ spelling frame ++ b → Fits limit frame →
      (Fits k.limits.frame frame → Outcome k (world_at t w (spelling frame ++ b) Admitted (Visits [])) u x b Admitted Rest 0 end) → Outcome k (world_at t w a Admitted (Visits [])) u x b Admitted Rest 0 end
  framed t u w x a b limit frame end e s f h = subst (λ z. Outcome k (world_at t w z Admitted (Visits [])) u x b Admitted Rest 0 end) (sym s) (h (subst (λ z. Fits z frame) e f))

  pub long_so : (t : Tape) (w : AtWork) (a : List ℕ) (limit len : ℕ) → limit ≡ k.limits.frame → Over limit a len → EndsHere k (world_at t w a Admitted (Visits [])) t w (ends.TooLong len) 0
  long_so t w a limit len e o = ends_quiet k t t w (mach_at w a Admitted (Visits [])) (leaves (mach_at w a Admitted (Visits [])) w.books (ends.TooLong len)) (ends.TooLong len) 0 tt (ends_long k t (place_at w (mach_at w a Admitted (Visits []))) len refl refl (subst (λ z. Over z a len) e o))

  pub poor_so : (t : Tape) (w : AtWork) (a : List ℕ) (limit : ℕ) → limit ≡ k.limits.frame → HoldsFrame limit a → EndsHere k (world_at t w a Admitted (Visits [])) t w ends.Memory 0
  poor_so t w a limit e h = ends_quiet k t t w (mach_at w a Admitted (Visits [])) (leaves (mach_at w a Admitted (Visits [])) w.books ends.Memory) ends.Memory 0 tt (ends_poor k t (place_at w (mach_at w a Admitted (Visits []))) (inl (refl, refl, subst (λ z. HoldsFrame z a) e h)))

  -- ---- a turn begins
  pub fresh_turn : (t : Tape) (w : AtWork) (held : List ℕ) (stage : Stage) → w.books ≡ no_books → Runs k (world_at t w held stage Rest) (world_at t w held stage (Visits [])) 1
  fresh_turn t w held stage o =
      let m : Mach PL = mach_at w held stage Rest in
      let turned : Books → Mach PL = λ b. record m { books = record b { waiting = [] }; doing = Visits b.waiting } in
      let same : turned w.books ≡ mach_at w held stage (Visits []) = ap turned o ∙ ap (λ (b : Books). record m { books = b; doing = Visits [] }) (sym o) in
      subst (λ z. Runs k (world_at t w held stage Rest) (world_of t w z) 1) same (runs_quiet k t t w m (turned w.books) 1 (goes_turn k t (place_at w m) refl))

  pub turned_on : (a b : World PL) (u : Tape) (w : AtWork) (e : Ears) (end : Option End) → Runs k a b 1 → Turned k b u w e 0 end → Turned k a u w e 1 end
  turned_on a b u w e None r x = record { held = x.held; stage = x.stage; hearing = x.hearing; fresh = x.fresh; runs = runs_on k a b (world_at u w x.held x.stage Rest) 1 0 r x.runs }
  turned_on a b u w e (Some end) r x = ends_here_on k a b u w end 1 0 r x

  -- in the greeting nothing was done at the desk
  pub not_greeted : (d : Ears) (phase : Phase) (held : List ℕ) (stage : Stage) → d.phase ≡ phase → IsEarlyPhase phase → Hearing k d held stage → IsEarly stage
  not_greeted d phases.Waiting held stage e i h = early stage Waiting (standing k d phases.Waiting held stage e h).4 tt
  not_greeted d phases.Whole held stage e i h = early stage Waiting (standing k d phases.Whole held stage e h).3 tt
  not_greeted d phases.Called held stage e i h = early stage Waiting (standing k d phases.Called held stage e h).3 tt
  not_greeted d phases.Login held stage e i h = early stage (At (gate_of d.proving)) (standing k d phases.Login held stage e h).1 tt
  not_greeted d (phases.Wrong f) held stage e i h = early stage Waiting (standing k d (phases.Wrong f) held stage e h).1 tt
  not_greeted d phases.Over held stage e i h = absurd i

  pub turn_of_greeting : (phase : Phase) (t u : Tape) (w : AtWork) (d e : Ears) (end : Option End) → IsEarlyPhase phase → d.phase ≡ phase → Hears k phase t u d e end → TurnFrom k t w d u w e end
  turn_of_greeting phase t u w d e end i p h held stage x o =
      let b : w.books ≡ no_books = o (not_greeted d phase held stage p i x) in
      turned_on (world_at t w held stage Rest) (world_at t w held stage (Visits [])) u w e end (fresh_turn t w held stage b) (h p w held stage b x)

  pub still_short : (w : AtWork) (d : Ears) → d.phase ≡ phases.Waiting → IsHearing k w d → Greets d.greeter.key d.greeter.heard greeting.More × (d.feeder.held ≡ [])
  still_short w d p h = let s = standing k d phases.Waiting h.0 h.1 p h.2 in (subst (λ (z : List ℕ × List ℕ). Greets z.0 z.1 greeting.More) (λ i. (sym h.2.key i, s.1 i)) s.0, s.2)

  -- after it
  pub turn_ended : (t u : Tape) (w x : AtWork) (d e : Ears) (end : End) → ((held : List ℕ) (stage : Stage) → EndsHere k (world_at t w held stage Rest) u x end 1) → TurnFrom k t w d u x e (Some end)
  turn_ended t u w x d e end h held stage y o = h held stage

  went : (a b : World PL) (tape : Tape) (x : AtWork) (d e : Ears) (end : Option End) → d.phase ≡ phases.Over → e.phase ≡ d.phase → e.greeter.key ≡ k.key → e.feeder.limit ≡ k.limits.frame → Runs k a b 1 → Outcome k b tape x e.feeder.held Admitted Rest 0 end → Turned k a tape x e 1 end
  went a b tape x d e None p q g l r o = record {
    held = e.feeder.held;
    stage = Admitted;
    hearing = record { key = g; limit = l; stands = subst (λ z. Stands z e.proving k.key e.greeter.heard e.feeder.held e.feeder.held Admitted) (sym (q ∙ p)) (refl, refl) };
    fresh = λ f. absurd f;
    runs = runs_on k a b (world_at tape x e.feeder.held Admitted Rest) 1 0 r o;
  }
  went a b tape x d e (Some end) p q g l r o = ends_here_on k a b tape x end 1 0 r o

  pub turn_went : (t v u : Tape) (w y x : AtWork) (d e : Ears) (end : Option End) → d.phase ≡ phases.Over → e.phase ≡ d.phase → e.greeter ≡ d.greeter → e.feeder.limit ≡ d.feeder.limit → ((held : List ℕ) (stage : Stage) → Runs k (world_at t w held stage Rest) (world_at v y held stage (Visits [])) 1) →
      (d.feeder.limit ≡ k.limits.frame → Outcome k (world_at v y d.feeder.held Admitted (Visits [])) u x e.feeder.held Admitted Rest 0 end) → TurnFrom k t w d u x e end
  turn_went t v u w y x d e end p q g l r o held stage h f =
      let s = standing k d phases.Over held stage p h in
      went (world_at t w held stage Rest) (world_at v y held stage (Visits [])) u x d e end p q (ap (λ (z : Listening). z.key) g ∙ h.key) (l ∙ h.limit) (r held stage)
      (subst (λ (z : List ℕ × Stage). Outcome k (world_at v y z.0 z.1 (Visits [])) u x e.feeder.held Admitted Rest 0 end) (λ i. (sym s.0 i, sym s.1 i)) (o h.limit))

  -- ---- all turns
  pub serves_none : (t : Tape) (w : AtWork) (d : Ears) → IsFirst k d → w.books ≡ no_books → TurnsOver k (world_at t w [] Waiting Rest) t w d 0
  unfolding verdict_of
  serves_none t w d f o = record {
    held = [];
    stage = Waiting;
    hearing = record {
      key = ap (λ (z : Listening). z.key) f.0;
      limit = ap (λ (z : Holding). z.limit) f.1;
      stands = subst (λ z. Stands z d.proving k.key d.greeter.heard d.feeder.held [] Waiting) (sym f.2) (refl, sym (ap (λ (z : Listening). z.heard) f.0), ap (λ (z : Holding). z.held) f.1, f.3, refl);
    };
    fresh = λ _. o;
    runs = runs_none k (world_at t w [] Waiting Rest);
  }

  pub hearing_there : (a : World PL) (tape : Tape) (w : AtWork) (e : Ears) (n : ℕ) → TurnsOver k a tape w e n → IsHearing k w e
  hearing_there a tape w e n x = (x.held, x.stage, x.hearing, x.fresh)

  pub serves_more : (a : World PL) (t u : Tape) (w x : AtWork) (d e : Ears) (n : ℕ) → TurnsOver k a t w d n → TurnFrom k t w d u x e None → TurnsOver k a u x e (n + 1)
  serves_more a t u w x d e n p f =
      let q : TurnsOver k (world_at t w p.held p.stage Rest) u x e 1 = f p.held p.stage p.hearing p.fresh in
      record { held = q.held; stage = q.stage; hearing = q.hearing; fresh = q.fresh; runs = runs_on k a (world_at t w p.held p.stage Rest) (world_at u x q.held q.stage Rest) n 1 p.runs q.runs }

  pub serves_end : (a : World PL) (t u : Tape) (w x : AtWork) (d e : Ears) (most n : ℕ) (end : End) → n + 1 ≤ most → TurnsOver k a t w d n → TurnFrom k t w d u x e (Some end) → Serves k a most u x end (n + 1)
  serves_end a t u w x d e most n end le p f =
      let q : EndsHere k a u x end (n + 1) = ends_here_on k a (world_at t w p.held p.stage Rest) u x end n 1 p.runs (f p.held p.stage p.hearing p.fresh) in
      record { last = q.last; ends = q.ends; wears = record { within = le; worn = λ z. absurd (q.early z) } }

  pub serves_worn : (a : World PL) (t : Tape) (w : AtWork) (d : Ears) (most : ℕ) → TurnsOver k a t w d most → Serves k a most t w ends.Worn most
  serves_worn a t w d most p =
      let m : Mach PL = mach_at w p.held p.stage Rest in
      let x : Mach PL = leaves m w.books ends.Worn in
      let e : Ends k (world_at t w p.held p.stage Rest) (world_of t w x) ends.Worn (all_arms w.books) 0 = record { moments = []; rolls = []; ended = ends_worn k t (place_at w m) refl; clock = gave_nothing w.clock; dice = gave_nothing w.dice } in
      record { last = x; ends = subst (Ends k a (world_of t w x) ends.Worn (all_arms w.books)) (add_nothing most) (ends_on k a (world_at t w p.held p.stage Rest) (world_of t w x) ends.Worn (all_arms w.books) most 0 p.runs e); wears = record { within = omega arith; worn = λ z. refl } }

  waiting_on : Waiting ≡ Admitted → ⊥
  waiting_on e = subst IsEarly e tt

  pub serves_poor : (t : Tape) (w : AtWork) (most : ℕ) → Serves k (world_at t w [] Waiting Rest) most t w ends.Memory 0
  serves_poor t w most =
      let m : Mach PL = mach_at w [] Waiting Rest in
      let q : EndsHere k (world_at t w [] Waiting Rest) t w ends.Memory 0 = ends_quiet k t t w m (leaves m w.books ends.Memory) ends.Memory 0 tt (ends_poor k t (place_at w m) (inr (inl (refl, λ e. waiting_on e)))) in
      record { last = q.last; ends = q.ends; wears = record { within = omega arith; worn = λ z. absurd (q.early z) } }

  pub served : (t u : Tape) (w x y : AtWork) (end : End) (n : ℕ) → IsFresh t → w.books ≡ no_books → Serves k (world_at t w [] Waiting Rest) k.limits.turns u x end n → y.clock ≡ x.clock → y.dice ≡ x.dice →
      ((m : Mach PL) (e : End) → m.doing ≡ Leaving (all_arms x.books) e → Does k (place_at x m) (place_at y (record m { doing = Leaving [] e })) []) → IsServed k w y u end n
  served t u w x y end n f o s c d l =
      let e = s.ends.ended in
      let z : Mach PL = s.last in
      let last : Mach PL = record z { doing = Leaving [] end } in
      let make : Books → Mach PL = λ b. record { held = []; greeted = Waiting; books = b; doing = Rest; out = [] } in
      let r = explained_by k t u (place_at w (make w.books)) (place_at y last) s.ends.moments s.ends.rolls end n (ap make o) f s.wears
      (ends_closing k t u (place_at w (make w.books)) (place_at x z) (place_at y last) s.ends.moments s.ends.rolls end (all_arms x.books) [] n e (l z end e.left) refl refl refl) in
      record {
        moments = s.ends.moments;
        rolls = s.ends.rolls;
        explained = record {
          given = r.given;
          sent = r.sent;
          idle = r.idle;
          explained = r.explained;
          given_told = r.given_told;
          sent_told = r.sent_told;
          idles = r.idles;
          faults_in = r.faults_in;
          faults_out = r.faults_out;
          slots = r.slots;
          names = r.names;
        };
        clock = subst (λ z. Gave w.clock z s.ends.moments) (sym c) s.ends.clock;
        dice = subst (λ z. Gave w.dice z s.ends.rolls) (sym d) s.ends.dice;
      }
