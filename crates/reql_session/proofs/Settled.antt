-- From a point of a task to its end, one step after another.
use Rattle.std.proofs.Common.{◌≡◌, ℕ, ℤ, Bool, true, false, List, [], Option, Some, None, refl, sym, ap, subst, append-nil, cond}
use Rattle.reql_outside.specs.Source.{Source}
use Rattle.reql_outside.specs.Tape.{Tape, SendsAll}
use Rattle.reql_wire.specs.Frames.{spelling}
use Rattle.reql_table_spec.specs.Machine.{State}
use Rattle.reql_session_spec.specs.Requests.{Arm, Answer, Answered, Internal, Ends}
use Rattle.reql_session_spec.specs.Books.{Books}
use Rattle.reql_session_spec.specs.Bodies.{body}
use Rattle.reql_session_spec.specs.Tasks.{Talk, Task, Next, Telling, at, done, only_tell, wanted, told, comes_to, batch_size}
use Rattle.reql_session_spec.specs.Session.{Rest, Come, spoken, goes_on, back_to, leaves}
use Rattle.reql_session_spec.specs.Worlds.{at_desk, with_out}
use Rattle.reql_session_spec.specs.declared.end.End.{End}
use Rattle.reql_session_spec.specs.declared.end.End.TheVariants as ends
use Rattle.reql_session_spec.proofs.Going.{goes_said}
use Rattle.reql_session_spec.proofs.Steps.{same_moves, does_step, does_say, does_want, ends_unsent}
use Rattle.reql_session_api.specs.World.{AtWork, Runs, Outcome, place_at, mach_at, world_at, world_of}
use Rattle.reql_session_api.specs.Meant.{Course, next_of}
use Rattle.reql_session_api.proofs.Running.{gave_nothing, runs_on, runs_none, runs_quiet, ends_here_on, ends_quiet}
use Rattle.reql_desk_moves.specs.Acting.{AtDesk}
use Rattle.reql_desk_moves.specs.Steps.{Steps}
use Rattle.reql_plan_driver.specs.Walking.{Tools, Walks}
use Rattle.reql_session.specs.Settling.{working, ended_by, Leads, Settles}
use Rattle.reql_session.specs.Ending.{on_course}

module _ {PL : Type 0} (k : Talk PL) where
  -- ---- one after another
  pub settles_on : (t u v : Tape) (w x y : AtWork) (a b : Next PL) (end : Option End) → Leads k t u w x a b → Settles k u v x y b end → Settles k t v w y a end
  settles_on t u v w x y a b None l s held stage back =
      runs_on k (world_of t w (goes_on (mach_at w held stage Rest) back a)) (world_of u x (goes_on (mach_at w held stage Rest) back b)) (world_at v y held stage (back_to back)) 0 0 (l (mach_at w held stage Rest) back) (s held stage back)
  settles_on t u v w x y a b (Some end) l s held stage back =
      ends_here_on k (world_of t w (goes_on (mach_at w held stage Rest) back a)) (world_of u x (goes_on (mach_at w held stage Rest) back b)) v y end 0 0 (l (mach_at w held stage Rest) back) (s held stage back)

  pub leads_on : (t u v : Tape) (w x y : AtWork) (a b c : Next PL) → Leads k t u w x a b → Leads k u v x y b c → Leads k t v w y a c
  leads_on t u v w x y a b c f g m back = runs_on k (world_of t w (goes_on m back a)) (world_of u x (goes_on m back b)) (world_of v y (goes_on m back c)) 0 0 (f m back) (g m back)

  pub settles_done : (t : Tape) (w : AtWork) (b : Books) → w.books ≡ b → Settles k t t w w (done b) None
  settles_done t w b e held stage back =
      subst (λ z. Runs k (world_of t w (goes_on (mach_at w held stage Rest) back (done z))) (world_at t w held stage (back_to back)) 0) e (runs_none k (world_at t w held stage (back_to back)))

  -- ---- answers
  pub leads_said : (t u : Tape) (w : AtWork) (b kept : Books) (token : ℕ) (a : Answer) (lose after : Option (List Arm)) → SendsAll t u (spoken token a) true → Leads k t u w w (at b (Telling token a kept lose after)) (told token kept after)
  leads_said t u w b kept token a lose after s m back =
      runs_quiet k t u w (goes_on m back (at b (Telling token a kept lose after))) (goes_on m back (told token kept after)) 0
      (goes_said k t u (place_at w (goes_on m back (at b (Telling token a kept lose after)))) (place_at w (goes_on m back (told token kept after))) (spoken token a)
      (does_say k (place_at w (goes_on m back (at b (Telling token a kept lose after)))) back token a kept lose after refl) s)

  pub settles_unsent : (t u : Tape) (w : AtWork) (b kept : Books) (token : ℕ) (a : Answer) (lose after : Option (List Arm)) → w.books ≡ kept → SendsAll t u (spoken token a) false → Settles k t u w w (at b (Telling token a kept lose after)) (Some ends.WriteFault)
  settles_unsent t u w b kept token a lose after e s held stage back =
      subst (λ z. Outcome k (world_of t w (goes_on (mach_at w held stage Rest) back (at b (Telling token a z lose after)))) u w held stage (back_to back) 0 (Some ends.WriteFault)) e
      (ends_quiet k t u w (goes_on (mach_at w held stage Rest) back (at b (Telling token a w.books lose after))) (leaves (goes_on (mach_at w held stage Rest) back (at b (Telling token a w.books lose after))) w.books ends.WriteFault) ends.WriteFault 0 tt
      (ends_unsent k t u (place_at w (goes_on (mach_at w held stage Rest) back (at b (Telling token a w.books lose after)))) back token a w.books lose after refl s))

  pub settles_said : (t u : Tape) (w : AtWork) (b kept : Books) (token : ℕ) (a : Answer) (lose : Option (List Arm)) (whole : Bool) → w.books ≡ kept → SendsAll t u (spoken token a) whole → Settles k t u w w (at b (Telling token a kept lose None)) (ended_by whole)
  settles_said t u w b kept token a lose true e s = settles_on t u u w w w (at b (Telling token a kept lose None)) (done kept) None (leads_said t u w b kept token a lose None s) (settles_done u w kept e)
  settles_said t u w b kept token a lose false e s = settles_unsent t u w b kept token a lose None e s

  -- an answer as its bytes
  pub settles_so : (t u : Tape) (w : AtWork) (b kept : Books) (token : ℕ) (a : Answer) (lose : Option (List Arm)) (bytes : List ℕ) (whole : Bool) (end : Option End) → w.books ≡ kept → bytes ≡ body a →
      SendsAll t u (spelling (record { token = token; body = bytes })) whole → end ≡ ended_by whole → Settles k t u w w (at b (Telling token a kept lose None)) end
  settles_so t u w b kept token a lose bytes whole end e s x r =
      subst (Settles k t u w w (at b (Telling token a kept lose None))) (sym r) (settles_said t u w b kept token a lose whole e (subst (λ z. SendsAll t u (spelling (record { token = token; body = z })) whole) s x))

  pub leads_so : (t u : Tape) (w : AtWork) (b kept : Books) (token : ℕ) (a : Answer) (lose after : Option (List Arm)) (bytes : List ℕ) (whole : Bool) → bytes ≡ body a → whole ≡ true →
      SendsAll t u (spelling (record { token = token; body = bytes })) whole → Leads k t u w w (at b (Telling token a kept lose after)) (told token kept after)
  leads_so t u w b kept token a lose after bytes whole s y x = leads_said t u w b kept token a lose after (subst (λ (z : List ℕ × Bool). SendsAll t u (spelling (record { token = token; body = z.0 })) z.1) (λ i. (s i, y i)) x)

  pub settles_broken : (t u : Tape) (w : AtWork) (b kept : Books) (token : ℕ) (a : Answer) (lose after : Option (List Arm)) (bytes : List ℕ) (whole : Bool) → w.books ≡ kept → bytes ≡ body a → whole ≡ false →
      SendsAll t u (spelling (record { token = token; body = bytes })) whole → Settles k t u w w (at b (Telling token a kept lose after)) (Some ends.WriteFault)
  settles_broken t u w b kept token a lose after bytes whole e s y x = settles_unsent t u w b kept token a lose after e (subst (λ (z : List ℕ × Bool). SendsAll t u (spelling (record { token = token; body = z.0 })) z.1) (λ i. (s i, y i)) x)

  -- ---- the want of memory
  pub leads_want : (t : Tape) (w : AtWork) (b : Books) (task : Task PL) → Leads k t t w w (at b task) (wanted b task)
  leads_want t w b task m back =
      runs_quiet k t t w (goes_on m back (at b task)) (goes_on m back (wanted b task)) 0
      (goes_said k t t (place_at w (goes_on m back (at b task))) (place_at w (goes_on m back (wanted b task))) [] (does_want k (place_at w (goes_on m back (at b task))) back task refl) (same_moves t))

  pub settles_want : (t u : Tape) (w v : AtWork) (b : Books) (task : Task PL) (end : Option End) → Settles k t u w v (wanted b task) end → Settles k t u w v (at b task) end
  settles_want t u w v b task end s = settles_on t t u w w v (at b task) (wanted b task) end (leads_want t w b task) s

  pub settles_wanted : (t u : Tape) (w : AtWork) (token : ℕ) (a : Answer) (end : Option End) → Settles k t u w w (only_tell w.books token Internal) end → Settles k t u w w (only_tell w.books token a) end
  settles_wanted t u w token a end s = settles_on t t u w w w (only_tell w.books token a) (only_tell w.books token Internal) end (leads_want t w w.books (Telling token a w.books None None)) s

  -- ---- a course comes to its end
  pub leads_come : (t : Tape) (w : AtWork) (b : Books) (token : ℕ) (c : Course PL) (arms : List Arm) (to : Answered) → next_of k c ≡ Ends to → Leads k t t w w (on_course b token c arms) (comes_to k b token (batch_size k c.plan) c.found arms to)
  leads_come t w b token c arms to e m back =
      runs_quiet k t t w (goes_on m back (on_course b token c arms)) (goes_on m back (comes_to k b token (batch_size k c.plan) c.found arms to)) 0
      (goes_said k t t (place_at w (goes_on m back (on_course b token c arms))) (place_at w (goes_on m back (comes_to k b token (batch_size k c.plan) c.found arms to))) []
      (does_step k (place_at w (goes_on m back (on_course b token c arms))) (goes_on m back (comes_to k b token (batch_size k c.plan) c.found arms to)) Come [] (record { bytes = refl; idle = refl; turn = refl; still = refl; clock = refl; dice = refl; apart = record { slot = λ s. refl; name = refl; honest = λ s. tt } })
      (λ out. record { back = back; token = token; plan = c.plan; noreply = c.noreply; count = c.count; found = c.found; arms = arms; doing = refl; to = to; ends = e; goes = ap (λ o. with_out o (goes_on m back (comes_to k b token (batch_size k c.plan) c.found arms to))) (append-nil out) }))
      (same_moves t))

  -- ---- moves at the desk, and of a course
  pub leads_steps : (some : State) (t : Tape) (p q : AtDesk) (a b : Books) (clock : Source ℤ) (dice : Source (List ℕ)) (x y : Next PL) → Steps k some p q x y → Leads k t t (working some p a clock dice) (working some q b clock dice) x y
  leads_steps some t p q a b clock dice x y s m back = record {
    moments = [];
    rolls = [];
    goes = goes_said k t t (at_desk some p (goes_on m back x)) (at_desk some q (goes_on m back y)) [] (s m back) (same_moves t);
    clock = gave_nothing clock;
    dice = gave_nothing dice;
  }

  pub leads_walks : (some : State) (t : Tape) (v w : Tools) (a b : Books) (x y : Next PL) → Walks k some v w x y → Leads k t t (working some v.desk a v.clock v.dice) (working some w.desk b w.clock w.dice) x y
  leads_walks some t v w a b x y s m back = record { moments = (s t m back).moments; rolls = (s t m back).rolls; goes = (s t m back).goes; clock = (s t m back).clock; dice = (s t m back).dice }

  -- arms were closed, and then an answer is told, or none
  pub settles_closed : (some : State) (t u : Tape) (p q : AtDesk) (a b : Books) (clock : Source ℤ) (dice : Source (List ℕ)) (x : Next PL) (y : Books → Next PL) (end : Option End) → Steps k some p q x (y b) →
      ((w : AtWork) → Settles k t u w w (y w.books) end) → Settles k t u (working some p a clock dice) (working some q b clock dice) x end
  settles_closed some t u p q a b clock dice x y end s f =
      settles_on t t u (working some p a clock dice) (working some q b clock dice) (working some q b clock dice) x (y b) end (leads_steps some t p q a b clock dice x (y b) s) (f (working some q b clock dice))

  -- whether an answer is wanted
  pub said_or_not : (t u : Tape) (w v : AtWork) (x : Option Answer → Next PL) (noreply b : Bool) (end : Option End) → b ≡ noreply → Settles k t u w v (x (cond b None (Some Internal))) end → Settles k t u w v (x (cond noreply None (Some Internal))) end
  said_or_not t u w v x noreply b end e s = subst (λ z. Settles k t u w v (x (cond z None (Some Internal))) end) e s
