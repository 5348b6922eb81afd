-- Single steps of a session, one lemma an event.
use Rattle.std.proofs.Common.{length, ◌≡◌, ◌<◌, inl, inr, ℕ, ℤ, Bool, true, false, cond, ◌||◌, List, [], ◌∷◌, ◌++◌, Option, Some, None, refl, sym, ap, subst, arith, append-nil}
use Rattle.std.specs.Prelude.{nat_eq}
use Rattle.std.proofs.lemmas.Bool.Decides.{eqb_tells}
use Rattle.reql_wire.specs.Frames.{Over, Fits, spelling}
use Rattle.reql_wire.specs.Greeting.{Greets, accepted, refusal}
use Rattle.reql_wire.specs.declared.frame.Frame.{Frame}
use Rattle.reql_wire.specs.declared.greeter.GreetFault.{GreetFault}
use Rattle.reql_wire.specs.declared.greeter.GreetFault.TheVariants as fault
use Rattle.reql_wire.specs.declared.greeter.Greeting.TheVariants as greeting
use Rattle.reql_scram.specs.declared.fault.LoginFault.{LoginFault}
use Rattle.reql_login.specs.Turns.{Gate, after_roll}
use Rattle.reql_login.specs.Turns as gates
use Rattle.reql_outside.specs.Tape.{Tape, Moves, recv_failed, send_failed, SendsAll}
use Rattle.reql_outside.proofs.Moving.{still}
use Rattle.reql_shared.specs.Sight.{Sight}
use Rattle.reql_shared.specs.Acts.{Act, Acts}
use Rattle.reql_shared.specs.Plays.{Plays}
use Rattle.reql_shared.specs.declared.engine.Snap.{Snap}
use Rattle.reql_shared.proofs.Playing.{act_plays, none_plays}
use Rattle.reql_catalog.specs.Catalog.{Named}
use Rattle.reql_catalog.specs.Machine.{catalogue_machine}
use Rattle.reql_catalog.specs.declared.command.CatCmd.{CatCmd}
use Rattle.reql_catalog.specs.declared.command.CatReply.{CatReply}
use Rattle.reql_table_spec.specs.Machine.{State, Seen, machine}
use Rattle.reql_table_spec.specs.Replies.{Answered as Told}
use Rattle.reql_table_spec.specs.declared.command.Order.{Order}
use Rattle.reql_table_spec.specs.declared.reply.Saved.{Saved}
use Rattle.reql_session_spec.specs.Requests.{TellTime, Clocked, Roll, Rolled, Arm, Answer}
use Rattle.reql_session_spec.specs.Books.{Books, all_arms}
use Rattle.reql_session_spec.specs.Tasks.{found_more, Asks, Talk, Task, Telling, told, visit, takes_up, wanted}
use Rattle.reql_session_spec.specs.Logins.{Waiting, At, Admitted, InLogin}
use Rattle.reql_session_spec.specs.Session.{Greeted, Login, Cast, Clock, Dice, greets_back, turns_away, lets_on, lets_in, LoginStep, Event, Turn, Visit, Begin, Heard, Quiet, Finish, Broken, Long, Lost, Wear, Poor, On, OnNames, Say, Want, Rest, Visits, Busy, Leaving, Mach, goes_on, leaves, end_of, spoken, IsPiece, Unread, MayStarve, Step, heard, idles, turns, over, clocked, rolled, acts_on, acts_on_names}
use Rattle.reql_session_spec.specs.Explained.{IsHonest}
use Rattle.reql_session_spec.specs.Worlds.{OnSlot, Place, sound_at, with_out, faulted, DeskPlays, Does, Goes, Why, Ended}
use Rattle.reql_session_spec.specs.declared.end.End.{End}
use Rattle.reql_session_spec.specs.declared.end.End.TheVariants as ends

pub same_moves : (t : Tape) → Moves t t [] [] 0 t.over
same_moves t = record { given = still t.given; sent = still t.sent; idle = refl; ended = refl; faults_in = refl; faults_out = refl }

-- an event that is not of the desk
pub record IsApart (e : Event) : Type 0 where
  pub slot : (s : ℕ) → acts_on s (e ∷ []) ≡ []
  pub name : acts_on_names (e ∷ []) ≡ []
  pub honest : (sound : ℕ → Bool) → IsHonest sound e

-- An event that is neither of the desk nor of the link, the clock or the dice: a visit begins, a frame is taken, a plan comes
-- to its end, memory is wanted, or an answer is to be said.
pub record IsInner (e : Event) : Type 0 where
  pub bytes : heard (e ∷ []) ≡ []
  pub idle : idles (e ∷ []) ≡ 0
  pub turn : turns (e ∷ []) ≡ 0
  pub still : over (e ∷ []) ≡ false
  pub clock : clocked (e ∷ []) ≡ []
  pub dice : rolled (e ∷ []) ≡ []
  pub apart : IsApart e

on_each : (p r : ℕ → Sight Order State) (slot : ℕ) (act : Act Order Told Snap Seen) → OnSlot p r slot act → (t : ℕ) → Plays machine (p t) (r t) (cond (nat_eq slot t) (act ∷ []) [] ++ [])
on_each p r slot act o t = elim (eqb_tells slot t) [
  | inl h ↦ subst (λ b. Plays machine (p t) (r t) (cond b (act ∷ []) [] ++ [])) (sym h.0) (subst (λ s. Plays machine (p s) (r s) (act ∷ [])) h.1 (act_plays machine (p slot) (r slot) act o.0))
  | inr h ↦ subst (λ b. Plays machine (p t) (r t) (cond b (act ∷ []) [] ++ [])) (sym h.0) (subst (λ z. Plays machine (p t) z []) (sym (o.1 t (λ e. h.1 (sym e)))) (none_plays machine (p t)))
]

module _ {PL : Type 0} where
  abbrev pub moved : Place PL → Mach PL → Place PL
  moved x m = record x { now = m }

  plays_none : (x : Place PL) (m : Mach PL) (e : Event) → IsApart e → DeskPlays x (moved x m) (e ∷ [])
  plays_none x m e a = record {
    slots = λ slot. subst (Plays machine (x.slots slot) (x.slots slot)) (sym (a.slot slot)) (none_plays machine (x.slots slot));
    names = subst (Plays catalogue_machine x.names x.names) (sym a.name) (none_plays catalogue_machine x.names);
    honest = (a.honest (sound_at x), tt);
  }

module _ {PL : Type 0} (k : Talk PL) where
  pub does_none : (x : Place PL) → Does k x x []
  does_none x = record {
    events = [];
    bytes = refl;
    idle = refl;
    turn = refl;
    still = refl;
    clock = refl;
    dice = refl;
    run = λ out. ap (λ o. with_out o x.now) (append-nil out);
    plays = record { slots = λ slot. none_plays machine (x.slots slot); names = none_plays catalogue_machine x.names; honest = tt };
  }

  pub does_step : (x : Place PL) (n : Mach PL) (e : Event) (said : List ℕ) → IsInner e → ((out : List ℕ) → Step k (with_out out x.now) e (with_out (out ++ said) n)) → Does k x (moved x n) said
  does_step x n e said i f = record {
    events = e ∷ [];
    bytes = i.bytes;
    idle = i.idle;
    turn = i.turn;
    still = i.still;
    clock = i.clock;
    dice = i.dice;
    run = λ out. (with_out (out ++ said) n, f out, refl);
    plays = plays_none x n e i.apart;
  }

  pub does_act : (x y : Place PL) (slot : ℕ) (act : Act Order Told Snap Seen) (saved : Saved) → OnSlot x.slots y.slots slot act → y.names ≡ x.names → IsHonest (sound_at x) (On slot act saved) → ((out : List ℕ) → Step k (with_out out x.now) (On slot act saved) (with_out out y.now)) → Does k x y []
  does_act x y slot act saved o e h f = record {
    events = On slot act saved ∷ [];
    bytes = refl;
    idle = refl;
    turn = refl;
    still = refl;
    clock = refl;
    dice = refl;
    run = λ out. (with_out out y.now, f out, ap (λ o. with_out o y.now) (append-nil out));
    plays = record { slots = on_each x.slots y.slots slot act o; names = subst (λ z. Plays catalogue_machine x.names z []) (sym e) (none_plays catalogue_machine x.names); honest = (h, tt) };
  }

  pub does_names : (x y : Place PL) (act : Act CatCmd CatReply Snap Named) → Acts catalogue_machine x.names y.names act → y.slots ≡ x.slots → ((out : List ℕ) → Step k (with_out out x.now) (OnNames act) (with_out out y.now)) → Does k x y []
  does_names x y act o e f = record {
    events = OnNames act ∷ [];
    bytes = refl;
    idle = refl;
    turn = refl;
    still = refl;
    clock = refl;
    dice = refl;
    run = λ out. (with_out out y.now, f out, ap (λ o. with_out o y.now) (append-nil out));
    plays = record { slots = λ slot. subst (λ (z : ℕ → Sight Order State). Plays machine (x.slots slot) (z slot) []) (sym e) (none_plays machine (x.slots slot)); names = act_plays catalogue_machine x.names y.names act o; honest = (tt, tt) };
  }

  -- an event of the link
  pub goes_step : (t u : Tape) (x : Place PL) (n : Mach PL) (e : Event) (count : ℕ) → Moves t u (heard (e ∷ [])) [] (idles (e ∷ [])) t.over → over (e ∷ []) ≡ false → clocked (e ∷ []) ≡ [] → rolled (e ∷ []) ≡ [] → turns (e ∷ []) ≡ count → IsApart e →
      ((out : List ℕ) → Step k (with_out out x.now) e (with_out out n)) → Goes k t u x (moved x n) [] [] count
  goes_step t u x n e count m o c d r a f = record {
    events = e ∷ [];
    said = [];
    run = λ out. (with_out out n, f out, ap (λ o. with_out o n) (append-nil out));
    moves = m;
    still = o;
    clock = c;
    dice = d;
    plays = plays_none x n e a;
    count = r;
  }

  pub goes_turn : (t : Tape) (x : Place PL) → x.now.doing ≡ Rest → Goes k t t x (moved x (record x.now { books = record x.now.books { waiting = [] }; doing = Visits x.now.books.waiting })) [] [] 1
  goes_turn t x e = goes_step t t x _ Turn 1 (same_moves t) refl refl refl refl (record { slot = λ s. refl; name = refl; honest = λ s. tt }) (λ out. (e, refl))

  pub does_visit : (x : Place PL) (token : ℕ) (left : List ℕ) → x.now.doing ≡ Visits (token ∷ left) → Does k x (moved x (goes_on x.now (Some left) (visit k x.now.books token))) []
  does_visit x token left e = does_step x _ Visit [] (record { bytes = refl; idle = refl; turn = refl; still = refl; clock = refl; dice = refl; apart = record { slot = λ s. refl; name = refl; honest = λ s. tt } })
      (λ out. (token, left, e, ap (λ o. with_out o (goes_on x.now (Some left) (visit k x.now.books token))) (append-nil out)))

  pub does_begin : (x : Place PL) (frame : Frame) (is_read : Bool) (rest : List ℕ) → x.now.doing ≡ Visits [] → x.now.greeted ≡ Admitted → Fits k.limits.frame frame → x.now.held ≡ spelling frame ++ rest →
      Does k x (moved x (goes_on (record x.now { held = rest }) None (takes_up k x.now.books frame.token frame.body is_read))) []
  does_begin x frame is_read rest e g f h = does_step x _ (Begin frame is_read) [] (record { bytes = refl; idle = refl; turn = refl; still = refl; clock = refl; dice = refl; apart = record { slot = λ s. refl; name = refl; honest = λ s. tt } })
      (λ out. (rest, e, g, f, h, ap (λ o. with_out o (goes_on (record x.now { held = rest }) None (takes_up k x.now.books frame.token frame.body is_read))) (append-nil out)))

  pub does_say : (x : Place PL) (back : Option (List ℕ)) (token : ℕ) (a : Answer) (kept : Books) (lose after : Option (List Arm)) → x.now.doing ≡ Busy back (Telling token a kept lose after) →
      Does k x (moved x (goes_on x.now back (told token kept after))) (spoken token a)
  does_say x back token a kept lose after e = does_step x _ (Say token a true) (spoken token a) (record { bytes = refl; idle = refl; turn = refl; still = refl; clock = refl; dice = refl; apart = record { slot = λ s. refl; name = refl; honest = λ s. tt } })
      (λ out. record { back = back; kept = kept; lose = lose; after = after; front = spoken token a; doing = e; sent = refl; goes = refl })

  pub does_want : (x : Place PL) (back : Option (List ℕ)) (task : Task PL) → x.now.doing ≡ Busy back task → Does k x (moved x (goes_on x.now back (wanted x.now.books task))) []
  does_want x back task e = does_step x _ Want [] (record { bytes = refl; idle = refl; turn = refl; still = refl; clock = refl; dice = refl; apart = record { slot = λ s. refl; name = refl; honest = λ s. tt } })
      (λ out. record { back = back; task = task; doing = e; goes = ap (λ o. with_out o (goes_on x.now back (wanted x.now.books task))) (append-nil out) })

  pub goes_heard : (t u : Tape) (x : Place PL) (bytes : List ℕ) → x.now.doing ≡ Visits [] → Unread k x.now.greeted x.now.held → IsPiece bytes → Moves t u bytes [] 0 t.over → Goes k t u x (moved x (record x.now { held = x.now.held ++ bytes; doing = Rest })) [] [] 0
  goes_heard t u x bytes e r p m = goes_step t u x _ (Heard bytes) 0 (subst (λ z. Moves t u z [] 0 t.over) (sym (append-nil bytes)) m) refl refl refl refl (record { slot = λ s. refl; name = refl; honest = λ s. tt }) (λ out. ((e, r), p, refl))

  pub goes_idle : (t u : Tape) (x : Place PL) → x.now.doing ≡ Visits [] → Unread k x.now.greeted x.now.held → Moves t u [] [] 1 t.over → Goes k t u x (moved x (record x.now { doing = Rest })) [] [] 0
  goes_idle t u x e r m = goes_step t u x _ Quiet 0 m refl refl refl refl (record { slot = λ s. refl; name = refl; honest = λ s. tt }) (λ out. ((e, r), refl))

  -- an end, where nothing is said
  ends_step : (t u : Tape) (x : Place PL) (n : Mach PL) (e : Event) (end : End) (arms : List Arm) → Moves (faulted end t) u (heard (e ∷ [])) [] (idles (e ∷ [])) u.over → u.over ≡ (over (e ∷ []) || t.over) → clocked (e ∷ []) ≡ [] → rolled (e ∷ []) ≡ [] → turns (e ∷ []) ≡ 0 → IsApart e →
      n.doing ≡ Leaving arms end → Why k end n.greeted n.held u.over → ((out : List ℕ) → Step k (with_out out x.now) e (with_out out n)) → Ended k t u x (moved x n) [] [] end arms 0
  ends_step t u x n e end arms m o c d r a l w f = record {
    events = e ∷ [];
    said = [];
    run = λ out. (with_out out n, f out, ap (λ o. with_out o n) (append-nil out));
    left = l;
    moves = m;
    still = o;
    clock = c;
    dice = d;
    why = w;
    plays = plays_none x n e a;
    count = r;
  }

  pub ends_closed : (t u : Tape) (x : Place PL) → x.now.doing ≡ Visits [] → Unread k x.now.greeted x.now.held → x.now.held ≡ [] → Moves t u [] [] 0 true → Ended k t u x (moved x (leaves x.now x.now.books (end_of x.now.held))) [] [] ends.Closed (all_arms x.now.books) 0
  ends_closed t u x e r h m = ends_step t u x _ Finish ends.Closed (all_arms x.now.books) (subst (λ o. Moves t u [] [] 0 o) (sym m.ended) m) m.ended refl refl refl (record { slot = λ s. refl; name = refl; honest = λ s. tt }) (ap (λ z. Leaving (all_arms x.now.books) (end_of z)) h) (m.ended, h) (λ out. ((e, r), refl))

  pub ends_cut : (t u : Tape) (x : Place PL) (b : ℕ) (bs : List ℕ) → x.now.doing ≡ Visits [] → Unread k x.now.greeted x.now.held → x.now.held ≡ b ∷ bs → Moves t u [] [] 0 true → Ended k t u x (moved x (leaves x.now x.now.books (end_of x.now.held))) [] [] (ends.Cut (length (b ∷ bs))) (all_arms x.now.books) 0
  ends_cut t u x b bs e r h m = ends_step t u x (leaves x.now x.now.books (end_of x.now.held)) Finish (ends.Cut (length (b ∷ bs))) (all_arms x.now.books) (subst (λ o. Moves t u [] [] 0 o) (sym m.ended) m) m.ended refl refl refl (record { slot = λ s. refl; name = refl; honest = λ s. tt })
      (ap (λ z. Leaving (all_arms x.now.books) (end_of z)) h) (m.ended, sym (ap length h), omega arith) (λ out. ((e, r), refl))

  pub ends_broken : (t u : Tape) (x : Place PL) → x.now.doing ≡ Visits [] → Unread k x.now.greeted x.now.held → Moves (recv_failed t) u [] [] 0 t.over → Ended k t u x (moved x (leaves x.now x.now.books ends.ReadFault)) [] [] ends.ReadFault (all_arms x.now.books) 0
  ends_broken t u x e r m = ends_step t u x _ Broken ends.ReadFault (all_arms x.now.books) (subst (λ o. Moves (recv_failed t) u [] [] 0 o) (sym m.ended) m) m.ended refl refl refl (record { slot = λ s. refl; name = refl; honest = λ s. tt }) refl tt (λ out. ((e, r), refl))

  pub ends_worn : (t : Tape) (x : Place PL) → x.now.doing ≡ Rest → Ended k t t x (moved x (leaves x.now x.now.books ends.Worn)) [] [] ends.Worn (all_arms x.now.books) 0
  ends_worn t x e = ends_step t t x _ Wear ends.Worn (all_arms x.now.books) (same_moves t) refl refl refl refl (record { slot = λ s. refl; name = refl; honest = λ s. tt }) refl tt (λ out. (e, refl))

  pub ends_lost : (t u : Tape) (x : Place PL) (bytes : List ℕ) → x.now.doing ≡ Visits [] → Unread k x.now.greeted x.now.held → IsPiece bytes → Moves t u bytes [] 0 t.over → Ended k t u x (moved x (leaves (record x.now { held = x.now.held ++ bytes }) x.now.books ends.Memory)) [] [] ends.Memory (all_arms x.now.books) 0
  ends_lost t u x bytes e r p m = ends_step t u x (leaves (record x.now { held = x.now.held ++ bytes }) x.now.books ends.Memory) (Lost bytes) ends.Memory (all_arms x.now.books) (subst (λ z. Moves t u z [] 0 u.over) (sym (append-nil bytes)) (subst (λ o. Moves t u bytes [] 0 o) (sym m.ended) m)) m.ended refl refl refl
      (record { slot = λ s. refl; name = refl; honest = λ s. tt }) refl tt (λ out. ((e, r), p, refl))

  pub ends_long : (t : Tape) (x : Place PL) (len : ℕ) → x.now.doing ≡ Visits [] → x.now.greeted ≡ Admitted → Over k.limits.frame x.now.held len → Ended k t t x (moved x (leaves x.now x.now.books (ends.TooLong len))) [] [] (ends.TooLong len) (all_arms x.now.books) 0
  ends_long t x len e g o = ends_step t t x (leaves x.now x.now.books (ends.TooLong len)) (Long len) (ends.TooLong len) (all_arms x.now.books) (same_moves t) refl refl refl refl (record { slot = λ s. refl; name = refl; honest = λ s. tt }) refl o (λ out. (e, g, o, refl))

  pub ends_poor : (t : Tape) (x : Place PL) → MayStarve k x.now → Ended k t t x (moved x (leaves x.now x.now.books ends.Memory)) [] [] ends.Memory (all_arms x.now.books) 0
  ends_poor t x e = ends_step t t x (leaves x.now x.now.books ends.Memory) Poor ends.Memory (all_arms x.now.books) (same_moves t) refl refl refl refl (record { slot = λ s. refl; name = refl; honest = λ s. tt }) refl tt (λ out. (e, refl))

  -- an answer that went out in part
  pub ends_unsent : (t u : Tape) (x : Place PL) (back : Option (List ℕ)) (token : ℕ) (a : Answer) (kept : Books) (lose after : Option (List Arm)) → x.now.doing ≡ Busy back (Telling token a kept lose after) → SendsAll t u (spoken token a) false →
      Ended k t u x (moved x (leaves x.now kept ends.WriteFault)) [] [] ends.WriteFault (all_arms kept) 0
  ends_unsent t u x back token a kept lose after e s = record {
    events = Say token a false ∷ [];
    said = s.0;
    run = λ out. (with_out (out ++ s.0) (leaves x.now kept ends.WriteFault), record { back = back; kept = kept; lose = lose; after = after; front = s.0; doing = e; sent = (s.1, s.2, s.3); goes = refl }, refl);
    left = refl;
    moves = subst (λ o. Moves (send_failed t) u [] s.0 0 o) (sym s.4.ended) s.4;
    still = s.4.ended;
    clock = refl;
    dice = refl;
    why = tt;
    plays = plays_none x (leaves x.now kept ends.WriteFault) (Say token a false) (record { slot = λ s. refl; name = refl; honest = λ s. tt });
    count = refl;
  }

  -- ---- the greeting
  pub does_greeted : (x : Place PL) (used : ℕ) → x.now.doing ≡ Visits [] → x.now.greeted ≡ Waiting → Greets k.key x.now.held (greeting.Accepted used) → Does k x (moved x (greets_back x.now used true)) accepted
  does_greeted x used e g h = does_step x (greets_back x.now used true) (Greeted true) accepted (record { bytes = refl; idle = refl; turn = refl; still = refl; clock = refl; dice = refl; apart = record { slot = λ s. refl; name = refl; honest = λ s. tt } })
      (λ out. (e, g, inl (used, h, accepted, refl, refl)))

  -- it is refused, and that was told
  pub ends_refused : (t u : Tape) (x : Place PL) (why : GreetFault) → x.now.doing ≡ Visits [] → x.now.greeted ≡ Waiting → Greets k.key x.now.held (greeting.Refused why) → Moves t u [] (refusal why) 0 t.over →
      Ended k t u x (moved x (turns_away x.now why true)) [] [] (ends.Refused why) [] 0
  ends_refused t u x why e g h m = record {
    events = Greeted true ∷ [];
    said = refusal why;
    run = λ out. (with_out (out ++ refusal why) (turns_away x.now why true), (e, g, inr (why, h, refusal why, refl, refl)), refl);
    left = refl;
    moves = subst (λ o. Moves t u [] (refusal why) 0 o) (sym m.ended) m;
    still = m.ended;
    clock = refl;
    dice = refl;
    why = inl (g, h);
    plays = plays_none x (turns_away x.now why true) (Greeted true) (record { slot = λ s. refl; name = refl; honest = λ s. tt });
    count = refl;
  }

  -- the answer to it went out in part
  pub ends_ungreeted : (t u : Tape) (x : Place PL) (used : ℕ) → x.now.doing ≡ Visits [] → x.now.greeted ≡ Waiting → Greets k.key x.now.held (greeting.Accepted used) → SendsAll t u accepted false →
      Ended k t u x (moved x (greets_back x.now used false)) [] [] ends.WriteFault [] 0
  ends_ungreeted t u x used e g h s = record {
    events = Greeted false ∷ [];
    said = s.0;
    run = λ out. (with_out (out ++ s.0) (greets_back x.now used false), (e, g, inl (used, h, s.0, (s.1, s.2, s.3), refl)), refl);
    left = refl;
    moves = subst (λ o. Moves (send_failed t) u [] s.0 0 o) (sym s.4.ended) s.4;
    still = s.4.ended;
    clock = refl;
    dice = refl;
    why = tt;
    plays = plays_none x (greets_back x.now used false) (Greeted false) (record { slot = λ s. refl; name = refl; honest = λ s. tt });
    count = refl;
  }

  pub ends_unrefused : (t u : Tape) (x : Place PL) (why : GreetFault) → x.now.doing ≡ Visits [] → x.now.greeted ≡ Waiting → Greets k.key x.now.held (greeting.Refused why) → SendsAll t u (refusal why) false →
      Ended k t u x (moved x (turns_away x.now why false)) [] [] ends.WriteFault [] 0
  ends_unrefused t u x why e g h s = record {
    events = Greeted false ∷ [];
    said = s.0;
    run = λ out. (with_out (out ++ s.0) (turns_away x.now why false), (e, g, inr (why, h, s.0, (s.1, s.2, s.3), refl)), refl);
    left = refl;
    moves = subst (λ o. Moves (send_failed t) u [] s.0 0 o) (sym s.4.ended) s.4;
    still = s.4.ended;
    clock = refl;
    dice = refl;
    why = tt;
    plays = plays_none x (turns_away x.now why false) (Greeted false) (record { slot = λ s. refl; name = refl; honest = λ s. tt });
    count = refl;
  }

  -- ---- a login: a roll, a message that was sent whole, a refusal that was told, and what was sent in part alone
  pub goes_cast : (t : Tape) (x : Place PL) (bytes : Option (List ℕ)) → x.now.doing ≡ Visits [] → (l : InLogin k x.now.greeted x.now.held gates.Rolls) →
      Goes k t t x (moved x (record x.now { greeted = At (after_roll l.gate bytes); doing = Visits [] })) [] (bytes ∷ []) 0
  goes_cast t x bytes e l = record {
    events = Cast bytes ∷ [];
    said = [];
    run = λ out. (
      with_out out (record x.now { greeted = At (after_roll l.gate bytes); doing = Visits [] }),
      (e, l, refl),
      ap (λ o. with_out o (record x.now { greeted = At (after_roll l.gate bytes); doing = Visits [] })) (append-nil out),
    );
    moves = same_moves t;
    still = refl;
    clock = refl;
    dice = refl;
    plays = plays_none x (record x.now { greeted = At (after_roll l.gate bytes); doing = Visits [] }) (Cast bytes) (record { slot = λ s. refl; name = refl; honest = λ s. tt });
    count = refl;
  }

  pub does_lets_on : (x : Place PL) (bytes rest : List ℕ) (next : Gate) → x.now.doing ≡ Visits [] → InLogin k x.now.greeted x.now.held (gates.Says bytes rest next) →
      Does k x (moved x (lets_on x.now rest next true)) bytes
  does_lets_on x bytes rest next e l = does_step x (lets_on x.now rest next true) (Login true) bytes (record { bytes = refl; idle = refl; turn = refl; still = refl; clock = refl; dice = refl; apart = record { slot = λ s. refl; name = refl; honest = λ s. tt } })
      (λ out. (e, bytes, inl (bytes, rest, next, l, refl, refl)))

  pub does_lets_in : (x : Place PL) (bytes rest : List ℕ) → x.now.doing ≡ Visits [] → InLogin k x.now.greeted x.now.held (gates.Admits bytes rest) →
      Does k x (moved x (lets_in x.now rest true)) bytes
  does_lets_in x bytes rest e l = does_step x (lets_in x.now rest true) (Login true) bytes (record { bytes = refl; idle = refl; turn = refl; still = refl; clock = refl; dice = refl; apart = record { slot = λ s. refl; name = refl; honest = λ s. tt } })
      (λ out. (e, bytes, inr (inl (bytes, rest, l, refl, refl))))

  pub ends_denied : (t u : Tape) (x : Place PL) (why : LoginFault) → x.now.doing ≡ Visits [] → InLogin k x.now.greeted x.now.held (gates.Refuses why) → Moves t u [] (refusal (fault.Login why)) 0 t.over →
      Ended k t u x (moved x (turns_away x.now (fault.Login why) true)) [] [] (ends.Refused (fault.Login why)) [] 0
  ends_denied t u x why e l m = record {
    events = Login true ∷ [];
    said = refusal (fault.Login why);
    run = λ out. (with_out (out ++ refusal (fault.Login why)) (turns_away x.now (fault.Login why) true), (e, refusal (fault.Login why), inr (inr (why, l, refl, refl))), refl);
    left = refl;
    moves = subst (λ o. Moves t u [] (refusal (fault.Login why)) 0 o) (sym m.ended) m;
    still = m.ended;
    clock = refl;
    dice = refl;
    why = inr (why, refl, l);
    plays = plays_none x (turns_away x.now (fault.Login why) true) (Login true) (record { slot = λ s. refl; name = refl; honest = λ s. tt });
    count = refl;
  }

  -- whatever was to be sent, a message, the last one or a refusal
  ends_unsaid : (t u : Tape) (x : Place PL) (piece : List ℕ) → SendsAll t u piece false
      → ((out front back : List ℕ) → piece ≡ front ++ back → 0 < length back → Step k (with_out out x.now) (Login false) (with_out (out ++ front) (record x.now { doing = Leaving [] ends.WriteFault })))
      → Ended k t u x (moved x (record x.now { doing = Leaving [] ends.WriteFault })) [] [] ends.WriteFault [] 0
  ends_unsaid t u x piece s f = record {
    events = Login false ∷ [];
    said = s.0;
    run = λ out. (with_out (out ++ s.0) (record x.now { doing = Leaving [] ends.WriteFault }), f out s.0 s.1 s.2 s.3, refl);
    left = refl;
    moves = subst (λ o. Moves (send_failed t) u [] s.0 0 o) (sym s.4.ended) s.4;
    still = s.4.ended;
    clock = refl;
    dice = refl;
    why = tt;
    plays = plays_none x (record x.now { doing = Leaving [] ends.WriteFault }) (Login false) (record { slot = λ s. refl; name = refl; honest = λ s. tt });
    count = refl;
  }

  pub ends_unlet_on : (t u : Tape) (x : Place PL) (bytes rest : List ℕ) (next : Gate) → x.now.doing ≡ Visits [] → InLogin k x.now.greeted x.now.held (gates.Says bytes rest next) → SendsAll t u bytes false →
      Ended k t u x (moved x (lets_on x.now rest next false)) [] [] ends.WriteFault [] 0
  ends_unlet_on t u x bytes rest next e l s = ends_unsaid t u x bytes s (λ out front back a b. (e, front, inl (bytes, rest, next, l, (back, a, b), refl)))

  pub ends_unlet_in : (t u : Tape) (x : Place PL) (bytes rest : List ℕ) → x.now.doing ≡ Visits [] → InLogin k x.now.greeted x.now.held (gates.Admits bytes rest) → SendsAll t u bytes false →
      Ended k t u x (moved x (lets_in x.now rest false)) [] [] ends.WriteFault [] 0
  ends_unlet_in t u x bytes rest e l s = ends_unsaid t u x bytes s (λ out front back a b. (e, front, inr (inl (bytes, rest, l, (back, a, b), refl))))

  pub ends_undenied : (t u : Tape) (x : Place PL) (why : LoginFault) → x.now.doing ≡ Visits [] → InLogin k x.now.greeted x.now.held (gates.Refuses why) → SendsAll t u (refusal (fault.Login why)) false →
      Ended k t u x (moved x (turns_away x.now (fault.Login why) false)) [] [] ends.WriteFault [] 0
  ends_undenied t u x why e l s = ends_unsaid t u x (refusal (fault.Login why)) s (λ out front back a b. (e, front, inr (inr (why, l, (back, a, b), refl))))

  -- ---- the clock and the dice
  pub goes_clocked : (t : Tape) (x : Place PL) (back : Option (List ℕ)) (task : Task PL) (moment : Option ℤ) → x.now.doing ≡ Busy back task → Asks k task TellTime →
      Goes k t t x (moved x (goes_on x.now back (found_more k x.now.books task (Clocked moment)))) (moment ∷ []) [] 0
  goes_clocked t x back task moment e a = record {
    events = Clock moment ∷ [];
    said = [];
    run = λ out. (
      with_out out (goes_on x.now back (found_more k x.now.books task (Clocked moment))),
      record { back = back; task = task; doing = e; asks = a; goes = refl },
      ap (λ o. with_out o (goes_on x.now back (found_more k x.now.books task (Clocked moment)))) (append-nil out),
    );
    moves = same_moves t;
    still = refl;
    clock = refl;
    dice = refl;
    plays = plays_none x (goes_on x.now back (found_more k x.now.books task (Clocked moment))) (Clock moment) (record { slot = λ s. refl; name = refl; honest = λ s. tt });
    count = refl;
  }

  pub goes_rolled : (t : Tape) (x : Place PL) (back : Option (List ℕ)) (task : Task PL) (bytes : Option (List ℕ)) → x.now.doing ≡ Busy back task → Asks k task Roll →
      Goes k t t x (moved x (goes_on x.now back (found_more k x.now.books task (Rolled bytes)))) [] (bytes ∷ []) 0
  goes_rolled t x back task bytes e a = record {
    events = Dice bytes ∷ [];
    said = [];
    run = λ out. (
      with_out out (goes_on x.now back (found_more k x.now.books task (Rolled bytes))),
      record { back = back; task = task; doing = e; asks = a; goes = refl },
      ap (λ o. with_out o (goes_on x.now back (found_more k x.now.books task (Rolled bytes)))) (append-nil out),
    );
    moves = same_moves t;
    still = refl;
    clock = refl;
    dice = refl;
    plays = plays_none x (goes_on x.now back (found_more k x.now.books task (Rolled bytes))) (Dice bytes) (record { slot = λ s. refl; name = refl; honest = λ s. tt });
    count = refl;
  }
