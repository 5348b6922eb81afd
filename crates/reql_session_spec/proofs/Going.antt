-- What functions of a session did, one after another.
use Rattle.std.proofs.Common.{◌≡◌, ℕ, ℤ, ◌+◌, Bool, true, false, ◌||◌, List, [], ◌∷◌, ◌++◌, Option, Some, None, refl, sym, ap, subst, ◌∙◌, arith, append_assoc, append-nil, zero-add}
use Rattle.std.proofs.lemmas.Grind.{flat_map-append}
use Rattle.reql_outside.specs.Tape.{Tape, Moves, grown, counted, IsBlank, IsFresh}
use Rattle.reql_outside.proofs.Moving.{moves_on, moves_next, recv_failed_first, send_failed_first}
use Rattle.reql_shared.specs.Plays.{Plays}
use Rattle.reql_shared.specs.Sight.{Object}
use Rattle.reql_shared.proofs.Playing.{plays_append, plays_part}
use Rattle.reql_catalog.specs.Machine.{catalogue_machine}
use Rattle.reql_hall.proofs.Joining.{plays_grew}
use Rattle.reql_table_spec.specs.Machine.{State, machine}
use Rattle.reql_table_spec.specs.declared.reply.Saved.TheVariants as saved
use Rattle.reql_shared.specs.Acts.{Ran}
use Rattle.reql_table_machine_spec.proofs.Items.{all_append}
use Rattle.reql_session_spec.specs.Requests.{Arm}
use Rattle.reql_session_spec.specs.Tasks.{Talk}
use Rattle.reql_session_spec.specs.Session.{Event, Finish, On, Leaving, Mach, fresh, Run, heard, heard_of, idles, turns, over, clocked_of, rolled_of, acts_of, acts_on, names_of, acts_on_names}
use Rattle.reql_session_spec.specs.Explained.{IsHonest, AreHonest, Wears}
use Rattle.reql_session_spec.specs.Worlds.{Place, sound_at, with_out, faulted, faults_in_at, faults_out_at, IsTold, DeskPlays, Does, Goes, Why, Ended, IsExplained}
use Rattle.reql_session_spec.specs.declared.end.End.{End}
use Rattle.reql_session_spec.specs.declared.end.End.TheVariants as ends

pub idles_append : (xs ys : List Event) → idles (xs ++ ys) ≡ idles xs + idles ys
idles_append [] ys = sym (zero-add (idles ys))
idles_append (x ∷ xs) ys = omega (arith, idles_append xs ys)

pub turns_append : (xs ys : List Event) → turns (xs ++ ys) ≡ turns xs + turns ys
turns_append [] ys = sym (zero-add (turns ys))
turns_append (x ∷ xs) ys = omega (arith, turns_append xs ys)

pub over_append : (xs ys : List Event) → over (xs ++ ys) ≡ (over xs || over ys)
over_append [] ys = refl
over_append (x ∷ xs) ys = by_event x xs ys (over_append xs ys)
  where
    by_event : (x : Event) (xs ys : List Event) → over (xs ++ ys) ≡ (over xs || over ys) → over (x ∷ (xs ++ ys)) ≡ (over (x ∷ xs) || over ys)
    by_event Finish xs ys h = refl
    by_event other xs ys h = h

pub or_nothing : (b : Bool) → (b || false) ≡ b
or_nothing true = refl
or_nothing false = refl

plus_nothing : (n : ℕ) → n + 0 ≡ n
plus_nothing n = omega arith

-- ---- ends and faults
-- a fault that comes after a move is a fault before it
faulted_first : (end : End) (a b : Tape) (h s : List ℕ) (i : ℕ) (o : Bool) → Moves a b h s i o → Moves (faulted end a) (faulted end b) h s i o
faulted_first ends.ReadFault a b h s i o m = recv_failed_first a b h s i o m
faulted_first ends.WriteFault a b h s i o m = send_failed_first a b h s i o m
faulted_first ends.Closed a b h s i o m = m
faulted_first (ends.Cut n) a b h s i o m = m
faulted_first (ends.Refused f) a b h s i o m = m
faulted_first (ends.TooLong n) a b h s i o m = m
faulted_first ends.Worn a b h s i o m = m
faulted_first ends.Memory a b h s i o m = m

-- a fault moves its count alone, by one
record Faulty (end : End) (t : Tape) : Type 0 where
  given : (faulted end t).given ≡ t.given
  sent : (faulted end t).sent ≡ t.sent
  idles : (faulted end t).idles ≡ t.idles
  faults_in : t.faults_in ≡ 0 → (faulted end t).faults_in ≡ faults_in_at end
  faults_out : t.faults_out ≡ 0 → (faulted end t).faults_out ≡ faults_out_at end

faulty : (end : End) (t : Tape) → Faulty end t
faulty ends.ReadFault t = record { given = refl; sent = refl; idles = refl; faults_in = λ e. ap (λ n. counted n 1) e ∙ one; faults_out = λ e. e }
  where
    one : counted 0 1 ≡ 1
    one = refl
faulty ends.WriteFault t = record { given = refl; sent = refl; idles = refl; faults_in = λ e. e; faults_out = λ e. ap (λ n. counted n 1) e ∙ one }
  where
    one : counted 0 1 ≡ 1
    one = refl
faulty ends.Closed t = record { given = refl; sent = refl; idles = refl; faults_in = λ e. e; faults_out = λ e. e }
faulty (ends.Cut n) t = record { given = refl; sent = refl; idles = refl; faults_in = λ e. e; faults_out = λ e. e }
faulty (ends.Refused f) t = record { given = refl; sent = refl; idles = refl; faults_in = λ e. e; faults_out = λ e. e }
faulty (ends.TooLong n) t = record { given = refl; sent = refl; idles = refl; faults_in = λ e. e; faults_out = λ e. e }
faulty ends.Worn t = record { given = refl; sent = refl; idles = refl; faults_in = λ e. e; faults_out = λ e. e }
faulty ends.Memory t = record { given = refl; sent = refl; idles = refl; faults_in = λ e. e; faults_out = λ e. e }

told_fresh : (o : Option (List ℕ)) (bytes : List ℕ) → IsBlank o → IsTold (grown o bytes) bytes
told_fresh None bytes h = tt
told_fresh (Some b) bytes h = ap (λ z. z ++ bytes) h

-- ---- what is told of disks
honest_event : (sound other : ℕ → Bool) → ((slot : ℕ) → other slot ≡ sound slot) → (e : Event) → IsHonest other e → IsHonest sound e
honest_event sound other same (On slot (Ran place order reply) saved.Failed) h = sym (same slot) ∙ h
honest_event sound other same e h = tt

honest_all : (sound other : ℕ → Bool) → ((slot : ℕ) → other slot ≡ sound slot) → (es : List Event) → AreHonest other es → AreHonest sound es
honest_all sound other same [] h = tt
honest_all sound other same (e ∷ es) h = (honest_event sound other same e h.0, honest_all sound other same es h.1)

module _ {PL : Type 0} where
  pub plays_on : (x y z : Place PL) (xs ys : List Event) → DeskPlays x y xs → DeskPlays y z ys → DeskPlays x z (xs ++ ys)
  plays_on x y z xs ys p q = record {
    slots = λ slot. subst (Plays machine (x.slots slot) (z.slots slot)) (sym (flat_map-append (acts_of slot) xs ys)) (plays_append machine (x.slots slot) (y.slots slot) (z.slots slot) (acts_on slot xs) (acts_on slot ys) (p.slots slot) (q.slots slot));
    names = subst (Plays catalogue_machine x.names z.names) (sym (flat_map-append names_of xs ys)) (plays_append catalogue_machine x.names y.names z.names (acts_on_names xs) (acts_on_names ys) p.names q.names);
    honest = all_append (IsHonest (sound_at x)) xs ys p.honest (honest_all (sound_at x) (sound_at y) (λ slot. ap (λ (o : Object State). o.start.sound) (p.slots slot).object) ys q.honest);
  }

module _ {PL : Type 0} (k : Talk PL) where
  pub run_append : (m x n : Mach PL) (xs ys : List Event) → Run k m xs x → Run k x ys n → Run k m (xs ++ ys) n
  run_append m x n [] ys p q = subst (λ z. Run k z ys n) p q
  run_append m x n (e ∷ xs) ys p q = (p.0, p.1, run_append p.0 x n xs ys p.2 q)

  -- runs, whatever was said before
  abbrev Runs : Mach PL → List Event → List ℕ → Mach PL → Type 0
  Runs m es said n = (out : List ℕ) → Run k (with_out out m) es (with_out (out ++ said) n)

  runs_on : (m x n : Mach PL) (xs ys : List Event) (a b : List ℕ) → Runs m xs a x → Runs x ys b n → Runs m (xs ++ ys) (a ++ b) n
  runs_on m x n xs ys a b p q out = run_append (with_out out m) (with_out (out ++ a) x) (with_out (out ++ (a ++ b)) n) xs ys (p out) (subst (λ o. Run k (with_out (out ++ a) x) ys (with_out o n)) (append_assoc out a b) (q (out ++ a)))

  pub does_on : (x y z : Place PL) (a b : List ℕ) → Does k x y a → Does k y z b → Does k x z (a ++ b)
  does_on x y z a b p q = record {
    events = p.events ++ q.events;
    bytes = flat_map-append heard_of p.events q.events ∙ (λ i. p.bytes i ++ q.bytes i);
    idle = omega (arith, idles_append p.events q.events, p.idle, q.idle);
    turn = omega (arith, turns_append p.events q.events, p.turn, q.turn);
    still = over_append p.events q.events ∙ (λ i. p.still i || q.still i);
    clock = flat_map-append clocked_of p.events q.events ∙ (λ i. p.clock i ++ q.clock i);
    dice = flat_map-append rolled_of p.events q.events ∙ (λ i. p.dice i ++ q.dice i);
    run = runs_on x.now y.now z.now p.events q.events a b p.run q.run;
    plays = plays_on x y z p.events q.events p.plays q.plays;
  }

  pub goes_on_from : (t u v : Tape) (x y z : Place PL) (c d : List (Option ℤ)) (a b : List (Option (List ℕ))) (m n : ℕ) → Goes k t u x y c a m → Goes k u v y z d b n → Goes k t v x z (c ++ d) (a ++ b) (m + n)
  goes_on_from t u v x y z c d a b m n p q = record {
    events = p.events ++ q.events;
    said = p.said ++ q.said;
    run = runs_on x.now y.now z.now p.events q.events p.said q.said p.run q.run;
    moves = subst (λ h. Moves t v h (p.said ++ q.said) (idles (p.events ++ q.events)) t.over) (sym (flat_map-append heard_of p.events q.events))
        (subst (λ i. Moves t v (heard p.events ++ heard q.events) (p.said ++ q.said) i t.over) (sym (idles_append p.events q.events)) (moves_next t u v (heard p.events) p.said (heard q.events) q.said (idles p.events) (idles q.events) p.moves q.moves));
    still = over_append p.events q.events ∙ (λ i. p.still i || q.still i);
    clock = flat_map-append clocked_of p.events q.events ∙ (λ i. p.clock i ++ q.clock i);
    dice = flat_map-append rolled_of p.events q.events ∙ (λ i. p.dice i ++ q.dice i);
    plays = plays_on x y z p.events q.events p.plays q.plays;
    count = turns_append p.events q.events ∙ (λ i. p.count i + q.count i);
  }

  -- what was done on the desk, and what was said for it was sent
  pub goes_said : (t u : Tape) (x y : Place PL) (said : List ℕ) → Does k x y said → Moves t u [] said 0 t.over → Goes k t u x y [] [] 0
  goes_said t u x y said p m = record {
    events = p.events;
    said = said;
    run = p.run;
    moves = subst (λ h. Moves t u h said (idles p.events) t.over) (sym p.bytes) (subst (λ i. Moves t u [] said i t.over) (sym p.idle) m);
    still = p.still;
    clock = p.clock;
    dice = p.dice;
    plays = p.plays;
    count = p.turn;
  }

  pub ends_from : (t u v : Tape) (x y z : Place PL) (c d : List (Option ℤ)) (a b : List (Option (List ℕ))) (end : End) (arms : List Arm) (m n : ℕ) → Goes k t u x y c a m → Ended k u v y z d b end arms n → Ended k t v x z (c ++ d) (a ++ b) end arms (m + n)
  ends_from t u v x y z c d a b end arms m n p q = record {
    events = p.events ++ q.events;
    said = p.said ++ q.said;
    run = runs_on x.now y.now z.now p.events q.events p.said q.said p.run q.run;
    left = q.left;
    moves = subst (λ h. Moves (faulted end t) v h (p.said ++ q.said) (idles (p.events ++ q.events)) v.over) (sym (flat_map-append heard_of p.events q.events))
        (subst (λ i. Moves (faulted end t) v (heard p.events ++ heard q.events) (p.said ++ q.said) i v.over) (sym (idles_append p.events q.events))
        (moves_on (faulted end t) (faulted end u) v (heard p.events) p.said (heard q.events) q.said (idles p.events) (idles q.events) t.over v.over (faulted_first end t u (heard p.events) p.said (idles p.events) t.over p.moves) q.moves));
    still = q.still ∙ (λ i. over q.events || p.moves.ended i) ∙ ap (λ b. b || t.over) (sym (over_append p.events q.events ∙ (λ i. p.still i || over q.events)));
    clock = flat_map-append clocked_of p.events q.events ∙ (λ i. p.clock i ++ q.clock i);
    dice = flat_map-append rolled_of p.events q.events ∙ (λ i. p.dice i ++ q.dice i);
    why = q.why;
    plays = plays_on x y z p.events q.events p.plays q.plays;
    count = turns_append p.events q.events ∙ (λ i. p.count i + q.count i);
  }

  -- the arms are closed after the end
  pub ends_closing : (t u : Tape) (x y z : Place PL) (c : List (Option ℤ)) (a : List (Option (List ℕ))) (end : End) (arms left : List Arm) (n : ℕ) → Ended k t u x y c a end arms n → Does k y z [] → z.now.doing ≡ Leaving left end → z.now.held ≡ y.now.held → z.now.greeted ≡ y.now.greeted → Ended k t u x z c a end left n
  ends_closing t u x y z c a end arms left n p q l h g = record {
    events = p.events ++ q.events;
    said = p.said;
    run = λ out. subst (λ o. Run k (with_out out x.now) (p.events ++ q.events) (with_out (out ++ o) z.now)) (append-nil p.said) (runs_on x.now y.now z.now p.events q.events p.said [] p.run q.run out);
    left = l;
    moves = subst (λ b. Moves (faulted end t) u b p.said (idles (p.events ++ q.events)) u.over) (sym (flat_map-append heard_of p.events q.events ∙ (λ i. heard p.events ++ q.bytes i) ∙ append-nil (heard p.events)))
        (subst (λ i. Moves (faulted end t) u (heard p.events) p.said i u.over) (sym (idles_append p.events q.events ∙ (λ i. idles p.events + q.idle i) ∙ plus_nothing (idles p.events))) p.moves);
    still = p.still ∙ ap (λ b. b || t.over) (sym (over_append p.events q.events ∙ (λ i. over p.events || q.still i) ∙ or_nothing (over p.events)));
    clock = flat_map-append clocked_of p.events q.events ∙ (λ i. p.clock i ++ q.clock i) ∙ append-nil c;
    dice = flat_map-append rolled_of p.events q.events ∙ (λ i. p.dice i ++ q.dice i) ∙ append-nil a;
    why = subst (λ s. Why k end s z.now.held u.over) (sym g) (subst (λ b. Why k end y.now.greeted b u.over) (sym h) p.why);
    plays = plays_on x y z p.events q.events p.plays q.plays;
    count = turns_append p.events q.events ∙ (λ i. p.count i + q.turn i) ∙ plus_nothing n;
  }

  -- a whole session
  pub explained_by : (t u : Tape) (x y : Place PL) (c : List (Option ℤ)) (a : List (Option (List ℕ))) (end : End) (n : ℕ) → x.now ≡ fresh → IsFresh t → Wears k.limits.turns n end → Ended k t u x y c a end [] n → IsExplained k x y u c a end n
  explained_by t u x y c a end n at f w e =
      let d : Faulty end t = faulty end t in
      record {
        given = heard e.events;
        sent = e.said;
        idle = idles e.events;
        given_told = subst (λ o. IsTold o (heard e.events)) (sym (e.moves.given ∙ ap (λ g. grown g (heard e.events)) d.given)) (told_fresh t.given (heard e.events) f.given);
        sent_told = subst (λ o. IsTold o e.said) (sym (e.moves.sent ∙ ap (λ g. grown g e.said) d.sent)) (told_fresh t.sent e.said f.sent);
        idles = e.moves.idle ∙ ap (λ j. counted j (idles e.events)) (d.idles ∙ f.idles);
        faults_in = e.moves.faults_in ∙ d.faults_in f.faults_in;
        faults_out = e.moves.faults_out ∙ d.faults_out f.faults_out;
        slots = λ slot. plays_grew machine (x.slots slot) (y.slots slot) (acts_on slot e.events) (e.plays.slots slot);
        names = plays_grew catalogue_machine x.names y.names (acts_on_names e.events) e.plays.names;
        explained = record {
          events = e.events;
          final = with_out e.said y.now;
          run = subst (λ z. Run k (with_out [] z) e.events (with_out e.said y.now)) at (e.run []);
          ended = e.left;
          input = refl;
          output = refl;
          idled = refl;
          closed = sym (e.still ∙ (λ i. over e.events || f.over i) ∙ or_nothing (over e.events));
          clock = e.clock;
          dice = e.dice;
          turned = e.count;
          wears = w;
          slots = λ slot. plays_part machine (x.slots slot) (y.slots slot) (acts_on slot e.events) (e.plays.slots slot);
          named = plays_part catalogue_machine x.names y.names (acts_on_names e.events) e.plays.names;
          honest = e.plays.honest;
        };
      }
